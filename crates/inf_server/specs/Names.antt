-- What a call finds under a name.
use Rattle.std.specs.Prelude.{ℕ, Bool, true, false, if◌then◌else◌, List, Option, Some, None, Result, Ok, Err}
use Rattle.inf_base.specs.declared.caller.CallRef.{CallRef}
use Rattle.inf_base.specs.declared.directory.DirRef.{DirRef}
use Rattle.inf_base.specs.Content.{Content}
use Rattle.inf_base.specs.Same.{is_same_call}
use Rattle.inf_content.specs.Contents.{look}
use Rattle.inf_content.specs.declared.seen.Seen.{Seen}
use Rattle.inf_content.specs.declared.seen.Seen.TheVariants as seen
use Rattle.inf_message.specs.declared.reply.Reply.{Reply}
use Rattle.inf_message.specs.declared.reply.Reply.TheVariants as reply
use Rattle.inf_message.specs.declared.reply.Spot.TheVariants as spot

abbrev pub in_the_way : CallRef → ℕ → Reply
in_the_way other born = reply.Busy other spot.Slot born

-- what another call holds is in the way, what the asking call holds counts as what it is
abbrev pub unless_held : CallRef → ℕ → Seen → Option CallRef → Result Seen Reply
unless_held by born found None = Ok found
unless_held by born found (Some holder) = if is_same_call holder by then Ok found else Err (in_the_way holder born)

-- what another call reserved is in the way, and no call asks for what it reserved itself
abbrev pub unless_taken : CallRef → ℕ → Seen → Result Seen Reply
unless_taken by born seen.Gone = Err reply.Gone
unless_taken by born seen.Missing = Ok seen.Missing
unless_taken by born (seen.Reserved other) = Err (if is_same_call other by then reply.Other else in_the_way other born)
unless_taken by born (seen.File meta held) = unless_held by born (seen.File meta held) held
unless_taken by born (seen.Dir dir mode owner group held) =
    unless_held by born (seen.Dir dir mode owner group held) held

-- what the asking call finds under a name of a directory
abbrev pub found_by : CallRef → DirRef → List ℕ → List Content → Result Seen Reply
found_by by dir name contents = unless_taken by dir.born (look dir name contents)

abbrev pub is_missing : Seen → Bool
is_missing seen.Missing = true
is_missing other_seen = false
