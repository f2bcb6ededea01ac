-- What removes a directory: it is sealed where it is kept, unlinked where it stands, and dropped; and the row goes that
-- was left where it was made.
use Rattle.std.specs.Prelude.{ℕ, Bool, false, List, [], ◌∷◌, Option, Some, None, Result, Ok, Err}
use Rattle.std.specs.Option.{ok_or}
use Rattle.inf_base.specs.declared.access.Access.{Access}
use Rattle.inf_base.specs.declared.directory.DirRef.{DirRef}
use Rattle.inf_base.specs.declared.entry.Entry.{Entry}
use Rattle.inf_base.specs.declared.errno.Errno.TheVariants as errno
use Rattle.inf_base.specs.declared.id.Id.{Id}
use Rattle.inf_base.specs.declared.key.Key.{Key}
use Rattle.inf_base.specs.declared.key.Key.TheVariants as key
use Rattle.inf_base.specs.Checks.{◌>>=◌, ◌>>◌, check}
use Rattle.inf_base.specs.Same.{dir_of, is_same_dir}
use Rattle.inf_content.specs.Contents.{dropped_at, sealed_at, slots_at, unsealed_at, without_slot_at}
use Rattle.inf_content.specs.Slots.{inside_of}
use Rattle.inf_content.specs.declared.inside.Inside.{Inside}
use Rattle.inf_content.specs.declared.inside.Inside.TheVariants as inside
use Rattle.inf_content.specs.declared.seen.Seen.{Seen}
use Rattle.inf_content.specs.declared.seen.Seen.TheVariants as seen
use Rattle.inf_message.specs.declared.ask.Ask.{Ask}
use Rattle.inf_message.specs.declared.reply.Reply.{Reply}
use Rattle.inf_message.specs.declared.reply.Reply.TheVariants as reply
use Rattle.inf_message.specs.declared.reply.Spot.TheVariants as spot
use Rattle.inf_renames.specs.Renames.{forgotten}
use Rattle.inf_server.specs.Chains.{before_last, last_of}
use Rattle.inf_server.specs.Checks.{asked_of, searched, writable}
use Rattle.inf_server.specs.Names.{found_by}
use Rattle.inf_server.specs.Response.{Response, done}
use Rattle.inf_server.specs.State.{Site, State, is_here, with_contents}

-- only an empty directory goes; what calls hold or reserve is in the way
abbrev pub unless_inside : ℕ → Inside → Result (Unit {0}) Reply
unless_inside born inside.Empty = Ok tt
unless_inside born inside.Full = Err (reply.Refused errno.ENOTEMPTY)
unless_inside born (inside.Busy by) = Err (reply.Busy by spot.Inside born)

-- the directory asked is the one to be removed, which ends the chain; the one before it must let the caller write
abbrev pub seal : Site → State → Ask → List Entry → Result Response Reply
seal site state ask chain = do
  parent ← ok_or (last_of (before_last chain)) reply.Other
  entry ← asked_of site state ask.from (last_of chain) (chain ∷ [])
  searched ask.caller (before_last chain)
  writable ask.caller parent
  unless_inside entry.access.born (inside_of (slots_at (dir_of entry.access) state.contents))
  done reply.Fine (with_contents (sealed_at (dir_of entry.access) ask.from state.contents) state)

-- the call's seal is lifted
abbrev pub unseal : Site → State → Ask → DirRef → Result Response Reply
unseal site state ask dir = do
  check (is_here site dir.id) reply.Other
  done reply.Fine (with_contents (unsealed_at dir ask.from state.contents) state)

-- the root has no name
abbrev pub name_in : Key → Option (List ℕ)
name_in key.Top = None
name_in (key.At dir name) = Some name

-- whether what was found is this directory, of this birth
abbrev pub is_the_directory : Access → Seen → Bool
is_the_directory access (seen.Dir dir mode owner group held) = is_same_dir dir (dir_of access)
is_the_directory access other_seen = false

-- the chain ends in the directory to be removed; the directory asked is the one before it
abbrev pub unlink : Site → State → Ask → List Entry → Result Response Reply
unlink site state ask chain = do
  target ← ok_or (last_of chain) reply.Other
  name ← ok_or (name_in target.key) reply.Other
  entry ← asked_of site state ask.from (last_of (before_last chain)) (chain ∷ [])
  found ← found_by ask.from (dir_of entry.access) name state.contents
  check (is_the_directory target.access found) reply.Other
  done reply.Fine (with_contents (without_slot_at (dir_of entry.access) name state.contents) state)

-- the content object goes, where the call sealed or made it
abbrev pub drop_dir : Site → State → Ask → DirRef → Result Response Reply
drop_dir site state ask dir = do
  check (is_here site dir.id) reply.Other
  done reply.Fine (with_contents (dropped_at dir ask.from state.contents) state)

-- the row goes that the directory left where it was made
abbrev pub forget : Site → State → Id → DirRef → Result Response Reply
forget site state parent dir = do
  check (is_here site parent) reply.Other
  done reply.Fine (record state { renames = forgotten parent dir state.renames })
