-- The checks that come before anything is looked up: the directory asked, and the permissions along the chain.
use Rattle.std.specs.Prelude.{ℕ, Bool, List, Option, Some, None, is_some, Result, Ok}
use Rattle.std.specs.List.{list_all}
use Rattle.std.specs.Option.{ok_or}
use Rattle.inf_base.specs.declared.caller.CallRef.{CallRef}
use Rattle.inf_base.specs.declared.caller.Caller.{Caller}
use Rattle.inf_base.specs.declared.entry.Entry.{Entry}
use Rattle.inf_base.specs.declared.errno.Errno.TheVariants as errno
use Rattle.inf_base.specs.Checks.{◌>>=◌, ◌>>◌, check}
use Rattle.inf_base.specs.Same.{dir_of, is_same_call}
use Rattle.inf_content.specs.Contents.{content_at, seal_of}
use Rattle.inf_message.specs.declared.reply.Reply.{Reply}
use Rattle.inf_message.specs.declared.reply.Reply.TheVariants as reply
use Rattle.inf_message.specs.declared.reply.Spot.TheVariants as spot
use Rattle.inf_perm.specs.Classes.{may}
use Rattle.inf_perm.specs.declared.want.Want.{Want}
use Rattle.inf_perm.specs.declared.want.Want.TheVariants as want
use Rattle.inf_server.specs.Chains.{has_entry}
use Rattle.inf_server.specs.State.{Site, State, is_here}

-- a seal of another call stands in the way
abbrev pub unsealed : CallRef → ℕ → Option CallRef → Result (Unit {0}) Reply
unsealed by born None = Ok tt
unsealed by born (Some sealer) = check (is_same_call sealer by) (reply.Busy sealer spot.Sealed born)

-- no chain that a request carries is without an entry
abbrev pub have_entries : List (List Entry) → Result (Unit {0}) Reply
have_entries carried = check (list_all has_entry carried) reply.Other

-- the chain check, of the entry of the directory asked and of all chains that the request carries: a directory that is
-- kept elsewhere, one that is gone, and one that another call sealed are refused
abbrev pub asked_of : Site → State → CallRef → Option Entry → List (List Entry) → Result Entry Reply
asked_of site state by asked carried = do
  entry ← ok_or asked reply.Other
  check (is_here site entry.access.id) reply.Other
  have_entries carried
  check (is_some (content_at (dir_of entry.access) state.contents)) reply.Gone
  unsealed by entry.access.born (seal_of (content_at (dir_of entry.access) state.contents))
  Ok entry

abbrev pub lets : Caller → Want → Entry → Bool
lets caller wanted entry = may entry.access.mode entry.access.owner entry.access.group caller wanted

-- each directory along the chain must give search permission
abbrev pub searched : Caller → List Entry → Result (Unit {0}) Reply
searched caller chain = check (list_all (lets caller want.Search) chain) (reply.Refused errno.EACCES)

-- the directory asked must give write permission
abbrev pub writable : Caller → Entry → Result (Unit {0}) Reply
writable caller entry = check (lets caller want.Write entry) (reply.Refused errno.EACCES)
