-- What makes a directory: its name is reserved where it is to stand, its content object is made where it is to be kept,
-- and it is linked under the name.
use Rattle.std.specs.Prelude.{ℕ, List, [], ◌∷◌, is_some, Some, Result, Ok, Err}
use Rattle.inf_base.specs.declared.access.Access.{Access}
use Rattle.inf_base.specs.declared.caller.Caller.{Caller}
use Rattle.inf_base.specs.declared.directory.DirRef.{DirRef}
use Rattle.inf_base.specs.declared.entry.Entry.{Entry}
use Rattle.inf_base.specs.declared.errno.Errno.TheVariants as errno
use Rattle.inf_base.specs.declared.triple.Triple.{Triple}
use Rattle.inf_base.specs.declared.triple.Triple.TheVariants as triple
use Rattle.inf_base.specs.Checks.{◌>>=◌, ◌>>◌, check}
use Rattle.inf_base.specs.Identity.{identity}
use Rattle.inf_base.specs.Same.{dir_of}
use Rattle.inf_content.specs.Contents.{content_of_id, filled_at, lifted_at, made_at, made_of, reserved_at, slots_at}
use Rattle.inf_content.specs.Slot.{reserves}
use Rattle.inf_content.specs.Slots.{first}
use Rattle.inf_content.specs.declared.made.Made.{Made}
use Rattle.inf_content.specs.declared.made.Made.TheVariants as made
use Rattle.inf_message.specs.declared.ask.Ask.{Ask}
use Rattle.inf_message.specs.declared.reply.Reply.{Reply}
use Rattle.inf_message.specs.declared.reply.Reply.TheVariants as reply
use Rattle.inf_message.specs.declared.reply.Spot.TheVariants as spot
use Rattle.inf_renames.specs.Renames.{least_version}
use Rattle.inf_server.specs.Chains.{last_of}
use Rattle.inf_server.specs.Checks.{asked_of, searched, writable}
use Rattle.inf_server.specs.Names.{found_by, is_missing}
use Rattle.inf_server.specs.Response.{Response, done}
use Rattle.inf_server.specs.State.{Site, State, is_here, with_contents}

-- the access object to come is the caller's; it has the identifier of its birth, and no birth, no mode until it is
-- linked
abbrev pub access_to_come : Site → Caller → Triple → Access
access_to_come site caller birth = record {
  id = identity site.digest birth;
  born = 0;
  mode = 0;
  owner = caller.uid;
  group = caller.gid;
  birth = birth;
}

-- the name is kept free for the call, with the least version that no directory of this name took that lives elsewhere
abbrev pub reserve : Site → State → Ask → List Entry → List ℕ → Result Response Reply
reserve site state ask chain name = do
  entry ← asked_of site state ask.from (last_of chain) (chain ∷ [])
  searched ask.caller chain
  writable ask.caller entry
  found ← found_by ask.from (dir_of entry.access) name state.contents
  check (is_missing found) (reply.Refused errno.EEXIST)
  let version = least_version entry.access.id name state.renames
  let access = access_to_come site ask.caller (triple.Of entry.access.id name version)
  let contents = reserved_at (dir_of entry.access) name ask.from access state.contents
  done (reply.Reserved version) (with_contents contents state)

-- another directory has the identifier, or this one is there already: its sealer or maker is in the way
abbrev pub unless_there : Made → Result (Unit {0}) Reply
unless_there made.New = Ok tt
unless_there (made.Clash kept) = Err (reply.Clash kept)
unless_there (made.Bearer by) = Err (reply.Busy by spot.Bearer 0)

-- the directory's birth is the place of the Ask
abbrev pub make : Site → State → ℕ → Ask → Triple → Result Response Reply
make site state place ask asked = do
  let id = identity site.digest asked
  check (is_here site id) reply.Other
  unless_there (made_of asked (content_of_id id state.contents))
  done reply.Fine (with_contents (made_at id place asked ask.from state.contents) state)

-- what the call reserved becomes this directory
abbrev pub link : Site → State → Ask → List Entry → DirRef → ℕ → Result Response Reply
link site state ask chain dir mode = do
  entry ← asked_of site state ask.from (last_of chain) (chain ∷ [])
  check (is_some (first (reserves ask.from) (slots_at (dir_of entry.access) state.contents))) reply.Other
  let contents = filled_at (dir_of entry.access) ask.from (Some (dir, mode, ask.caller)) state.contents
  done reply.Fine (with_contents contents state)

-- what the call reserves or holds in a directory is lifted
abbrev pub cancel : Site → State → Ask → DirRef → Result Response Reply
cancel site state ask dir = do
  check (is_here site dir.id) reply.Other
  done reply.Fine (with_contents (lifted_at dir ask.from state.contents) state)
