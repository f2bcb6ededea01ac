-- One server, or one of two, of a rule that gives the root one identifier, and every other directory another: what it
-- replies to single requests.
use Rattle.std.specs.Prelude.{ℕ, List, [], ◌∷◌, replicate, codes, Some, None}
use Rattle.inf_base.specs.declared.caller.CallRef.{CallRef}
use Rattle.inf_base.specs.declared.access.Access.{Access}
use Rattle.inf_base.specs.declared.directory.DirRef.{DirRef}
use Rattle.inf_base.specs.declared.entry.Entry.{Entry}
use Rattle.inf_base.specs.declared.file.FileMeta.{FileMeta}
use Rattle.inf_base.specs.declared.id.Id.{Id}
use Rattle.inf_base.specs.declared.key.Key.TheVariants as key
use Rattle.inf_base.specs.declared.key.LookKey.TheVariants as look
use Rattle.inf_base.specs.declared.triple.Triple.{Triple}
use Rattle.inf_base.specs.declared.triple.Triple.TheVariants as triple
use Rattle.inf_base.specs.Content.{Content, Slot, reserved, file, directory}
use Rattle.inf_content.specs.Contents.{empty_content}
use Rattle.inf_message.specs.declared.ask.Ask.{Ask}
use Rattle.inf_message.specs.declared.op.Op.{Op}
use Rattle.inf_message.specs.declared.op.Op.TheVariants as op
use Rattle.inf_message.specs.declared.reply.Reply.{Reply}
use Rattle.inf_message.specs.declared.reply.Reply.TheVariants as reply
use Rattle.inf_message.specs.declared.request.Request.{Request}
use Rattle.inf_message.specs.declared.request.Request.TheVariants as request
use Rattle.inf_renames.specs.Kept.{Kept}
use Rattle.inf_server.specs.Machine.{machine}
use Rattle.inf_server.specs.Response.{Response}
use Rattle.inf_server.specs.State.{Site, State, opening, root_access, root_content, root_dir}

-- 32 zeros: of any number of servers, server 0 keeps it
abbrev pub one_id : Id
one_id = record { bytes = replicate 32 0 }

-- an identifier that server 1 of two keeps
abbrev pub odd_id : Id
odd_id = record { bytes = 0 ∷ 0 ∷ 0 ∷ 0 ∷ 0 ∷ 0 ∷ 0 ∷ 1 ∷ replicate 24 0 }

-- the root's message is empty
abbrev pub digest_to_two : List ℕ → Id
digest_to_two [] = one_id
digest_to_two (byte ∷ bytes) = odd_id

-- server 0 of so many, which keeps the root
abbrev pub server_0 : ℕ → Site
server_0 servers = record { number = 0; servers = servers; digest = digest_to_two }

-- server 1 of two
abbrev pub server_1 : Site
server_1 = record { number = 1; servers = 2; digest = digest_to_two }

abbrev pub root : Entry
root = record { key = key.Top; access = root_access (server_0 1); stamp = 2 }

-- another directory as it was told, by its identifier and the place of its birth
abbrev pub told_of : Id → ℕ → Entry
told_of id born = record { key = key.Top; access = record root.access { id = id; born = born }; stamp = 2 }

-- the first call of client 0
abbrev pub call : CallRef
call = record { client = 0; number = 1 }

-- the first call of client 1
abbrev pub other_call : CallRef
other_call = record { client = 1; number = 1 }

abbrev pub ask_of : CallRef → ℕ → Request → Ask
ask_of by user asked = record { from = by; caller = record { uid = user; gid = user }; request = asked }

-- what a user asks in the first call of client 0
abbrev pub ask_as : ℕ → Request → Ask
ask_as user asked = ask_of call user asked

-- what user 0 asks in a call
abbrev pub ask_in : CallRef → Request → Ask
ask_in by asked = ask_of by 0 asked

abbrev pub look_up : Ask
look_up = ask_as 0 (request.Lookup look.Top)

-- what a user asks at the end of a chain
abbrev pub finish : ℕ → List Entry → Op → Ask
finish user chain asked = ask_as user (request.Finish chain asked)

abbrev pub create_a : Op
create_a = op.Create (codes "a") 0o640

abbrev pub stat_a : Op
stat_a = op.Stat (codes "a")

abbrev pub walk_a : Op
walk_a = op.Walk (codes "a")

abbrev pub rmdir_name_a : Op
rmdir_name_a = op.RmdirName (codes "a")

-- the new file of user 0
abbrev pub meta_of_a : FileMeta
meta_of_a = record { mode = 0o640; owner = 0; group = 0; length = 0 }

-- what is replied in a state, at the one server
abbrev pub replied : State → Ask → Reply
replied state ask = (machine (server_0 1) state 5 ask).reply

abbrev pub at_first : State
at_first = opening (server_0 1)

-- the state once user 0 created `a`
abbrev pub with_a : State
with_a = (machine (server_0 1) at_first 3 (finish 0 (root ∷ []) create_a)).state

-- the state in which the root is this content
abbrev pub holding : Content → State
holding content = record at_first { contents = content ∷ [] }

-- the state in which a call seals the root
abbrev pub sealed_by : CallRef → State
sealed_by by = holding (record (root_content (server_0 1)) { seal = Some by })

-- the state in which this stands under `a`
abbrev pub with_slot_a : Slot → State
with_slot_a slot = holding (record (root_content (server_0 1)) { slots = (codes "a", slot) ∷ [] })

-- the file `a`, held by a call
abbrev pub held_by : CallRef → Slot
held_by by = file meta_of_a (Some (record { by = by; mode = None }))

abbrev pub reserved_by : CallRef → Slot
reserved_by by = reserved by root.access

-- the state once this was asked at a place, at the one server
abbrev pub served : State → ℕ → Ask → State
served state place ask = (machine (server_0 1) state place ask).state

abbrev pub top : DirRef
top = root_dir (server_0 1)

-- the directory `a` of the root, which is born at place 5
abbrev pub birth_a : Triple
birth_a = triple.Of one_id (codes "a") 0

abbrev pub dir_a : DirRef
dir_a = record { id = odd_id; born = 5 }

abbrev pub access_a : Access
access_a = record { id = odd_id; born = 5; mode = 0o750; owner = 0; group = 0; birth = birth_a }

-- its entry as it was told, at the end of a chain, with the place of its birth
abbrev pub to_a : ℕ → List Entry
to_a born = root ∷ record { key = key.At top (codes "a"); access = record access_a { born = born }; stamp = 10 } ∷ []

-- the directory `a`, held by a call
abbrev pub dir_held_by : CallRef → Slot
dir_held_by by = directory access_a (Some (record { by = by; mode = None }))

-- the requests of the call that makes `a`
abbrev pub reserve_a : Request
reserve_a = request.Reserve (root ∷ []) (codes "a")

abbrev pub make_a : Request
make_a = request.Make birth_a

abbrev pub link_a : Request
link_a = request.Link (root ∷ []) (codes "a") dir_a 0o750

-- the states after each of them
abbrev pub with_name : State
with_name = served at_first 3 (ask_in call reserve_a)

abbrev pub with_content : State
with_content = served with_name 5 (ask_in call make_a)

abbrev pub with_dir_a : State
with_dir_a = served with_content 7 (ask_in call link_a)

-- the requests of the call that removes `a`
abbrev pub seal_a : Request
seal_a = request.Seal (to_a 5)

abbrev pub unlink_a : Request
unlink_a = request.Unlink (to_a 5)

abbrev pub drop_a : Request
drop_a = request.Drop dir_a

-- the states after the first two of them
abbrev pub with_sealed_a : State
with_sealed_a = served with_dir_a 11 (ask_in other_call seal_a)

abbrev pub with_unlinked_a : State
with_unlinked_a = served with_sealed_a 13 (ask_in other_call unlink_a)

abbrev pub look_up_a : Request
look_up_a = request.Lookup (look.At one_id (codes "a"))

-- in the directory `a`
abbrev pub look_up_b : Request
look_up_b = request.Lookup (look.At odd_id (codes "b"))

-- the state in which this stands under `b` in the directory `a`
abbrev pub holding_b : Slot → State
holding_b slot = record with_dir_a {
  contents =
      record (root_content (server_0 1)) { slots = (codes "a", directory access_a None) ∷ [] }
      ∷ record (empty_content odd_id 5 birth_a call) { slots = (codes "b", slot) ∷ [] } ∷ [];
}

-- the state in which the directory of this birth was made as `a` of the root, and lives elsewhere
abbrev pub with_row_of : ℕ → State
with_row_of born = record at_first { renames = (one_id, with_row) ∷ [] }
  where
    with_row : Kept
    with_row = record {
      rows = record { name = codes "a"; version = 0; dir = record dir_a { born = born } } ∷ [];
      spare = 0;
    }

-- the same once the row is gone
abbrev pub with_no_row : State
with_no_row = record at_first { renames = (one_id, record { rows = []; spare = 0 }) ∷ [] }

-- what is replied to the first request of each of two servers, and the state after it
abbrev pub at_server_0 : Ask → Response
at_server_0 ask = machine (server_0 2) (opening (server_0 2)) 5 ask

abbrev pub at_server_1 : Ask → Response
at_server_1 ask = machine server_1 (opening server_1) 5 ask

-- a request that belongs elsewhere is replied Other, and leaves the state
abbrev pub turned_away_by_0 : Response
turned_away_by_0 = record { reply = reply.Other; state = opening (server_0 2) }

abbrev pub turned_away_by_1 : Response
turned_away_by_1 = record { reply = reply.Other; state = opening server_1 }
