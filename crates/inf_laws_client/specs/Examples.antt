-- A directory `a` of the root, born at 5, and what a client has to do with it.
use Rattle.std.specs.Prelude.{ℕ, List, [], ◌∷◌, codes, Some, None}
use Rattle.inf_base.specs.declared.access.Access.{Access}
use Rattle.inf_base.specs.declared.answer.Answer.TheVariants as answer
use Rattle.inf_base.specs.declared.call.Call.{Call}
use Rattle.inf_base.specs.declared.call.Call.TheVariants as call
use Rattle.inf_base.specs.declared.caller.CallRef.{CallRef}
use Rattle.inf_base.specs.declared.directory.DirRef.{DirRef}
use Rattle.inf_base.specs.declared.entry.Entry.{Entry}
use Rattle.inf_base.specs.declared.key.Key.{Key}
use Rattle.inf_base.specs.declared.key.Key.TheVariants as key
use Rattle.inf_base.specs.declared.triple.Triple.{Triple}
use Rattle.inf_base.specs.declared.triple.Triple.TheVariants as triple
use Rattle.inf_base.specs.declared.id.Id.{Id}
use Rattle.inf_base.specs.declared.key.LookKey.{LookKey}
use Rattle.inf_base.specs.declared.key.LookKey.TheVariants as look
use Rattle.inf_base.specs.Identity.{identity}
use Rattle.inf_message.specs.declared.ask.Ask.{Ask}
use Rattle.inf_message.specs.declared.op.Op.TheVariants as op
use Rattle.inf_message.specs.declared.reply.Reply.{Reply}
use Rattle.inf_message.specs.declared.reply.Reply.TheVariants as reply
use Rattle.inf_message.specs.declared.reply.Spot.TheVariants as spot
use Rattle.inf_message.specs.declared.request.Request.{Request}
use Rattle.inf_message.specs.declared.request.Request.TheVariants as request
use Rattle.inf_message.specs.declared.step.Message.{Message}
use Rattle.inf_message.specs.History.{told_reply}
use Rattle.inf_flow_dir.specs.declared.dir_flow.DirFlow.TheVariants as dir_flow
use Rattle.inf_message.specs.declared.ending.Ending.TheVariants as ending
use Rattle.inf_flow_file.specs.declared.file_flow.FileFlow.TheVariants as file_flow
use Rattle.inf_duty.specs.declared.flow.Flow.TheVariants as flow
use Rattle.inf_message.specs.declared.turn.Turn.TheVariants as turn
use Rattle.inf_duty.specs.ClientState.{ClientState, Stage, act, idle, round}
use Rattle.inf_duty.specs.Course.{next_course}
use Rattle.inf_duty.specs.Group.{next_stage}
use Rattle.inf_duty.specs.Turn.{learned, round_turn}
use Rattle.inf_duty.specs.declared.flow.Flow.{Flow}
use Rattle.inf_message.specs.Sent.{Sent}
use Rattle.inf_message.specs.Who.{Who}
use Rattle.inf_message.specs.declared.turn.Turn.{Turn}
use Rattle.inf_laws_client.specs.Run.{digest, who, zero_id}

abbrev pub the_client : Who
the_client = who 1 0

abbrev pub entry_of : Key → Access → Entry
entry_of k access = record { key = k; access = access; stamp = 2 }

abbrev pub root_entry : Entry
root_entry =
    entry_of key.Top (record { id = zero_id; born = 0; mode = 0o755; owner = 0; group = 0; birth = triple.Root })

abbrev pub birth_of_a : Triple
birth_of_a = triple.Of zero_id (codes "a") 0

abbrev pub a_dir : DirRef
a_dir = record { id = identity digest birth_of_a; born = 5 }

-- `a` in the root, made there or under another name
abbrev pub a_entry : Triple → Entry
a_entry birth = entry_of (key.At (record { id = zero_id; born = 0 }) (codes "a"))
    (record { id = a_dir.id; born = 5; mode = 0o755; owner = 0; group = 0; birth = birth })

abbrev pub chain_to_a : List Entry
chain_to_a = root_entry ∷ a_entry birth_of_a ∷ []

abbrev pub birth_as_b : Triple
birth_as_b = triple.Of zero_id (codes "b") 0

abbrev pub chain_to_a_from_b : List Entry
chain_to_a_from_b = root_entry ∷ a_entry birth_as_b ∷ []

abbrev pub make_a : Flow
make_a = flow.Dir (dir_flow.Makes (root_entry ∷ []) (codes "a") 0o755 0 a_dir.id)

abbrev pub link_a : Flow
link_a = flow.Dir (dir_flow.Links (root_entry ∷ []) (codes "a") 0o755 0 a_dir)

abbrev pub unlink_a : Flow
unlink_a = flow.Dir (dir_flow.Unlinks chain_to_a)

abbrev pub at_0 : Request → Message
at_0 asked = record { number = 0; request = asked }

abbrev pub cancel : Message
cancel = at_0 (request.Cancel (record { id = zero_id; born = 0 }))

abbrev pub drop_made : Message
drop_made = at_0 (request.Drop a_dir)

abbrev pub unseal_a : Message
unseal_a = at_0 (request.Unseal a_dir)

abbrev pub forget_moved : Message
forget_moved = at_0 (request.Forget zero_id a_dir)

-- a client that is to make the content object of `a`
abbrev pub the_maker : ClientState
the_maker = record (idle the_client (call.Mkdir (codes "/a") 0o755 ∷ [])) { stage = act make_a }

abbrev pub making : Request → Ask
making asked = record { from = record { client = 0; number = 1 }; caller = the_client.caller; request = asked }

-- ---- rounds of lookups, asked at 1, 2 and so on

-- what was asked at a place was answered at another
abbrev pub answered : ℕ → ℕ → Reply → Sent
answered place serve_place given = record { place = place; told = Some (told_reply serve_place given) }

-- a client whose round, the first of its call, was told so
abbrev pub told_in_round : Call → List LookKey → List Sent → ClientState
told_in_round asked keys sent =
    let asking = record (idle the_client (asked ∷ [])) { stage = round keys; sent = sent } in
    learned asking.stage asking

-- it turns, and what it asks for next where it goes on
abbrev pub turn_of : ClientState → Turn Stage
turn_of s = round_turn digest s

abbrev pub next_of : ClientState → Stage
next_of s = next_stage digest s.who s.known (next_course s.left)

-- the root and `a`
abbrev pub after_round : List Sent → ClientState
after_round sent = told_in_round (call.Stat (codes "/a/f")) (look.Top ∷ look.At zero_id (codes "a") ∷ []) sent

-- the root was told at 3
abbrev pub root_told : Entry
root_told = record root_entry { stamp = 3 }

abbrev pub told_root : Sent
told_root = answered 1 3 (reply.Found key.Top root_entry.access)

-- and `a` at 4, as a name of the root that was born then
abbrev pub told_a : ℕ → Sent
told_a born =
    answered 2 4 (reply.Found (key.At (record { id = zero_id; born = born }) (codes "a")) (a_entry birth_of_a).access)

abbrev pub a_told : Entry
a_told = record (a_entry birth_of_a) { stamp = 4 }

-- a change of another call was in the way, in the directory that was born then
abbrev pub another : CallRef
another = record { client = 1; number = 1 }

abbrev pub busy : ℕ → ℕ → ℕ → Sent
busy place serve_place born = answered place serve_place (reply.Busy another spot.Slot born)

-- the path stops at `a`
abbrev pub stopped_at_a : Stage
stopped_at_a = act (flow.File (file_flow.Finishes (root_told ∷ []) (op.Walk (codes "a"))))

abbrev pub out_of_memory : Turn Stage
out_of_memory = turn.WindsUp (ending.Answers answer.NoMemory None) []

-- ---- `b` in `a` was made under another name, so that no prediction has its identifier

abbrev pub longer : Call
longer = call.Stat (codes "/a/b/c/f")

abbrev pub predicted_b : Id
predicted_b = identity digest (triple.Of a_dir.id (codes "b") 0)

abbrev pub longer_keys : List LookKey
longer_keys =
    look.Top ∷ look.At zero_id (codes "a") ∷ look.At a_dir.id (codes "b") ∷ look.At predicted_b (codes "c") ∷ []

abbrev pub moved : DirRef
moved = record { id = identity digest (triple.Of a_dir.id (codes "x") 0); born = 6 }

abbrev pub told_moved : Sent
told_moved = answered 3 5 (reply.Found (key.At a_dir (codes "b")) (record {
  id = moved.id;
  born = moved.born;
  mode = 0o755;
  owner = 0;
  group = 0;
  birth = triple.Of a_dir.id (codes "x") 0;
}))

-- where it was predicted, `c` was asked for in vain
abbrev pub told_in_vain : Sent
told_in_vain = answered 4 6 reply.NoDir
