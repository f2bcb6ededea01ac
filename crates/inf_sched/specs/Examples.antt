-- A small world by hand, two servers and two clients; one with a client whose path has two names, and one
-- whose client makes a directory; orders of moves for these, and what they make.
use Rattle.std.specs.Prelude.{ℕ, ◌-◌, List, [], ◌∷◌, codes, drop, replicate, Option, Some, None}
use Rattle.inf_base.specs.declared.answer.Answer.{Answer}
use Rattle.inf_base.specs.declared.answer.Answer.TheVariants as answer
use Rattle.inf_base.specs.declared.call.Call.{Call}
use Rattle.inf_base.specs.declared.call.Call.TheVariants as call
use Rattle.inf_base.specs.declared.caller.Caller.{Caller}
use Rattle.inf_base.specs.declared.entry.Entry.{Entry}
use Rattle.inf_base.specs.declared.errno.Errno.TheVariants as errno
use Rattle.inf_base.specs.declared.file.FileMeta.{FileMeta}
use Rattle.inf_base.specs.declared.id.Id.{Id}
use Rattle.inf_base.specs.declared.item.Kind.TheVariants as kind
use Rattle.inf_base.specs.declared.key.Key.TheVariants as key
use Rattle.inf_base.specs.declared.key.LookKey.TheVariants as look
use Rattle.inf_base.specs.declared.setup.ClientLine.{ClientLine}
use Rattle.inf_duty.specs.World.{World}
use Rattle.inf_laws_history.specs.Sites.{site_of}
use Rattle.inf_message.specs.declared.ask.Ask.{Ask}
use Rattle.inf_message.specs.declared.call_result.CallResult.{CallResult}
use Rattle.inf_message.specs.declared.event.Event.{Event}
use Rattle.inf_message.specs.declared.event.Event.TheVariants as event
use Rattle.inf_message.specs.declared.op.Op.{Op}
use Rattle.inf_message.specs.declared.op.Op.TheVariants as op
use Rattle.inf_message.specs.declared.reply.Reply.{Reply}
use Rattle.inf_message.specs.declared.reply.Reply.TheVariants as reply
use Rattle.inf_message.specs.declared.request.Request.{Request}
use Rattle.inf_message.specs.declared.request.Request.TheVariants as request
use Rattle.inf_order.specs.declared.moves.Move.{Move}
use Rattle.inf_order.specs.declared.moves.Move.TheVariants as move
use Rattle.inf_sched.specs.Order.{results_in}
use Rattle.inf_sched.specs.Scene.{Scene, opening}
use Rattle.inf_sched.specs.Straight.{straight}
use Rattle.inf_server.specs.State.{root_access}

-- ---- worlds

-- an identifier that names server 0, whatever it is the digest of
abbrev pub zero_id : Id
zero_id = record { bytes = replicate 32 0 }

abbrev pub root_caller : Caller
root_caller = record { uid = 0; gid = 0 }

abbrev pub line : List ℕ → List Call → ClientLine
line name calls = record { name = name; caller = root_caller; calls = calls }

-- two servers, and these clients
abbrev pub world_with : List ClientLine → World
world_with clients = record {
  setup = record { servers = 2; digest_bytes = 32; cache = 256; clients = clients };
  digest = λ message. zero_id;
}

-- `a` creates a file, and `b` asks for it
abbrev pub world : World
world =
    world_with (line (codes "a") (call.Create (codes "/f") 0o644 ∷ [])
    ∷ line (codes "b") (call.Stat (codes "/f") ∷ []) ∷ [])

-- `c` asks for a file in a directory that is not there
abbrev pub deep_world : World
deep_world = world_with (line (codes "c") (call.Stat (codes "/d/f") ∷ []) ∷ [])

-- `a` makes a directory
abbrev pub mkdir_world : World
mkdir_world = world_with (line (codes "a") (call.Mkdir (codes "/d") 0o755 ∷ []) ∷ [])

-- where an order leads in the first of them
abbrev pub after : List Move → Scene
after order = straight world order (opening world)

abbrev pub history_of : List Move → List Event
history_of order = (after order).history

abbrev pub results_of : List Move → List CallResult
results_of order = results_in world (after order)

abbrev pub deep_after : List Move → Scene
deep_after order = straight deep_world order (opening deep_world)

-- ---- events

abbrev pub ask : ℕ → Request → Ask
ask client asked = record { from = record { client = client; number = 1 }; caller = root_caller; request = asked }

abbrev pub asks : ℕ → Request → Event
asks client asked = event.Ask 0 (ask client asked)

abbrev pub look_up_top : Request
look_up_top = request.Lookup look.Top

abbrev pub found_top : Reply
found_top = reply.Found key.Top (root_access (site_of world 0))

-- the root's entry, as it was told at this place
abbrev pub chain : ℕ → List Entry
chain stamp = record { key = key.Top; access = root_access (site_of world 0); stamp = stamp } ∷ []

abbrev pub finishes : ℕ → ℕ → Op → Event
finishes client stamp asked = asks client (request.Finish (chain stamp) asked)

abbrev pub creates : ℕ → Event
creates stamp = finishes 0 stamp (op.Create (codes "f") 0o644)

-- the file that `a` creates
abbrev pub new_meta : FileMeta
new_meta = record { mode = 0o644; owner = 0; group = 0; length = 0 }

-- ---- results

-- a call of so many messages that is decided at this place
abbrev pub decided : ℕ → Answer → ℕ → ℕ → ℕ → CallResult
decided client given place first messages = record {
  call = record { client = client; number = 1 };
  answer = given;
  place = Some place;
  first = Some first;
  last = Some place;
  attempts = 1;
  rounds = 1;
  messages = messages;
}

abbrev pub done : Answer
done = answer.Done

abbrev pub missing : Answer
missing = answer.Refused errno.ENOENT

abbrev pub not_asked : CallResult
not_asked = record {
  call = record { client = 1; number = 1 };
  answer = answer.Unanswered;
  place = None;
  first = None;
  last = None;
  attempts = 0;
  rounds = 0;
  messages = 0;
}

-- the call of `a`, where it ended for want of memory
abbrev pub no_memory : Option ℕ → Option ℕ → ℕ → CallResult
no_memory first last count = record {
  call = record { client = 0; number = 1 };
  answer = answer.NoMemory;
  place = None;
  first = first;
  last = last;
  attempts = count;
  rounds = count;
  messages = count;
}

-- ---- moves

-- `+a`, `+b`
abbrev pub a_steps : Move
a_steps = move.Step 0

abbrev pub b_steps : Move
b_steps = move.Step 1

-- `s0`, `s1`, `s0:b`
abbrev pub serves_0 : Move
serves_0 = move.Serve 0 None

abbrev pub serves_1 : Move
serves_1 = move.Serve 1 None

abbrev pub serves_b : Move
serves_b = move.Serve 0 (Some 1)

-- `=a`, `=b`, `*`
abbrev pub a_alone : Move
a_alone = move.Alone 0

abbrev pub b_alone : Move
b_alone = move.Alone 1

-- `+a +b s0 s0 +a +b`, and after it `s0:b s0`
abbrev pub asking : List Move
asking = a_steps ∷ b_steps ∷ serves_0 ∷ serves_0 ∷ a_steps ∷ b_steps ∷ []

abbrev pub by_hand : List Move
by_hand = a_steps ∷ b_steps ∷ serves_0 ∷ serves_0 ∷ a_steps ∷ b_steps ∷ serves_b ∷ serves_0 ∷ []

-- ---- what they make, the newest event first

-- `b` asks for the file before it is made
abbrev pub history : List Event
history =
    event.Serve 0 5 reply.Fine
    ∷ event.Serve 0 6 (reply.Refused errno.ENOENT)
    ∷ finishes 1 4 (op.Stat (codes "f"))
    ∷ creates 3
    ∷ event.Serve 0 2 found_top
    ∷ event.Serve 0 1 found_top
    ∷ asks 1 look_up_top
    ∷ asks 0 look_up_top
    ∷ []

-- the first so many events
abbrev pub first_events : ℕ → List Event
first_events count = drop (8 - count) history

abbrev pub results : List CallResult
results = decided 0 done 8 1 2 ∷ decided 1 missing 7 2 2 ∷ []

-- `a` alone creates the file
abbrev pub a_only : List Event
a_only = event.Serve 0 3 reply.Fine ∷ creates 2 ∷ event.Serve 0 1 found_top ∷ asks 0 look_up_top ∷ []

-- then `b` alone finds it
abbrev pub one_by_one : List Event
one_by_one =
    event.Serve 0 7 (reply.Stat kind.File new_meta)
    ∷ finishes 1 6 (op.Stat (codes "f"))
    ∷ event.Serve 0 5 found_top
    ∷ asks 1 look_up_top
    ∷ a_only

abbrev pub results_one_by_one : List CallResult
results_one_by_one = decided 0 done 4 1 2 ∷ decided 1 (answer.Stat kind.File new_meta) 8 5 2 ∷ []

-- `b` has asked for the root, and `a` created the file, before `b` goes on alone
abbrev pub b_waits_first : List Event
b_waits_first =
    event.Serve 0 7 (reply.Stat kind.File new_meta)
    ∷ finishes 1 6 (op.Stat (codes "f"))
    ∷ event.Serve 0 1 found_top
    ∷ event.Serve 0 4 reply.Fine
    ∷ creates 3
    ∷ event.Serve 0 2 found_top
    ∷ asks 0 look_up_top
    ∷ asks 1 look_up_top
    ∷ []

-- the server wants memory for the lookup of `a`
abbrev pub wanted_by_server : List Event
wanted_by_server = event.Serve 0 1 reply.NoMem ∷ asks 0 look_up_top ∷ []

-- `c` looks up the root and the directory in one round, and has the path walked from the root
abbrev pub look_up_d : Request
look_up_d = request.Lookup (look.At zero_id (codes "d"))

abbrev pub walks : ℕ → Event
walks stamp = finishes 0 stamp (op.Walk (codes "d"))

abbrev pub one_round : List Event
one_round =
    event.Serve 0 5 (reply.Refused errno.ENOENT)
    ∷ walks 3
    ∷ event.Serve 0 2 (reply.Absent 0)
    ∷ event.Serve 0 1 found_top
    ∷ asks 0 look_up_d
    ∷ asks 0 look_up_top
    ∷ []

-- the first lookup is answered before the second is made
abbrev pub round_in_turn : List Event
round_in_turn =
    event.Serve 0 5 (reply.Refused errno.ENOENT)
    ∷ walks 2
    ∷ event.Serve 0 3 (reply.Absent 0)
    ∷ asks 0 look_up_d
    ∷ event.Serve 0 1 found_top
    ∷ asks 0 look_up_top
    ∷ []

-- `+a s0 +a s0 +a s0`, which is as well `+c s0 +c s0 +c s0`
abbrev pub in_turn : List Move
in_turn = a_steps ∷ serves_0 ∷ a_steps ∷ serves_0 ∷ a_steps ∷ serves_0 ∷ []

-- ---- memory is wanted in the midst of a flow

abbrev pub reserve_d : Request
reserve_d = request.Reserve (chain 2) (codes "d")

abbrev pub cancel_d : Request
cancel_d = request.Cancel (record { id = zero_id; born = 0 })

-- `a` has reserved the name, and wants memory to make the directory, so it lifts what it reserved
abbrev pub lifted : List Event
lifted =
    event.Serve 0 5 reply.Fine
    ∷ asks 0 cancel_d
    ∷ event.Serve 0 3 (reply.Reserved 0)
    ∷ asks 0 reserve_d
    ∷ event.Serve 0 1 found_top
    ∷ asks 0 look_up_top
    ∷ []

abbrev pub gave_up_late : Option ℕ → CallResult
gave_up_late last = record (no_memory (Some 1) last 1) { messages = 3 }
