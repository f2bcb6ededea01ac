-- A small run by hand: two servers, and two clients that look up the root, create a file and ask for it.
use Rattle.std.specs.Prelude.{ℕ, List, [], ◌∷◌, ◌-◌, codes, Some, None, drop, replicate}
use Rattle.inf_base.specs.declared.answer.Answer.{Answer}
use Rattle.inf_base.specs.declared.answer.Answer.TheVariants as answer
use Rattle.inf_base.specs.declared.call.Call.{Call}
use Rattle.inf_base.specs.declared.call.Call.TheVariants as call
use Rattle.inf_base.specs.declared.caller.Caller.{Caller}
use Rattle.inf_base.specs.declared.entry.Entry.{Entry}
use Rattle.inf_base.specs.declared.errno.Errno.TheVariants as errno
use Rattle.inf_base.specs.declared.id.Id.{Id}
use Rattle.inf_base.specs.declared.key.Key.TheVariants as key
use Rattle.inf_base.specs.declared.key.LookKey.TheVariants as look
use Rattle.inf_base.specs.declared.setup.ClientLine.{ClientLine}
use Rattle.inf_duty.specs.World.{World}
use Rattle.inf_message.specs.declared.ask.Ask.{Ask}
use Rattle.inf_message.specs.declared.call_result.CallResult.{CallResult}
use Rattle.inf_message.specs.declared.event.Event.{Event}
use Rattle.inf_message.specs.declared.event.Event.TheVariants as event
use Rattle.inf_message.specs.declared.op.Op.TheVariants as op
use Rattle.inf_message.specs.declared.reply.Reply.{Reply}
use Rattle.inf_message.specs.declared.reply.Reply.TheVariants as reply
use Rattle.inf_message.specs.declared.request.Request.{Request}
use Rattle.inf_message.specs.declared.request.Request.TheVariants as request
use Rattle.inf_server.specs.State.{root_access}
use Rattle.inf_tree.specs.Replay.{Decided}
use Rattle.inf_laws_history.specs.Sites.{site_of}

-- an identifier that names server 0, whatever it is the digest of
abbrev pub zero_id : Id
zero_id = record { bytes = replicate 32 0 }

abbrev pub root_caller : Caller
root_caller = record { uid = 0; gid = 0 }

abbrev pub line : List ℕ → List Call → ClientLine
line name calls = record { name = name; caller = root_caller; calls = calls }

abbrev pub world : World
world = record {
  setup = record {
    servers = 2;
    digest_bytes = 32;
    cache = 256;
    clients =
        line (codes "a") (call.Create (codes "/f") 0o644 ∷ []) ∷ line (codes "b") (call.Stat (codes "/f") ∷ []) ∷ [];
  };
  digest = λ message. zero_id;
}

abbrev pub ask : ℕ → Request → Ask
ask client request = record { from = record { client = client; number = 1 }; caller = root_caller; request = request }

abbrev pub look_up_top : Request
look_up_top = request.Lookup look.Top

abbrev pub asks : ℕ → Request → Event
asks client request = event.Ask 0 (ask client request)

-- the root's entry, as it was told at this place
abbrev pub chain : ℕ → List Entry
chain stamp = record { key = key.Top; access = root_access (site_of world 0); stamp = stamp } ∷ []

abbrev pub create_f : Request
create_f = request.Finish (chain 3) (op.Create (codes "f") 0o644)

abbrev pub stat_f : Request
stat_f = request.Finish (chain 4) (op.Stat (codes "f"))

abbrev pub found_top : Reply
found_top = reply.Found key.Top (root_access (site_of world 0))

-- the newest event first: `b` asks for the file before it is made
abbrev pub history : List Event
history =
    event.Serve 0 5 reply.Fine
    ∷ event.Serve 0 6 (reply.Refused errno.ENOENT)
    ∷ asks 1 stat_f
    ∷ asks 0 create_f
    ∷ event.Serve 0 2 found_top
    ∷ event.Serve 0 1 found_top
    ∷ asks 1 look_up_top
    ∷ asks 0 look_up_top
    ∷ []

-- the first so many events
abbrev pub first_events : ℕ → List Event
first_events count = drop (8 - count) history

abbrev pub result : ℕ → Answer → ℕ → ℕ → CallResult
result client given place first = record {
  call = record { client = client; number = 1 };
  answer = given;
  place = Some place;
  first = Some first;
  last = Some place;
  attempts = 1;
  rounds = 1;
  messages = 2;
}

abbrev pub done : Answer
done = answer.Done

abbrev pub missing : Answer
missing = answer.Refused errno.ENOENT

abbrev pub results : List CallResult
results = result 0 done 8 1 ∷ result 1 missing 7 2 ∷ []

-- the stat of `b` before it is answered
abbrev pub unanswered_stat : CallResult
unanswered_stat = record {
  call = record { client = 1; number = 1 };
  answer = answer.Unanswered;
  place = None;
  first = Some 2;
  last = None;
  attempts = 1;
  rounds = 1;
  messages = 2;
}

abbrev pub decided : Call → Answer → Decided
decided asked given = record { caller = root_caller; call = asked; answer = given }

abbrev pub decided_calls : List Decided
decided_calls =
    decided (call.Stat (codes "/f")) (answer.Refused errno.ENOENT)
    ∷ decided (call.Create (codes "/f") 0o644) answer.Done ∷ []

-- ---- half a round

-- a client that asks for a file in a directory of the root
abbrev pub deep_world : World
deep_world = record {
  setup = record {
    servers = 2;
    digest_bytes = 32;
    cache = 256;
    clients = line (codes "a") (call.Stat (codes "/d/f") ∷ []) ∷ [];
  };
  digest = λ message. zero_id;
}

-- it looks up the root and the directory; the first lookup is told that memory is wanting, the second is not answered
abbrev pub half_answered : List Event
half_answered =
    event.Serve 0 1 reply.NoMem
    ∷ asks 0 (request.Lookup (look.At zero_id (codes "d")))
    ∷ asks 0 look_up_top
    ∷ []

abbrev pub deep_stat : Answer → CallResult
deep_stat given = record {
  call = record { client = 0; number = 1 };
  answer = given;
  place = None;
  first = Some 1;
  last = None;
  attempts = 1;
  rounds = 1;
  messages = 2;
}

abbrev pub wants_memory : CallResult
wants_memory = deep_stat answer.NoMemory

abbrev pub still_open : CallResult
still_open = deep_stat answer.Unanswered
