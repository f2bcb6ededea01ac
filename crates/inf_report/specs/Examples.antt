-- The report of the empty script, and single lines.
use Rattle.std.specs.Prelude.{ℕ, List, [], ◌∷◌, ◌++◌, Some, None, codes}
use Rattle.inf_base.specs.declared.answer.Answer.TheVariants as answer
use Rattle.inf_base.specs.declared.call.Call.TheVariants as call
use Rattle.inf_base.specs.declared.key.LookKey.TheVariants as look_key
use Rattle.inf_base.specs.declared.setup.ClientLine.{ClientLine}
use Rattle.inf_base.specs.declared.setup.Setup.{Setup}
use Rattle.inf_message.specs.declared.call_result.CallResult.{CallResult}
use Rattle.inf_message.specs.declared.event.Event.{Event}
use Rattle.inf_message.specs.declared.event.Event.TheVariants as event
use Rattle.inf_message.specs.declared.reply.Reply.TheVariants as reply
use Rattle.inf_message.specs.declared.request.Request.TheVariants as request
use Rattle.inf_report.specs.Report.{line}

-- a setup of one server with these clients
abbrev pub setup_of : List ClientLine → Setup
setup_of clients = record { servers = 1; digest_bytes = 32; cache = 256; clients = clients }

-- a client that stats one path
abbrev pub client_a : ClientLine
client_a = record { name = codes "a"; caller = record { uid = 7; gid = 8 }; calls = call.Stat (codes "/f") ∷ [] }

abbrev pub setup_a : Setup
setup_a = setup_of (client_a ∷ [])

-- the report of a script with no client
abbrev pub empty_report : List ℕ
empty_report =
    line (codes "infinifs report 1")
    ++ line (codes "servers 1") ++ line (codes "digest-bytes 32") ++ line (codes "cache 256")
    ++ line (codes "calls 0") ++ line (codes "events 0") ++ line (codes "end")

-- the client looks up the root at server 0
abbrev pub ask_root : Event
ask_root = event.Ask 0 (record {
  from = record { client = 0; number = 1 };
  caller = record { uid = 7; gid = 8 };
  request = request.Lookup look_key.Top;
})

-- the coordinator answers the Ask at place 1
abbrev pub serve_fine : Event
serve_fine = event.Serve 1 1 reply.Fine

-- the client's call was decided at place 2, and is open
abbrev pub open_result : CallResult
open_result =
    record {
      call = record { client = 0; number = 1 };
      answer = answer.Done;
      place = Some 2;
      first = Some 1;
      last = None;
      attempts = 1;
      rounds = 2;
      messages = 3;
    }

-- the client's call ended at place 4
abbrev pub ended_result : CallResult
ended_result =
    record {
      call = record { client = 0; number = 1 };
      answer = answer.Done;
      place = Some 2;
      first = Some 1;
      last = Some 4;
      attempts = 1;
      rounds = 2;
      messages = 3;
    }

-- the client's call was not decided
abbrev pub other_result : CallResult
other_result =
    record {
      call = record { client = 0; number = 1 };
      answer = answer.Unanswered;
      place = None;
      first = None;
      last = None;
      attempts = 0;
      rounds = 0;
      messages = 0;
    }
