-- The report of a run, line by line.
use Rattle.std.specs.Prelude.{ℕ, ◌+◌, ◌==◌, Bool, List, [], ◌∷◌, ◌++◌, length, filter, Option, None, Some, is_none, codes, if◌then◌else◌}
use Rattle.std.specs.List.{flat_map}
use Rattle.std.specs.Fmt.{decimal}
use Rattle.inf_base.specs.declared.setup.ClientLine.{ClientLine}
use Rattle.inf_base.specs.declared.setup.Setup.{Setup}
use Rattle.inf_duty.specs.Outcome.{in_order}
use Rattle.inf_message.specs.declared.ask.Ask.{Ask}
use Rattle.inf_message.specs.declared.reply.Reply.{Reply}
use Rattle.inf_message.specs.declared.call_result.CallResult.{CallResult}
use Rattle.inf_message.specs.declared.event.Event.{Event}
use Rattle.inf_message.specs.declared.event.Event.TheVariants as event
use Rattle.inf_report.specs.Calls.{answer_text, call_at, ref_text, words_of}
use Rattle.inf_report.specs.Replies.{reply_text}
use Rattle.inf_report.specs.Requests.{request_text}

abbrev pub line : List ℕ → List ℕ
line text = text ++ 10 ∷ []

-- `WORD N`
abbrev pub count_line : List ℕ → ℕ → List ℕ
count_line word count = line (word ++ codes " " ++ decimal count)

-- `client NAME UID GID`
abbrev pub client_line : ClientLine → List ℕ
client_line client =
    line (codes "client " ++ client.name ++ codes " " ++ decimal client.caller.uid
    ++ codes " " ++ decimal client.caller.gid)

-- the version of the report, and the numbers that the run was set up with
abbrev pub setup_lines : Setup → List ℕ
setup_lines setup =
    line (codes "infinifs report 1")
    ++ count_line (codes "servers") setup.servers ++ count_line (codes "digest-bytes") setup.digest_bytes
    ++ count_line (codes "cache") setup.cache

-- what the run was set up with
abbrev pub head_lines : Setup → List ℕ
head_lines setup = setup_lines setup ++ flat_map client_line setup.clients

-- a place, or `-` where there is none
abbrev pub place_text : Option ℕ → List ℕ
place_text None = codes "-"
place_text (Some place) = decimal place

-- a call that was decided and did not end is open: its place comes first, then that of its last Serve
abbrev pub open_mark : Option ℕ → Option ℕ → List ℕ
open_mark None last = []
open_mark (Some place) None = codes " open"
open_mark (Some place) (Some last) = []

-- ` first P last P`
abbrev pub span_text : CallResult → List ℕ
span_text result = codes " first " ++ place_text result.first ++ codes " last " ++ place_text result.last

-- ` attempts N rounds N messages N`
abbrev pub counts_text : CallResult → List ℕ
counts_text result =
    codes " attempts " ++ decimal result.attempts ++ codes " rounds " ++ decimal result.rounds
    ++ codes " messages " ++ decimal result.messages

-- `PLACE REF CALL`
abbrev pub called_text : List ClientLine → CallResult → List ℕ
called_text clients result =
    place_text result.place ++ codes " " ++ ref_text clients result.call
    ++ codes " " ++ words_of (call_at clients result.call)

-- `PLACE REF CALL = ANSWER first P last P attempts N rounds N messages N`, and ` open` for an open call
abbrev pub call_line : List ClientLine → CallResult → List ℕ
call_line clients result =
    line (called_text clients result ++ codes " = " ++ answer_text clients result.answer ++ span_text result
    ++ counts_text result ++ open_mark result.place result.last)

abbrev pub has_no_place : CallResult → Bool
has_no_place result = is_none result.place

-- the results that have a place, by place; then the others, in the order in which they stand
abbrev pub by_place : ℕ → List CallResult → List CallResult
by_place events results = in_order events results ++ filter has_no_place results

-- the number of calls, and a line for each
abbrev pub call_lines : List ClientLine → ℕ → List CallResult → List ℕ
call_lines clients events results =
    count_line (codes "calls") (length results) ++ flat_map (call_line clients) (by_place events results)

-- `sN`; the coordinator, whose number is that of the servers, is `c`
abbrev pub server_text : ℕ → ℕ → List ℕ
server_text servers number = if number == servers then codes "c" else codes "s" ++ decimal number

-- ` ask REF SERVER REQUEST`
abbrev pub ask_text : Setup → ℕ → Ask → List ℕ
ask_text setup number ask =
    codes " ask " ++ ref_text setup.clients ask.from ++ codes " " ++ server_text setup.servers number
    ++ codes " " ++ request_text ask.request

-- ` serve SERVER ASKPLACE REPLY`
abbrev pub serve_text : Setup → ℕ → ℕ → Reply → List ℕ
serve_text setup number ask_place reply =
    codes " serve " ++ server_text setup.servers number ++ codes " " ++ decimal ask_place
    ++ codes " " ++ reply_text setup.clients reply

abbrev pub event_text : Setup → Event → List ℕ
event_text setup (event.Ask number ask) = ask_text setup number ask
event_text setup (event.Serve number ask_place reply) = serve_text setup number ask_place reply

-- `PLACE ask REF SERVER REQUEST`, or `PLACE serve SERVER ASKPLACE REPLY`
abbrev pub event_line : Setup → ℕ → Event → List ℕ
event_line setup place event = line (decimal place ++ event_text setup event)

-- the lines of events of which the first has this place
abbrev pub lines_from : Setup → ℕ → List Event → List ℕ
lines_from setup place [] = []
lines_from setup place (event ∷ events) = event_line setup place event ++ lines_from setup (place + 1) events

-- the number of events, and a line for each
abbrev pub event_lines : Setup → List Event → List ℕ
event_lines setup events = count_line (codes "events") (length events) ++ lines_from setup 1 events

-- the report of a run, whose events stand by place, the oldest first
abbrev pub report : Setup → List Event → List CallResult → List ℕ
report setup events results =
    head_lines setup ++ call_lines setup.clients (length events) results ++ event_lines setup events
    ++ line (codes "end")
