-- What is said and what changes where a request is done, by what has passed.
use Rattle.std.specs.Prelude.{◌≡◌, ℕ, List}
use Rattle.inf_base.specs.declared.entry.Entry.{Entry}
use Rattle.inf_base.specs.declared.key.Key.TheVariants as key
use Rattle.inf_base.specs.declared.key.LookKey.{LookKey}
use Rattle.inf_base.specs.declared.key.LookKey.TheVariants as look
use Rattle.inf_base.specs.declared.triple.Triple.TheVariants as triple
use Rattle.inf_base.specs.Identity.{identity}
use Rattle.inf_base.specs.Same.{dir_of}
use Rattle.inf_message.specs.declared.ask.Ask.{Ask}
use Rattle.inf_message.specs.declared.op.Op.{Op}
use Rattle.inf_message.specs.declared.op.Op.TheVariants as op
use Rattle.inf_message.specs.declared.reply.Reply.{Reply}
use Rattle.inf_message.specs.declared.reply.Reply.TheVariants as reply
use Rattle.inf_message.specs.declared.request.Request.{Request}
use Rattle.inf_message.specs.declared.request.Request.TheVariants as request
use Rattle.inf_renames.specs.Renames.{least_version}
use Rattle.inf_server.specs.Births.{access_to_come}
use Rattle.inf_server.specs.Files.{new_file}
use Rattle.inf_server.specs.State.{Site, State}
use Rattle.inf_laws_server.specs.Changes as change
use Rattle.inf_laws_server.specs.Changes.{Change, changed}
use Rattle.inf_laws_server.specs.Edits as edit
use Rattle.inf_laws_server.specs.Passed.{Passed, PassedLookup, PassedOp}

-- ---- what is said

abbrev pub answer_of_lookup : (site : Site) (state : State) (sought : LookKey) → PassedLookup site state sought → Reply
answer_of_lookup site state look.Top passed = reply.Found key.Top passed.top.access
answer_of_lookup site state (look.At id name) passed = passed.told

abbrev pub answer_of_op : (site : Site) (state : State) (ask : Ask) (chain : List Entry) (with : Op)
    → PassedOp site state ask chain with → Reply
answer_of_op site state ask chain (op.Create name mode) passed = reply.Fine
answer_of_op site state ask chain (op.Stat name) passed = reply.Stat passed.kind passed.meta
answer_of_op site state ask chain other_op passed = absurd passed

abbrev pub answer_of : (site : Site) (state : State) (ask : Ask) (asked : Request) → Passed site state ask asked → Reply
answer_of site state ask (request.Lookup sought) passed = answer_of_lookup site state sought passed
answer_of site state ask (request.Finish chain with) passed = answer_of_op site state ask chain with passed
answer_of site state ask (request.Reserve chain name) passed =
    reply.Reserved (least_version passed.entry.access.id name state.renames)
answer_of site state ask other_request passed = reply.Fine

-- ---- what changes

abbrev pub change_of_op : (site : Site) (state : State) (ask : Ask) (chain : List Entry) (with : Op)
    → PassedOp site state ask chain with → Change
change_of_op site state ask chain (op.Create name mode) passed =
    change.slots (dir_of passed.entry.access) (edit.puts name (new_file ask.caller mode))
change_of_op site state ask chain other_op passed = change.none

-- by the place of the Ask
abbrev pub change_of : (site : Site) (state : State) (place : ℕ) (ask : Ask) (asked : Request)
    → Passed site state ask asked → Change
change_of site state place ask (request.Finish chain with) passed = change_of_op site state ask chain with passed
change_of site state place ask (request.Reserve chain name) passed =
    let id = passed.entry.access.id in
    let birth = triple.Of id name (least_version id name state.renames) in
    change.slots (dir_of passed.entry.access) (edit.keeps name ask.from (access_to_come site ask.caller birth))
change_of site state place ask (request.Make birth) passed =
    change.comes (identity site.digest birth) place birth ask.from
change_of site state place ask (request.Link chain name dir mode) passed =
    change.slots (dir_of passed.entry.access) (edit.fills ask.from dir mode ask.caller)
change_of site state place ask (request.Cancel dir) passed = change.slots dir (edit.lifts ask.from)
change_of site state place ask (request.Drop dir) passed = change.goes dir ask.from
change_of site state place ask (request.Seal chain) passed = change.seals (dir_of passed.entry.access) ask.from
change_of site state place ask (request.Unseal dir) passed = change.unseals dir ask.from
change_of site state place ask (request.Unlink chain) passed =
    change.slots (dir_of passed.entry.access) (edit.takes passed.name)
change_of site state place ask (request.Forget parent dir) passed = change.forgets parent dir
change_of site state place ask other_request passed = change.none
