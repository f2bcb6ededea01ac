-- A server as a machine: for each request the reply and the next state, one definition a kind.
use Rattle.std.specs.Prelude.{◌≡◌, ℕ, Bool, true, false, List, [], ◌∷◌, Result, Err}
use Rattle.inf_base.specs.declared.entry.Entry.{Entry}
use Rattle.inf_base.specs.declared.key.LookKey.{LookKey}
use Rattle.inf_base.specs.declared.key.LookKey.TheVariants as look
use Rattle.inf_message.specs.declared.ask.Ask.{Ask}
use Rattle.inf_message.specs.History.{Served}
use Rattle.inf_message.specs.declared.op.Op.{Op}
use Rattle.inf_message.specs.declared.op.Op.TheVariants as op
use Rattle.inf_message.specs.declared.reply.Reply.{Reply}
use Rattle.inf_message.specs.declared.reply.Reply.TheVariants as reply
use Rattle.inf_message.specs.declared.request.Request.{Request}
use Rattle.inf_message.specs.declared.request.Request.TheVariants as request
use Rattle.inf_server.specs.Births.{cancel, link, make, reserve}
use Rattle.inf_server.specs.Files.{create, rmdir_name, stat, walk}
use Rattle.inf_server.specs.Lookups.{lookup_at, lookup_top}
use Rattle.inf_server.specs.Removals.{drop_dir, forget, seal, unlink, unseal}
use Rattle.inf_server.specs.Response.{Response, response}
use Rattle.inf_server.specs.State.{Site, State, opening}

-- the kinds of request that servers know so far
abbrev pub is_built_op : Op → Bool
is_built_op (op.Create name mode) = true
is_built_op (op.Stat name) = true
is_built_op (op.Walk name) = true
is_built_op (op.RmdirName name) = true
is_built_op other_op = false

-- what changes a directory, wants no memory, and has nothing to tell
abbrev pub is_change : Request → Bool
is_change (request.Link chain name dir mode) = true
is_change (request.Cancel dir) = true
is_change (request.Drop dir) = true
is_change (request.Seal chain) = true
is_change (request.Unseal dir) = true
is_change (request.Unlink chain) = true
is_change (request.Forget parent dir) = true
is_change other_request = false

abbrev pub is_built : Request → Bool
is_built (request.Lookup key) = true
is_built (request.Finish chain asked) = is_built_op asked
is_built (request.Reserve chain name) = true
is_built (request.Make birth) = true
is_built other_request = is_change other_request

abbrev pub on_lookup : Site → State → LookKey → Result Response Reply
on_lookup site state look.Top = lookup_top site state
on_lookup site state (look.At dir name) = lookup_at site state dir name

abbrev pub on_op : Site → State → Ask → List Entry → Op → Result Response Reply
on_op site state ask chain (op.Create name mode) = create site state ask chain name mode
on_op site state ask chain (op.Stat name) = stat site state ask chain name
on_op site state ask chain (op.Walk name) = walk site state ask chain name
on_op site state ask chain (op.RmdirName name) = rmdir_name site state ask chain name
on_op site state ask chain other_op = Err reply.Other

abbrev pub on_change : Site → State → Ask → Request → Result Response Reply
on_change site state ask (request.Link chain name dir mode) = link site state ask chain dir mode
on_change site state ask (request.Cancel dir) = cancel site state ask dir
on_change site state ask (request.Drop dir) = drop_dir site state ask dir
on_change site state ask (request.Seal chain) = seal site state ask chain
on_change site state ask (request.Unseal dir) = unseal site state ask dir
on_change site state ask (request.Unlink chain) = unlink site state ask chain
on_change site state ask (request.Forget parent dir) = forget site state parent dir
on_change site state ask other_request = Err reply.Other

abbrev pub on_request : Site → State → ℕ → Ask → Request → Result Response Reply
on_request site state place ask (request.Lookup key) = on_lookup site state key
on_request site state place ask (request.Finish chain asked) = on_op site state ask chain asked
on_request site state place ask (request.Reserve chain name) = reserve site state ask chain name
on_request site state place ask (request.Make birth) = make site state place ask birth
on_request site state place ask other_request = on_change site state ask other_request

-- the reply to an Ask that was made at this place, and the state after it
abbrev pub machine : Site → State → ℕ → Ask → Response
machine site state place ask = response state (on_request site state place ask ask.request)

-- the requests for which a server may want memory
abbrev pub may_want_op : Op → Bool
may_want_op (op.Create name mode) = true
may_want_op (op.Move old new) = true
may_want_op op.List = true
may_want_op other_op = false

abbrev pub may_want : Request → Bool
may_want (request.Lookup key) = true
may_want (request.Finish chain asked) = may_want_op asked
may_want (request.Reserve chain name) = true
may_want (request.Make triple) = true
may_want (request.Hold chain what) = true
may_want (request.Prepare old new aim) = true
may_want (request.Put old new aim meta) = true
may_want (request.Mark key hold) = true
may_want (request.Admit dir old new) = true
may_want other_request = false

-- a server may reply that it wants memory, which leaves its state; any other reply is the machine's
abbrev pub Serves : Site → State → ℕ → Ask → Reply → State → Type 0
Serves site old place ask reply.NoMem new = (may_want ask.request ≡ true) × (new ≡ old)
Serves site old place ask given new = record { reply = given; state = new } ≡ machine site old place ask

-- a server that wanted memory is as it was
abbrev pub after_reply : Reply → State → Response → State
after_reply reply.NoMem before response = before
after_reply given before response = response.state

-- the state of a server after what it has served, the newest first
abbrev pub state_after : Site → List Served → State
state_after site [] = opening site
state_after site (s ∷ earlier) =
    after_reply s.reply (state_after site earlier) (machine site (state_after site earlier) s.ask_place s.ask)
