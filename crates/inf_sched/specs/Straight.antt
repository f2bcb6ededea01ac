-- The run of an order in which nothing wants memory, as a function: each move's definition mirrors its relation.
use Rattle.std.specs.Prelude.{ℕ, zero, suc, ◌+◌, Bool, true, false, List, [], ◌∷◌, length, Option, Some, None}
use Rattle.inf_duty.specs.Duty.{Next, asks, is_over, next_step, waits}
use Rattle.inf_laws_history.specs.Legal.{server_after}
use Rattle.inf_duty.specs.World.{World}
use Rattle.inf_laws_history.specs.Sites.{site_of}
use Rattle.inf_message.specs.declared.event.Event.{Event}
use Rattle.inf_message.specs.declared.event.Event.TheVariants as event
use Rattle.inf_message.specs.declared.reply.Reply.{Reply}
use Rattle.inf_message.specs.declared.reply.Reply.TheVariants as reply
use Rattle.inf_message.specs.History.{Posted, asked_at}
use Rattle.inf_order.specs.declared.moves.Move.{Move}
use Rattle.inf_order.specs.declared.moves.Move.TheVariants as move
use Rattle.inf_sched.specs.Scene.{Scene, calls_left, can_ask, client_in, has_calls, has_ended, number_in, planned}
use Rattle.inf_sched.specs.Waiting.{Posting, is_by, is_for, oldest}
use Rattle.inf_sched.specs.declared.limits.TheConstants.{MOST_EVENTS}
use Rattle.inf_server.specs.Machine.{machine}

-- where the test says yes the run goes on so, where it says no it stays
abbrev pub only_if : Bool → (Scene → Scene) → Scene → Scene
only_if true later scene = later scene
only_if false later scene = scene

-- where the test says yes the run stays
abbrev pub unless : Bool → (Scene → Scene) → Scene → Scene
unless true later scene = scene
unless false later scene = later scene

abbrev pub with_event : Event → Scene → Scene
with_event e scene = record { history = e ∷ scene.history; gone = scene.gone }

-- ---- the steps

abbrev pub with_ask : Next → Scene → Scene
with_ask (asks number ask) scene = with_event (event.Ask number ask) scene
with_ask waits scene = scene
with_ask is_over scene = scene

-- the client makes its next ask
abbrev pub with_next_ask : World → ℕ → Scene → Scene
with_next_ask world client scene = with_ask (next_step (planned world.digest (client_in world scene client))) scene

-- what the machine replies to the Ask at this place; where there is none, nothing is served
abbrev pub reply_to : World → ℕ → ℕ → List Event → Option Posted → Reply
reply_to world number place h (Some posted) =
    (machine (site_of world number) (server_after world number h) place posted.ask).reply
reply_to world number place h None = reply.Other

-- the Ask is served
abbrev pub with_serve : World → Posting → Scene → Scene
with_serve world p scene =
    with_event
    (event.Serve p.number p.place (reply_to world p.number p.place scene.history (asked_at p.place scene.history)))
    scene

-- ---- the moves

-- `+a`
abbrev pub step : World → ℕ → Scene → Scene
step world client scene = only_if (can_ask world scene client) (with_next_ask world client) scene

abbrev pub serve_found : World → Option Posting → Scene → Scene
serve_found world None scene = scene
serve_found world (Some p) scene = with_serve world p scene

-- `sN`, `sN:a`, `c` and `c:a`
abbrev pub serve : World → ℕ → Option ℕ → Scene → Scene
serve world number client scene = serve_found world (oldest (is_for number client) scene.history) scene

-- the oldest waiting Ask of the client is served, and it goes on; or nothing is left to do
abbrev pub serve_on : World → Option Posting → (Scene → Scene) → Scene → Scene
serve_on world None later scene = scene
serve_on world (Some p) later scene = later (with_serve world p scene)

-- the client makes its next ask; where it has none, its oldest waiting Ask is served
abbrev pub ask_on : World → ℕ → Bool → (Scene → Scene) → Scene → Scene
ask_on world client true later scene = later (with_next_ask world client scene)
ask_on world client false later scene = serve_on world (oldest (is_by client) scene.history) later scene

-- the client goes on alone, for so many events at most, until its call of this number has ended
abbrev pub alone : World → ℕ → ℕ → ℕ → Scene → Scene
alone world client number zero scene = scene
alone world client number (suc events) scene =
    unless (has_ended world client number scene)
    (λ now. ask_on world client (can_ask world now client) (λ mid. alone world client number events mid) now)
    scene

-- `=a`
abbrev pub call : World → ℕ → Scene → Scene
call world client scene = alone world client (number_in world scene client) MOST_EVENTS scene

-- the client goes on alone call by call, so many at most, until it has none left or one does not end
abbrev pub calls : World → ℕ → ℕ → Scene → Scene
calls world client zero scene = scene
calls world client (suc count) scene =
    only_if (has_calls world scene client)
    (λ now.
    only_if (has_ended world client (number_in world now client) (call world client now))
    (λ mid. calls world client count mid)
    (call world client now))
    scene

-- `*`
abbrev pub rest : World → ℕ → ℕ → Scene → Scene
rest world client zero scene = scene
rest world client (suc clients) scene =
    rest world (client + 1) clients (calls world client (calls_left world scene client) scene)

abbrev pub made : World → Move → Scene → Scene
made world (move.Step client) scene = step world client scene
made world (move.Alone client) scene = call world client scene
made world (move.Serve number client) scene = serve world number client scene
made world move.Rest scene = rest world 0 (length world.setup.clients) scene

-- the scene to which the moves lead
abbrev pub straight : World → List Move → Scene → Scene
straight world [] scene = scene
straight world (next ∷ moves) scene = straight world moves (made world next scene)
