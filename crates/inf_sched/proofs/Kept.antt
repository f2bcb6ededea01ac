-- What each step of a run keeps, every order of moves keeps.
use Rattle.std.proofs.Common.{◌≡◌, ℕ, zero, suc, ◌+◌, Bool, true, false, List, [], ◌∷◌, length, Option, Some, None, subst, sym, ⊎_elim}
use Rattle.inf_duty.specs.World.{World}
use Rattle.inf_order.specs.declared.moves.Move.{Move}
use Rattle.inf_order.specs.declared.moves.Move.TheVariants as move
use Rattle.inf_sched.specs.Scene.{Scene, Asks, GivesUp, MakesAsk, MakesServe, calls_left, has_calls, has_ended, number_in}
use Rattle.inf_sched.specs.Waiting.{Posting, is_by, is_for, oldest}
use Rattle.inf_sched.specs.Moves.{ByAlone, ByCall, ByCalls, ByMove, ByRest, ByStep, GoesOn, IfElse, ServesOldest, ServesOn}
use Rattle.inf_sched.specs.Order.{ByMoves}
use Rattle.inf_sched.specs.declared.limits.TheConstants.{MOST_EVENTS}

-- a property of scenes that each step keeps
pub record IsKept (world : World) (P : Scene → Type 0) : Type 0 where
  pub asking : (client : ℕ) (old new : Scene) → MakesAsk world client old new → P old → P new
  pub giving_up : (client : ℕ) (old new : Scene) → GivesUp world client old new → P old → P new
  pub serving : (number place : ℕ) (old new : Scene) → MakesServe world number place old new → P old → P new

stays : (P : Scene → Type 0) (old new : Scene) → new ≡ old → P old → P new
stays P old new same now = subst P (sym same) now

asks_keep : (world : World) (P : Scene → Type 0) → IsKept world P → (client : ℕ) (old new : Scene) → Asks world client old new → P old → P new
asks_keep world P kept client old new asks now =
    ⊎_elim (λ made. kept.asking client old new made now) (λ gone. kept.giving_up client old new gone now) asks

step_keeps : (world : World) (P : Scene → Type 0) → IsKept world P → (client : ℕ) (old new : Scene) → ByStep world client old new → P old → P new
step_keeps world P kept client old new step now =
    ⊎_elim (λ asks. asks_keep world P kept client old new asks now) (λ none. stays P old new none.1 now) step

serve_keeps : (world : World) (P : Scene → Type 0) → IsKept world P → (found : Option Posting) (old new : Scene) → ServesOldest world found old new → P old → P new
serve_keeps world P kept None old new serves now = stays P old new serves now
serve_keeps world P kept (Some p) old new serves now = kept.serving p.number p.place old new serves now

serves_on_keep : (world : World) (P : Scene → Type 0) → IsKept world P → (found : Option Posting) (old new : Scene) (Later : Scene → Type 0) → ((mid : Scene) → Later mid → P mid → P new) → ServesOn world found old new Later → P old → P new
serves_on_keep world P kept None old new Later later serves now = stays P old new serves now
serves_on_keep world P kept (Some p) old new Later later serves now =
    later serves.between serves.later (kept.serving p.number p.place old serves.between serves.first now)

goes_on_keeps : (world : World) (P : Scene → Type 0) → IsKept world P → (client : ℕ) (old new : Scene) (Later : Scene → Type 0) → ((mid : Scene) → Later mid → P mid → P new) → GoesOn world client old new Later → P old → P new
goes_on_keeps world P kept client old new Later later goes now =
    ⊎_elim
    (λ asks. later asks.between asks.later (asks_keep world P kept client old asks.between asks.first now))
    (λ none. serves_on_keep world P kept (oldest (is_by client) old.history) old new Later later none.1 now)
    goes

either : (test : Bool) (Yes No Goal : Type 0) → (Yes → Goal) → (No → Goal) → IfElse test Yes No → Goal
either true Yes No Goal yes_so no_so is = yes_so is
either false Yes No Goal yes_so no_so is = no_so is

alone_keeps : (world : World) (P : Scene → Type 0) → IsKept world P → (client number events : ℕ) (old new : Scene) → ByAlone world client number events old new → P old → P new
alone_keeps world P kept client number zero old new alone now = stays P old new alone now
alone_keeps world P kept client number (suc events) old new alone now =
    either (has_ended world client number old) _ _ _
    (λ over. stays P old new over now)
    (λ goes. goes_on_keeps world P kept client old new (λ mid. ByAlone world client number events mid new)
    (λ mid later. alone_keeps world P kept client number events mid new later) goes now)
    alone

call_keeps : (world : World) (P : Scene → Type 0) → IsKept world P → (client : ℕ) (old new : Scene) → ByCall world client old new → P old → P new
call_keeps world P kept client old new call now = alone_keeps world P kept client (number_in world old client) MOST_EVENTS old new call now

calls_keep : (world : World) (P : Scene → Type 0) → IsKept world P → (client calls : ℕ) (old new : Scene) → ByCalls world client calls old new → P old → P new
calls_keep world P kept client zero old new by now = stays P old new by now
calls_keep world P kept client (suc calls) old new by now =
    either (has_calls world old client) _ _ _
    (λ some.
    let there : P some.between = call_keeps world P kept client old some.between some.first now in
    either (has_ended world client (number_in world old client) some.between) _ _ _
    (λ later. calls_keep world P kept client calls some.between new later there)
    (λ over. stays P some.between new over there)
    some.later)
    (λ none. stays P old new none now)
    by

rest_keeps : (world : World) (P : Scene → Type 0) → IsKept world P → (client clients : ℕ) (old new : Scene) → ByRest world client clients old new → P old → P new
rest_keeps world P kept client zero old new by now = stays P old new by now
rest_keeps world P kept client (suc clients) old new by now =
    rest_keeps world P kept (client + 1) clients by.between new by.later
    (calls_keep world P kept client (calls_left world old client) old by.between by.first now)

move_keeps : (world : World) (P : Scene → Type 0) → IsKept world P → (next : Move) (old new : Scene) → ByMove world next old new → P old → P new
move_keeps world P kept (move.Step client) old new by now = step_keeps world P kept client old new by now
move_keeps world P kept (move.Alone client) old new by now = call_keeps world P kept client old new by now
move_keeps world P kept (move.Serve number client) old new by now =
    serve_keeps world P kept (oldest (is_for number client) old.history) old new by now
move_keeps world P kept move.Rest old new by now = rest_keeps world P kept 0 (length world.setup.clients) old new by now

pub moves_keep : (world : World) (P : Scene → Type 0) → IsKept world P → (moves : List Move) (old new : Scene) → ByMoves world moves old new → P old → P new
moves_keep world P kept [] old new by now = stays P old new by now
moves_keep world P kept (next ∷ moves) old new by now =
    moves_keep world P kept moves by.between new by.later (move_keeps world P kept next old by.between by.first now)
