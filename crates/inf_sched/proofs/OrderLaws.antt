-- Laws of whatever an order of moves makes.
use Rattle.std.proofs.Common.{◌≡◌, ℕ, suc, ◌+◌, Bool, true, false, cond, eqb, List, [], ◌∷◌, length, map, ◌&&◌, zero, slice_get, slice_set, refl, sym, ap, subst, ◌∙◌, inl, inr}
use Rattle.inf_base.specs.declared.id.Id.{Id}
use Rattle.std.proofs.lemmas.Bool.Decides.{Decides-eqb}
use Rattle.inf_base.specs.declared.setup.ClientLine.{ClientLine}
use Rattle.inf_duty.specs.ClientState.{ClientState}
use Rattle.inf_message.specs.Sent.{has_place}
use Rattle.inf_laws_history.specs.Legal.{Legal}
use Rattle.inf_duty.specs.After.{client_after}
use Rattle.inf_duty.specs.Outcome.{Agrees, Outcome, OutcomeFrom, may_pass}
use Rattle.inf_duty.specs.World.{World}
use Rattle.inf_laws_history.proofs.ByIndex.{got_apart}
use Rattle.inf_message.specs.declared.call_result.CallResult.{CallResult}
use Rattle.inf_message.specs.declared.event.Event.{Event}
use Rattle.inf_message.specs.History.{told_reply}
use Rattle.inf_laws_history.proofs.ClientSteps.{served_apart}
use Rattle.inf_message.proofs.HistoryLaws.{other}
use Rattle.inf_order.specs.declared.moves.Move.{Move}
use Rattle.inf_sched.specs.Order.{ByMoves, ByOrder, came_to, results_from}
use Rattle.inf_sched.specs.Scene.{Scene, GivesUp, MakesAsk, MakesServe, client_in, is_ask, is_gone, is_set, opening, planned}
use Rattle.inf_duty.specs.Duty.{asked, next_step}
use Rattle.inf_sched.proofs.Kept.{IsKept, moves_keep}

-- ---- what it makes is legal

legal_kept : (world : World) → IsKept world (λ scene. Legal world scene.history)
legal_kept world = record {
  asking = λ client old new asks legal. subst (λ (scene : Scene). Legal world scene.history) (sym asks.joins) (legal, asks.may);
  giving_up = λ client old new gives legal. subst (λ (scene : Scene). Legal world scene.history) (sym gives.gone) legal;
  serving = λ number place old new serves legal. subst (λ (scene : Scene). Legal world scene.history) (sym serves.joins) (legal, serves.may);
}

pub is_legal : (world : World) (order : List Move) (h : List Event) (results : List CallResult) → ByOrder world order h results → Legal world h
is_legal world order h results by =
    subst (Legal world) by.made
    (moves_keep world (λ scene. Legal world scene.history) (legal_kept world) order (opening world) by.scene by.moves tt)

-- ---- a client that is gone stands between two groups, where it was to ask

pub record IsLeft (digest : List ℕ → Id) (s : ClientState) : Type 0 where
  pub between : s.sent ≡ []
  pub was_to_ask : is_ask (next_step (planned digest s)) ≡ true
  pub free : may_pass s ≡ true

abbrev pub GoneAreLeft : World → Scene → Type 0
GoneAreLeft world scene = (client : ℕ) → is_gone scene client ≡ true → IsLeft world.digest (client_in world scene client)

pub starts_present : (lines : List ClientLine) (client : ℕ) → is_set (slice_get (map (λ (line : ClientLine). false) lines) client) ≡ false
starts_present [] client = refl
starts_present (line ∷ lines) zero = refl
starts_present (line ∷ lines) (suc client) = starts_present lines client

both_true : (a b : Bool) → (a && b) ≡ true → (a ≡ true) × (b ≡ true)
both_true true b e = (refl, e)
both_true false b e = absurd (cc)

asking_left : (world : World) (client : ℕ) (old new : Scene) → MakesAsk world client old new → GoneAreLeft world old → GoneAreLeft world new
asking_left world client old new asks left = subst (GoneAreLeft world) (sym asks.joins) (λ each gone.
    let another : eqb asks.ask.from.client each ≡ false =
    other asks.ask.from.client each (λ same. let here : is_gone old each ≡ false = subst (λ c. is_gone old c ≡ false) (sym asks.own ∙ same) asks.here in cc) in
    subst (IsLeft world.digest)
    (sym (ap (λ b. cond b (asked world.digest (suc (length old.history)) asks.ask (client_after world each old.history)) (client_after world each old.history)) another))
    (left each gone))

giving_up_left : (world : World) (client : ℕ) (old new : Scene) → GivesUp world client old new → GoneAreLeft world old → GoneAreLeft world new
giving_up_left world client old new gives left = subst (GoneAreLeft world) (sym gives.gone) (λ each gone. by each gone (eqb each client) refl)
  where
    by : (each : ℕ) → is_set (slice_get (slice_set old.gone client true) each) ≡ true → (b : Bool) → eqb each client ≡ b → IsLeft world.digest (client_in world old each)
    by each gone true same =
        subst (λ c. IsLeft world.digest (client_in world old c)) (sym ((Decides-eqb each client).0 same))
        (record { between = gives.between; was_to_ask = (both_true _ _ gives.can).1; free = gives.free })
    by each gone false apart =
        left each (ap is_set (sym (got_apart old.gone client each true (λ same. let is : eqb each client ≡ true = (Decides-eqb each client).1 same in cc))) ∙ gone)

serving_left : (world : World) (number place : ℕ) (old new : Scene) → MakesServe world number place old new → GoneAreLeft world old → GoneAreLeft world new
serving_left world number place old new serves left = subst (GoneAreLeft world) (sym serves.joins) (λ each gone.
    subst (IsLeft world.digest)
    (sym (served_apart world.digest place (told_reply (suc (length old.history)) serves.given) (client_in world old each)
    (ap (has_place place) (left each gone).between)))
    (left each gone))

pub gone_left : (world : World) (order : List Move) (scene : Scene) → ByMoves world order (opening world) scene → GoneAreLeft world scene
gone_left world order scene moves =
    moves_keep world (GoneAreLeft world)
    (record { asking = asking_left world; giving_up = giving_up_left world; serving = serving_left world })
    order (opening world) scene moves
    (λ each gone. absurd (let present = starts_present world.setup.clients each in cc))

-- ---- what it makes is an outcome

agrees : (digest : List ℕ → Id) (gone : Bool) (s : ClientState) → (gone ≡ true → IsLeft digest s) → Agrees s (came_to gone s)
agrees digest true s left = inr ((left refl).between, refl)
agrees digest false s left = inl refl

outcome_from : (world : World) (scene : Scene) (client : ℕ) (lines : List ClientLine) → GoneAreLeft world scene → OutcomeFrom world scene.history client lines (results_from world scene client lines)
outcome_from world scene client [] left = refl
outcome_from world scene client (line ∷ lines) left = record {
  mine = came_to (is_gone scene client) (client_in world scene client);
  others = results_from world scene (client + 1) lines;
  all = refl;
  agrees = agrees world.digest (is_gone scene client) (client_in world scene client) (left client);
  later = outcome_from world scene (client + 1) lines left;
}

pub is_outcome : (world : World) (order : List Move) (h : List Event) (results : List CallResult) → ByOrder world order h results → Outcome world h results
is_outcome world order h results by =
    subst (λ found. Outcome world found results) by.made
    (subst (Outcome world by.scene.history) (sym by.counted)
    (outcome_from world by.scene 0 world.setup.clients (gone_left world order by.scene by.moves)))
