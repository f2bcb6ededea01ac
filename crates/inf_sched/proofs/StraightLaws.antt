-- Where nothing wanted memory in the end, nothing did on the way, so an order makes one history.
use Rattle.std.proofs.Common.{◌≡◌, ℕ, zero, suc, ◌+◌, ◌<◌, Bool, true, false, List, [], ◌∷◌, length, refl, sym, ap, subst, ◌∙◌, arith}
use Rattle.inf_base.specs.declared.id.Id.{Id}
use Rattle.std.specs.List.{list_any}
use Rattle.std.proofs.lemmas.List.{length-map, length-set}
use Rattle.inf_base.specs.declared.setup.ClientLine.{ClientLine}
use Rattle.inf_duty.specs.ClientState.{ClientState}
use Rattle.inf_duty.specs.World.{World}
use Rattle.inf_message.specs.declared.call_result.CallResult.{CallResult}
use Rattle.inf_message.specs.declared.event.Event.{Event}
use Rattle.inf_order.specs.declared.moves.Move.{Move}
use Rattle.inf_sched.specs.Laws.{IsStraight, MakesCalmly, wanted}
use Rattle.inf_sched.specs.Order.{ByMoves, came_to, results_from, results_in}
use Rattle.inf_sched.specs.Scene.{Scene, client_in, is_gone, opening}
use Rattle.inf_sched.specs.Straight.{straight}
use Rattle.inf_sched.proofs.BuiltFacts.{HasNotGivenUp, IsBuiltFor, built, gone_gave_up, none_before, none_behind}
use Rattle.inf_sched.proofs.CalmFacts.{ShowsNoWant, from_results}
use Rattle.inf_sched.proofs.Kept.{IsKept, moves_keep}
use Rattle.inf_sched.proofs.OrderLaws.{IsLeft, gone_left}
use Rattle.inf_sched.proofs.StraightMoves.{moves_lead}
use Rattle.inf_sched.proofs.StraightSteps.{IsCalm}

abbrev IsSized : World → Scene → Type 0
IsSized world scene = length scene.gone ≡ length world.setup.clients

sized_kept : (world : World) → IsKept world (IsSized world)
sized_kept world = record {
  asking = λ client old new makes sized. subst (IsSized world) (sym makes.joins) sized;
  giving_up = λ client old new gives sized. subst (IsSized world) (sym gives.gone) (length-set old.gone client true ∙ sized);
  serving = λ number place old new makes sized. subst (IsSized world) (sym makes.joins) sized;
}

sized : (world : World) (order : List Move) (scene : Scene) → ByMoves world order (opening world) scene → IsSized world scene
sized world order scene moves = moves_keep world (IsSized world) (sized_kept world) order (opening world) scene moves (length-map world.setup.clients (λ (line : ClientLine). false))

-- a client whose results tell of no want is there, and has given up nothing
record IsPresent (gone : Bool) (s : ClientState) : Type 0 where
  here : gone ≡ false
  answers : ShowsNoWant s

present : (digest : List ℕ → Id) (gone : Bool) (s : ClientState) → (gone ≡ true → IsLeft digest s) → IsBuiltFor s → HasNotGivenUp (came_to gone s) → IsPresent gone s
present digest true s left built none = absurd (let gave = gone_gave_up digest s (left refl) in cc)
present digest false s left built none = record { here = refl; answers = from_results s built none }

one_on : (first k : ℕ) → first + 1 + k ≡ first + suc k
one_on first k = omega arith

same_first : (first : ℕ) → first ≡ first + 0
same_first first = omega arith

each_came_to : (world : World) (scene : Scene) (first : ℕ) (lines : List ClientLine) → HasNotGivenUp (results_from world scene first lines) → (k : ℕ) → k < length lines → HasNotGivenUp (came_to (is_gone scene (first + k)) (client_in world scene (first + k)))
each_came_to world scene first [] none k within = absurd (omega arith)
each_came_to world scene first (line ∷ lines) none zero within =
    subst (λ client. HasNotGivenUp (came_to (is_gone scene client) (client_in world scene client))) (same_first first)
    (none_before (came_to (is_gone scene first) (client_in world scene first)) _ none)
each_came_to world scene first (line ∷ lines) none (suc k) within =
    subst (λ client. HasNotGivenUp (came_to (is_gone scene client) (client_in world scene client))) (one_on first k)
    (each_came_to world scene (first + 1) lines (none_behind (came_to (is_gone scene first) (client_in world scene first)) _ none) k (omega arith))

from_zero : (client : ℕ) → 0 + client ≡ client
from_zero client = omega arith

calm_after : (world : World) (order : List Move) (scene : Scene) → ByMoves world order (opening world) scene → list_any wanted scene.history ≡ false → HasNotGivenUp (results_in world scene) → IsCalm world scene
calm_after world order scene moves replies answers = record {
  sized = sized world order scene moves;
  here = λ client within. (each client within).here;
  replies = replies;
  answers = λ client within. (each client within).answers;
}
  where
    each : (client : ℕ) → client < length world.setup.clients → IsPresent (is_gone scene client) (client_in world scene client)
    each client within =
        present world.digest (is_gone scene client) (client_in world scene client) (gone_left world order scene moves client) (built world client scene.history)
        (subst (λ c. HasNotGivenUp (came_to (is_gone scene c) (client_in world scene c))) (from_zero client)
        (each_came_to world scene 0 world.setup.clients answers client within))

pub is_straight : (world : World) (order : List Move) (h : List Event) (results : List CallResult) → MakesCalmly world order h results → IsStraight world order h results
is_straight world order h results is =
    let by = is.makes in
    let calm : IsCalm world by.scene =
    calm_after world order by.scene by.moves (ap (list_any wanted) by.made ∙ is.calm.replies) (subst HasNotGivenUp by.counted is.calm.answers) in
    let same : by.scene ≡ straight world order (opening world) = (moves_lead world order (opening world) by.scene by.moves calm).same in
    record {
      made = sym by.made ∙ ap (λ (scene : Scene). scene.history) same;
      counted = by.counted ∙ ap (results_in world) same;
    }

pub are_same : (world : World) (order : List Move) (h g : List Event) (results others : List CallResult) → MakesCalmly world order h results → MakesCalmly world order g others → (h ≡ g) × (results ≡ others)
are_same world order h g results others is also =
    let one = is_straight world order h results is in
    let two = is_straight world order g others also in
    (one.made ∙ sym two.made, one.counted ∙ sym two.counted)
