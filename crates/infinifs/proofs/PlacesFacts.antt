-- The results of an outcome have places of their own in its history.
use Rattle.std.proofs.Common.{List, length, reverse, subst}
use Rattle.std.proofs.lemmas.List.{length-reverse}
use Rattle.inf_laws_history.proofs.OwnPlaces.{results_have_own_places}
use Rattle.inf_laws_history.specs.Legal.{Legal}
use Rattle.inf_duty.specs.Outcome.{Outcome}
use Rattle.inf_duty.specs.Places.{HaveOwnPlaces}
use Rattle.inf_duty.specs.World.{World}
use Rattle.inf_message.specs.declared.call_result.CallResult.{CallResult}
use Rattle.inf_message.specs.declared.event.Event.{Event}

-- the history stands with the oldest event first
pub own_places-reverse : (world : World) (events : List Event) (results : List CallResult)
    → Legal world (reverse events) → Outcome world (reverse events) results → HaveOwnPlaces (length events) results
own_places-reverse world events results legal outcome =
    subst (λ n. HaveOwnPlaces n results) (length-reverse events) (results_have_own_places world (reverse events) results outcome)
