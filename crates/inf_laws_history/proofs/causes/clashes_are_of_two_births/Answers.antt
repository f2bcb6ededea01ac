use Rattle.std.proofs.Common.{◌≡◌, subst}
use Rattle.inf_base.specs.declared.answer.Answer.{Answer}
use Rattle.inf_base.specs.declared.answer.Answer.TheVariants as answer
use Rattle.inf_base.specs.declared.triple.Triple.{Triple}
use Rattle.inf_laws_history.specs.Causes.{IsClashBecause}
use Rattle.inf_message.specs.declared.call_result.CallResult.{CallResult}
use Rattle.inf_laws_history.proofs.ClashCauses.{clash_is_of_two_births}
use Rattle.inf_laws_history.proofs.ResultCauses.{IsCausedFor}
use Rattle.inf_laws_history.proofs.ToldResults.{results_rest}
use Rattle.inf_laws_history.proofs.causes.clashes_are_of_two_births.Goals as goal

pub returns : goal.returns
returns c world h results legal out =
    results_rest world h results legal out
    (λ (result : CallResult). (own kept : Triple) → result.answer ≡ answer.IdClash own kept → IsClashBecause world h result own kept)
    (λ result rests own kept is.
    clash_is_of_two_births world h legal result own kept (subst (λ (given : Answer). IsCausedFor h result.call given result.place) is rests))
