use Rattle.std.proofs.Common.{get_or, subst}
use Rattle.inf_base.specs.declared.answer.Answer.{Answer}
use Rattle.inf_laws_history.proofs.BusyCauses.{again_is_because}
use Rattle.inf_laws_history.proofs.BehindEntries.{behind_entries}
use Rattle.inf_laws_history.proofs.ResultCauses.{IsCausedFor}
use Rattle.inf_laws_history.proofs.ToldResults.{results_rest}
use Rattle.inf_laws_history.proofs.causes.again_names_a_change_in_flight.Goals as goal
use Rattle.inf_message.specs.declared.call_result.CallResult.{CallResult}

pub returns : goal.returns
returns c world h results legal out k d inside by is =
    let result : CallResult = get_or results k d in
    again_is_because world (c.every_legal_history_keeps.ensures world) h legal results out result by
    (subst (λ (given : Answer). IsCausedFor h result.call given result.place) is
    (results_rest world h results legal out (λ (r : CallResult). IsCausedFor h r.call r.answer r.place) (λ r rests. rests) k d inside))
    (behind_entries world h legal results out k d inside)
