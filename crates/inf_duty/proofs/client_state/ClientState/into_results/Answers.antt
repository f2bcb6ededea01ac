use Rattle.std.proofs.Common.{ap, ◌∙◌}
use Rattle.inf_duty.specs.Outcome.{results_of}
use Rattle.inf_duty.proofs.ResultFacts.{unserved_results}
use Rattle.inf_duty.proofs.client_state.ClientState.into_results.Goals as goal

pub loop-state-init : goal.loop-state-init
loop-state-init c = (
  c.end_so_far.ensures.results
      ∙ ap results_of c.forget_serves.ensures
      ∙ unserved_results c.args.self,
  c.end_so_far.ensures.last,
  c.end_so_far.ensures.stage,
)
