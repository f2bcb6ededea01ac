use Rattle.std.proofs.Common.{ap, ◌∙◌}
use Rattle.inf_duty.specs.ClientState.{ClientState, is_round}
use Rattle.inf_duty.proofs.RecordFacts.{open_round}
use Rattle.inf_duty.specs.Standing.{stage_of}
use Rattle.inf_duty.proofs.client_state.ClientState.record_lookup.Goals as goal

pub invariant_of-self : goal.invariant_of-self
invariant_of-self c =
    let kept = c.self.invariant in
    record {
      numbered = kept.numbered;
      is_of = kept.is_of;
      course_fits = kept.course_fits;
      undecided = kept.undecided;
      known_fits = kept.known_fits;
      alone = open_round c.self.inside.who (stage_of c.self.inside.stands) _ (ap (λ (s : ClientState). is_round s.stage) c.self.view_is ∙ c.requires);
      some_servers = kept.some_servers;
      steps_fit = kept.steps_fit;
      servers_fit = rw c.record_answer.ensures.capacity kept.servers_fit;
      asks_fit = rw c.record_answer.ensures.capacity kept.asks_fit;
      results_fit = kept.results_fit;
    }
