use Rattle.inf_duty.proofs.FewFacts.{clean_few}
use Rattle.inf_duty.proofs.client_state.ClientState.give_up_call.Goals as goal

pub wind-requires-clause-few : goal.wind-requires-clause-few
wind-requires-clause-few c =
    rw c.clean_up-clean_ups.ensures (clean_few c.self.inside.who _ c.self.invariant.some_servers)
