use Rattle.std.proofs.Common.{subst}
use Rattle.inf_duty.specs.Duty.{Duty}
use Rattle.inf_duty.specs.ClientState.{ClientState}
use Rattle.inf_laws_author.proofs.OwnEventFacts.{same_client}
use Rattle.inf_laws_author.proofs.clients.own_events_decide_what_is_next.Goals as goal

pub returns-clause-state : goal.returns-clause-state
returns-clause-state c = same_client

pub returns-clause-duty : goal.returns-clause-duty
returns-clause-duty c world client h g same number ask =
    subst (λ (s : ClientState). Duty world.digest s number ask) (same_client world client h g same)
