use Rattle.inf_resolve.proofs.RoundLaw.{rounds_lead_on}
use Rattle.inf_resolve.proofs.laws.rounds_lead_on.Goals as goal

pub returns : goal.returns
returns c = rounds_lead_on
