use Rattle.inf_laws_history.proofs.Ordered.{outcomes_are_decided}
use Rattle.inf_laws_history.proofs.laws.outcomes_are_decided.Goals as goal

pub returns : goal.returns
returns c world h results legal out = outcomes_are_decided world h results out
