use Rattle.inf_resolve.proofs.AskedFacts.{rounds_ask}
use Rattle.inf_resolve.proofs.laws.rounds_ask.Goals as goal

pub returns : goal.returns
returns c = rounds_ask
