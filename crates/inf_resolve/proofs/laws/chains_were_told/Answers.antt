use Rattle.inf_resolve.proofs.LedFacts.{new_is_chain, old_is_chain}
use Rattle.inf_resolve.proofs.laws.chains_were_told.Goals as goal

pub returns-clause-old : goal.returns-clause-old
returns-clause-old c = old_is_chain

pub returns-clause-new : goal.returns-clause-new
returns-clause-new c = new_is_chain
