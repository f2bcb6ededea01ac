use Rattle.inf_resolve.proofs.LedFacts.{new_leaves, old_leaves}
use Rattle.inf_resolve.proofs.laws.names_are_left_behind_chains.Goals as goal

pub returns-clause-old : goal.returns-clause-old
returns-clause-old c = old_leaves

pub returns-clause-new : goal.returns-clause-new
returns-clause-new c = new_leaves
