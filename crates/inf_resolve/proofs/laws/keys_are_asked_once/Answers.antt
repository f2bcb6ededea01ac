use Rattle.inf_resolve.proofs.AskedFacts.{keys_are_new, keys_differ}
use Rattle.inf_resolve.proofs.laws.keys_are_asked_once.Goals as goal

pub returns-clause-differ : goal.returns-clause-differ
returns-clause-differ c = keys_differ

pub returns-clause-unknown : goal.returns-clause-unknown
returns-clause-unknown c = keys_are_new
