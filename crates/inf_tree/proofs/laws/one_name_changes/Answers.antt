use Rattle.inf_tree.proofs.Lookups.{found-placed, found-without}
use Rattle.inf_tree.proofs.laws.one_name_changes.Goals as goal

pub returns-clause-placed : goal.returns-clause-placed
returns-clause-placed c = found-placed

pub returns-clause-cut : goal.returns-clause-cut
returns-clause-cut c = λ q name meta entries tree. found-without q name entries tree.0
