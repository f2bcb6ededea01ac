use Rattle.std.specs.List.Sorted.{IsStrictlySortedBy}
use Rattle.inf_tree.proofs.Replays.{IsTree-replayed}
use Rattle.inf_tree.proofs.Sorted.{IsTree-apply}
use Rattle.inf_tree.proofs.laws.calls_keep_the_tree.Goals as goal

pub returns-clause-opening : goal.returns-clause-opening
unfolding IsStrictlySortedBy
returns-clause-opening c = (tt, tt)

pub returns-clause-call : goal.returns-clause-call
returns-clause-call c = IsTree-apply

pub returns-clause-calls : goal.returns-clause-calls
returns-clause-calls c = IsTree-replayed
