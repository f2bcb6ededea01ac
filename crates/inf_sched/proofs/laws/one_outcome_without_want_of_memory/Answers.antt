use Rattle.inf_sched.proofs.StraightLaws.{are_same}
use Rattle.inf_sched.proofs.laws.one_outcome_without_want_of_memory.Goals as goal

pub returns : goal.returns
returns c = are_same
