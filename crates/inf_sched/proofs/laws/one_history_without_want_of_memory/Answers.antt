use Rattle.inf_sched.proofs.StraightLaws.{is_straight}
use Rattle.inf_sched.proofs.laws.one_history_without_want_of_memory.Goals as goal

pub returns : goal.returns
returns c = is_straight
