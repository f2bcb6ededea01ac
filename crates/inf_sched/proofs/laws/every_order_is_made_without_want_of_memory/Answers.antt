use Rattle.inf_sched.proofs.RunMoves.{makes_calmly}
use Rattle.inf_sched.proofs.laws.every_order_is_made_without_want_of_memory.Goals as goal

pub returns : goal.returns
returns c = makes_calmly
