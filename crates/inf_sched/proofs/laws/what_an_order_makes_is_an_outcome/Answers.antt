use Rattle.inf_sched.proofs.OrderLaws.{is_outcome}
use Rattle.inf_sched.proofs.laws.what_an_order_makes_is_an_outcome.Goals as goal

pub returns : goal.returns
returns c = is_outcome
