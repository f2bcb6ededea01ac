use Rattle.inf_sched.proofs.OrderLaws.{is_legal}
use Rattle.inf_sched.proofs.laws.what_an_order_makes_is_legal.Goals as goal

pub returns : goal.returns
returns c = is_legal
