use Rattle.inf_sched.proofs.UnansweredFacts.{unanswered_are_left}
use Rattle.inf_sched.proofs.laws.unanswered_calls_are_left.Goals as goal

pub returns : goal.returns
returns c = unanswered_are_left
