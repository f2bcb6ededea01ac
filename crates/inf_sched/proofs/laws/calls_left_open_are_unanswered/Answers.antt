use Rattle.inf_sched.proofs.UnansweredFacts.{left_are_unanswered}
use Rattle.inf_sched.proofs.laws.calls_left_open_are_unanswered.Goals as goal

pub returns : goal.returns
returns c = left_are_unanswered
