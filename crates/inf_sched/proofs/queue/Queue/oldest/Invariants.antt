use Rattle.std.proofs.Common.{length}
use Rattle.inf_sched.specs.Waiting.{IsFrontLeft}
use Rattle.inf_sched.proofs.queue.Queue.oldest.Given as goal

abbrev pub invariant-loop-posting : goal.invariant-loop-posting
invariant-loop-posting g l = IsFrontLeft l.core.history l.initial.self l.self

abbrev pub decreases-loop-posting : goal.decreases-loop-posting
decreases-loop-posting g l = length l.self
