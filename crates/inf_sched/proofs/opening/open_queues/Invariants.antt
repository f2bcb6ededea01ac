use Rattle.inf_sched.specs.Run.{AreEmpty}
use Rattle.inf_sched.proofs.opening.open_queues.Given as goal

abbrev pub invariant-loop : goal.invariant-loop
invariant-loop l = AreEmpty l.counter l.queues.items
