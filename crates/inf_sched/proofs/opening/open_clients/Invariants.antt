use Rattle.inf_duty.specs.World.{world_by}
use Rattle.inf_sched.specs.Run.{AreOpening}
use Rattle.inf_sched.proofs.opening.open_clients.Given as goal

abbrev pub invariant-loop-number : goal.invariant-loop-number
invariant-loop-number g l =
    AreOpening (world_by (g.R.IdRule.digest_of l.rule) l.setup) l.number l.clients.items
