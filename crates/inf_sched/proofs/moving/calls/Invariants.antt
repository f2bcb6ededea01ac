use Rattle.std.proofs.Common.{◌-◌}
use Rattle.inf_core.specs.Core.{world_in}
use Rattle.inf_sched.specs.Moves.{ByCalls}
use Rattle.inf_sched.specs.Run.{IsAlong}
use Rattle.inf_sched.proofs.moving.calls.Given as goal

abbrev pub invariant-loop : goal.invariant-loop
invariant-loop g l =
    IsAlong (ByCalls (world_in g.R.IdRule.digest_of l.initial.now.core) l.client (l.most - l.counter)) (ByCalls (world_in g.R.IdRule.digest_of l.initial.now.core) l.client l.most) l.initial.now l.now
