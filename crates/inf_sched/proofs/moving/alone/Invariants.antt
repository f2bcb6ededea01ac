use Rattle.std.proofs.Common.{◌-◌}
use Rattle.inf_core.specs.Core.{world_in}
use Rattle.inf_sched.specs.Moves.{ByAlone}
use Rattle.inf_sched.specs.declared.limits.TheConstants.{MOST_EVENTS}
use Rattle.inf_sched.specs.Run.{IsAlong}
use Rattle.inf_sched.proofs.moving.alone.Given as goal

abbrev pub invariant-loop : goal.invariant-loop
invariant-loop g l =
    IsAlong (ByAlone (world_in g.R.IdRule.digest_of l.initial.now.core) l.client l.number (MOST_EVENTS - l.counter))
    (ByAlone (world_in g.R.IdRule.digest_of l.initial.now.core) l.client l.number MOST_EVENTS) l.initial.now l.now
