use Rattle.std.proofs.Common.{◌-◌}
use Rattle.inf_core.specs.Core.{world_in}
use Rattle.inf_sched.specs.Moves.{ByRest}
use Rattle.inf_sched.specs.Run.{IsAlong}
use Rattle.inf_sched.proofs.moving.rest.Given as goal

abbrev pub invariant-loop-client : goal.invariant-loop-client
invariant-loop-client g l =
    IsAlong (ByRest (world_in g.R.IdRule.digest_of l.initial.now.core) l.client (l.many - l.client)) (ByRest (world_in g.R.IdRule.digest_of l.initial.now.core) 0 l.many) l.initial.now l.now
