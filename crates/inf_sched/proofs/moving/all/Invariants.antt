use Rattle.std.proofs.Common.{take}
use Rattle.inf_core.specs.Core.{world_in}
use Rattle.inf_sched.specs.Order.{ByMoves}
use Rattle.inf_sched.specs.Run.{IsMoved}
use Rattle.inf_sched.proofs.moving.all.Given as goal

abbrev pub invariant-loop-index : goal.invariant-loop-index
invariant-loop-index g l = IsMoved (ByMoves (world_in g.R.IdRule.digest_of l.initial.now.core) (take l.index l.order)) l.initial.now l.now
