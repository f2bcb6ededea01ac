use Rattle.std.proofs.Common.{[]}
use Rattle.inf_core.specs.Core.{AreStanding}
use Rattle.inf_duty.specs.World.{world_by}
use Rattle.inf_core.proofs.history.open_servers.Given as goal

abbrev pub invariant-loop-number : goal.invariant-loop-number
invariant-loop-number g l = AreStanding (world_by (g.R.IdRule.digest_of l.rule) l.setup) l.rule [] l.number l.servers.items
