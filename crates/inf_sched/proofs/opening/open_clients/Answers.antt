use Rattle.std.proofs.Common.{rules}
use Rattle.inf_duty.specs.World.{world_by}
use Rattle.inf_sched.proofs.OpeningFacts.{opening_more}
use Rattle.inf_sched.proofs.opening.open_clients.Goals as goal

pub loop-number-preserved : goal.loop-number-preserved
loop-number-preserved g c =
    opening_more (world_by (g.R.IdRule.digest_of c.args.rule.now) c.args.setup.now) c.loop-number.number
    c.loop-number.clients.items _ c.in_ok-new.field-0
    c.loop-number.invariant (search rules) (search rules)
