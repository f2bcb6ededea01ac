use Rattle.std.proofs.Common.{arith}
use Rattle.inf_duty.proofs.OwnFacts.{follows_more}
use Rattle.inf_duty.proofs.allow.allowed.Goals as goal

pub loop-made-preserved : goal.loop-made-preserved
loop-made-preserved g c =
    follows_more (g.R.IdRule.digest_of c.args.rule) _ _ _ _ _ c.made-item.result c.loop-made.invariant (omega arith) c.made-item.is c.in_ok-follow.ensures
