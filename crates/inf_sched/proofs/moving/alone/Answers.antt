use Rattle.std.proofs.Common.{rules, arith}
use Rattle.inf_sched.specs.declared.limits.TheConstants.{MOST_EVENTS}
use Rattle.inf_sched.proofs.MovingFacts.{alone_along_ended, alone_along_goes, alone_along_over, alone_along_stops}
use Rattle.inf_sched.proofs.moving.alone.Goals as goal

pub returns-then-has_ended-clause-alone : goal.returns-then-has_ended-clause-alone
returns-then-has_ended-clause-alone g c =
    alone_along_ended g.R.IdRule.digest_of c.args.client c.args.number MOST_EVENTS c.loop.counter c.args.run c.loop.now c.loop.invariant (search rules)

pub returns-then-not-has_advanced-clause-alone : goal.returns-then-not-has_advanced-clause-alone
returns-then-not-has_advanced-clause-alone g c =
    alone_along_stops g.R.IdRule.digest_of c.args.client c.args.number MOST_EVENTS c.loop.counter c.args.run c.loop.now c.in_ok-after.after c.loop.invariant
    (search (rules, arith)) (search rules) (search rules)

pub loop-preserved : goal.loop-preserved
loop-preserved g c =
    alone_along_goes g.R.IdRule.digest_of c.args.client c.args.number MOST_EVENTS c.loop.counter c.args.run c.loop.now c.in_ok-after.after c.loop.invariant
    (search (rules, arith)) (search rules) (search rules) (search rules)

pub returns-clause-alone : goal.returns-clause-alone
returns-clause-alone g c =
    alone_along_over g.R.IdRule.digest_of c.args.client c.args.number MOST_EVENTS c.loop.counter c.args.run c.loop.now c.loop.invariant (search (rules, arith))
