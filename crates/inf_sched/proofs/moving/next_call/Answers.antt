use Rattle.std.proofs.Common.{rules, arith}
use Rattle.inf_sched.proofs.MovingFacts.{called}
use Rattle.inf_sched.proofs.moving.next_call.Goals as goal

pub returns-clause-next : goal.returns-clause-next
returns-clause-next g c =
    called g.R.IdRule.digest_of c.args.client c.number-number.result c.args.run c.in_ok-after.after c.has_ended-has_ended.result
    (search rules) (search (rules, arith)) (search rules) c.in_ok-after.ensures.alone (search rules) (search rules)
