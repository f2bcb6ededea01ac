use Rattle.std.proofs.Common.{subst, rules, arith}
use Rattle.inf_core.specs.Core.{world_in}
use Rattle.inf_sched.specs.Run.{scene_of}
use Rattle.inf_sched.specs.Moves.{ByRest}
use Rattle.inf_sched.proofs.MovingFacts.{rest_along_goes, rest_along_over, rest_along_passes}
use Rattle.inf_sched.proofs.moving.rest.Goals as goal

pub loop-client-preserved : goal.loop-client-preserved
loop-client-preserved g c =
    rest_along_goes g.R.IdRule.digest_of c.loop-client.client c.client_count-many.result c.args.run c.loop-client.now c.in_ok-now.now c.loop-client.invariant
    (search (rules, arith)) (search rules) (search rules)

pub returns-clause-rest : goal.returns-clause-rest
returns-clause-rest g c =
    subst (λ n. ByRest (world_in g.R.IdRule.digest_of c.args.run.core) 0 n (scene_of c.args.run) (scene_of c.loop-client.now)) (search rules)
    (rest_along_over g.R.IdRule.digest_of c.loop-client.client c.client_count-many.result c.args.run c.loop-client.now c.loop-client.invariant (search (rules, arith)))

pub loop-client-preserved-then-not-has_calls : goal.loop-client-preserved-then-not-has_calls
loop-client-preserved-then-not-has_calls g c =
    rest_along_passes g.R.IdRule.digest_of c.loop-client.client c.client_count-many.result c.args.run c.loop-client.now c.loop-client.invariant
    (search (rules, arith)) (search rules)
