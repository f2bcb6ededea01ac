use Rattle.std.proofs.Common.{◌≡◌, true, false, subst, rules, arith}
use Rattle.inf_core.specs.Core.{world_in}
use Rattle.inf_sched.specs.Moves.{ByCalls}
use Rattle.inf_sched.specs.Run.{HasCalled, scene_of}
use Rattle.inf_sched.proofs.MovingFacts.{calls_along_goes, calls_along_over, calls_along_stops, calls_none, gone_has_no_calls}
use Rattle.inf_sched.proofs.moving.calls.Goals as goal

pub returns-then-is_gone-clause-calls : goal.returns-then-is_gone-clause-calls
returns-then-is_gone-clause-calls g c =
    calls_none (world_in g.R.IdRule.digest_of c.args.run.core) c.args.client _ (scene_of c.args.run) (gone_has_no_calls (world_in g.R.IdRule.digest_of c.args.run.core) c.args.client (scene_of c.args.run) (search rules))

pub returns-then-not-has_ended-clause-calls : goal.returns-then-not-has_ended-clause-calls
returns-then-not-has_ended-clause-calls g c =
    let no_end : c.in_ok-after.has_ended ≡ false = search rules in
    subst (λ n. ByCalls (world_in g.R.IdRule.digest_of c.args.run.core) c.args.client n (scene_of c.args.run) (scene_of c.in_ok-after.after)) (search rules)
    (calls_along_stops g.R.IdRule.digest_of c.args.client c.calls_left-most.result c.loop.counter c.args.run c.loop.now c.in_ok-after.after c.loop.invariant
    (search (rules, arith))
    (subst (λ b. HasCalled b (world_in g.R.IdRule.digest_of c.loop.now.core) c.args.client (scene_of c.loop.now) (scene_of c.in_ok-after.after)) no_end c.in_ok-after.ensures.next))

pub loop-preserved : goal.loop-preserved
loop-preserved g c =
    let ended : c.in_ok-after.has_ended ≡ true = search rules in
    calls_along_goes g.R.IdRule.digest_of c.args.client c.calls_left-most.result c.loop.counter c.args.run c.loop.now c.in_ok-after.after c.loop.invariant
    (search (rules, arith))
    (subst (λ b. HasCalled b (world_in g.R.IdRule.digest_of c.loop.now.core) c.args.client (scene_of c.loop.now) (scene_of c.in_ok-after.after)) ended c.in_ok-after.ensures.next)
    (search rules)

pub returns-clause-calls : goal.returns-clause-calls
returns-clause-calls g c =
    subst (λ n. ByCalls (world_in g.R.IdRule.digest_of c.args.run.core) c.args.client n (scene_of c.args.run) (scene_of c.loop.now)) (search rules)
    (calls_along_over g.R.IdRule.digest_of c.args.client c.calls_left-most.result c.loop.counter c.args.run c.loop.now c.loop.invariant (search (rules, arith)))
