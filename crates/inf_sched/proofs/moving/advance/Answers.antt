use Rattle.std.proofs.Common.{inl, subst}
use Rattle.inf_core.specs.Core.{world_in}
use Rattle.inf_sched.specs.Run.{HasStepped, scene_of}
use Rattle.inf_sched.proofs.moving.advance.Goals as goal

pub returns-then-has_asked-clause-advance : goal.returns-then-has_asked-clause-advance
returns-then-has_asked-clause-advance g c =
    inl (subst (λ b. HasStepped b (world_in g.R.IdRule.digest_of c.args.run.core) c.args.client (scene_of c.args.run) (scene_of c.in_ok-run.run'))
    c.if-has_asked.true c.in_ok-run.ensures.step)
