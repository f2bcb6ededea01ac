use Rattle.std.proofs.Common.{subst, IfOk}
use Rattle.inf_core.specs.Core.{IsSameRun, world_in}
use Rattle.inf_sched.specs.Moves.{ServesOldest}
use Rattle.inf_sched.specs.Run.{scene_of}
use Rattle.inf_sched.proofs.moving.serve.Goals as goal

pub returns-clause-serve : goal.returns-clause-serve
returns-clause-serve g c =
    subst (λ f. IfOk c.serve_found.result (λ after. ServesOldest (world_in g.R.IdRule.digest_of c.args.run.core) f (scene_of c.args.run) (scene_of after)))
    c.oldest_for-found.ensures.oldest
    (subst (λ r. IfOk c.serve_found.result (λ after. ServesOldest (world_in g.R.IdRule.digest_of r.core) c.oldest_for-found.result (scene_of r) (scene_of after)))
    c.oldest_for-found.ensures.unchanged c.serve_found.ensures.serve)

pub returns-clause-same : goal.returns-clause-same
returns-clause-same g c =
    subst (λ r. IfOk c.serve_found.result (λ after. IsSameRun r.core after.core)) c.oldest_for-found.ensures.unchanged c.serve_found.ensures.same
