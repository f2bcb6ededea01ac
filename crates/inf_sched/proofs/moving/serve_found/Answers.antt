use Rattle.std.proofs.Common.{◌≡◌, Some, subst, rules, IfOk}
use Rattle.inf_core.specs.Core.{world_in}
use Rattle.inf_sched.specs.Moves.{ServesOldest}
use Rattle.inf_sched.specs.Run.{scene_of}
use Rattle.inf_sched.proofs.moving.serve_found.Goals as goal

pub returns-in-Some-clause-serve : goal.returns-in-Some-clause-serve
returns-in-Some-clause-serve g c =
    let is : Some c.in-Some.posting ≡ c.args.found = search rules in
    subst (λ f. IfOk c.serve.result (λ after. ServesOldest (world_in g.R.IdRule.digest_of c.args.run.core) f (scene_of c.args.run) (scene_of after))) is
    c.serve.ensures.served
