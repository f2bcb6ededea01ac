use Rattle.inf_core.specs.Core.{world_in}
use Rattle.inf_sched.specs.Run.{scene_of}
use Rattle.inf_sched.proofs.MovingFacts.{stepped}
use Rattle.inf_sched.proofs.moving.step.Goals as goal

pub returns-clause-step : goal.returns-clause-step
returns-clause-step g c =
    stepped c.in_ok-after.field-0-1 (world_in g.R.IdRule.digest_of c.args.run.core) c.args.client (scene_of c.args.run) (scene_of c.in_ok-after.after) c.in_ok-after.ensures.step
