use Rattle.std.proofs.Common.{subst, rules, IfOk}
use Rattle.inf_core.specs.Core.{world_in}
use Rattle.inf_sched.specs.Moves.{ByAlone}
use Rattle.inf_sched.specs.Run.{scene_of}
use Rattle.inf_sched.specs.declared.limits.TheConstants.{MOST_EVENTS}
use Rattle.inf_sched.proofs.MovingFacts.{call_gone}
use Rattle.inf_sched.proofs.moving.call.Goals as goal

pub returns-then-is_gone-clause-call : goal.returns-then-is_gone-clause-call
returns-then-is_gone-clause-call g c = call_gone (world_in g.R.IdRule.digest_of c.args.run.core) c.args.client _ (scene_of c.args.run) (search rules)

pub returns-clause-call : goal.returns-clause-call
returns-clause-call g c =
    subst (λ n. IfOk c.alone.result (λ after. ByAlone (world_in g.R.IdRule.digest_of c.args.run.core) c.args.client n MOST_EVENTS (scene_of c.args.run) (scene_of after)))
    (search rules) c.alone.ensures.alone
