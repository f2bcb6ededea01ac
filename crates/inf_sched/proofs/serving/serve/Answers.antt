use Rattle.std.proofs.Common.{rules, subst}
use Rattle.inf_core.specs.Core.{world_in}
use Rattle.inf_laws_history.specs.Legal.{Legal}
use Rattle.inf_sched.proofs.ServeFacts.{has_served, same_world}
use Rattle.inf_sched.proofs.serving.serve.Goals as goal

pub returns-clause-served : goal.returns-clause-served
returns-clause-served g c =
    has_served (world_in g.R.IdRule.digest_of c.args.core.now) c.args.posting c.args.core.now.history c.serve.new.self.history
    c.in_ok-place.place c.in_ok-place.reply c.args.client.now c.told.new.self c.requires.waits c.requires.is_client
    (search rules) (search rules)
    (subst (λ w. Legal w c.serve.new.self.history)
    (same_world g.R.IdRule.digest_of c.args.core.now c.serve.new.self (search rules)) (search rules))
    (search rules)
