use Rattle.std.proofs.Common.{◌≡◌, ◌∙◌, subst, rules}
use Rattle.inf_core.specs.Core.{world_in}
use Rattle.inf_sched.specs.Order.{results_in}
use Rattle.inf_sched.specs.Run.{Playing, scene_of}
use Rattle.inf_sched.proofs.OpeningFacts.{results_same}
use Rattle.inf_sched.proofs.run.Run.into_outcome.Goals as goal

pub returns-clause-results : goal.returns-clause-results
returns-clause-results g c =
    subst (λ (v : Playing _). c.new.result ≡ results_in (world_in g.R.IdRule.digest_of v.core) (scene_of v)) c.self.view_is
    (search rules ∙ results_same (world_in g.R.IdRule.digest_of c.self.inside.parts.value.core) c.self.inside.parts.value.core.history c.self.inside.parts.value.clients.items c.self.invariant.clients)
