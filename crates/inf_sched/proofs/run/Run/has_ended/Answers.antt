use Rattle.std.proofs.Common.{◌≡◌, ◌<◌, length, nat_lt, subst, ◌∙◌, rules, arith}
use Rattle.inf_core.specs.Core.{world_in}
use Rattle.inf_sched.specs.Run.{Playing, scene_of}
use Rattle.inf_sched.specs.Scene.{has_ended}
use Rattle.inf_sched.proofs.OpeningFacts.{ended_same}
use Rattle.inf_sched.proofs.RunQueues.{got_there}
use Rattle.inf_sched.proofs.RunFacts.{kept_behind, seen_behind}
use Rattle.inf_sched.proofs.run.Run.has_ended.Goals as goal

pub returns-else-has_given_up : goal.returns-else-has_given_up
returns-else-has_given_up g c =
    let kept = kept_behind g.R.IdRule.digest_of _ _ c.deref.ensures c.self.invariant in
    let seen = seen_behind _ _ _ c.deref.ensures c.self.view_is in
    let within : c.args.client < length c.deref.result.now.clients.items = grind (arith, rules, kept.clients.count) in
    let at = got_there c.deref.result.now.clients.items c.args.client c.index-found.result.now c.index-found.ensures within in
    let is = kept.clients.each c.args.client c.index-found.result.now at in
    subst (λ (v : Playing _). nat_lt c.args.number c.number.result ≡ has_ended (world_in g.R.IdRule.digest_of v.core) c.args.client c.args.number (scene_of v)) seen
    (search rules ∙ ended_same (world_in g.R.IdRule.digest_of c.deref.result.now.core) c.deref.result.now.core.history c.deref.result.now.clients.items c.args.client c.args.number c.index-found.result.now at is)
