use Rattle.std.proofs.Common.{◌≡◌, ◌<◌, length, subst, ◌∙◌, rules, arith}
use Rattle.inf_sched.specs.Run.{Playing, scene_of}
use Rattle.inf_sched.specs.Scene.{is_gone}
use Rattle.inf_sched.proofs.OpeningFacts.{gone_same_as}
use Rattle.inf_sched.proofs.RunQueues.{got_there}
use Rattle.inf_sched.proofs.RunFacts.{kept_behind, seen_behind}
use Rattle.inf_sched.proofs.run.Run.is_gone.Goals as goal

pub returns : goal.returns
returns g c =
    let kept = kept_behind g.R.IdRule.digest_of _ _ c.deref.ensures c.self.invariant in
    let seen = seen_behind _ _ _ c.deref.ensures c.self.view_is in
    let within : c.args.client < length c.deref.result.now.clients.items = grind (arith, rules, kept.clients.count) in
    let at = got_there c.deref.result.now.clients.items c.args.client c.index.result.now c.index.ensures within in
    subst (λ (v : Playing _). c.has_given_up.result ≡ is_gone (scene_of v) c.args.client) seen
    (c.has_given_up.ensures ∙ gone_same_as c.deref.result.now.core.history c.deref.result.now.clients.items c.args.client c.index.result.now at)
