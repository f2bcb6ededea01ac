use Rattle.std.proofs.Common.{◌≡◌, ◌<◌, false, length, subst, ◌∙◌, sym, rules, arith}
use Rattle.inf_core.specs.Core.{world_in}
use Rattle.inf_sched.specs.Run.{Playing, scene_of}
use Rattle.inf_sched.specs.Scene.{calls_left, is_gone}
use Rattle.inf_sched.proofs.RunQueues.{got_there}
use Rattle.inf_sched.proofs.OpeningFacts.{left_same}
use Rattle.inf_sched.proofs.RunFacts.{kept_behind, seen_behind}
use Rattle.inf_sched.proofs.run.Run.calls_left.Goals as goal

pub returns : goal.returns
returns g c =
    let kept = kept_behind g.R.IdRule.digest_of _ _ c.deref.ensures c.self.invariant in
    let seen = seen_behind _ _ _ c.deref.ensures c.self.view_is in
    let within : c.args.client < length c.deref.result.now.clients.items = grind (arith, rules, kept.clients.count) in
    let at = got_there c.deref.result.now.clients.items c.args.client c.index.result.now c.index.ensures within in
    let is = kept.clients.each c.args.client c.index.result.now at in
    let here = subst (λ (v : Playing _). is_gone (scene_of v) c.args.client ≡ false) (sym seen) c.requires.here in
    subst (λ (v : Playing _). c.calls_left.result ≡ calls_left (world_in g.R.IdRule.digest_of v.core) (scene_of v) c.args.client) seen
    (c.calls_left.ensures ∙ left_same (world_in g.R.IdRule.digest_of c.deref.result.now.core) c.deref.result.now.core.history c.deref.result.now.clients.items c.args.client c.index.result.now at is here)
