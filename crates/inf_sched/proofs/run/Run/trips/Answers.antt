use Rattle.std.proofs.Common.{◌≡◌, ◌<◌, length, reverse, subst, ◌∙◌, rules, arith}
use Rattle.inf_core.specs.Core.{world_in}
use Rattle.inf_message.specs.History.{trips_of}
use Rattle.inf_sched.specs.Run.{Playing}
use Rattle.inf_sched.proofs.ShownFacts.{trips_same}
use Rattle.inf_sched.proofs.RunQueues.{got_there}
use Rattle.inf_sched.proofs.RunFacts.{kept_behind, seen_behind}
use Rattle.inf_sched.proofs.run.Run.trips.Goals as goal

pub returns : goal.returns
returns g c =
    let kept = kept_behind g.R.IdRule.digest_of _ _ c.deref.ensures c.self.invariant in
    let seen = seen_behind _ _ _ c.deref.ensures c.self.view_is in
    let within : c.args.client < length c.deref.result.now.clients.items = grind (arith, rules, kept.clients.count) in
    let at = got_there c.deref.result.now.clients.items c.args.client c.index.result.now c.index.ensures within in
    subst (λ (v : Playing _). c.trips.result.now ≡ reverse (trips_of c.args.client v.core.history)) seen
    (c.trips.ensures ∙ trips_same (world_in g.R.IdRule.digest_of c.deref.result.now.core) c.deref.result.now.core.history c.deref.result.now.clients.items c.args.client c.index.result.now kept.clients at)
