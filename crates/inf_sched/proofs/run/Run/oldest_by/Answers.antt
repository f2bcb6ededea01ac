use Rattle.std.proofs.Common.{◌≡◌, subst, ◌∙◌, rules, arith}
use Rattle.inf_core.specs.Core.{world_in}
use Rattle.inf_sched.specs.Run.{Playing}
use Rattle.inf_sched.specs.Waiting.{is_by, oldest}
use Rattle.inf_sched.proofs.RunFacts.{kept_behind, kept_front_by, seen_behind}
use Rattle.inf_sched.proofs.RunQueues.{got_there, if_waiting, oldest_by_is}
use Rattle.inf_sched.proofs.run.Run.oldest_by.Goals as goal

pub returns-clause-oldest : goal.returns-clause-oldest
returns-clause-oldest g c =
    let kept = kept_behind g.R.IdRule.digest_of _ _ c.as_mut-inner.ensures.value c.self.invariant in
    let seen = seen_behind _ _ _ c.as_mut-inner.ensures.value c.self.view_is in
    let at = got_there _ c.args.client c.index_mut.result.now c.index_mut.ensures.value (search (rules, arith)) in
    subst (λ (v : Playing _). c.oldest.result ≡ oldest (is_by c.args.client) v.core.history) seen
    (c.oldest.ensures.oldest ∙ oldest_by_is c.as_mut-inner.result.now.core.history c.args.client c.index_mut.result.now (kept.askers.each c.args.client c.index_mut.result.now at))

pub returns-clause-waits : goal.returns-clause-waits
returns-clause-waits g c = if_waiting (is_by c.args.client) c.args.self.now.core.history c.oldest.result (returns-clause-oldest g c)

pub invariant_of-self : goal.invariant_of-self
invariant_of-self g c =
    let kept = kept_behind g.R.IdRule.digest_of _ _ c.as_mut-inner.ensures.value c.self.invariant in
    let at = got_there c.as_mut-inner.result.now.by_client.items c.args.client c.index_mut.result.now c.index_mut.ensures.value (search (rules, arith)) in
    kept_front_by (world_in g.R.IdRule.digest_of c.as_mut-inner.result.now.core) c.as_mut-inner.result.now.core.history c.args.client c.as_mut-inner.result.now.clients.items c.as_mut-inner.result.now.to_server.items c.as_mut-inner.result.now.by_client.items
    c.index_mut.result.now c.oldest.new.self kept at c.oldest.ensures.left

pub oldest-requires : goal.oldest-requires
oldest-requires g c =
    let kept = kept_behind g.R.IdRule.digest_of _ _ c.as_mut-inner.ensures.value c.self.invariant in
    let at = got_there c.as_mut-inner.result.now.by_client.items c.args.client c.index_mut.result.now c.index_mut.ensures.value (search (rules, arith)) in
    record { within = (kept.askers.each c.args.client c.index_mut.result.now at).within }
