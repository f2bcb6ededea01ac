use Rattle.std.proofs.Common.{◌≡◌, Some, subst, ◌∙◌, rules, arith}
use Rattle.inf_core.specs.Core.{world_in}
use Rattle.inf_sched.specs.Run.{Playing}
use Rattle.inf_sched.specs.Waiting.{is_for, oldest}
use Rattle.inf_sched.proofs.RunFacts.{kept_behind, kept_front_by, seen_behind}
use Rattle.inf_sched.proofs.RunQueues.{got_there, if_waiting, oldest_of_is}
use Rattle.inf_sched.proofs.run.Run.oldest_of.Goals as goal

pub returns-clause-oldest : goal.returns-clause-oldest
returns-clause-oldest g c =
    let kept = kept_behind g.R.IdRule.digest_of _ _ c.as_mut-inner.ensures.value c.self.invariant in
    let seen = seen_behind _ _ _ c.as_mut-inner.ensures.value c.self.view_is in
    let at = got_there _ c.args.client c.index_mut.result.now c.index_mut.ensures.value (search (rules, arith)) in
    subst (λ (v : Playing _). c.oldest_to.result ≡ oldest (is_for c.args.number (Some c.args.client)) v.core.history) seen
    (c.oldest_to.ensures.oldest ∙ oldest_of_is c.as_mut-inner.result.now.core.history c.args.number c.args.client c.index_mut.result.now (kept.askers.each c.args.client c.index_mut.result.now at))

pub returns-clause-waits : goal.returns-clause-waits
returns-clause-waits g c = if_waiting (is_for c.args.number (Some c.args.client)) c.args.self.now.core.history c.oldest_to.result (returns-clause-oldest g c)

pub invariant_of-self : goal.invariant_of-self
invariant_of-self g c =
    let kept = kept_behind g.R.IdRule.digest_of _ _ c.as_mut-inner.ensures.value c.self.invariant in
    let at = got_there c.as_mut-inner.result.now.by_client.items c.args.client c.index_mut.result.now c.index_mut.ensures.value (search (rules, arith)) in
    kept_front_by (world_in g.R.IdRule.digest_of c.as_mut-inner.result.now.core) c.as_mut-inner.result.now.core.history c.args.client c.as_mut-inner.result.now.clients.items c.as_mut-inner.result.now.to_server.items c.as_mut-inner.result.now.by_client.items
    c.index_mut.result.now c.oldest_to.new.self kept at c.oldest_to.ensures.left

pub oldest_to-requires : goal.oldest_to-requires
oldest_to-requires g c =
    let kept = kept_behind g.R.IdRule.digest_of _ _ c.as_mut-inner.ensures.value c.self.invariant in
    let at = got_there c.as_mut-inner.result.now.by_client.items c.args.client c.index_mut.result.now c.index_mut.ensures.value (search (rules, arith)) in
    record { within = (kept.askers.each c.args.client c.index_mut.result.now at).within }
