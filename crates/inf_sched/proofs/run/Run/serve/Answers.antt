use Rattle.std.proofs.Common.{◌<◌, length, rules, arith}
use Rattle.inf_core.specs.Core.{world_in}
use Rattle.inf_sched.proofs.RunFacts.{kept_behind, kept_in, kept_served, makes_serve, seen_behind, serves_in, waits_in}
use Rattle.inf_sched.proofs.RunQueues.{got_there, waiting_client}
use Rattle.inf_sched.proofs.ServeFacts.{same_world}
use Rattle.inf_sched.proofs.run.Run.serve.Goals as goal

pub index_mut-requires : goal.index_mut-requires
index_mut-requires g c =
    let kept = kept_behind g.R.IdRule.digest_of _ _ c.as_mut-inner.ensures.value c.self.invariant in
    let seen = seen_behind _ _ _ c.as_mut-inner.ensures.value c.self.view_is in
    let waits = waits_in c.args.posting _ _ seen c.requires.waits in
    let there = waiting_client (world_in g.R.IdRule.digest_of c.as_mut-inner.result.now.core) c.as_mut-inner.result.now.core.history c.args.posting kept.legal waits in
    omega (arith, kept.clients.count)

pub serve-requires-clause-is_client : goal.serve-requires-clause-is_client
serve-requires-clause-is_client g c =
    let kept = kept_behind g.R.IdRule.digest_of _ _ c.as_mut-inner.ensures.value c.self.invariant in
    let seen = seen_behind _ _ _ c.as_mut-inner.ensures.value c.self.view_is in
    let waits = waits_in c.args.posting _ _ seen c.requires.waits in
    let there = waiting_client (world_in g.R.IdRule.digest_of c.as_mut-inner.result.now.core) c.as_mut-inner.result.now.core.history c.args.posting kept.legal waits in
    let within : c.args.posting.client < length c.as_mut-inner.result.now.clients.items = omega (arith, kept.clients.count) in
    let at = got_there c.as_mut-inner.result.now.clients.items c.args.posting.client c.index_mut.result.now c.index_mut.ensures.value within in
    kept.clients.each c.args.posting.client c.index_mut.result.now at

pub invariant_of-result : goal.invariant_of-result
invariant_of-result g c =
    let kept = kept_behind g.R.IdRule.digest_of _ _ c.as_mut-inner.ensures.value c.self.invariant in
    let seen = seen_behind _ _ _ c.as_mut-inner.ensures.value c.self.view_is in
    let waits = waits_in c.args.posting _ _ seen c.requires.waits in
    let there = waiting_client (world_in g.R.IdRule.digest_of c.as_mut-inner.result.now.core) c.as_mut-inner.result.now.core.history c.args.posting kept.legal waits in
    let within : c.args.posting.client < length c.as_mut-inner.result.now.clients.items = omega (arith, kept.clients.count) in
    let at = got_there c.as_mut-inner.result.now.clients.items c.args.posting.client c.index_mut.result.now c.index_mut.ensures.value within in
    kept_in _ (world_in g.R.IdRule.digest_of c.as_mut-inner.result.now.core) _ _ _ _ (same_world g.R.IdRule.digest_of c.as_mut-inner.result.now.core c.serve.new.core (search rules))
    (kept_served (world_in g.R.IdRule.digest_of c.as_mut-inner.result.now.core) c.as_mut-inner.result.now.core.history c.serve.new.core.history c.args.posting c.as_mut-inner.result.now.clients.items _ _ c.index_mut.result.now c.serve.new.client kept waits at (search rules))

pub returns-clause-served : goal.returns-clause-served
returns-clause-served g c =
    let kept = kept_behind g.R.IdRule.digest_of _ _ c.as_mut-inner.ensures.value c.self.invariant in
    let seen = seen_behind _ _ _ c.as_mut-inner.ensures.value c.self.view_is in
    let waits = waits_in c.args.posting _ _ seen c.requires.waits in
    let there = waiting_client (world_in g.R.IdRule.digest_of c.as_mut-inner.result.now.core) c.as_mut-inner.result.now.core.history c.args.posting kept.legal waits in
    let within : c.args.posting.client < length c.as_mut-inner.result.now.clients.items = omega (arith, kept.clients.count) in
    let at = got_there c.as_mut-inner.result.now.clients.items c.args.posting.client c.index_mut.result.now c.index_mut.ensures.value within in
    serves_in g.R.IdRule.digest_of _ _ _ _ _ seen
    (makes_serve (world_in g.R.IdRule.digest_of c.as_mut-inner.result.now.core) c.as_mut-inner.result.now.core.history c.serve.new.core.history c.args.posting c.as_mut-inner.result.now.clients.items c.index_mut.result.now c.serve.new.client at (search rules))
