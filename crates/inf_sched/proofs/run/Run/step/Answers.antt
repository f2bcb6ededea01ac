use Rattle.std.proofs.Common.{◌<◌, length, rules, arith}
use Rattle.inf_core.specs.Core.{world_in}
use Rattle.inf_sched.specs.Run.{Asked, HasGivenUp, HasRested}
use Rattle.inf_sched.proofs.RunFacts.{asks_in, gives_up, has_no_ask, kept_behind, kept_gave_up, kept_in, kept_pushed, kept_rested, makes_ask, rests_in, rests_same, seen_behind}
use Rattle.inf_sched.proofs.RunQueues.{asked_server, got_there}
use Rattle.inf_sched.proofs.ServeFacts.{same_world}
use Rattle.inf_sched.proofs.run.Run.step.Goals as goal

pub index_mut-requires : goal.index_mut-requires
index_mut-requires g c =
    let kept = kept_behind g.R.IdRule.digest_of _ _ c.as_mut-inner.ensures.value c.self.invariant in
    grind (arith, rules, kept.clients.count)

pub let_ask-requires-clause-is_client : goal.let_ask-requires-clause-is_client
let_ask-requires-clause-is_client g c =
    let kept = kept_behind g.R.IdRule.digest_of _ _ c.as_mut-inner.ensures.value c.self.invariant in
    let within : c.args.client < length c.as_mut-inner.result.now.clients.items = grind (arith, rules, kept.clients.count) in
    let at = got_there c.as_mut-inner.result.now.clients.items c.args.client c.index_mut.result.now c.index_mut.ensures.value within in
    kept.clients.each c.args.client c.index_mut.result.now at

pub let_ask-requires-clause-asks : goal.let_ask-requires-clause-asks
let_ask-requires-clause-asks g c =
    let kept = kept_behind g.R.IdRule.digest_of _ _ c.as_mut-inner.ensures.value c.self.invariant in
    let within : c.args.client < length c.as_mut-inner.result.now.clients.items = grind (arith, rules, kept.clients.count) in
    let at = got_there c.as_mut-inner.result.now.clients.items c.args.client c.index_mut.result.now c.index_mut.ensures.value within in
    kept.clients.asks c.args.client c.index_mut.result.now at

pub let_ask-requires-clause-idle : goal.let_ask-requires-clause-idle
let_ask-requires-clause-idle g c =
    let kept = kept_behind g.R.IdRule.digest_of _ _ c.as_mut-inner.ensures.value c.self.invariant in
    let within : c.args.client < length c.as_mut-inner.result.now.clients.items = grind (arith, rules, kept.clients.count) in
    let at = got_there c.as_mut-inner.result.now.clients.items c.args.client c.index_mut.result.now c.index_mut.ensures.value within in
    kept.clients.idle c.args.client c.index_mut.result.now at

pub index_mut-requires-in-Asked : goal.index_mut-requires-in-Asked
index_mut-requires-in-Asked g c =
    let kept = kept_behind g.R.IdRule.digest_of _ _ c.as_mut-inner.ensures.value c.self.invariant in
    let did : Asked (world_in g.R.IdRule.digest_of c.as_mut-inner.result.now.core) c.args.client c.in-Asked.posting c.as_mut-inner.result.now.core.history c.let_ask.new.core.history c.index_mut.result.now c.let_ask.new.client = search rules in
    let server = asked_server (world_in g.R.IdRule.digest_of c.as_mut-inner.result.now.core) c.as_mut-inner.result.now.core.history c.let_ask.new.core.history c.args.client c.in-Asked.posting c.index_mut.result.now c.let_ask.new.client kept.some_servers did in
    omega (arith, kept.servers.count)

pub invariant_of-run : goal.invariant_of-run
invariant_of-run g c =
    let kept = kept_behind g.R.IdRule.digest_of _ _ c.as_mut-inner.ensures.value c.self.invariant in
    let within : c.args.client < length c.as_mut-inner.result.now.clients.items = grind (arith, rules, kept.clients.count) in
    let at = got_there c.as_mut-inner.result.now.clients.items c.args.client c.index_mut.result.now c.index_mut.ensures.value within in
    let did : Asked (world_in g.R.IdRule.digest_of c.as_mut-inner.result.now.core) c.args.client c.in-Asked.posting c.as_mut-inner.result.now.core.history c.let_ask.new.core.history c.index_mut.result.now c.let_ask.new.client = search rules in
    let server = asked_server (world_in g.R.IdRule.digest_of c.as_mut-inner.result.now.core) c.as_mut-inner.result.now.core.history c.let_ask.new.core.history c.args.client c.in-Asked.posting c.index_mut.result.now c.let_ask.new.client kept.some_servers did in
    let within : c.in-Asked.posting.number < length c.as_mut-inner.result.now.to_server.items = omega (arith, kept.servers.count) in
    kept_in _ (world_in g.R.IdRule.digest_of c.as_mut-inner.result.now.core) _ _ _ _ (same_world g.R.IdRule.digest_of c.as_mut-inner.result.now.core c.let_ask.new.core (search rules))
    (kept_pushed (world_in g.R.IdRule.digest_of c.as_mut-inner.result.now.core) c.as_mut-inner.result.now.core.history c.let_ask.new.core.history c.args.client c.in-Asked.posting c.as_mut-inner.result.now.clients.items c.as_mut-inner.result.now.to_server.items c.as_mut-inner.result.now.by_client.items c.index_mut.result.now
    c.let_ask.new.client c.index_mut-in-Asked.result.now c.index_mut-in-Asked-2.result.now _ _ kept at did
    (got_there c.as_mut-inner.result.now.to_server.items c.in-Asked.posting.number c.index_mut-in-Asked.result.now c.index_mut-in-Asked.ensures.value within)
    (got_there c.as_mut-inner.result.now.by_client.items c.args.client c.index_mut-in-Asked-2.result.now c.index_mut-in-Asked-2.ensures.value (search (rules, arith)))
    (search rules) (search rules))

pub invariant_of-run-in-GaveUp : goal.invariant_of-run-in-GaveUp
invariant_of-run-in-GaveUp g c =
    let kept = kept_behind g.R.IdRule.digest_of _ _ c.as_mut-inner.ensures.value c.self.invariant in
    let within : c.args.client < length c.as_mut-inner.result.now.clients.items = grind (arith, rules, kept.clients.count) in
    let at = got_there c.as_mut-inner.result.now.clients.items c.args.client c.index_mut.result.now c.index_mut.ensures.value within in
    let did : HasGivenUp (world_in g.R.IdRule.digest_of c.as_mut-inner.result.now.core) c.args.client c.as_mut-inner.result.now.core.history c.let_ask.new.core.history c.index_mut.result.now c.let_ask.new.client = search rules in
    kept_in _ (world_in g.R.IdRule.digest_of c.as_mut-inner.result.now.core) _ _ _ _ (same_world g.R.IdRule.digest_of c.as_mut-inner.result.now.core c.let_ask.new.core (search rules))
    (kept_gave_up (world_in g.R.IdRule.digest_of c.as_mut-inner.result.now.core) c.as_mut-inner.result.now.core.history c.let_ask.new.core.history c.args.client c.as_mut-inner.result.now.clients.items _ _ c.index_mut.result.now c.let_ask.new.client kept at did)

pub invariant_of-run-in-Rested : goal.invariant_of-run-in-Rested
invariant_of-run-in-Rested g c =
    let kept = kept_behind g.R.IdRule.digest_of _ _ c.as_mut-inner.ensures.value c.self.invariant in
    let within : c.args.client < length c.as_mut-inner.result.now.clients.items = grind (arith, rules, kept.clients.count) in
    let at = got_there c.as_mut-inner.result.now.clients.items c.args.client c.index_mut.result.now c.index_mut.ensures.value within in
    let did : HasRested (world_in g.R.IdRule.digest_of c.as_mut-inner.result.now.core) c.as_mut-inner.result.now.core.history c.let_ask.new.core.history c.index_mut.result.now c.let_ask.new.client = search rules in
    kept_in _ (world_in g.R.IdRule.digest_of c.as_mut-inner.result.now.core) _ _ _ _ (same_world g.R.IdRule.digest_of c.as_mut-inner.result.now.core c.let_ask.new.core (search rules))
    (kept_rested (world_in g.R.IdRule.digest_of c.as_mut-inner.result.now.core) c.as_mut-inner.result.now.core.history c.let_ask.new.core.history c.args.client c.as_mut-inner.result.now.clients.items _ _ c.index_mut.result.now c.let_ask.new.client kept at did)

pub returns-in_ok-push-in-Asked-2-clause-step : goal.returns-in_ok-push-in-Asked-2-clause-step
returns-in_ok-push-in-Asked-2-clause-step g c =
    let kept = kept_behind g.R.IdRule.digest_of _ _ c.as_mut-inner.ensures.value c.self.invariant in
    let seen = seen_behind _ _ _ c.as_mut-inner.ensures.value c.self.view_is in
    let within : c.args.client < length c.as_mut-inner.result.now.clients.items = grind (arith, rules, kept.clients.count) in
    let at = got_there c.as_mut-inner.result.now.clients.items c.args.client c.index_mut.result.now c.index_mut.ensures.value within in
    let did : Asked (world_in g.R.IdRule.digest_of c.as_mut-inner.result.now.core) c.args.client c.in-Asked.posting c.as_mut-inner.result.now.core.history c.let_ask.new.core.history c.index_mut.result.now c.let_ask.new.client = search rules in
    asks_in g.R.IdRule.digest_of c.args.client _ _ _ seen (makes_ask (world_in g.R.IdRule.digest_of c.as_mut-inner.result.now.core) c.as_mut-inner.result.now.core.history c.let_ask.new.core.history c.args.client c.in-Asked.posting c.as_mut-inner.result.now.clients.items c.index_mut.result.now c.let_ask.new.client at did)

pub returns-in-GaveUp-clause-step : goal.returns-in-GaveUp-clause-step
returns-in-GaveUp-clause-step g c =
    let kept = kept_behind g.R.IdRule.digest_of _ _ c.as_mut-inner.ensures.value c.self.invariant in
    let seen = seen_behind _ _ _ c.as_mut-inner.ensures.value c.self.view_is in
    let within : c.args.client < length c.as_mut-inner.result.now.clients.items = grind (arith, rules, kept.clients.count) in
    let at = got_there c.as_mut-inner.result.now.clients.items c.args.client c.index_mut.result.now c.index_mut.ensures.value within in
    let did : HasGivenUp (world_in g.R.IdRule.digest_of c.as_mut-inner.result.now.core) c.args.client c.as_mut-inner.result.now.core.history c.let_ask.new.core.history c.index_mut.result.now c.let_ask.new.client = search rules in
    asks_in g.R.IdRule.digest_of c.args.client _ _ _ seen
    (gives_up (world_in g.R.IdRule.digest_of c.as_mut-inner.result.now.core) c.as_mut-inner.result.now.core.history c.let_ask.new.core.history c.args.client c.as_mut-inner.result.now.clients.items c.index_mut.result.now c.let_ask.new.client at (kept.clients.each c.args.client c.index_mut.result.now at) did)

pub returns-in-Rested-clause-step : goal.returns-in-Rested-clause-step
returns-in-Rested-clause-step g c =
    let kept = kept_behind g.R.IdRule.digest_of _ _ c.as_mut-inner.ensures.value c.self.invariant in
    let seen = seen_behind _ _ _ c.as_mut-inner.ensures.value c.self.view_is in
    let within : c.args.client < length c.as_mut-inner.result.now.clients.items = grind (arith, rules, kept.clients.count) in
    let at = got_there c.as_mut-inner.result.now.clients.items c.args.client c.index_mut.result.now c.index_mut.ensures.value within in
    let did : HasRested (world_in g.R.IdRule.digest_of c.as_mut-inner.result.now.core) c.as_mut-inner.result.now.core.history c.let_ask.new.core.history c.index_mut.result.now c.let_ask.new.client = search rules in
    rests_in g.R.IdRule.digest_of c.args.client _ _ _ seen
    (has_no_ask (world_in g.R.IdRule.digest_of c.as_mut-inner.result.now.core) c.as_mut-inner.result.now.core.history c.let_ask.new.core.history c.args.client c.as_mut-inner.result.now.clients.items c.index_mut.result.now c.let_ask.new.client at (kept.clients.each c.args.client c.index_mut.result.now at) did)
    (rests_same (world_in g.R.IdRule.digest_of c.as_mut-inner.result.now.core) c.as_mut-inner.result.now.core.history c.let_ask.new.core.history c.args.client c.as_mut-inner.result.now.clients.items c.index_mut.result.now c.let_ask.new.client at did)
