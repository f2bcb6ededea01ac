use Rattle.std.proofs.Common.{◌≡◌, ◌-◌, true, false, [], ◌∷◌, ◌++◌, List, Bool, length, reverse, slice_set, ap, subst, sym, ◌∙◌, arith, length-append}
use Rattle.std.proofs.lemmas.List.{length-reverse}
use Rattle.inf_core.specs.Core.{IsServedNext, Running, world_in}
use Rattle.inf_duty.specs.World.{world_by}
use Rattle.inf_laws_history.specs.Legal.{Legal}
use Rattle.inf_core.proofs.CoreFacts.{ask_indexed, kept_so, made_at, reversed_push, serving}
use Rattle.inf_core.proofs.Posted.{posted_known}
use Rattle.inf_core.proofs.Replayed.{all_replay_in}
use Rattle.inf_message.specs.declared.reply.Reply.{Reply}
use Rattle.inf_message.specs.History.{is_served}
use Rattle.inf_core.proofs.history.Core.serve.Goals as goal

pub serve_at-reply-requires-clause-there : goal.serve_at-reply-requires-clause-there
serve_at-reply-requires-clause-there g c =
    let made = made_at c.args.ask_place c.self.inside.events.items _ _ _ c.as_slice.ensures.value c.reserve.ensures.items c.ask_at-number.ensures in
    let there = (posted_known _ c.args.ask_place _ _ c.self.invariant.legal made).there c.self.invariant.some_servers in
    omega (arith, there, c.self.invariant.standing.count)

pub serve_at-reply-requires-clause-built : goal.serve_at-reply-requires-clause-built
serve_at-reply-requires-clause-built g c =
    let made = made_at c.args.ask_place c.self.inside.events.items _ _ _ c.as_slice.ensures.value c.reserve.ensures.items c.ask_at-number.ensures in
    (posted_known _ c.args.ask_place _ _ c.self.invariant.legal made).built

pub serve_at-reply-requires-clause-short_chains : goal.serve_at-reply-requires-clause-short_chains
serve_at-reply-requires-clause-short_chains g c =
    let made = made_at c.args.ask_place c.self.inside.events.items _ _ _ c.as_slice.ensures.value c.reserve.ensures.items c.ask_at-number.ensures in
    (posted_known _ c.args.ask_place _ _ c.self.invariant.legal made).short_chains

pub invariant_of-self-in_err-told : goal.invariant_of-self-in_err-told
invariant_of-self-in_err-told g c =
    let old = c.self.inside in
    let s = serving g.R.IdRule.digest_of old.setup old.rule old.events.items _ _ c.args.ask_place _ c.serve_at-reply.result old.servers.items c.serve_at-reply.new.servers.items old.served.items c.as_slice.ensures.value c.reserve.ensures.items c.ask_at-number.ensures c.self.invariant c.serve_at-reply.ensures in
    kept_so g.R.IdRule.digest_of old.setup old.rule c.serve_at-reply.new.servers.items _ _ old.served.items _ (ap reverse c.reserve.ensures.items) c.reserve-2.ensures.items (s.untold c.in_err-told.ensures.err)

pub overflow_sub-ask_place : goal.overflow_sub-ask_place
overflow_sub-ask_place g c =
    let made = made_at c.args.ask_place c.self.inside.events.items _ _ _ c.as_slice.ensures.value c.reserve.ensures.items c.ask_at-number.ensures in
    (ask_indexed c.self.inside.events.items c.args.ask_place _ made).counted

pub index_mut-requires : goal.index_mut-requires
index_mut-requires g c =
    let made = made_at c.args.ask_place c.self.inside.events.items _ _ _ c.as_slice.ensures.value c.reserve.ensures.items c.ask_at-number.ensures in
    let within = (ask_indexed c.self.inside.events.items c.args.ask_place _ made).within in
    let flags = ap (λ (fs : List Bool). length (fs ++ false ∷ [])) c.reserve-2.ensures.items in
    let pushed = ap (λ (fs : List Bool). length fs) c.join-place.ensures.served in
    omega (arith, c.self.invariant.flags.count, length-append c.self.inside.served.items (false ∷ []), length-reverse c.self.inside.events.items)

pub invariant_of-self-2 : goal.invariant_of-self-2
invariant_of-self-2 g c =
    let old = c.self.inside in
    let s = serving g.R.IdRule.digest_of old.setup old.rule old.events.items _ _ c.args.ask_place _ c.serve_at-reply.result old.servers.items c.serve_at-reply.new.servers.items old.served.items c.as_slice.ensures.value c.reserve.ensures.items c.ask_at-number.ensures c.self.invariant c.serve_at-reply.ensures in
    let waits = subst (λ (v : Running _). is_served c.args.ask_place v.history ≡ false) (sym c.self.view_is) c.requires.waits in
    let joins = reversed_push old.events.items c.reserve.new.self.items c.join-place.new.events.items _ c.reserve.ensures.items c.join-place.ensures.events in
    let flags = c.join-place.ensures.served ∙ ap (λ (fs : List Bool). fs ++ false ∷ []) c.reserve-2.ensures.items in
    kept_so g.R.IdRule.digest_of old.setup old.rule c.serve_at-reply.new.servers.items _ _ _ _ joins (ap (λ (fs : List Bool). slice_set fs (c.args.ask_place - 1) true) flags) (s.kept waits)

pub returns-clause-served : goal.returns-clause-served
returns-clause-served g c =
    let old = c.self.inside in
    let s = serving g.R.IdRule.digest_of old.setup old.rule old.events.items _ _ c.args.ask_place _ c.serve_at-reply.result old.servers.items c.serve_at-reply.new.servers.items old.served.items c.as_slice.ensures.value c.reserve.ensures.items c.ask_at-number.ensures c.self.invariant c.serve_at-reply.ensures in
    let waits = subst (λ (v : Running _). is_served c.args.ask_place v.history ≡ false) (sym c.self.view_is) c.requires.waits in
    let joins = reversed_push old.events.items c.reserve.new.self.items c.join-place.new.events.items _ c.reserve.ensures.items c.join-place.ensures.events in
    subst (λ (v : Running _). IsServedNext (world_in g.R.IdRule.digest_of v) v.history (reverse c.join-place.new.events.items) c.args.ask_place c.in_ok-told.told) c.self.view_is
    (subst (λ (r : Reply). IsServedNext (world_by (g.R.IdRule.digest_of old.rule) old.setup) (reverse old.events.items) (reverse c.join-place.new.events.items) c.args.ask_place r) (sym c.in_ok-told.ensures.ok)
    (record { number = c.ask_at-number.result.0; may = s.may waits; joins = joins }))

pub returns-clause-legal : goal.returns-clause-legal
returns-clause-legal g c =
    let old = c.self.inside in
    let s = serving g.R.IdRule.digest_of old.setup old.rule old.events.items _ _ c.args.ask_place _ c.serve_at-reply.result old.servers.items c.serve_at-reply.new.servers.items old.served.items c.as_slice.ensures.value c.reserve.ensures.items c.ask_at-number.ensures c.self.invariant c.serve_at-reply.ensures in
    let waits = subst (λ (v : Running _). is_served c.args.ask_place v.history ≡ false) (sym c.self.view_is) c.requires.waits in
    let joins = reversed_push old.events.items c.reserve.new.self.items c.join-place.new.events.items _ c.reserve.ensures.items c.join-place.ensures.events in
    subst (Legal (world_by (g.R.IdRule.digest_of old.rule) old.setup)) (sym joins) (s.kept waits).legal

pub returns-in_err-reserve-clause-replays : goal.returns-in_err-reserve-clause-replays
returns-in_err-reserve-clause-replays g c = all_replay_in c.every_legal_history_replays.ensures _ _ _ c.reserve.ensures.items c.self.invariant.legal

pub returns-in_err-reserve-2-clause-replays : goal.returns-in_err-reserve-2-clause-replays
returns-in_err-reserve-2-clause-replays g c = all_replay_in c.every_legal_history_replays.ensures _ _ _ c.reserve.ensures.items c.self.invariant.legal

pub returns-in_err-told-clause-replays : goal.returns-in_err-told-clause-replays
returns-in_err-told-clause-replays g c = all_replay_in c.every_legal_history_replays.ensures _ _ _ c.reserve.ensures.items c.self.invariant.legal

pub returns-clause-replays : goal.returns-clause-replays
returns-clause-replays g c = c.every_legal_history_replays.ensures _ _ (returns-clause-legal g c)
