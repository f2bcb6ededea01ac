use Rattle.std.proofs.Common.{false, [], ◌∷◌, ◌++◌, List, Bool, reverse, ap, subst, sym, ◌∙◌}
use Rattle.inf_core.specs.Core.{Running, world_in}
use Rattle.inf_duty.specs.World.{world_by}
use Rattle.inf_laws_history.specs.Legal.{Legal, MayAsk}
use Rattle.inf_message.specs.declared.ask.Ask.{Ask}
use Rattle.inf_core.proofs.CoreFacts.{ask_kept, kept_so, reversed_push}
use Rattle.inf_core.proofs.Replayed.{all_replay_in}
use Rattle.inf_core.proofs.history.Core.ask.Goals as goal

pub invariant_of-self-2 : goal.invariant_of-self-2
invariant_of-self-2 g c =
    let old = c.self.inside in
    let shared = c.in_ok-ask.ask in
    let may =
    subst (λ (a : Ask). MayAsk (world_by (g.R.IdRule.digest_of old.rule) old.setup) (reverse old.events.items) c.args.number a) (sym c.in_ok-ask.ensures)
    (subst (λ (v : Running _). MayAsk (world_in g.R.IdRule.digest_of v) v.history c.args.number c.args.ask) (sym c.self.view_is) c.requires.may) in
    kept_so g.R.IdRule.digest_of old.setup old.rule old.servers.items _ _ _ _
    (reversed_push old.events.items c.reserve.new.self.items c.join-place.new.events.items _ c.reserve.ensures.items c.join-place.ensures.events)
    (c.join-place.ensures.served ∙ ap (λ (fs : List Bool). fs ++ false ∷ []) c.reserve-2.ensures.items)
    (ask_kept g.R.IdRule.digest_of old.setup old.rule (reverse old.events.items) c.args.number shared old.servers.items old.served.items may c.self.invariant)

pub returns-in_err-reserve-clause-replays : goal.returns-in_err-reserve-clause-replays
returns-in_err-reserve-clause-replays g c = all_replay_in c.every_legal_history_replays.ensures _ _ _ c.reserve.ensures.items c.self.invariant.legal

pub returns-in_err-reserve-2-clause-replays : goal.returns-in_err-reserve-2-clause-replays
returns-in_err-reserve-2-clause-replays g c = all_replay_in c.every_legal_history_replays.ensures _ _ _ c.reserve.ensures.items c.self.invariant.legal

pub returns-in_err-ask-clause-replays : goal.returns-in_err-ask-clause-replays
returns-in_err-ask-clause-replays g c = all_replay_in c.every_legal_history_replays.ensures _ _ _ c.reserve.ensures.items c.self.invariant.legal

pub returns-in_err-shared-clause-replays : goal.returns-in_err-shared-clause-replays
returns-in_err-shared-clause-replays g c = all_replay_in c.every_legal_history_replays.ensures _ _ _ c.reserve.ensures.items c.self.invariant.legal

pub returns-clause-replays : goal.returns-clause-replays
returns-clause-replays g c =
    let old = c.self.inside in
    let may =
    subst (λ (a : Ask). MayAsk (world_by (g.R.IdRule.digest_of old.rule) old.setup) (reverse old.events.items) c.args.number a) (sym c.in_ok-ask.ensures)
    (subst (λ (v : Running _). MayAsk (world_in g.R.IdRule.digest_of v) v.history c.args.number c.args.ask) (sym c.self.view_is) c.requires.may) in
    let joins = reversed_push old.events.items c.reserve.new.self.items c.join-place.new.events.items _ c.reserve.ensures.items c.join-place.ensures.events in
    c.every_legal_history_replays.ensures _ _ (subst (Legal (world_by (g.R.IdRule.digest_of old.rule) old.setup)) (sym joins) (c.self.invariant.legal, may))
