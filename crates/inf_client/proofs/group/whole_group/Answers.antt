use Rattle.std.proofs.Common.{◌≡◌, ◌+◌, length, sym, ap, subst, ◌∙◌, rules}
use Rattle.inf_client.specs.AskLog.{with_room}
use Rattle.inf_client.specs.Group.{IsFound}
use Rattle.inf_client.proofs.FoundFacts.{composed_found, composed_goes, given_composed}
use Rattle.inf_client.proofs.GroupFacts.{on_err, whole_readied}
use Rattle.inf_duty.specs.ClientStep.{is_ask}
use Rattle.inf_duty.specs.Duty.{given_up, next_step}
use Rattle.inf_duty.specs.Messages.{is_winding}
use Rattle.inf_duty.specs.ClientState.{ClientState}
use Rattle.inf_duty.specs.Group.{composed}
use Rattle.inf_client.proofs.group.whole_group.Goals as goal

pub returns-clause-readied : goal.returns-clause-readied
returns-clause-readied g c =
    let digest = g.R.IdRule.digest_of c.args.rule.now in
    let old = c.args.state.now in
    let s = c.take_up.new.self in
    let took : s ≡ composed digest old = c.in_ok-take_up.ensures.ok in
    let count : c.len.result ≡ length c.from_vec-others.result.items = search rules in
    let reserved : c.reserve.new.self ≡ with_room (length c.from_vec-others.result.items + 3) c.args.log.now = search rules in
    whole_readied s c.from_vec-others.result.items c.in_ok-number.number c.in_ok-number.ask c.args.log.now c.reserve.new.self
    (ap (λ (t : ClientState). t.sent) took ∙ c.requires.between)
    (ap (λ (t : ClientState). is_ask (next_step t)) took ∙ c.requires.asking)
    (ap (λ (t : ClientState). is_winding t.stage) took ∙ composed_goes digest old c.requires.going)
    c.in_ok-number.ensures
    (c.from_vec-others.ensures.items ∙ c.in_ok-asks_behind.ensures)
    reserved

pub returns-clause-found : goal.returns-clause-found
returns-clause-found g c =
    let digest = g.R.IdRule.digest_of c.args.rule.now in
    let old = c.args.state.now in
    let s = c.take_up.new.self in
    let took : s ≡ composed digest old = c.in_ok-take_up.ensures.ok in
    subst (IsFound digest c.in_ok-number.ask old) (sym took)
    (composed_found digest old c.in_ok-number.number c.in_ok-number.ask c.requires.going c.requires.between
    (ap next_step (sym took) ∙ (returns-clause-readied g c).next))

-- where memory was wanting, what was settled does not matter
pub returns-in_err-asks_behind-clause-err_call : goal.returns-in_err-asks_behind-clause-err_call
returns-in_err-asks_behind-clause-err_call g c =
    on_err _ _ (ap given_up c.in_ok-take_up.ensures.ok ∙ given_composed (g.R.IdRule.digest_of c.args.rule.now) c.args.state.now)

pub returns-in_err-asks_behind-clause-err_going : goal.returns-in_err-asks_behind-clause-err_going
returns-in_err-asks_behind-clause-err_going g c =
    on_err _ _
    (ap (λ (t : ClientState). is_winding t.stage) c.in_ok-take_up.ensures.ok
    ∙ composed_goes (g.R.IdRule.digest_of c.args.rule.now) c.args.state.now c.requires.going)

pub returns-in_err-reserve-clause-err_call : goal.returns-in_err-reserve-clause-err_call
returns-in_err-reserve-clause-err_call g c =
    on_err _ _ (ap given_up c.in_ok-take_up.ensures.ok ∙ given_composed (g.R.IdRule.digest_of c.args.rule.now) c.args.state.now)

pub returns-in_err-reserve-clause-err_going : goal.returns-in_err-reserve-clause-err_going
returns-in_err-reserve-clause-err_going g c =
    on_err _ _
    (ap (λ (t : ClientState). is_winding t.stage) c.in_ok-take_up.ensures.ok
    ∙ composed_goes (g.R.IdRule.digest_of c.args.rule.now) c.args.state.now c.requires.going)
