use Rattle.std.proofs.Common.{◌≡◌, true, false, sym, ap, subst, ◌∙◌, rules}
use Rattle.inf_client.specs.AskLog.{AskLog}
use Rattle.inf_client.specs.Group.{IsFound, IsReadied}
use Rattle.inf_client.proofs.FoundFacts.{given_room, given_up_found}
use Rattle.inf_duty.specs.Duty.{given_up, next_step}
use Rattle.inf_duty.specs.Messages.{is_winding}
use Rattle.inf_duty.specs.ClientState.{ClientState}
use Rattle.inf_client.proofs.group.attempt.Goals as goal

pub returns-then-is_winding-2-clause-found : goal.returns-then-is_winding-2-clause-found
returns-then-is_winding-2-clause-found g c =
    let digest = g.R.IdRule.digest_of c.args.rule.now in
    let old = c.args.state.now in
    let now = c.give_up_call.new.self in
    let group = c.winding_group-then-is_winding-2.result in
    let is : now ≡ given_up old = c.give_up_call.ensures ∙ c.in_default.ensures.err_call in
    let going : is_winding old.stage ≡ false = search rules in
    let winding : is_winding now.stage ≡ true = search rules in
    let readied = c.winding_group-then-is_winding-2.ensures c.args.log.now (given_room old now c.args.log.now.room going is c.requires.room) in
    subst (IsFound digest group.ask old) (sym is)
    (given_up_found digest old group.number group.ask c.requires.asks going
    (ap (λ (t : ClientState). is_winding t.stage) (sym is) ∙ winding)
    (ap next_step (sym is) ∙ readied.next))

-- the log is as it was where memory was wanting
pub returns-then-is_winding-2-clause-readied : goal.returns-then-is_winding-2-clause-readied
returns-then-is_winding-2-clause-readied g c =
    let old = c.args.state.now in
    let now = c.give_up_call.new.self in
    let group = c.winding_group-then-is_winding-2.result in
    let is : now ≡ given_up old = c.give_up_call.ensures ∙ c.in_default.ensures.err_call in
    let going : is_winding old.stage ≡ false = search rules in
    let same : c.whole_group.new.log ≡ c.args.log.now = search rules in
    subst (λ (l : AskLog). IsReadied group.number group.ask group.others.items now c.args.log.now l) (sym same)
    (c.winding_group-then-is_winding-2.ensures c.args.log.now (given_room old now c.args.log.now.room going is c.requires.room))
