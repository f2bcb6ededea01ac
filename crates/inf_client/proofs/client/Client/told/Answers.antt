use Rattle.std.proofs.Common.{sym, subst}
use Rattle.inf_client.specs.AskLog.{AskLog}
use Rattle.inf_client.specs.Group.{IsKept}
use Rattle.inf_client.proofs.LostFacts.{kept_lost}
use Rattle.inf_client.proofs.ToldFacts.{kept_told}
use Rattle.inf_duty.specs.ClientState.{ClientState}
use Rattle.inf_duty.specs.Turn.{served}
use Rattle.inf_message.specs.History.{told_reply}
use Rattle.inf_client.proofs.client.Client.told.Goals as goal

-- memory was wanting
pub invariant_of-self : goal.invariant_of-self
invariant_of-self g c =
    let i = c.self.inside in
    kept_lost i.state _ i.has_given_up i.log i.is_handed i.outbox.items c.self.invariant c.in_err-told.ensures.err

pub invariant_of-self-2 : goal.invariant_of-self-2
invariant_of-self-2 g c =
    let i = c.self.inside in
    let s = i.state in
    let told = told_reply c.args.serve_place c.args.reply in
    subst (λ (t : ClientState). IsKept t i.has_given_up c.answer.new.log i.is_handed i.outbox.items) (sym c.in_ok-told.ensures.ok)
    (subst (λ (l : AskLog). IsKept (served (g.R.IdRule.digest_of c.args.rule.now) c.args.ask_place told s) i.has_given_up l i.is_handed i.outbox.items) (sym c.answer.ensures)
    (kept_told (g.R.IdRule.digest_of c.args.rule.now) s i.has_given_up i.log i.is_handed i.outbox.items c.args.ask_place told c.self.invariant))
