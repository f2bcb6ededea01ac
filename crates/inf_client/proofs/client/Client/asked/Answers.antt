use Rattle.std.proofs.Common.{◌≡◌, true, false, sym, ap, subst, ◌∙◌}
use Rattle.inf_client.specs.AskLog.{AskLog}
use Rattle.inf_client.specs.Client.{Client}
use Rattle.inf_client.specs.Group.{IsKept}
use Rattle.inf_client.proofs.ClientFacts.{kept_asked}
use Rattle.inf_duty.specs.ClientState.{ClientState, placed}
use Rattle.inf_message.specs.History.{posted_ask}
use Rattle.inf_client.proofs.client.Client.asked.Goals as goal

pub invariant_of-self : goal.invariant_of-self
invariant_of-self c =
    let i = c.self.inside in
    let s = i.state in
    let handed : i.is_handed ≡ true = ap (λ (a : Client). a.handed) c.self.view_is ∙ c.requires.handed in
    subst (λ (t : ClientState). IsKept t i.has_given_up c.asked.new.self false i.outbox.items) (sym c.place_ask.ensures)
    (subst (λ (l : AskLog). IsKept (placed c.args.place s) i.has_given_up l false i.outbox.items) (sym c.asked.ensures)
    (kept_asked c.args.place (posted_ask c.args.number c.args.ask) s i.has_given_up i.log i.outbox.items
    (subst (λ h. IsKept s i.has_given_up i.log h i.outbox.items) handed c.self.invariant)))
