use Rattle.std.proofs.Common.{◌≡◌, ◌≢◌, true, ap, sym, ◌∙◌}
use Rattle.inf_duty.specs.Duty.{may_give_up}
use Rattle.inf_duty.proofs.BegunFacts.{given_sent, may_goes}
use Rattle.inf_duty.proofs.BeginFacts.{gave_up}
use Rattle.inf_duty.specs.ClientState.{ClientState}
use Rattle.inf_duty.proofs.client_state.ClientState.pass_to.Goals as goal

pub loop-self-preserved : goal.loop-self-preserved
loop-self-preserved c =
    let now : ClientState = c.loop-self.self in
    let after : ClientState = c.give_up_call.new.self in
    let unlike : now.number ≢ c.args.number = λ e. c.loop-self-test.true (ap (λ v. v.number) c.self.view_is ∙ e) in
    let may : may_give_up now ≡ true = sym c.may_give_up.ensures ∙ c.if-may_give_up.true in (
      λ digest. gave_up digest c.args.number c.args.request.now now after c.give_up_call.ensures unlike may ∙ c.loop-self.invariant.0 digest,
      ap (λ (s : ClientState). s.sent) c.give_up_call.ensures ∙ given_sent now (may_goes now may),
    )
