use Rattle.std.proofs.Common.{◌≡◌, ◌≢◌, [], refl, ap, ◌∙◌}
use Rattle.inf_duty.specs.ClientState.{ClientState}
use Rattle.inf_duty.proofs.BeginFacts.{begun_over, begun_stopped}
use Rattle.inf_duty.proofs.client_state.ClientState.begin.Goals.{then-is_over-via-then-is_over, then-is_over-via-else-is_over+then-self-ask}
use Rattle.inf_duty.proofs.client_state.ClientState.begin.Goals as goal

pub returns-then-is_over : goal.returns-then-is_over
returns-then-is_over g c =
    let before : ClientState = c.args.self.now in
    let after : ClientState = c.pass_to.new.self in
    let none : before.sent ≡ [] = c.if-not-is_between.ensures.0 refl in
    elim c.then-is_over.branch [
      | then-is_over-via-then-is_over w ↦
          let over : after.left ≡ [] = w.if-is_over.ensures.0 refl in
          record { ok = begun_over (g.R.IdRule.digest_of c.args.rule.now) c.args.ask.now before after none (c.pass_to.ensures.way (g.R.IdRule.digest_of c.args.rule.now)) over }
      | then-is_over-via-else-is_over+then-self-ask w ↦
          let unlike : after.number ≢ c.args.ask.now.from.number = λ e. w.if-self-ask.true (ap (λ v. v.number) c.self.view_is ∙ e) in
          record { ok = begun_stopped (g.R.IdRule.digest_of c.args.rule.now) c.args.ask.now before after none (c.pass_to.ensures.way (g.R.IdRule.digest_of c.args.rule.now)) unlike (c.pass_to.ensures.stopped unlike) }
    ]
