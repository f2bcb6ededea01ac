use Rattle.std.proofs.Common.{◌≡◌, ◌++◌, ℕ, List, true, false, is_some, rules, sym, ap, ◌∙◌}
use Rattle.inf_base.specs.declared.id.Id.{Id}
use Rattle.inf_message.specs.Sent.{is_wanting}
use Rattle.inf_duty.specs.ClientState.{ClientState, round}
use Rattle.inf_duty.specs.Course.{next_course}
use Rattle.inf_duty.specs.Turn.{after_group, told_by, turned}
use Rattle.inf_resolve.specs.declared.resolved.Verdict.{Verdict}
use Rattle.inf_duty.proofs.TurnFacts.{round_over, turn_of}
use Rattle.inf_duty.proofs.client_state.ClientState.end_round.Goals.{After-verdict}
use Rattle.inf_duty.proofs.client_state.ClientState.end_round.Goals as goal

-- what comes of the round by the verdict that was found
over : (c : After-verdict) (v : Verdict) → c.verdict.result ≡ v → (digest : List ℕ → Id) → turned (turn_of v) (record c.args.self.now { known = c.learn.new.known.items }) ≡ after_group digest c.args.self.now
over c v found digest =
    let s : ClientState = c.args.self.now in
    let at : s.stage ≡ round c.in-Round.keys = search rules in
    let calm : is_wanting s.sent ≡ false = search rules in
    let known : c.learn.new.known.items ≡ s.known ++ told_by c.in-Round.keys s.sent = search rules in
    let some : is_some c.self.inside.course ≡ true = search rules in
    let fits : c.self.inside.course ≡ next_course s.left = search rules in
    ap (λ (w : Verdict). turned (turn_of w) (record s { known = c.learn.new.known.items })) (sym found)
    ∙ sym (round_over digest s c.in-Round.keys c.learn.new.known.items c.self.inside.course c.verdict.result at calm known some fits (search rules))

pub returns-in-GoesOn : goal.returns-in-GoesOn
returns-in-GoesOn c = λ digest. search rules ∙ over c.before _ c.in-GoesOn.is digest

pub returns-in-IsBusy : goal.returns-in-IsBusy
returns-in-IsBusy c = λ digest. search rules ∙ over c.before.before.before.before.before _ c.in-IsBusy.is digest

pub returns-in-Lacks : goal.returns-in-Lacks
returns-in-Lacks c = λ digest. search rules ∙ over c.before.before.before.before.before _ c.in-Lacks.is digest
