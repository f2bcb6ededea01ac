use Rattle.std.proofs.Common.{◌<◌, ◌++◌, refl, true, false, sym, ap, ◌∙◌, append-nil}
use Rattle.inf_report.specs.Numbers.{set_positions}
use Rattle.inf_report.proofs.NumberFacts.{position_passed, position_printed, positions_from-none, rest_text}
use Rattle.inf_report.proofs.numbers.push_positions.Goals.{then-left-eq1+in_ok-push_joined, else-left-eq1}
use Rattle.inf_report.proofs.numbers.push_positions.Goals as goal

pub loop-position-init : goal.loop-position-init
loop-position-init c =
    unfold set_positions in refl

pub loop-position-preserved : goal.loop-position-preserved
loop-position-preserved c =
    let before = c.loop-position in
    let within : before.position < 128 = c.loop-position-test.true in
    elim c.if-left-eq1.branch [
      | then-left-eq1+in_ok-push_joined w ↦ rw (w.out-is, w.is_first-is, w.in_ok-push_joined.ensures) (position_printed before.out.items before.is_first before.position before.left _ within w.if-left-eq1.true before.invariant)
      | else-left-eq1 w ↦ rw (w.out-is, w.is_first-is) (position_passed before.out.items before.is_first before.position before.left _ within w.if-left-eq1.false before.invariant)
    ]

pub returns-in_ok-extend_from_slice : goal.returns-in_ok-extend_from_slice
returns-in_ok-extend_from_slice c =
    let h = c.loop-position in
    let none = positions_from-none h.position h.left c.loop-position-test.false in
    c.in_ok-extend_from_slice.ensures.items ∙ sym (ap (λ l. h.out.items ++ rest_text true l) none) ∙ rw c.if-is_first.true at h.invariant

pub returns-else-is_first : goal.returns-else-is_first
returns-else-is_first c =
    let h = c.loop-position in
    let none = positions_from-none h.position h.left c.loop-position-test.false in
    sym (append-nil h.out.items) ∙ sym (ap (λ l. h.out.items ++ rest_text false l) none) ∙ rw c.if-is_first.false at h.invariant
