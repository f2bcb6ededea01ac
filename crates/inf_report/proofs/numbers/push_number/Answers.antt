use Rattle.std.proofs.Common.{◌-◌, ◌^◌, ◌<◌, [], ◌∷◌, ◌++◌, length, sym, ap, ◌∙◌, arith}
use Rattle.std.proofs.lemmas.Grind.{common_steps}
use Rattle.std.proofs.lemmas.Fmt.{decimal_digit, decimal_nonempty, length-decimal-le}
use Rattle.std.proofs.lemmas.List.{length-set}
use Rattle.inf_report.proofs.DigitFacts.{all-found, decimal-moved, decimal-found, length-decimal-step}
use Rattle.inf_report.proofs.numbers.push_number.Goals as goal

pub returns-then-number-lt10 : goal.returns-then-number-lt10
returns-then-number-lt10 c =
    c.in_ok-push.ensures.items
    ∙ ap (λ l. c.args.out.now.items ++ l) (ap (λ digit. digit ∷ []) c.decimal_digit.ensures ∙ sym (decimal_digit c.args.number c.if-number-lt10.true))

pub loop-left-init : goal.loop-left-init
loop-left-init c =
    let small : c.args.number < 2 ^ 64 = c.ranges.number.fits in
    record {
      text = grind (arith, common_steps);
      fits = length-decimal-le 20 c.args.number (omega arith) (omega (arith, small)) small;
      within = omega arith;
      small = small;
      size = grind (arith, common_steps);
    }

pub overflow_sub-start : goal.overflow_sub-start
overflow_sub-start c = omega (arith, c.loop-left.invariant.fits, decimal_nonempty c.loop-left.left c.loop-left.invariant.small)

pub loop-left-preserved : goal.loop-left-preserved
loop-left-preserved c =
    let h = c.loop-left.invariant in
    let left = c.loop-left.left in
    let start = c.loop-left.start in
    let some : 0 < length _ = decimal_nonempty left h.small in
    let shorter = length-decimal-step left c.loop-left-test.true h.small in
    record {
      text = rw c.decimal_digit-in-loop-left.ensures (decimal-moved left start c.loop-left.digits _ c.loop-left-test.true h.small (omega (arith, some, h.fits)) (omega (arith, h.within, h.size)) h.text);
      fits = omega (arith, shorter, h.fits);
      within = omega (arith, h.within);
      small = omega (arith, h.small);
      size = length-set c.loop-left.digits (start - 1) _ ∙ h.size;
    }

pub overflow_sub-start-2 : goal.overflow_sub-start-2
overflow_sub-start-2 c = omega (arith, c.loop-left.invariant.fits, decimal_nonempty c.loop-left.left c.loop-left.invariant.small)

pub returns : goal.returns
returns c =
    let h = c.loop-left.invariant in
    let left = c.loop-left.left in
    let start = c.loop-left.start in
    let some : 0 < length _ = decimal_nonempty left h.small in
    let front = decimal-found left start c.loop-left.digits _ (omega (arith, c.loop-left-test.false)) (omega (arith, some, h.fits)) (omega (arith, h.within, h.size)) h.text in
    c.in_ok-extend_from_slice.ensures.items ∙ ap (λ l. c.args.out.now.items ++ l) (rw c.decimal_digit-2.ensures (all-found 20 (start - 1) c.loop-left.digits _ _ h.size front))
