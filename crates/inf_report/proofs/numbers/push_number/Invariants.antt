use Rattle.std.proofs.Common.{◌≡◌, ◌^◌, ◌<◌, ◌≤◌, ◌++◌, length, drop}
use Rattle.std.specs.Fmt.{decimal}
use Rattle.inf_report.proofs.numbers.push_number.Given as goal

abbrev pub invariant-loop-left : goal.invariant-loop-left
invariant-loop-left l = record {
  text : decimal l.left ++ drop l.start l.digits ≡ decimal l.number;
  fits : length (decimal l.left) ≤ l.start;
  within : l.start ≤ 20;
  small : l.left < 2 ^ 64;
  size : length l.digits ≡ 20;
}

abbrev pub decreases-loop-left : goal.decreases-loop-left
decreases-loop-left l = l.left
