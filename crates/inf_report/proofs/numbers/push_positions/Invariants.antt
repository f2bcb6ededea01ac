use Rattle.std.proofs.Common.{◌≡◌, ◌-◌, ◌++◌}
use Rattle.inf_report.specs.Numbers.{numbers_text, positions_from, set_positions}
use Rattle.inf_report.proofs.NumberFacts.{rest_text}
use Rattle.inf_report.proofs.numbers.push_positions.Given as goal

abbrev pub invariant-loop-position : goal.invariant-loop-position
invariant-loop-position l =
    l.out.items ++ rest_text l.is_first (positions_from (128 - l.position) l.position l.left) ≡ l.initial.out.items ++ numbers_text (set_positions l.hits)
