use Rattle.std.proofs.Common.{◌≡◌, filter}
use Rattle.std.specs.Option.{option_copied}
use Rattle.inf_base.specs.Path.{is_piece}
use Rattle.inf_script.specs.Cuts.{parts_behind, bytes_behind}
use Rattle.inf_script.specs.Words.{is_blank}
use Rattle.inf_script.proofs.words.Words.split_first.Given as goal

abbrev pub invariant-loop-left : goal.invariant-loop-left
invariant-loop-left l = filter is_piece (parts_behind is_blank (option_copied l.left)) ≡ l.self

abbrev pub decreases-loop-left : goal.decreases-loop-left
decreases-loop-left l = bytes_behind (option_copied l.left)
