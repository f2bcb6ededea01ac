use Rattle.std.proofs.Common.{◌≡◌, ◌++◌, length}
use Rattle.inf_base.specs.Path.{pieces_of}
use Rattle.inf_path.proofs.NameFacts.{IsRead}
use Rattle.inf_path.proofs.parse.parse_path.Given as goal

abbrev pub invariant-loop-piece : goal.invariant-loop-piece
invariant-loop-piece l = (l.names.items ++ pieces_of l.left ≡ pieces_of l.text) × IsRead l.names.len (pieces_of l.left) (pieces_of l.text)

abbrev pub decreases-loop-piece : goal.decreases-loop-piece
decreases-loop-piece l = length l.left
