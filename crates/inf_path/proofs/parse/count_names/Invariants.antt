use Rattle.std.proofs.Common.{length}
use Rattle.inf_base.specs.Path.{pieces_of}
use Rattle.inf_path.proofs.NameFacts.{IsRead}
use Rattle.inf_path.proofs.parse.count_names.Given as goal

abbrev pub invariant-loop-piece : goal.invariant-loop-piece
invariant-loop-piece l = IsRead l.count (pieces_of l.left) (pieces_of l.path)

abbrev pub decreases-loop-piece : goal.decreases-loop-piece
decreases-loop-piece l = length l.left
