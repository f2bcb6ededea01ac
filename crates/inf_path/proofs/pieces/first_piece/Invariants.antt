use Rattle.std.proofs.Common.{◌≡◌, ◌≤◌, length}
use Rattle.inf_base.specs.Path.{pieces_of}
use Rattle.inf_path.proofs.pieces.first_piece.Given as goal

abbrev pub invariant-loop-text : goal.invariant-loop-text
invariant-loop-text l = (pieces_of l.text ≡ pieces_of l.initial.text) × (length l.text ≤ length l.initial.text)

abbrev pub decreases-loop-text : goal.decreases-loop-text
decreases-loop-text l = length l.text
