use Rattle.std.proofs.Common.{sym, ◌∙◌}
use Rattle.inf_path.proofs.PieceFacts.{piece_alone, piece_first}
use Rattle.inf_path.proofs.pieces.first_piece.Goals as goal

pub returns-in-None-clause-pieces : goal.returns-in-None-clause-pieces
returns-in-None-clause-pieces c =
    sym c.loop-text.invariant.0 ∙ piece_alone _ (sym c.slash_in.ensures.place ∙ c.in-None.is) (sym c.is_empty.ensures ∙ c.loop-text-test.true)

pub returns-in-Some-clause-pieces : goal.returns-in-Some-clause-pieces
returns-in-Some-clause-pieces c =
    let found = piece_first _ _ (sym c.slash_in.ensures.place ∙ c.in-Some.is) c.in-Some.end-test.1 in
    sym c.loop-text.invariant.0 ∙ rw (c.cut.ensures.before, c.cut.ensures.behind) found
