use Rattle.std.proofs.Common.{refl}
use Rattle.std.specs.Option.{option_copied}
use Rattle.inf_script.specs.Lines.{is_newline}
use Rattle.inf_script.proofs.PartFacts.{parts_of_cut, line_found, line_cut, line_last, piece_of}
use Rattle.inf_script.proofs.lines.take_line.Goals as goal

pub returns-then-more-clause-lines : goal.returns-then-more-clause-lines
returns-then-more-clause-lines c =
    rw c.if-more.true (line_cut c.args.text.now c.cut_at.result.0.now (option_copied c.cut_at.result.1)
    (parts_of_cut is_newline c.args.text.now c.cut_at.result.0.now c.position_of.result (option_copied c.cut_at.result.1) c.position_of.ensures.value c.cut_at.ensures.front c.cut_at.ensures.back) (rw c.in-None.is refl))

pub returns-in-Some-clause-lines : goal.returns-in-Some-clause-lines
returns-in-Some-clause-lines c =
    line_found c.args.more c.args.text.now c.cut_at.result.0.now (option_copied c.cut_at.result.1) c.in-Some.rest.now
    (parts_of_cut is_newline c.args.text.now c.cut_at.result.0.now c.position_of.result (option_copied c.cut_at.result.1) c.position_of.ensures.value c.cut_at.ensures.front c.cut_at.ensures.back) (rw c.in-Some.is refl)

pub returns-else-is_empty-clause-lines : goal.returns-else-is_empty-clause-lines
returns-else-is_empty-clause-lines c =
    rw c.if-more.false (line_last c.args.text.now c.cut_at.result.0.now (option_copied c.cut_at.result.1)
    (parts_of_cut is_newline c.args.text.now c.cut_at.result.0.now c.position_of.result (option_copied c.cut_at.result.1) c.position_of.ensures.value c.cut_at.ensures.front c.cut_at.ensures.back) (rw c.in-None.is refl)
    (piece_of c.cut_at.result.0.now c.if-is_empty.ensures))
