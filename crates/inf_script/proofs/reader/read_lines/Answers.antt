use Rattle.std.proofs.lemmas.Result.{err_from_is_err_and}
use Rattle.inf_script.specs.Lines.{lines_of}
use Rattle.inf_script.proofs.ReadingFacts.{refused_line}
use Rattle.inf_script.proofs.reader.read_lines.Goals as goal

pub returns-in_err-draft : goal.returns-in_err-draft
returns-in_err-draft c =
    let p = err_from_is_err_and c.from_residual.result c.from_residual.ensures.1 in
    rw (p.1, p.2, ← c.loop-line.invariant.read, c.in-Some.ensures.lines) (refused_line _ c.args.more c.loop-line.number c.loop-line.draft _ (lines_of c.args.more c.in-Some.behind.now) c.in_err-draft.ensures)
