use Rattle.inf_report.proofs.LineFacts.{appended_both}
use Rattle.inf_report.proofs.lines.push_call_line.Goals as goal

pub returns : goal.returns
returns c =
    let called = appended_both _ _ _ _ _ c.in_ok-push_called.ensures c.in_ok-push_word.ensures in
    let answered = appended_both _ _ _ _ _ called c.in_ok-push_answer.ensures in
    let spanned = appended_both _ _ _ _ _ answered c.in_ok-push_span.ensures in
    let counted = appended_both _ _ _ _ _ spanned c.in_ok-push_counts.ensures in
    let marked = appended_both _ _ _ _ _ counted c.in_ok-push_open_mark.ensures in
    appended_both _ _ _ _ _ marked c.in_ok-push_word-2.ensures
