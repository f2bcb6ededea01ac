use Rattle.std.proofs.lemmas.Result.{err_from_is_err_and}
use Rattle.inf_script.proofs.OrderFacts.{refused_word}
use Rattle.inf_script.proofs.order_line.moves_from.Goals as goal

pub returns-in_err-next : goal.returns-in_err-next
returns-in_err-next c =
    let p = err_from_is_err_and c.from_residual.result c.from_residual.ensures.1 in
    rw (p.1, p.2, ← c.loop-word.invariant, c.in-Some.ensures) (refused_word _ c.args.servers c.args.clients.now c.loop-word.made.items c.in-Some.word.now c.in-Some.rest c.in_err-next.ensures)
