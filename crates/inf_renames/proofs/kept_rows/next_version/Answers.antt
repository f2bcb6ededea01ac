use Rattle.std.proofs.Common.{arith}
use Rattle.inf_renames.proofs.KeptFacts.{taken_within}
use Rattle.inf_renames.proofs.kept_rows.next_version.Goals as goal

pub overflow_add-next : goal.overflow_add-next
overflow_add-next c =
    let within = taken_within c.args.name.now c.args.rows.now c.loop-index.next c.loop-index.invariant.taken in
    omega (arith, within)
