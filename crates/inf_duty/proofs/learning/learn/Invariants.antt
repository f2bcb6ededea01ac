use Rattle.std.proofs.Common.{◌≡◌, ◌+◌, ◌≤◌, ◌++◌, length}
use Rattle.std.specs.Prelude.{vec_capacity}
use Rattle.std.specs.Vec.Iter.{into_iter_items, into_iter_len}
use Rattle.inf_duty.specs.Turn.{told_by}
use Rattle.inf_duty.proofs.learning.learn.Given as goal

abbrev pub invariant-loop-key : goal.invariant-loop-key
invariant-loop-key l =
    (l.known.items ++ told_by (into_iter_items l.key-iterator) l.sent.items ≡ l.fn.known.items ++ told_by l.fn.keys l.fn.sent.items)
    × (length l.known.items + into_iter_len l.key-iterator ≤ vec_capacity l.known)
    × (vec_capacity l.sent ≡ vec_capacity l.fn.sent)
