use Rattle.std.proofs.Common.{refl}
use Rattle.std.specs.List.Sorted.{IsStrictlySortedBy}
use Rattle.inf_content.proofs.examples.example_of_order.Goals as goal

pub returns : goal.returns
unfolding IsStrictlySortedBy
returns c = record { rise = ((refl, tt), (tt, tt)); fall = λ rise. cc (rise.0.0); twice = λ rise. cc (rise.0.0) }
