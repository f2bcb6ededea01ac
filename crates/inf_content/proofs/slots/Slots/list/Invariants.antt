use Rattle.std.proofs.Common.{◌≡◌, ◌++◌}
use Rattle.inf_content.specs.Named.{slots_of}
use Rattle.inf_content.specs.Slots.{items_of}
use Rattle.inf_content.proofs.slots.Slots.list.Given as goal

abbrev pub invariant-loop-name : goal.invariant-loop-name
invariant-loop-name l = l.items.items ++ items_of (slots_of l.name-iterator) ≡ items_of l.self
