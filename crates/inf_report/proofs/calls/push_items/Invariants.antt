use Rattle.std.proofs.Common.{◌≡◌, ◌++◌, drop}
use Rattle.std.specs.List.{flat_map}
use Rattle.inf_report.specs.Calls.{item_text}
use Rattle.inf_report.proofs.calls.push_items.Given as goal

abbrev pub invariant-loop-item : goal.invariant-loop-item
invariant-loop-item l = l.out.items ++ flat_map item_text (drop l.item-index l.item-items) ≡ l.initial.out.items ++ flat_map item_text l.item-items
