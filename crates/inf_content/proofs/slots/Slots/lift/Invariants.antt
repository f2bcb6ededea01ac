use Rattle.std.proofs.Common.{◌≡◌, length}
use Rattle.inf_content.specs.BusyNames.{busy_names}
use Rattle.inf_content.specs.Slots.{lifted}
use Rattle.inf_content.proofs.slots.Slots.lift.Given as goal

abbrev pub invariant-loop-by : goal.invariant-loop-by
invariant-loop-by l = lifted l.by l.self ≡ lifted l.by l.initial.self

abbrev pub decreases-loop-by : goal.decreases-loop-by
decreases-loop-by l = length (busy_names l.self)
