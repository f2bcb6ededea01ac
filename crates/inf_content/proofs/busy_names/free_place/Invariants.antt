use Rattle.std.proofs.Common.{◌≡◌, ◌++◌, take, drop}
use Rattle.inf_content.specs.BusyNames.{with_name}
use Rattle.inf_content.proofs.busy_names.free_place.Given as goal

abbrev pub invariant-loop-at : goal.invariant-loop-at
invariant-loop-at l = with_name l.name l.names ≡ take l.at l.names ++ with_name l.name (drop l.at l.names)
