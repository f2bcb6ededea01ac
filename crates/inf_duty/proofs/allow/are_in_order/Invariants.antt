use Rattle.std.proofs.Common.{◌≡◌, drop}
use Rattle.inf_duty.specs.Own.{rises_from}
use Rattle.inf_duty.proofs.allow.are_in_order.Given as goal

abbrev pub invariant-loop-made : goal.invariant-loop-made
invariant-loop-made l = rises_from l.last (drop l.made-index l.own) ≡ rises_from 0 l.own
