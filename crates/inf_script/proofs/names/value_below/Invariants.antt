use Rattle.std.proofs.Common.{◌≡◌, ◌<◌, ◌^◌, length}
use Rattle.inf_script.specs.Names.{value_from}
use Rattle.inf_script.proofs.names.value_below.Given as goal

abbrev pub invariant-loop-digit : goal.invariant-loop-digit
invariant-loop-digit l = record { spelt : value_from l.value l.rest ≡ value_from 0 l.digits; small : l.value < 2 ^ 36 }

abbrev pub decreases-loop-digit : goal.decreases-loop-digit
decreases-loop-digit l = length l.rest
