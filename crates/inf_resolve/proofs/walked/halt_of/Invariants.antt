use Rattle.std.proofs.Common.{◌≡◌, length}
use Rattle.inf_resolve.specs.Walk.{halt_of}
use Rattle.inf_resolve.proofs.walked.halt_of.Given as goal

abbrev pub invariant-loop-name : goal.invariant-loop-name
invariant-loop-name l = halt_of l.known l.dir l.left ≡ halt_of l.known l.fn.dir l.names

abbrev pub decreases-loop-name : goal.decreases-loop-name
decreases-loop-name l = length l.left
