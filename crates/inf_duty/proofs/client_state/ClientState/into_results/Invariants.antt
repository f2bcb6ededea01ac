use Rattle.std.proofs.Common.{◌≡◌, ◌<◌, length, None}
use Rattle.inf_duty.specs.Outcome.{results_of}
use Rattle.inf_duty.specs.ClientState.{compose}
use Rattle.inf_duty.proofs.client_state.ClientState.into_results.Given as goal

abbrev pub invariant-loop-state : goal.invariant-loop-state
invariant-loop-state l =
    (results_of l.state ≡ results_of l.fn.self)
    × (l.state.counts.last ≡ None) × (0 < length l.state.left → l.state.stage ≡ compose)

abbrev pub decreases-loop-state : goal.decreases-loop-state
decreases-loop-state l = length l.state.left
