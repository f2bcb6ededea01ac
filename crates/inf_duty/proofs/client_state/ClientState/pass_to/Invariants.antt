use Rattle.std.proofs.Common.{◌≡◌, ℕ, List, []}
use Rattle.inf_base.specs.declared.id.Id.{Id}
use Rattle.inf_duty.specs.Duty.{at_call}
use Rattle.inf_duty.specs.Kept.{weight}
use Rattle.inf_duty.proofs.client_state.ClientState.pass_to.Given as goal

abbrev pub invariant-loop-self : goal.invariant-loop-self
invariant-loop-self l =
    ((digest : List ℕ → Id) → at_call digest l.number l.request l.self.left l.self ≡ at_call digest l.number l.request l.initial.self.left l.initial.self)
    × (l.self.sent ≡ [])

abbrev pub decreases-loop-self : goal.decreases-loop-self
decreases-loop-self l = weight l.self
