use Rattle.std.proofs.Common.{◌≡◌, ◌≤◌, true, length}
use Rattle.inf_client.specs.Client.{IsOnTheWay}
use Rattle.inf_client.specs.Room.{room_between}
use Rattle.inf_duty.specs.ClientStep.{is_ask}
use Rattle.inf_duty.specs.Duty.{has_ask, next_step}
use Rattle.inf_duty.specs.Group.{composed}
use Rattle.inf_client.proofs.group.next_group.Given as goal

abbrev pub invariant-loop-group : goal.invariant-loop-group
invariant-loop-group g l =
    IsOnTheWay (g.R.IdRule.digest_of l.rule) l.initial.state l.state
    × (l.log ≡ l.initial.log)
    × (room_between l.state.who l.state.stage ≤ l.log.room)
    × (has_ask l.state ≡ true)
    × (is_ask (next_step (composed (g.R.IdRule.digest_of l.rule) l.state)) ≡ true)

abbrev pub decreases-loop-group : goal.decreases-loop-group
decreases-loop-group g l = length l.state.left
