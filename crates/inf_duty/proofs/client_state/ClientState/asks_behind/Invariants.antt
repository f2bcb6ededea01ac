use Rattle.std.proofs.Common.{◌≡◌, ◌≤◌, drop, map, take}
use Rattle.inf_duty.specs.Group.{group}
use Rattle.inf_duty.specs.Messages.{post_of}
use Rattle.inf_duty.proofs.client_state.ClientState.asks_behind.Given as goal

abbrev pub invariant-loop-index : goal.invariant-loop-index
invariant-loop-index l =
    (1 ≤ l.index) × (l.posts.items ≡ drop 1 (take l.index (map (post_of l.self) (group l.self.who l.self.stage))))
