use Rattle.std.proofs.Common.{◌≡◌, ◌&&◌, ◌-◌, length, drop}
use Rattle.std.specs.List.{find}
use Rattle.inf_sched.specs.Waiting.{is_open, is_to}
use Rattle.inf_sched.proofs.queue.Queue.find_to.Given as goal

abbrev pub invariant-loop-posting : goal.invariant-loop-posting
invariant-loop-posting g l =
    find (λ p. is_to l.number p && is_open l.core.history p) (drop l.index l.self) ≡ find (λ p. is_to l.number p && is_open l.core.history p) l.self

abbrev pub decreases-loop-posting : goal.decreases-loop-posting
decreases-loop-posting g l = length l.self - l.index
