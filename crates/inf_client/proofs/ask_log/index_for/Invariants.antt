use Rattle.std.proofs.Common.{◌<◌, ◌≤◌, length}
use Rattle.std.specs.List.{AllWithin}
use Rattle.inf_message.specs.declared.trip.Trip.{Trip}
use Rattle.inf_client.proofs.ask_log.index_for.Given as goal

abbrev pub invariant-loop-index : goal.invariant-loop-index
invariant-loop-index l =
    (l.index ≤ length l.trips) × AllWithin (λ (trip : Trip). l.place < trip.ask_place) l.trips l.index (length l.trips)

abbrev pub decreases-loop-index : goal.decreases-loop-index
decreases-loop-index l = l.index
