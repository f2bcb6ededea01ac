-- A history that is kept in a larger room replays as well.
use Rattle.std.proofs.Common.{◌≡◌, List, reverse, sym, subst}
use Rattle.inf_duty.specs.World.{World}
use Rattle.inf_laws_history.specs.Legal.{Legal}
use Rattle.inf_laws_history.specs.Replayed.{AllReplay}
use Rattle.inf_message.specs.declared.event.Event.{Event}

pub all_replay_in : ((world : World) (h : List Event) → Legal world h → AllReplay world h)
    → (world : World) (events room : List Event) → room ≡ events → Legal world (reverse events) → AllReplay world (reverse room)
all_replay_in law world events room same legal =
    law world (reverse room) (subst (λ (es : List Event). Legal world (reverse es)) (sym same) legal)
