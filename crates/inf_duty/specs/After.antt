-- The state of a client after a history.
use Rattle.std.specs.Prelude.{ℕ, suc, ◌==◌, if◌then◌else◌, List, [], ◌∷◌, length}
use Rattle.inf_duty.specs.Duty.{asked}
use Rattle.inf_duty.specs.Start.{start}
use Rattle.inf_duty.specs.World.{World}
use Rattle.inf_duty.specs.ClientState.{ClientState}
use Rattle.inf_duty.specs.Turn.{served}
use Rattle.inf_message.specs.declared.event.Event.{Event}
use Rattle.inf_message.specs.declared.event.Event.TheVariants as event
use Rattle.inf_message.specs.History.{told_reply}

-- the state of a client after its own Asks, and the Serves of these
abbrev pub client_after : World → ℕ → List Event → ClientState
client_after world client [] = start world client
client_after world client (event.Ask number ask ∷ h) =
    if ask.from.client == client then asked world.digest (suc (length h)) ask (client_after world client h)
    else client_after world client h
client_after world client (event.Serve number ask_place given ∷ h) =
    served world.digest ask_place (told_reply (suc (length h)) given) (client_after world client h)
