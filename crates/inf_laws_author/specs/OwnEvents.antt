-- What of a history is an author's own: of a client its Asks, and the Serves of these; of a server its Serves, with
-- the Asks that they name (`serves_of`).
use Rattle.std.specs.Prelude.{ℕ, suc, Bool, false, ◌==◌, if◌then◌else◌, List, [], ◌∷◌, length, Option, Some, None}
use Rattle.std.specs.List.{list_any}
use Rattle.inf_message.specs.declared.event.Event.{Event}
use Rattle.inf_message.specs.declared.event.Event.TheVariants as event
use Rattle.inf_message.specs.History.{Posted, Served, asked_at}

abbrev pub is_by : ℕ → Option Posted → Bool
is_by client None = false
is_by client (Some posted) = posted.ask.from.client == client

-- an Ask of the client, or a Serve that names one
abbrev pub is_own : ℕ → List Event → Event → Bool
is_own client h (event.Ask number ask) = ask.from.client == client
is_own client h (event.Serve number ask_place given) = is_by client (asked_at ask_place h)

-- a client's own events with their places, the newest first
abbrev pub own_events : ℕ → List Event → List (ℕ × Event)
own_events client [] = []
own_events client (e ∷ h) =
    if is_own client h e then (suc (length h), e) ∷ own_events client h else own_events client h

-- whether one of these Serves names the Ask at a place
abbrev pub names : ℕ → List Served → Bool
names ask_place served = list_any (λ (s : Served). s.ask_place == ask_place) served
