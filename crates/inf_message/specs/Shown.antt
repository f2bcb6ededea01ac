-- What the lists of one client's Asks say against the history that they were taken from.
use Rattle.std.specs.Prelude.{◌≡◌, ℕ, List, Option, None, Some}
use Rattle.inf_message.specs.declared.event.Event.{Event}
use Rattle.inf_message.specs.declared.event.Event.TheVariants as event
use Rattle.inf_message.specs.declared.trip.Trip.{Trip}
use Rattle.inf_message.specs.History.{Made, Own, Told, asked_at, event_at, posted_ask}

-- this Ask stands at its place, and the client made it
pub record IsMade (client : ℕ) (h : List Event) (made : Made) : Type 0 where
  pub asked : asked_at made.ask_place h ≡ Some (posted_ask made.number made.ask)
  pub by_client : made.ask.from.client ≡ client

-- a Serve of the Ask at a place stands where the answer says
abbrev pub IsToldAt : List Event → ℕ → Option Told → Type 0
IsToldAt h ask_place None = Unit {0}
IsToldAt h ask_place (Some told) =
    (number : ℕ) × (event_at told.serve_place h ≡ Some (event.Serve number ask_place told.reply))

pub record IsOwn (client : ℕ) (h : List Event) (own : Own) : Type 0 where
  pub made : IsMade client h own.made
  pub told : IsToldAt h own.made.ask_place own.told

-- the Ask and the Serve of a trip stand at their places, and the client made the Ask
pub record IsTrip (client : ℕ) (h : List Event) (trip : Trip) : Type 0 where
  pub asked : asked_at trip.ask_place h ≡ Some (posted_ask trip.number trip.ask)
  pub served : (number : ℕ) × (event_at trip.serve_place h ≡ Some (event.Serve number trip.ask_place trip.reply))
  pub by_client : trip.ask.from.client ≡ client
