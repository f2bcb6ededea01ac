-- A history: the events that were made, the newest first. The place of an event counts from 1, from the oldest on, so
-- that the newest event's place is the length.
use Rattle.std.specs.Prelude.{ℕ, suc, Bool, false, ◌==◌, if◌then◌else◌, List, [], ◌∷◌, length, map, Option, None, Some}
use Rattle.std.specs.List.{filter_map, list_any}
use Rattle.inf_message.specs.declared.ask.Ask.{Ask}
use Rattle.inf_message.specs.declared.event.Event.{Event}
use Rattle.inf_message.specs.declared.event.Event.TheVariants as event
use Rattle.inf_message.specs.declared.reply.Reply.{Reply}
use Rattle.inf_message.specs.declared.trip.Trip.{Trip}

-- ---- events by place

abbrev pub event_at : ℕ → List Event → Option Event
event_at place [] = None
event_at place (e ∷ h) = if place == suc (length h) then Some e else event_at place h

-- an ask, and the server that it was sent to
pub record Posted : Type 0 where
  pub number : ℕ
  pub ask : Ask

abbrev pub posted_ask : ℕ → Ask → Posted
posted_ask number ask = record { number = number; ask = ask }

-- the Ask at a place, if an Ask stands there
abbrev pub asked_at : ℕ → List Event → Option Posted
asked_at place [] = None
asked_at place (event.Ask number ask ∷ h) =
    if place == suc (length h) then Some (posted_ask number ask) else asked_at place h
asked_at place (event.Serve number ask_place reply ∷ h) = asked_at place h

abbrev pub serves : ℕ → Event → Bool
serves place (event.Ask number ask) = false
serves place (event.Serve number ask_place reply) = ask_place == place

-- whether some Serve names the Ask at a place
abbrev pub is_served : ℕ → List Event → Bool
is_served place h = list_any (serves place) h

-- ---- events by server

-- what a server served: the ask, its place, and the reply
pub record Served : Type 0 where
  pub ask : Ask
  pub ask_place : ℕ
  pub reply : Reply

abbrev pub served_ask : Ask → ℕ → Reply → Served
served_ask ask ask_place reply = record { ask = ask; ask_place = ask_place; reply = reply }

-- a Serve that names no Ask counts for nothing
abbrev pub with_served : Option Posted → ℕ → Reply → List Served → List Served
with_served (Some posted) ask_place reply before = served_ask posted.ask ask_place reply ∷ before
with_served None ask_place reply before = before

-- what one server has served, the newest first
abbrev pub serves_of : ℕ → List Event → List Served
serves_of server [] = []
serves_of server (event.Ask number ask ∷ h) = serves_of server h
serves_of server (event.Serve number ask_place reply ∷ h) =
    if number == server then with_served (asked_at ask_place h) ask_place reply (serves_of server h)
    else serves_of server h

-- ---- events by client

-- an Ask of a client: the server that it was sent to, and its place
pub record Made : Type 0 where
  pub number : ℕ
  pub ask : Ask
  pub ask_place : ℕ

abbrev pub made_ask : ℕ → Ask → ℕ → Made
made_ask number ask ask_place = record { number = number; ask = ask; ask_place = ask_place }

-- how an Ask was answered, and at which place
pub record Told : Type 0 where
  pub serve_place : ℕ
  pub reply : Reply

abbrev pub told_reply : ℕ → Reply → Told
told_reply serve_place reply = record { serve_place = serve_place; reply = reply }

-- an Ask of a client, and its answer, if it was served
pub record Own : Type 0 where
  pub made : Made
  pub told : Option Told

abbrev pub own_ask : Made → Option Told → Own
own_ask made told = record { made = made; told = told }

-- the first answer is the one that counts
abbrev pub or_told : Option Told → Told → Told
or_told (Some told) later = told
or_told None later = later

-- the same Ask once the Serve of the Ask at a place was made
abbrev pub served_at : ℕ → Told → Own → Own
served_at ask_place told own =
    if own.made.ask_place == ask_place then own_ask own.made (Some (or_told own.told told)) else own

-- the Asks of one client in the order of asking, the newest first
abbrev pub asks_of : ℕ → List Event → List Own
asks_of client [] = []
asks_of client (event.Ask number ask ∷ h) =
    if ask.from.client == client then own_ask (made_ask number ask (suc (length h))) None ∷ asks_of client h
    else asks_of client h
asks_of client (event.Serve number ask_place reply ∷ h) =
    map (served_at ask_place (told_reply (suc (length h)) reply)) (asks_of client h)

abbrev pub trip_with : Made → Option Told → Option Trip
trip_with made None = None
trip_with made (Some told) =
    Some (record {
      number = made.number;
      ask = made.ask;
      ask_place = made.ask_place;
      serve_place = told.serve_place;
      reply = told.reply;
    })

abbrev pub trip_of : Own → Option Trip
trip_of own = trip_with own.made own.told

-- the served Asks of one client in the order of asking, the newest first
abbrev pub trips_of : ℕ → List Event → List Trip
trips_of client h = filter_map trip_of (asks_of client h)

abbrev pub unless_told : Made → Option Told → Option Made
unless_told made None = Some made
unless_told made (Some told) = None

abbrev pub waiting_in : Own → Option Made
waiting_in own = unless_told own.made own.told

-- the Asks of one client that were not served yet, the newest first
abbrev pub waiting_of : ℕ → List Event → List Made
waiting_of client h = filter_map waiting_in (asks_of client h)
