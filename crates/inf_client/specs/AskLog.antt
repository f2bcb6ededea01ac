-- What a client asked and was answered, and for how many more asks it has room.
use Rattle.std.specs.Prelude.{ℕ, ◌+◌, ◌-◌, ◌<◌, ◌≤◌, ◌==◌, Bool, if◌then◌else◌, nat_lt, List, [], ◌∷◌, ◌++◌, map, None, Some}
use Rattle.std.specs.List.{All, AllPairs, filter_map, list_any}
use Rattle.inf_message.specs.declared.trip.Trip.{Trip}
use Rattle.inf_message.specs.History.{Made, Own, Posted, Told, made_ask, own_ask, served_at, told_reply, trip_of, waiting_in}

pub record AskLog : Type 0 where
  -- the Asks in the order of asking, each with its answer, if it was served
  pub asks : List Own
  -- for how many more asks room was taken, and for their answers
  pub room : ℕ

abbrev pub no_asks : AskLog
no_asks = record { asks = []; room = 0 }

abbrev pub with_room : ℕ → AskLog → AskLog
with_room count log = record log { room = count }

abbrev pub made_at : ℕ → Posted → Made
made_at place posted = made_ask posted.number posted.ask place

-- this ask was made, and stands at this place, in room that was taken
abbrev pub asked_log : ℕ → Posted → AskLog → AskLog
asked_log place posted log =
    record log { asks = log.asks ++ own_ask (made_at place posted) None ∷ []; room = log.room - 1 }

-- the Ask at this place was answered
abbrev pub told_log : ℕ → Told → AskLog → AskLog
told_log ask_place told log = record log { asks = map (served_at ask_place told) log.asks }

-- the Asks that were answered, each with its answer, in the order of asking
abbrev pub trips_in : AskLog → List Trip
trips_in log = filter_map trip_of log.asks

-- the Asks that wait
abbrev pub waiting_asks : List Own → List Made
waiting_asks asks = filter_map waiting_in asks

abbrev pub is_at : ℕ → Made → Bool
is_at place made = made.ask_place == place

abbrev pub waits_at : ℕ → List Own → Bool
waits_at place asks = list_any (is_at place) (waiting_asks asks)

-- ---- places

abbrev pub places_of : List Own → List ℕ
places_of asks = map (λ (own : Own). own.made.ask_place) asks

abbrev pub trip_places : List Trip → List ℕ
trip_places trips = map (λ (trip : Trip). trip.ask_place) trips

-- each place is below all that follow it
abbrev pub Rise : List ℕ → Type 0
Rise places = AllPairs (λ earlier later. earlier < later) places

-- the place is above that of each Ask so far
abbrev pub IsLater : ℕ → List Own → Type 0
IsLater place asks = All (λ (own : Own). own.made.ask_place < place) asks

-- ---- what is kept of it in code

abbrev pub own_of_trip : Trip → Own
own_of_trip trip =
    own_ask (made_ask trip.number trip.ask trip.ask_place) (Some (told_reply trip.serve_place trip.reply))

-- an Ask put before the first that stands at a later place
abbrev pub with_own : Own → List Own → List Own
with_own own [] = own ∷ []
with_own own (other ∷ others) =
    if nat_lt own.made.ask_place other.made.ask_place then own ∷ other ∷ others else other ∷ with_own own others

-- the Asks that were answered, and those that wait put among them
abbrev pub merged : List Trip → List Made → List Own
merged trips [] = map own_of_trip trips
merged trips (made ∷ waiting) = with_own (own_ask made None) (merged trips waiting)

abbrev pub trip_told : Made → Told → Trip
trip_told made told = record {
  number = made.number;
  ask = made.ask;
  ask_place = made.ask_place;
  serve_place = told.serve_place;
  reply = told.reply;
}

-- places rise in the order of asking, and each ask that room was taken for finds room: among those that wait, and
-- then, as each that waits, for its answer
pub record IsKept (trips : List Trip) (waiting : List Made) (answered asked room : ℕ)
    (most_answered most_asked : ℕ) : Type 0 where
  pub places : Rise (places_of (merged trips waiting))
  pub answers : answered + (asked + room) ≤ most_answered
  pub asks : asked + room ≤ most_asked
