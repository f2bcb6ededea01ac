-- A client by its own Asks, in the order of asking, each with its answer if it was served.
use Rattle.std.specs.Prelude.{◌≡◌, ℕ, Bool, true, ◌&&◌, nat_lt, List, [], ◌∷◌, fold, map, reverse, Option, Some, None}
use Rattle.inf_base.specs.declared.id.Id.{Id}
use Rattle.inf_duty.specs.Duty.{asked}
use Rattle.inf_duty.specs.Start.{start}
use Rattle.inf_duty.specs.World.{World}
use Rattle.inf_duty.specs.declared.own.OwnAsk.{OwnAsk}
use Rattle.inf_duty.specs.ClientState.{ClientState}
use Rattle.inf_duty.specs.Turn.{served}
use Rattle.inf_message.specs.declared.reply.Reply.{Reply}
use Rattle.inf_message.specs.declared.event.Event.{Event}
use Rattle.inf_message.specs.History.{Own, Told, asks_of, told_reply}

-- the client once an Ask was answered, if it was
abbrev pub after_answer : (List ℕ → Id) → ℕ → Option (ℕ × Reply) → ClientState → ClientState
after_answer digest ask_place None s = s
after_answer digest ask_place (Some told) s = served digest ask_place (told_reply told.0 told.1) s

-- the client once it has made an Ask, and knows the answer
abbrev pub after_own : (List ℕ → Id) → ClientState → OwnAsk → ClientState
after_own digest s own = after_answer digest own.ask_place own.told (asked digest own.ask_place own.ask s)

-- the state of a client by its own Asks
abbrev pub client_of : World → ℕ → List OwnAsk → ClientState
client_of world client own = fold (after_own world.digest) (start world client) own

abbrev pub rises_from : ℕ → List OwnAsk → Bool
rises_from last [] = true
rises_from last (own ∷ later) = nat_lt last own.ask_place && rises_from own.ask_place later

-- the Asks stand in the order of asking; places count from 1
abbrev pub AreInOrder : List OwnAsk → Type 0
AreInOrder own = rises_from 0 own ≡ true

abbrev pub told_pair : Option Told → Option (ℕ × Reply)
told_pair None = None
told_pair (Some told) = Some (told.serve_place, told.reply)

abbrev pub own_of : Own → OwnAsk
own_of own =
    record { number = own.made.number; ask = own.made.ask; ask_place = own.made.ask_place; told = told_pair own.told }

-- the Asks of a client in a history, the oldest first
abbrev pub own_asks : ℕ → List Event → List OwnAsk
own_asks client h = map own_of (reverse (asks_of client h))
