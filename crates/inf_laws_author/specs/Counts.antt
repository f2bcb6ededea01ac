-- How many Asks a history has, and how many Serves.
use Rattle.std.specs.Prelude.{ℕ, suc, List, [], ◌∷◌}
use Rattle.inf_message.specs.declared.event.Event.{Event}
use Rattle.inf_message.specs.declared.event.Event.TheVariants as event

abbrev pub asks_in : List Event → ℕ
asks_in [] = 0
asks_in (event.Ask number ask ∷ h) = suc (asks_in h)
asks_in (event.Serve number ask_place given ∷ h) = asks_in h

abbrev pub serves_in : List Event → ℕ
serves_in [] = 0
serves_in (event.Ask number ask ∷ h) = serves_in h
serves_in (event.Serve number ask_place given ∷ h) = suc (serves_in h)
