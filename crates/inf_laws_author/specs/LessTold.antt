-- The same Asks of a client, of which more are answered.
use Rattle.std.specs.Prelude.{◌≡◌, ◌⊎◌, false, List, [], ◌∷◌, None}
use Rattle.std.specs.List.{list_all}
use Rattle.inf_duty.specs.declared.own.OwnAsk.{OwnAsk}
use Rattle.inf_duty.specs.ClientState.{ClientState}
use Rattle.inf_message.specs.Sent.{is_told}

-- one Ask, at its place; it was told the same before, or nothing yet
pub record IsSameAsk (before now : OwnAsk) : Type 0 where
  pub number : before.number ≡ now.number
  pub ask : before.ask ≡ now.ask
  pub ask_place : before.ask_place ≡ now.ask_place
  pub told : (before.told ≡ None) ⊎ (before.told ≡ now.told)

-- the same Asks in one order
abbrev pub LessTold : List OwnAsk → List OwnAsk → Type 0
LessTold [] [] = Unit {0}
LessTold (before ∷ earlier) (now ∷ later) = IsSameAsk before now × LessTold earlier later
LessTold asks others = ⊥

-- an Ask of the client's present group is not answered yet
abbrev pub HasWaiting : ClientState → Type 0
HasWaiting s = list_all is_told s.sent ≡ false
