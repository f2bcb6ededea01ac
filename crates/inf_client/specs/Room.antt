-- For how many asks a client has to have room that it may come to make where memory is wanting: those that are left of
-- its group, and those that wind its call up.
use Rattle.std.specs.Prelude.{ℕ, ◌+◌, Bool, false, List, [], ◌∷◌, length}
use Rattle.inf_client.specs.Client.{ready_in}
use Rattle.inf_duty.specs.ClientState.{ClientState, Stage, act, compose, round, winds}
use Rattle.inf_duty.specs.Flow.{clean_up}
use Rattle.inf_message.specs.declared.step.Message.{Message}
use Rattle.inf_message.specs.Sent.{Sent}
use Rattle.inf_message.specs.Who.{Who}

-- the messages of all steps
abbrev pub asks_in : List (List Message) → ℕ
asks_in [] = 0
asks_in (ms ∷ later) = length ms + asks_in later

-- between two groups: for the clean-up of the next step, or for what the call is wound up by
abbrev pub room_between : Who → Stage → ℕ
room_between who compose = 0
room_between who (round keys) = 0
room_between who (act flow) = asks_in (clean_up who flow)
room_between who (winds ending ms later) = asks_in (ms ∷ later)

-- once it was told to ask: what follows a group has two messages at most
abbrev pub room_within : Stage → ℕ
room_within compose = 0
room_within (round keys) = 2
room_within (act flow) = 2
room_within (winds ending ms later) = asks_in later

abbrev pub room_in : Bool → List Sent → ClientState → ℕ
room_in false [] s = room_between s.who s.stage
room_in handed sent s = room_within s.stage

abbrev pub room_needed : Bool → ClientState → ℕ
room_needed handed s = length (ready_in handed s.sent s) + room_in handed s.sent s
