-- Words for stages and messages that the code asks about.
use Rattle.std.specs.Prelude.{ℕ, ◌==◌, ◌&&◌, not, Bool, true, false, List, [], ◌∷◌, length}
use Rattle.inf_duty.specs.ClientState.{ClientState, Stage, call_ref, compose, is_round, winds}
use Rattle.inf_duty.specs.Group.{group}
use Rattle.inf_message.specs.declared.ask.Ask.{Ask}
use Rattle.inf_message.specs.declared.step.Message.{Message}
use Rattle.inf_message.specs.Who.{Who}

abbrev pub are_none : {T : Type 0} → List T → Bool
are_none [] = true
are_none (x ∷ xs) = false

-- nothing is settled yet
abbrev pub is_compose : Stage → Bool
is_compose compose = true
is_compose other = false

-- nothing is left of the call but what winds it up
abbrev pub is_winding : Stage → Bool
is_winding (winds ending ms later) = true
is_winding other = false

-- the group is one message, and no round
abbrev pub has_one_message : Who → Stage → Bool
has_one_message who stage = not (is_round stage) && length (group who stage) == 1

-- the ask that sends a message, and the number of the server that it is for
abbrev pub post_of : ClientState → Message → ℕ × Ask
post_of s message = (message.number, record { from = call_ref s; caller = s.who.caller; request = message.request })
