-- What comes of the answers to a group of a flow.
use Rattle.std.specs.Prelude.{ℕ, Bool, true, false, List, [], Option, Some, None}
use Rattle.inf_base.specs.declared.answer.Answer.{Answer}
use Rattle.inf_base.specs.declared.answer.Answer.TheVariants as answer
use Rattle.inf_message.specs.declared.ending.Ending.TheVariants as ending
use Rattle.inf_message.specs.declared.reply.Reply.{Reply}
use Rattle.inf_message.specs.declared.reply.Reply.TheVariants as reply
use Rattle.inf_message.specs.declared.step.Message.{Message}
use Rattle.inf_message.specs.declared.turn.Turn.{Turn}
use Rattle.inf_message.specs.declared.turn.Turn.TheVariants as turn
use Rattle.inf_message.specs.History.{Told}
use Rattle.inf_message.specs.Sent.{Sent}

abbrev pub ends : {F : Type 0} → Answer → ℕ → Turn F
ends given place = turn.WindsUp (ending.Answers given (Some place)) []

abbrev pub again : {F : Type 0} → Turn F
again = turn.WindsUp ending.Retries []

abbrev pub done : {F : Type 0} → ℕ → List (List Message) → Turn F
done place more = turn.WindsUp (ending.Answers answer.Done (Some place)) more

-- where a message does not succeed: the clean-up, and then this
abbrev pub fails : {F : Type 0} → List (List Message) → ℕ → Reply → Turn F
fails clean_ups place (reply.Busy by at born) = turn.WindsUp (ending.Answers (answer.Again by) (Some place)) clean_ups
fails clean_ups place (reply.Refused error) =
    turn.WindsUp (ending.Answers (answer.Refused error) (Some place)) clean_ups
fails clean_ups place reply.NoMem = turn.WindsUp (ending.Answers answer.NoMemory None) clean_ups
fails clean_ups place any_reply = turn.WindsUp ending.Retries clean_ups

-- what comes of the answer to one Ask of a group; without one the attempt begins again
abbrev pub after_told : {F : Type 0} → (ℕ → ℕ → Reply → Turn F) → ℕ → Option Told → Turn F
after_told after ask_place None = again
after_told after ask_place (Some told) = after ask_place told.serve_place told.reply

-- what comes of a group, by the Ask that decides it
abbrev pub after_deciding : {F : Type 0} → (ℕ → ℕ → Reply → Turn F) → Option Sent → Turn F
after_deciding after None = again
after_deciding after (Some x) = after_told after x.place x.told

-- the same with what goes on as another
abbrev pub turn_as : {F G : Type 0} → (F → G) → Turn F → Turn G
turn_as wrap (turn.GoesOn next) = turn.GoesOn (wrap next)
turn_as wrap (turn.WindsUp end more) = turn.WindsUp end more

abbrev pub goes_on : {F : Type 0} → Turn F → Bool
goes_on (turn.GoesOn next) = true
goes_on (turn.WindsUp end more) = false
