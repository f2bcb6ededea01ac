-- What the Serves of a history decide, one after another, as far as the plain tree has a say in it.
use Rattle.std.specs.Prelude.{ℕ, suc, Bool, true, false, List, [], ◌∷◌, ◌++◌, length, filter, Option, Some, None}
use Rattle.inf_base.specs.declared.answer.Answer.{Answer}
use Rattle.inf_base.specs.declared.answer.Answer.TheVariants as answer
use Rattle.inf_base.specs.declared.call.Call.{Call}
use Rattle.inf_base.specs.declared.id.Id.{Id}
use Rattle.inf_duty.specs.After.{client_after}
use Rattle.inf_duty.specs.World.{World}
use Rattle.inf_message.specs.declared.ending.Ending.TheVariants as ending
use Rattle.inf_message.specs.declared.turn.Turn.TheVariants as turn
use Rattle.inf_duty.specs.ClientState.{ClientState, Stage, winds}
use Rattle.inf_duty.specs.Turn.{is_complete, learned, recorded, told_in, turn_at}
use Rattle.inf_message.specs.Sent.{has_place}
use Rattle.inf_message.specs.declared.ending.Ending.{Ending}
use Rattle.inf_message.specs.declared.turn.Turn.{Turn}
use Rattle.inf_message.specs.declared.event.Event.{Event}
use Rattle.inf_message.specs.declared.event.Event.TheVariants as event
use Rattle.inf_message.specs.History.{Posted, Told, asked_at, told_reply}
use Rattle.inf_tree.specs.Replay.{Decided}

-- an answer that is the tree's; any other says that the call was given up
abbrev pub is_of_tree : Answer → Bool
is_of_tree (answer.Again by) = false
is_of_tree (answer.IdClash own kept) = false
is_of_tree answer.NoMemory = false
is_of_tree given = true

-- the calls that the tree has a say in
abbrev pub of_tree : List Decided → List Decided
of_tree decided = filter (λ (d : Decided). is_of_tree d.answer) decided

abbrev pub decided_call : ClientState → List Call → Answer → List Decided
decided_call s [] given = []
decided_call s (call ∷ calls) given = record { caller = s.who.caller; call = call; answer = given } ∷ []

-- a call that has an answer with a place is decided, whatever is still to be sent for it
abbrev pub decided_by_end : ClientState → Ending → List Decided
decided_by_end s (ending.Answers given (Some place)) = of_tree (decided_call s s.left given)
decided_by_end s (ending.Answers given None) = []
decided_by_end s ending.Retries = []

-- what winds up a call that was decided before decides nothing more
abbrev pub decided_by_turn : ClientState → Turn Stage → List Decided
decided_by_turn s (turn.GoesOn next) = []
decided_by_turn s (turn.WindsUp end more) = decided_by_end s end

abbrev pub decided_at_stage : (List ℕ → Id) → ClientState → Stage → List Decided
decided_at_stage digest s (winds end ms later) = []
decided_at_stage digest s other_stage = decided_by_turn s (turn_at digest (learned other_stage s) other_stage)

abbrev pub decided_if : (List ℕ → Id) → Bool → ClientState → List Decided
decided_if digest true s = decided_at_stage digest s s.stage
decided_if digest false s = []

abbrev pub decided_when : (List ℕ → Id) → Bool → ℕ → Told → ClientState → List Decided
decided_when digest true ask_place told s =
    decided_if digest (is_complete (recorded ask_place (told_in s told) s)) (recorded ask_place (told_in s told) s)
decided_when digest false ask_place told s = []

-- what a client's call comes to by this answer, if it decides it
abbrev pub decided_for : (List ℕ → Id) → ℕ → Told → ClientState → List Decided
decided_for digest ask_place told s = decided_when digest (has_place ask_place s.sent) ask_place told s

abbrev pub decided_at : World → List Event → ℕ → Told → Option Posted → List Decided
decided_at world h ask_place told (Some posted) =
    decided_for world.digest ask_place told (client_after world posted.ask.from.client h)
decided_at world h ask_place told None = []

-- the calls that the Serves of a history decide, in the order of these Serves
abbrev pub decided_in : World → List Event → List Decided
decided_in world [] = []
decided_in world (event.Ask number ask ∷ h) = decided_in world h
decided_in world (event.Serve number ask_place given ∷ h) =
    decided_in world h ++ decided_at world h ask_place (told_reply (suc (length h)) given) (asked_at ask_place h)
