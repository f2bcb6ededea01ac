-- What a client may send next.
use Rattle.std.specs.Prelude.{◌≡◌, ℕ, ◌==◌, ◌&&◌, not, Bool, true, false, if◌then◌else◌, List, [], ◌∷◌, length, slice_get, Option, Some, None, is_some}
use Rattle.inf_base.specs.declared.answer.Answer.TheVariants as answer
use Rattle.inf_base.specs.declared.call.Call.{Call}
use Rattle.inf_base.specs.declared.id.Id.{Id}
use Rattle.inf_message.specs.declared.ask.Ask.{Ask}
use Rattle.inf_message.specs.declared.request.Request.{Request}
use Rattle.inf_message.specs.declared.request.Request.TheVariants as request
use Rattle.inf_message.specs.declared.step.Message.{Message}
use Rattle.inf_message.specs.declared.ending.Ending.TheVariants as ending
use Rattle.inf_duty.specs.ClientState.{ClientState, Stage, act, call_ref, compose, ended, placed, winds, wound}
use Rattle.inf_duty.specs.Flow.{clean_up}
use Rattle.inf_duty.specs.Course.{next_course}
use Rattle.inf_duty.specs.Group.{composed, group}
use Rattle.inf_message.specs.Sent.{Sent}
use Rattle.inf_message.specs.Who.{Who}
use Rattle.inf_duty.specs.Messages.{are_none, is_winding}

pub data Next : Type 0 where
  -- this ask, to the server of this number
  asks : ℕ → Ask → Next
  -- nothing, until a message is answered
  waits : Next
  -- nothing any more
  is_over : Next

abbrev pub next_of : ClientState → Option Message → Next
next_of s (Some message) =
    asks message.number (record { from = call_ref s; caller = s.who.caller; request = message.request })
next_of s None = waits

abbrev pub next_in : ClientState → List Call → Next
next_in s [] = is_over
next_in s (call ∷ calls) = next_of s (slice_get (group s.who s.stage) (length s.sent))

-- the next message of the group
abbrev pub next_step : ClientState → Next
next_step s = next_in s s.left

-- ---- want of memory

-- what is settled has a message to send; what is not yet is still to get one
abbrev pub has_message : Who → Stage → Bool
has_message who compose = true
has_message who settled = not (are_none (group who settled))

-- between two groups: there is an ask to make for the call under way. There is none where its kind, or its next
-- message, is not built
abbrev pub has_ask : ClientState → Bool
has_ask s = is_some (next_course s.left) && has_message s.who s.stage

-- memory may be wanting for an ask, but for one that winds the call up
abbrev pub may_give_up : ClientState → Bool
may_give_up s = has_ask s && not (is_winding s.stage)

-- a client that wants memory between two groups takes the clean-up of its next step, and gives its call up
abbrev pub given_up_in : ClientState → Stage → ClientState
given_up_in s (act flow) = wound (ending.Answers answer.NoMemory None) (clean_up s.who flow) s
given_up_in s (winds end ms later) = s
given_up_in s other = ended answer.NoMemory None s

abbrev pub given_up : ClientState → ClientState
given_up s = given_up_in s s.stage

-- the messages of clean-ups
abbrev pub lifts : Request → Bool
lifts (request.Cancel dir) = true
lifts (request.Drop dir) = true
lifts (request.Unseal dir) = true
lifts other = false

-- an ask of a clean-up shows that the client wanted memory for its next step
abbrev pub found_at : (List ℕ → Id) → Request → ClientState → ClientState
found_at digest asked s = if lifts asked then (if may_give_up s then given_up s else s) else composed digest s

-- the client at the call of this number, where it gives up those before it; one that has something to clean up does
-- that first, and one that may not give up its call stays there
abbrev pub at_call : (List ℕ → Id) → ℕ → Request → List Call → ClientState → ClientState
at_call digest number asked [] s = s
at_call digest number asked (call ∷ calls) s =
    if number == s.number then found_at digest asked s
    else (if may_give_up s then at_call digest number asked calls (given_up s) else s)

-- whom the client's ask finds: within a group the next message; between groups it may have given up calls
abbrev pub begun : (List ℕ → Id) → Ask → List Sent → ClientState → ClientState
begun digest ask (x ∷ xs) s = s
begun digest ask [] s = at_call digest ask.from.number ask.request s.left s

-- the ask is the next one, of the call that it names
abbrev pub Duty : (List ℕ → Id) → ClientState → ℕ → Ask → Type 0
Duty digest s number ask = next_step (begun digest ask s.sent s) ≡ asks number ask

abbrev pub asked : (List ℕ → Id) → ℕ → Ask → ClientState → ClientState
asked digest place ask s = placed place (begun digest ask s.sent s)
