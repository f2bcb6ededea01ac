-- Results and the calls of the script: whose call a result is of, whether an answer was decided, and that each answer
-- that was is among those that are replayed.
use Rattle.std.specs.Prelude.{◌≡◌, ◌≤◌, ◌-◌, Bool, true, false, List, slice_get, Some, is_some}
use Rattle.std.specs.List.{Contains}
use Rattle.inf_base.specs.declared.answer.Answer.{Answer}
use Rattle.inf_base.specs.declared.answer.Answer.TheVariants as answer
use Rattle.inf_base.specs.declared.call.Call.{Call}
use Rattle.inf_base.specs.declared.caller.CallRef.{CallRef}
use Rattle.inf_base.specs.declared.setup.ClientLine.{ClientLine}
use Rattle.inf_duty.specs.World.{World}
use Rattle.inf_laws_history.specs.Replayed.{decisions}
use Rattle.inf_message.specs.declared.call_result.CallResult.{CallResult}
use Rattle.inf_message.specs.declared.event.Event.{Event}
use Rattle.inf_tree.specs.Replay.{Decided}

-- the answer came with a Serve; the other two say that none did
abbrev pub is_decided : Answer → Bool
is_decided answer.NoMemory = false
is_decided answer.Unanswered = false
is_decided given = true

-- the call is one of the script
pub record IsOfScript (world : World) (ref : CallRef) : Type 0 where
  pub line : ClientLine
  pub client : slice_get world.setup.clients ref.client ≡ Some line
  pub call : Call
  pub counted : 1 ≤ ref.number
  pub called : slice_get line.calls (ref.number - 1) ≡ Some call

-- the call that has this reference, with this answer
abbrev pub answered : {world : World} → (ref : CallRef) → IsOfScript world ref → Answer → Decided
answered ref is given = record { caller = is.line.caller; call = is.call; answer = given }

-- the result is of a call of the script. It has a place exactly where its answer was decided, and is then replayed
pub record IsCounted (world : World) (h : List Event) (results : List CallResult) (result : CallResult) : Type 0 where
  pub of_script : IsOfScript world result.call
  pub placed : is_some result.place ≡ is_decided result.answer
  pub replayed : is_decided result.answer ≡ true
      → Contains (decisions world h results) (answered result.call of_script result.answer)
