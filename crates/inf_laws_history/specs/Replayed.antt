-- The calls of results in order of place, with their answers, and whether they replay.
use Rattle.std.specs.Prelude.{ℕ, ◌-◌, List, length, filter_map, slice_get, Option, Some, None}
use Rattle.inf_base.specs.declared.call.Call.{Call}
use Rattle.inf_base.specs.declared.setup.ClientLine.{ClientLine}
use Rattle.inf_duty.specs.Outcome.{Outcome, in_order}
use Rattle.inf_duty.specs.World.{World}
use Rattle.inf_message.specs.declared.call_result.CallResult.{CallResult}
use Rattle.inf_message.specs.declared.event.Event.{Event}
use Rattle.inf_tree.specs.Replay.{Decided, Replays}
use Rattle.inf_tree.specs.Tree.{opening_tree}

abbrev pub decided_call : ClientLine → CallResult → Option Call → Option Decided
decided_call line result (Some call) = Some (record { caller = line.caller; call = call; answer = result.answer })
decided_call line result None = None

abbrev pub decided_by : CallResult → ℕ → Option ClientLine → Option Decided
decided_by result before (Some line) = decided_call line result (slice_get line.calls before)
decided_by result before None = None

-- a result's caller, call and answer
abbrev pub decided_of : World → CallResult → Option Decided
decided_of world result = decided_by result (result.call.number - 1) (slice_get world.setup.clients result.call.client)

-- the calls that have a place, in order of place, with their answers
abbrev pub decisions : World → List Event → List CallResult → List Decided
decisions world h results = filter_map (decided_of world) (in_order (length h) results)

-- whatever results agree with the history, their calls in order of place are answered as the plain tree answers them
abbrev pub AllReplay : World → List Event → Type 0
AllReplay world h = (results : List CallResult) → Outcome world h results
    → Replays opening_tree (decisions world h results)
