-- Calls that were under way at a place, by what their results tell.
use Rattle.std.specs.Prelude.{◌≡◌, ℕ, ◌<◌, List, Some, IfSome}
use Rattle.std.specs.List.{Contains}
use Rattle.inf_base.specs.declared.caller.CallRef.{CallRef}
use Rattle.inf_duty.specs.World.{World}
use Rattle.inf_laws_history.specs.Counted.{IsOfScript}
use Rattle.inf_message.specs.declared.call_result.CallResult.{CallResult}

-- its first Ask stands before the place; its last Serve, where it has ended, behind it
pub record IsAround (place : ℕ) (result : CallResult) : Type 0 where
  pub first : ℕ
  pub began : result.first ≡ Some first
  pub earlier : first < place
  pub later : IfSome result.last (λ last. place < last)

-- the call is one of the script, and its result is around the place
pub record WasUnderWay (world : World) (results : List CallResult) (place : ℕ) (by : CallRef) : Type 0 where
  pub of_script : IsOfScript world by
  pub result : CallResult
  pub told : Contains results result
  pub own : result.call ≡ by
  pub around : IsAround place result
