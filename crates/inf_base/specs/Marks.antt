-- Marks: what was told under a key before this place may be old.
use Rattle.std.specs.Prelude.{ℕ, Bool}
use Rattle.inf_base.specs.declared.caller.CallRef.{CallRef}
use Rattle.inf_base.specs.declared.key.Key.{Key}

-- the call changes, or changed, the access object under the key, which it holds since that place
pub record Mark : Type 0 where
  pub key : Key
  pub hold : ℕ
  pub by : CallRef
  pub is_finished : Bool
