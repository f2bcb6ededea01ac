-- What a step of a call keeps: all is owned as before, and told entries stay true, or their directories are gone.
use Rattle.std.specs.Prelude.{◌≡◌, ℕ}
use Rattle.inf_base.specs.declared.access.Access.{Access}
use Rattle.inf_base.specs.declared.key.Key.{Key}
use Rattle.inf_laws_directory.specs.Objects.{Objects, Service}
use Rattle.inf_laws_directory.specs.Owned.{AreOwned}
use Rattle.inf_laws_directory.specs.Phases.{Phases}
use Rattle.inf_laws_directory.specs.Told.{IsToldAs}

pub record Keeps (service : Service) (old new : Objects) (root : Access) (before after : Phases) : Type 0 where
  pub owned : AreOwned service new root after
  pub told : (key : Key) (access : Access) → IsToldAs service old root before key access
      → IsToldAs service new root after key access

-- the same, where entries of this birth were told to nobody yet
pub record KeepsOlder (service : Service) (place : ℕ) (old new : Objects) (root : Access)
    (before after : Phases) : Type 0 where
  pub owned : AreOwned service new root after
  pub told : (key : Key) (access : Access) → (access.born ≡ place → ⊥)
      → IsToldAs service old root before key access → IsToldAs service new root after key access
