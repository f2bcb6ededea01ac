-- What calls have in hand while they make or remove a directory: the phases of a call.
use Rattle.std.specs.Prelude.{◌≡◌, ℕ, if◌then◌else◌, List}
use Rattle.inf_base.specs.declared.caller.CallRef.{CallRef}
use Rattle.inf_base.specs.declared.directory.DirRef.{DirRef}
use Rattle.inf_base.specs.declared.triple.Triple.{Triple}
use Rattle.inf_base.specs.Same.{is_same_call}

pub data Phase : Type 0 where
  -- nothing
  idle : Phase
  -- a name of this directory is kept for a directory of this birth
  has_reserved : DirRef → List ℕ → Triple → Phase
  -- and the content object of the directory to come is made
  has_made : DirRef → List ℕ → Triple → DirRef → Phase
  -- the directory under this name of a directory is sealed
  has_sealed : DirRef → List ℕ → DirRef → Phase
  -- and unlinked
  has_unlinked : DirRef → Phase

-- the phase of each call
abbrev pub Phases : Type 0
Phases = CallRef → Phase

abbrev pub with_phase : CallRef → Phase → Phases → Phases
with_phase call phase phases other = if is_same_call other call then phase else phases other

-- it keeps this name of this directory
abbrev pub IsReserving : Phase → DirRef → List ℕ → Type 0
IsReserving idle dir name = ⊥
IsReserving (has_reserved parent kept birth) dir name = (parent ≡ dir) × (kept ≡ name)
IsReserving (has_made parent kept birth made) dir name = (parent ≡ dir) × (kept ≡ name)
IsReserving (has_sealed parent sealed target) dir name = ⊥
IsReserving (has_unlinked target) dir name = ⊥

-- it keeps others out of this directory
abbrev pub IsSealing : Phase → DirRef → Type 0
IsSealing idle dir = ⊥
IsSealing (has_reserved parent name birth) dir = ⊥
IsSealing (has_made parent name birth made) dir = ⊥
IsSealing (has_sealed parent name target) dir = target ≡ dir
IsSealing (has_unlinked target) dir = target ≡ dir

-- this directory stands nowhere yet, or no more
abbrev pub IsLoose : Phase → DirRef → Type 0
IsLoose idle dir = ⊥
IsLoose (has_reserved parent name birth) dir = ⊥
IsLoose (has_made parent name birth made) dir = made ≡ dir
IsLoose (has_sealed parent name target) dir = ⊥
IsLoose (has_unlinked target) dir = target ≡ dir
