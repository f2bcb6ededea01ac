-- What stands in the servers belongs to calls as their phases say, and each call has what its phase says.
use Rattle.std.specs.Prelude.{◌≡◌, ◌⊎◌, ℕ, true, List, [], Some, None, is_some}
use Rattle.inf_base.specs.declared.access.Access.{Access}
use Rattle.inf_base.specs.declared.caller.CallRef.{CallRef}
use Rattle.inf_base.specs.declared.directory.DirRef.{DirRef}
use Rattle.inf_base.specs.declared.triple.Triple.{Triple}
use Rattle.inf_base.specs.Content.{Content, Slot, reserved, file, directory}
use Rattle.inf_base.specs.Identity.{identity}
use Rattle.inf_base.specs.Same.{dir_of}
use Rattle.inf_content.specs.Contents.{empty_content}
use Rattle.inf_content.specs.Slots.{slot_in}
use Rattle.inf_laws_directory.specs.Objects.{Objects, Service, content_in, slots_kept}
use Rattle.inf_content.specs.Order.{AreInOrder}
use Rattle.inf_laws_directory.specs.Phases.{IsLoose, IsReserving, IsSealing, Phase, Phases, idle, has_made, has_reserved, has_sealed, has_unlinked}
use Rattle.inf_laws_directory.specs.Things.{Directories, a_dir, thing_under}

-- a directory stands under this name
abbrev pub Links : Directories → DirRef → List ℕ → Access → Type 0
Links dirs parent name access = thing_under name parent dirs ≡ Some (a_dir access)

-- no directory has a link to it
abbrev pub IsUnlinked : Directories → DirRef → Type 0
IsUnlinked dirs dir = (parent : DirRef) (name : List ℕ) (access : Access) → Links dirs parent name access
    → dir_of access ≡ dir → ⊥

-- the name is kept for the call, with the access object of a directory of this birth
pub record KeepsName (service : Service) (objects : Objects) (call : CallRef) (parent : DirRef) (name : List ℕ)
    (birth : Triple) : Type 0 where
  pub access : Access
  pub slot : slot_in name (slots_kept service objects parent) ≡ Some (reserved call access)
  pub birth_kept : access.birth ≡ birth

-- the content object is there, sealed by the call, with nothing in it
pub record KeepsSealed (service : Service) (objects : Objects) (call : CallRef) (target : DirRef) : Type 0 where
  pub content : Content
  pub there : content_in service objects target ≡ Some content
  pub seal : content.seal ≡ Some call
  pub slots : content.slots ≡ []

-- the directory stands under this name
pub record StandsUnder (service : Service) (objects : Objects) (parent : DirRef) (name : List ℕ)
    (target : DirRef) : Type 0 where
  pub access : Access
  pub linked : Links (content_in service objects) parent name access
  pub same : dir_of access ≡ target

-- what a call in this phase has
abbrev pub Has : Service → Objects → CallRef → Phase → Type 0
Has service objects call idle = Unit {0}
Has service objects call (has_reserved parent name birth) = KeepsName service objects call parent name birth
Has service objects call (has_made parent name birth made) =
    KeepsName service objects call parent name birth
    × (content_in service objects made ≡ Some (empty_content made.id made.born birth call))
    × (made.id ≡ identity service.digest birth)
    × IsUnlinked (content_in service objects) made
Has service objects call (has_sealed parent name target) =
    KeepsSealed service objects call target × StandsUnder service objects parent name target
Has service objects call (has_unlinked target) =
    KeepsSealed service objects call target × IsUnlinked (content_in service objects) target

abbrev pub IsUnheld : Slot → Type 0
IsUnheld (reserved by access) = Unit {0}
IsUnheld (file meta held) = held ≡ None
IsUnheld (directory access held) = held ≡ None

-- a directory with a content object is the root, stands under a name, or is loose in the hands of a call
pub record IsLooseOf (phases : Phases) (dir : DirRef) : Type 0 where
  pub call : CallRef
  pub loose : IsLoose (phases call) dir

pub record IsLinkedSomewhere (dirs : Directories) (dir : DirRef) : Type 0 where
  pub parent : DirRef
  pub name : List ℕ
  pub access : Access
  pub linked : Links dirs parent name access
  pub same : dir_of access ≡ dir

abbrev pub HasPlace : Directories → Access → Phases → DirRef → Type 0
HasPlace dirs root phases dir = (dir ≡ dir_of root) ⊎ IsLinkedSomewhere dirs dir ⊎ IsLooseOf phases dir

pub record AreOwned (service : Service) (objects : Objects) (root : Access) (phases : Phases) : Type 0 where
  -- each server keeps its objects in order
  pub order : (number : ℕ) → AreInOrder (objects number).contents
  -- each call has what its phase says
  pub has : (call : CallRef) → Has service objects call (phases call)
  -- each reservation and each seal belongs to a call in such a phase, and nothing is held
  pub reservations : (dir : DirRef) (name : List ℕ) (by : CallRef) (access : Access)
      → slot_in name (slots_kept service objects dir) ≡ Some (reserved by access) → IsReserving (phases by) dir name
  pub seals : (dir : DirRef) (content : Content) (by : CallRef)
      → content_in service objects dir ≡ Some content → content.seal ≡ Some by → IsSealing (phases by) dir
  pub holds : (dir : DirRef) (name : List ℕ) (slot : Slot)
      → slot_in name (slots_kept service objects dir) ≡ Some slot → IsUnheld slot
  -- the root, and each directory that stands somewhere, has its content object
  pub root_kept : is_some (content_in service objects (dir_of root)) ≡ true
  pub linked_kept : (parent : DirRef) (name : List ℕ) (access : Access)
      → Links (content_in service objects) parent name access
      → is_some (content_in service objects (dir_of access)) ≡ true
  pub placed : (dir : DirRef) → is_some (content_in service objects dir) ≡ true
      → HasPlace (content_in service objects) root phases dir
  -- a directory stands at one place at most, and the root stands at none
  pub once : (parent other : DirRef) (name second : List ℕ) (access same : Access)
      → Links (content_in service objects) parent name access → Links (content_in service objects) other second same
      → dir_of access ≡ dir_of same → (parent ≡ other) × (name ≡ second)
  pub root_free : IsUnlinked (content_in service objects) (dir_of root)
  -- and is loose in no call's hands
  pub root_apart : (call : CallRef) → IsLoose (phases call) (dir_of root) → ⊥
