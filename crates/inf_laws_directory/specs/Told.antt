-- Entries that clients were told: true now, or their directory is gone.
use Rattle.std.specs.Prelude.{◌≡◌, ◌⊎◌, ℕ, List, [], ◌∷◌, Some, None}
use Rattle.inf_base.specs.declared.access.Access.{Access}
use Rattle.inf_base.specs.declared.caller.CallRef.{CallRef}
use Rattle.inf_base.specs.declared.directory.DirRef.{DirRef}
use Rattle.inf_base.specs.declared.entry.Entry.{Entry}
use Rattle.inf_base.specs.declared.key.Key.{Key}
use Rattle.inf_base.specs.declared.key.Key.TheVariants as key
use Rattle.inf_base.specs.Same.{dir_of}
use Rattle.inf_laws_directory.specs.Objects.{Objects, Service, content_in, shown_of}
use Rattle.inf_laws_directory.specs.Owned.{Links}
use Rattle.inf_laws_directory.specs.Phases.{Phases, has_unlinked}

-- a call has unlinked it, and is to drop its content object
pub record IsUnlinkedBy (phases : Phases) (dir : DirRef) : Type 0 where
  pub call : CallRef
  pub unlinked : phases call ≡ has_unlinked dir

-- its content object is no more, or is to go
abbrev pub IsGone : Service → Objects → Phases → DirRef → Type 0
IsGone service objects phases dir = (content_in service objects dir ≡ None) ⊎ IsUnlinkedBy phases dir

-- the root's entry is the root's; any other is true now, or its directory is gone
abbrev pub IsToldAs : Service → Objects → Access → Phases → Key → Access → Type 0
IsToldAs service objects root phases key.Top access = access ≡ root
IsToldAs service objects root phases (key.At dir name) access =
    Links (shown_of service objects phases) dir name access ⊎ IsGone service objects phases (dir_of access)

abbrev pub IsTold : Service → Objects → Access → Phases → Entry → Type 0
IsTold service objects root phases entry = IsToldAs service objects root phases entry.key entry.access

abbrev pub AreTold : Service → Objects → Access → Phases → List Entry → Type 0
AreTold service objects root phases [] = Unit {0}
AreTold service objects root phases (e ∷ es) =
    IsTold service objects root phases e × AreTold service objects root phases es

-- the entries link: the key of each is a name of the directory before it
abbrev pub LinkFrom : Access → List (List ℕ) → List Entry → Type 0
LinkFrom here [] [] = Unit {0}
LinkFrom here [] (e ∷ es) = ⊥
LinkFrom here (name ∷ names) [] = ⊥
LinkFrom here (name ∷ names) (e ∷ es) = (e.key ≡ key.At (dir_of here) name) × LinkFrom e.access names es

-- the chain begins with the root's entry, and links along these names
abbrev pub LinkAlong : List (List ℕ) → List Entry → Type 0
LinkAlong path [] = ⊥
LinkAlong path (e ∷ es) = (e.key ≡ key.Top) × LinkFrom e.access path es

-- no content object, no link and no entry is of this birth
pub record IsUnborn (service : Service) (objects : Objects) (place : ℕ) : Type 0 where
  pub contents : (dir : DirRef) → dir.born ≡ place → content_in service objects dir ≡ None
  pub links : (parent : DirRef) (name : List ℕ) (access : Access)
      → Links (content_in service objects) parent name access → access.born ≡ place → ⊥
