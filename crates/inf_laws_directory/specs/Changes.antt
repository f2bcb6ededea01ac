-- How what stands in the directories may change: nothing is seen of it, one thing comes, or one goes.
use Rattle.std.specs.Prelude.{◌≡◌, ℕ, Bool, false, ◌&&◌, List, Some, None}
use Rattle.std.specs.Str.{bytes_eq}
use Rattle.inf_base.specs.declared.access.Access.{Access}
use Rattle.inf_base.specs.declared.directory.DirRef.{DirRef}
use Rattle.inf_base.specs.Same.{dir_of, is_same_dir}
use Rattle.inf_laws_directory.specs.Things.{Directories, HasContent, Reaches, Thing, thing_under}

-- whether it is this name of this directory
abbrev pub is_at : DirRef → List ℕ → DirRef → List ℕ → Bool
is_at dir name other_dir other = is_same_dir dir other_dir && bytes_eq name other

-- the directory has the same things, and its content object where it had one
pub record LooksAsBefore (old new : Directories) (dir : DirRef) : Type 0 where
  pub things : (name : List ℕ) → thing_under name dir new ≡ thing_under name dir old
  pub stays : HasContent old dir → HasContent new dir

-- each directory that a path leads to looks as before
abbrev pub LooksSame : Directories → Directories → Access → Type 0
LooksSame old new root = (path : List (List ℕ)) (access : Access) → Reaches old root path access
    → LooksAsBefore old new (dir_of access)

-- no content object goes
abbrev pub AllStay : Directories → Directories → Type 0
AllStay old new = (dir : DirRef) → HasContent old dir → HasContent new dir

-- nothing stands in the directory
abbrev pub IsEmpty : Directories → DirRef → Type 0
IsEmpty dirs dir = (name : List ℕ) → thing_under name dir dirs ≡ None

-- no path leads to the directory
abbrev pub IsUnreached : Directories → Access → DirRef → Type 0
IsUnreached dirs root dir = (path : List (List ℕ)) (access : Access) → Reaches dirs root path access
    → dir_of access ≡ dir → ⊥

-- a thing comes under a free name of a directory, and all others stay
pub record Puts (old new : Directories) (dir : DirRef) (name : List ℕ) (thing : Thing) : Type 0 where
  pub free : thing_under name dir old ≡ None
  pub here : thing_under name dir new ≡ Some thing
  pub others : (other_dir : DirRef) (other : List ℕ) → is_at dir name other_dir other ≡ false
      → thing_under other other_dir new ≡ thing_under other other_dir old
  pub stay : AllStay old new

-- the thing under a name of a directory goes, and all others stay
pub record Takes (old new : Directories) (dir : DirRef) (name : List ℕ) : Type 0 where
  pub gone : thing_under name dir new ≡ None
  pub others : (other_dir : DirRef) (other : List ℕ) → is_at dir name other_dir other ≡ false
      → thing_under other other_dir new ≡ thing_under other other_dir old
  pub stay : AllStay old new

-- a directory that may come: no path leads to it, and it has a content object in which nothing stands
pub record IsNew (dirs : Directories) (root : Access) (dir : DirRef) : Type 0 where
  pub unreached : IsUnreached dirs root dir
  pub there : HasContent dirs dir
  pub empty : IsEmpty dirs dir
