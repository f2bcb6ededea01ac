-- What stands in the directories that servers keep, and what a path comes to there.
use Rattle.std.specs.Prelude.{◌≡◌, ℕ, true, List, [], ◌∷◌, Option, Some, None, is_some}
use Rattle.inf_base.specs.declared.access.Access.{Access}
use Rattle.inf_base.specs.declared.directory.DirRef.{DirRef}
use Rattle.inf_base.specs.declared.file.FileMeta.{FileMeta}
use Rattle.inf_base.specs.Content.{Content, Slot, reserved, file, directory}
use Rattle.inf_base.specs.Same.{dir_of}
use Rattle.inf_content.specs.Contents.{slots_found}
use Rattle.inf_content.specs.Slots.{slot_in}

-- the content object of each directory that has one
abbrev pub Directories : Type 0
Directories = DirRef → Option Content

abbrev pub HasContent : Directories → DirRef → Type 0
HasContent dirs dir = is_some (dirs dir) ≡ true

-- what stands under a name: a file, or a directory by its access object
pub data Thing : Type 0 where
  a_file : FileMeta → Thing
  a_dir : Access → Thing

-- what is reserved does not stand there yet; what is held counts as what it is
abbrev pub thing_in : Option Slot → Option Thing
thing_in None = None
thing_in (Some (reserved by access)) = None
thing_in (Some (file meta held)) = Some (a_file meta)
thing_in (Some (directory access held)) = Some (a_dir access)

-- what stands under a name of a directory; nothing does where it has no content object
abbrev pub thing_under : List ℕ → DirRef → Directories → Option Thing
thing_under name dir dirs = thing_in (slot_in name (slots_found (dirs dir)))

-- what stands under a name of what stands here; nothing stands in a file
abbrev pub inside : Directories → List ℕ → Thing → Option Thing
inside dirs name (a_file meta) = None
inside dirs name (a_dir access) = thing_under name (dir_of access) dirs

-- what the names come to from here
abbrev pub thing_at : Directories → List (List ℕ) → Option Thing → Option Thing
thing_at dirs names None = None
thing_at dirs [] (Some here) = Some here
thing_at dirs (name ∷ names) (Some here) = thing_at dirs names (inside dirs name here)

-- the path leads from the root to the directory of this access object
abbrev pub Reaches : Directories → Access → List (List ℕ) → Access → Type 0
Reaches dirs root path access = thing_at dirs path (Some (a_dir root)) ≡ Some (a_dir access)

-- no directory stands at two paths
abbrev pub StandOnce : Directories → Access → Type 0
StandOnce dirs root = (path other : List (List ℕ)) (access same : Access)
    → Reaches dirs root path access → Reaches dirs root other same → dir_of access ≡ dir_of same → path ≡ other
