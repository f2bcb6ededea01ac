-- What a request that is served does to what stands in the directories of a service.
use Rattle.std.specs.Prelude.{◌≡◌, ℕ, false, Option, Some, None}
use Rattle.inf_base.specs.declared.directory.DirRef.{DirRef}
use Rattle.inf_base.specs.Same.{dir_of, is_same_dir}
use Rattle.inf_server.specs.State.{State}
use Rattle.inf_laws_directory.specs.Changes.{LooksAsBefore}
use Rattle.inf_laws_directory.specs.Objects.{Objects, Service, content_in, with_state}
use Rattle.inf_laws_directory.specs.Things.{Directories, Thing, a_dir, a_file}

-- the directories once a server's state has changed
abbrev pub directories_after : Service → Objects → ℕ → State → Directories
directories_after service objects number state = content_in service (with_state number state objects)

-- nothing is seen of it: each directory looks as before
abbrev pub IsUnseen : Directories → Directories → Type 0
IsUnseen old new = (dir : DirRef) → LooksAsBefore old new dir

-- the same, but for one directory
abbrev pub IsUnseenBeside : DirRef → Directories → Directories → Type 0
IsUnseenBeside dir old new = (other : DirRef) → is_same_dir dir other ≡ false → LooksAsBefore old new other

-- it is this directory that stands there
abbrev pub StandsAs : DirRef → Option Thing → Type 0
StandsAs dir None = ⊥
StandsAs dir (Some (a_file meta)) = ⊥
StandsAs dir (Some (a_dir access)) = dir_of access ≡ dir
