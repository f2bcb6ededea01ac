-- The directories of the servers stand for a plain tree: each path shows the same in both, and each directory
-- on it is there.
use Rattle.std.specs.Prelude.{◌≡◌, ℕ, List, [], ◌∷◌, Option, Some, None}
use Rattle.std.specs.Option.{option_map}
use Rattle.inf_base.specs.declared.access.Access.{Access}
use Rattle.inf_base.specs.declared.file.FileMeta.{FileMeta}
use Rattle.inf_base.specs.Same.{dir_of}
use Rattle.inf_tree.specs.Tree.{DirMeta, Node, file, dir, found}
use Rattle.inf_laws_directory.specs.Things.{Directories, HasContent, Reaches, StandOnce, Thing, a_file, a_dir, thing_at}

-- what is seen at a path
pub data Shown : Type 0 where
  shows_file : FileMeta → Shown
  shows_dir : DirMeta → Shown

abbrev pub shown_node : Node → Shown
shown_node (file meta) = shows_file meta
shown_node (dir meta entries) = shows_dir meta

-- the mode and the owners of a directory are those of its access object
abbrev pub meta_of : Access → DirMeta
meta_of access = record { mode = access.mode; owner = access.owner; group = access.group }

abbrev pub shown_thing : Thing → Shown
shown_thing (a_file meta) = shows_file meta
shown_thing (a_dir access) = shows_dir (meta_of access)

-- what stands under a name of a node
abbrev pub child : List ℕ → Node → Option Node
child name (file meta) = None
child name (dir meta entries) = found name entries

-- the node that the names lead to from here
abbrev pub node_at : List (List ℕ) → Option Node → Option Node
node_at names None = None
node_at [] (Some here) = Some here
node_at (name ∷ names) (Some here) = node_at names (child name here)

-- each path shows the same
abbrev pub Shows : Directories → Access → Node → Type 0
Shows dirs root tree = (path : List (List ℕ))
    → option_map shown_thing (thing_at dirs path (Some (a_dir root))) ≡ option_map shown_node (node_at path (Some tree))

-- each directory that a path leads to has its content object: one without shows as an empty one does, but is none
abbrev pub AreThere : Directories → Access → Type 0
AreThere dirs root = (path : List (List ℕ)) (access : Access) → Reaches dirs root path access
    → HasContent dirs (dir_of access)

pub record Stands (dirs : Directories) (root : Access) (tree : Node) : Type 0 where
  pub shows : Shows dirs root tree
  pub once : StandOnce dirs root
  pub there : AreThere dirs root
