-- The plain tree of files and directories.
use Rattle.std.specs.Prelude.{ℕ, if◌then◌else◌, List, [], ◌∷◌, Option, Some, None}
use Rattle.std.specs.Ordering.{nat_cmp, match_ordering}
use Rattle.std.specs.Cmp.Lexicographic.{slice_cmp}
use Rattle.std.specs.List.Sorted.{IsStrictlySortedBy}
use Rattle.std.specs.Str.{bytes_eq}
use Rattle.inf_base.specs.declared.file.FileMeta.{FileMeta}

pub record DirMeta : Type 0 where
  pub mode : ℕ
  pub owner : ℕ
  pub group : ℕ

mutual
  pub data Node : Type 0 where
    file : FileMeta → Node
    dir : DirMeta → Entries → Node

  -- the names of a directory, each with what stands there
  pub data Entries : Type 0 where
    none : Entries
    entry : List ℕ → Node → Entries → Entries

abbrev pub root_meta : DirMeta
root_meta = record { mode = 0o755; owner = 0; group = 0 }

-- an empty root
abbrev pub opening_tree : Node
opening_tree = dir root_meta none

abbrev pub names_of : Entries → List (List ℕ)
names_of none = []
names_of (entry name node rest) = name ∷ names_of rest

-- the names of each directory ascend by their bytes, so they are distinct
abbrev mutual
  pub IsTree : Node → Type 0
  IsTree (file meta) = Unit {0}
  IsTree (dir meta entries) = IsStrictlySortedBy (slice_cmp nat_cmp) (names_of entries) × AreTrees entries

  pub AreTrees : Entries → Type 0
  AreTrees none = Unit {0}
  AreTrees (entry name node rest) = IsTree node × AreTrees rest

-- what stands under a name
abbrev pub found : List ℕ → Entries → Option Node
found name none = None
found name (entry other node rest) = if bytes_eq name other then Some node else found name rest

-- the entries with a node under a name, in its place in the order; a node that stood there goes
abbrev pub placed : List ℕ → Node → Entries → Entries
placed name node none = entry name node none
placed name node (entry other old rest) =
    match_ordering (slice_cmp nat_cmp name other)
    (entry name node (entry other old rest))
    (entry other node rest)
    (entry other old (placed name node rest))

abbrev pub without : List ℕ → Entries → Entries
without name none = none
without name (entry other node rest) = if bytes_eq name other then rest else entry other node (without name rest)

-- the entries with the node under a name changed
abbrev pub changed_under : List ℕ → (Node → Node) → Entries → Entries
changed_under name change none = none
changed_under name change (entry other node rest) =
    if bytes_eq name other then entry other (change node) rest
    else entry other node (changed_under name change rest)

-- the tree with the node at a path changed
abbrev pub changed : (Node → Node) → List (List ℕ) → Node → Node
changed change [] node = change node
changed change (name ∷ names) (file meta) = file meta
changed change (name ∷ names) (dir meta entries) =
    dir meta (changed_under name (λ node. changed change names node) entries)

-- a directory with a node hung under a name
abbrev pub hung : List ℕ → Node → Node → Node
hung name node (file meta) = file meta
hung name node (dir meta entries) = dir meta (placed name node entries)

-- a directory with the node under a name cut off
abbrev pub cut : List ℕ → Node → Node
cut name (file meta) = file meta
cut name (dir meta entries) = dir meta (without name entries)

abbrev pub with_mode : ℕ → Node → Node
with_mode mode (file meta) = file (record meta { mode = mode })
with_mode mode (dir meta entries) = dir (record meta { mode = mode }) entries

abbrev pub with_length : ℕ → Node → Node
with_length length (file meta) = file (record meta { length = length })
with_length length (dir meta entries) = dir meta entries
