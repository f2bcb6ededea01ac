-- The tree as it is kept so far, with files in the root alone, and the calls that are built on it.
use Rattle.std.specs.Prelude.{◌≡◌, ℕ, List, [], ◌∷◌, drop, Ok}
use Rattle.inf_base.specs.Path.{path_of}
use Rattle.inf_base.specs.declared.call.Call.{Call}
use Rattle.inf_base.specs.declared.call.Call.TheVariants as call
use Rattle.inf_base.specs.declared.caller.Caller.{Caller}
use Rattle.inf_base.specs.declared.file.FileMeta.{FileMeta}
use Rattle.inf_tree.specs.declared.tree.Tree.{Tree}
use Rattle.inf_tree.specs.Tree.{Node, Entries, file, dir, none, entry, root_meta}

abbrev pub entries_of : List (List ℕ × FileMeta) → Entries
entries_of [] = none
entries_of (f ∷ files) = entry f.0 (file f.1) (entries_of files)

-- the plain tree that is kept
abbrev pub tree_of : Tree → Node
tree_of tree = dir root_meta (entries_of tree.files.entries)

-- a slash and one acceptable name
abbrev pub IsOfOneName : List ℕ → Type 0
IsOfOneName path = path_of path ≡ Ok (drop 1 path ∷ [])

-- user 0 makes a file in the root, or asks for one
abbrev pub IsBuilt : Caller → Call → Type 0
IsBuilt caller (call.Mkdir path mode) = ⊥
IsBuilt caller (call.Create path mode) = (caller.uid ≡ 0) × IsOfOneName path
IsBuilt caller (call.Rmdir path) = ⊥
IsBuilt caller (call.Unlink path) = ⊥
IsBuilt caller (call.Stat path) = (caller.uid ≡ 0) × IsOfOneName path
IsBuilt caller (call.List path) = ⊥
IsBuilt caller (call.Truncate path length) = ⊥
IsBuilt caller (call.Chmod path mode) = ⊥
IsBuilt caller (call.Rename old new) = ⊥
