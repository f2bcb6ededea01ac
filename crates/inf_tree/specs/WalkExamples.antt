-- Walks in a small tree, and one call whose tree is shown whole.
use Rattle.std.specs.Prelude.{ℕ, List, [], ◌∷◌, codes, Result, Ok, Err}
use Rattle.inf_base.specs.declared.answer.Answer.TheVariants as answer
use Rattle.inf_base.specs.declared.caller.Caller.{Caller}
use Rattle.inf_base.specs.declared.errno.Errno.{Errno}
use Rattle.inf_base.specs.declared.errno.Errno.TheVariants as errno
use Rattle.inf_tree.specs.Tree.{DirMeta, Node, file, dir, none, entry, root_meta}
use Rattle.inf_tree.specs.Walk.{Directory, walk}
use Rattle.inf_tree.specs.Apply.{Applied}
use Rattle.inf_tree.specs.Examples.{super, other}

abbrev pub private_meta : DirMeta
private_meta = record { mode = 0o700; owner = 7; group = 70 }

abbrev pub a_file : Node
a_file = file (record { mode = 0o640; owner = 7; group = 70; length = 3 })

-- `/a` of user 7, who alone may search it, with the directory `b` and the file `f`
abbrev pub small_tree : Node
small_tree =
    dir root_meta (entry (codes "a")
    (dir private_meta (entry (codes "b") (dir root_meta none) (entry (codes "f") a_file none))) none)

abbrev pub reached : Caller → List (List ℕ) → Result Directory Errno
reached caller names = walk caller names small_tree

-- the last directory need give nothing to be reached; on the way, search comes before that a name is missing
abbrev pub walks : List (Result Directory Errno)
walks =
    reached super (codes "a" ∷ codes "b" ∷ [])
    ∷ reached other (codes "a" ∷ [])
    ∷ reached other (codes "a" ∷ codes "b" ∷ [])
    ∷ reached other (codes "a" ∷ codes "q" ∷ [])
    ∷ reached super (codes "a" ∷ codes "q" ∷ codes "b" ∷ [])
    ∷ reached super (codes "a" ∷ codes "f" ∷ [])
    ∷ reached super (codes "a" ∷ codes "f" ∷ codes "q" ∷ [])
    ∷ []

abbrev pub ends : List (Result Directory Errno)
ends =
    Ok (record { meta = root_meta; entries = none })
    ∷ Ok (record {
      meta = private_meta;
      entries = entry (codes "b") (dir root_meta none) (entry (codes "f") a_file none);
    })
    ∷ Err errno.EACCES
    ∷ Err errno.EACCES
    ∷ Err errno.ENOENT
    ∷ Err errno.ENOTDIR
    ∷ Err errno.ENOTDIR
    ∷ []

-- the small tree with its file at `/_`, which stands before `a` in the order of bytes
abbrev pub moved_file : Applied
moved_file = record {
  answer = answer.Done;
  tree = dir root_meta (entry (codes "_") a_file
      (entry (codes "a") (dir private_meta (entry (codes "b") (dir root_meta none) none)) none));
}
