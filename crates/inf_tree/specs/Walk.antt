-- The walk along a path, and the checks on the way.
use Rattle.std.specs.Prelude.{ℕ, Bool, true, false, List, [], ◌∷◌, Option, Some, None, Result, Ok, Err}
use Rattle.std.specs.Option.{ok_or}
use Rattle.inf_base.specs.Checks.{◌>>=◌, ◌>>◌, check}
use Rattle.inf_base.specs.declared.caller.Caller.{Caller}
use Rattle.inf_base.specs.declared.errno.Errno.{Errno}
use Rattle.inf_base.specs.declared.errno.Errno.TheVariants as errno
use Rattle.inf_perm.specs.Classes.{may}
use Rattle.inf_perm.specs.declared.want.Want.{Want}
use Rattle.inf_perm.specs.declared.want.Want.TheVariants as want
use Rattle.inf_tree.specs.Tree.{DirMeta, Node, Entries, file, dir, found}

pub record Directory : Type 0 where
  pub meta : DirMeta
  pub entries : Entries

abbrev pub directory_of : Node → Option Directory
directory_of (file meta) = None
directory_of (dir meta entries) = Some (record { meta = meta; entries = entries })

-- whether a directory lets the caller do what is wanted
abbrev pub allows : Directory → Caller → Want → Bool
allows directory caller want = may directory.meta.mode directory.meta.owner directory.meta.group caller want

-- the directory that the names lead to, or the first refusal
abbrev pub walk : Caller → List (List ℕ) → Node → Result Directory Errno
walk caller [] node = ok_or (directory_of node) errno.ENOTDIR
walk caller (name ∷ names) node = do
  here ← ok_or (directory_of node) errno.ENOTDIR
  check (allows here caller want.Search) errno.EACCES
  next ← ok_or (found name here.entries) errno.ENOENT
  walk caller names next

-- a path as the names of a directory, and the last name, which stands there
pub record Place : Type 0 where
  pub directory : List (List ℕ)
  pub name : List ℕ

abbrev pub behind : List ℕ → Option Place → Place
behind name None = record { directory = []; name = name }
behind name (Some place) = record { directory = name ∷ place.directory; name = place.name }

-- the root has no place
abbrev pub place_of : List (List ℕ) → Option Place
place_of [] = None
place_of (name ∷ names) = Some (behind name (place_of names))

-- the walk to the parent, which must give search permission too
abbrev pub parent_of : Node → Caller → Place → Result Directory Errno
parent_of tree caller place = do
  parent ← walk caller place.directory tree
  check (allows parent caller want.Search) errno.EACCES
  Ok parent

-- what stands at a path: the root at once, anything else by the walk to its parent
abbrev pub node_at : Node → Caller → Option Place → Result Node Errno
node_at tree caller None = Ok tree
node_at tree caller (Some place) = do
  parent ← parent_of tree caller place
  ok_or (found place.name parent.entries) errno.ENOENT
