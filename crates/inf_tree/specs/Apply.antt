-- What each call answers, and what it leaves of the tree: its checks in their order, one line each.
use Rattle.std.specs.Prelude.{ℕ, Bool, true, false, ◌&&◌, ◌||◌, not, ◌==◌, List, [], ◌∷◌, Option, Some, None, is_some, Result, Ok, Err}
use Rattle.std.specs.Option.{ok_or}
use Rattle.std.specs.Str.{bytes_eq}
use Rattle.inf_base.specs.Checks.{◌>>=◌, ◌>>◌, check}
use Rattle.inf_base.specs.Path.{path_of}
use Rattle.inf_base.specs.declared.answer.Answer.{Answer}
use Rattle.inf_base.specs.declared.answer.Answer.TheVariants as answer
use Rattle.inf_base.specs.declared.call.Call.{Call}
use Rattle.inf_base.specs.declared.call.Call.TheVariants as call
use Rattle.inf_base.specs.declared.caller.Caller.{Caller}
use Rattle.inf_base.specs.declared.errno.Errno.{Errno}
use Rattle.inf_base.specs.declared.errno.Errno.TheVariants as errno
use Rattle.inf_base.specs.declared.file.FileMeta.{FileMeta}
use Rattle.inf_base.specs.declared.item.Item.{Item}
use Rattle.inf_base.specs.declared.item.Kind.{Kind}
use Rattle.inf_base.specs.declared.item.Kind.TheVariants as kind
use Rattle.inf_perm.specs.Classes.{may}
use Rattle.inf_perm.specs.declared.want.Want.TheVariants as want
use Rattle.inf_tree.specs.Tree.{Node, Entries, file, dir, none, entry, found, changed, hung, cut, with_mode, with_length}
use Rattle.inf_tree.specs.Walk.{Directory, directory_of, allows, place_of, parent_of, node_at}

pub record Applied : Type 0 where
  pub answer : Answer
  pub tree : Node

-- a call that changes the tree, where it is not refused
abbrev pub changes : Node → Result Node Errno → Applied
changes tree (Ok after) = record { answer = answer.Done; tree = after }
changes tree (Err error) = record { answer = answer.Refused error; tree = tree }

-- a call that only looks
abbrev pub looks : Node → Result Answer Errno → Applied
looks tree (Ok seen) = record { answer = seen; tree = tree }
looks tree (Err error) = record { answer = answer.Refused error; tree = tree }

abbrev pub is_dir : Node → Bool
is_dir node = is_some (directory_of node)

abbrev pub meta_of_file : Node → Option FileMeta
meta_of_file (file meta) = Some meta
meta_of_file (dir meta entries) = None

abbrev pub is_empty : Entries → Bool
is_empty none = true
is_empty (entry name node rest) = false

abbrev pub is_free : List ℕ → Directory → Bool
is_free name directory = not (is_some (found name directory.entries))

abbrev pub new_dir : Caller → ℕ → Node
new_dir caller mode = dir (record { mode = mode; owner = caller.uid; group = caller.gid }) none

abbrev pub new_file : Caller → ℕ → Node
new_file caller mode = file (record { mode = mode; owner = caller.uid; group = caller.gid; length = 0 })

-- the tree with a new node at a path
abbrev pub with_new : Node → Caller → List ℕ → Node → Result Node Errno
with_new tree caller path node = do
  names ← path_of path
  place ← ok_or (place_of names) errno.EEXIST
  parent ← parent_of tree caller place
  check (allows parent caller want.Write) errno.EACCES
  check (is_free place.name parent) errno.EEXIST
  Ok (changed (hung place.name node) place.directory tree)

abbrev pub without_dir : Node → Caller → List ℕ → Result Node Errno
without_dir tree caller path = do
  names ← path_of path
  place ← ok_or (place_of names) errno.EBUSY
  parent ← parent_of tree caller place
  check (allows parent caller want.Write) errno.EACCES
  node ← ok_or (found place.name parent.entries) errno.ENOENT
  directory ← ok_or (directory_of node) errno.ENOTDIR
  check (is_empty directory.entries) errno.ENOTEMPTY
  Ok (changed (cut place.name) place.directory tree)

abbrev pub without_file : Node → Caller → List ℕ → Result Node Errno
without_file tree caller path = do
  names ← path_of path
  place ← ok_or (place_of names) errno.EISDIR
  parent ← parent_of tree caller place
  check (allows parent caller want.Write) errno.EACCES
  node ← ok_or (found place.name parent.entries) errno.ENOENT
  check (not (is_dir node)) errno.EISDIR
  Ok (changed (cut place.name) place.directory tree)

-- what is told of a node; a directory has length 0
abbrev pub told : Node → Answer
told (file meta) = answer.Stat kind.File meta
told (dir meta entries) =
    answer.Stat kind.Dir (record { mode = meta.mode; owner = meta.owner; group = meta.group; length = 0 })

abbrev pub stat : Node → Caller → List ℕ → Result Answer Errno
stat tree caller path = do
  names ← path_of path
  node ← node_at tree caller (place_of names)
  Ok (told node)

abbrev pub kind_of : Node → Kind
kind_of (file meta) = kind.File
kind_of (dir meta entries) = kind.Dir

abbrev pub items_of : Entries → List Item
items_of none = []
items_of (entry name node rest) = record { name = name; kind = kind_of node } ∷ items_of rest

abbrev pub listing : Node → Caller → List ℕ → Result Answer Errno
listing tree caller path = do
  names ← path_of path
  node ← node_at tree caller (place_of names)
  directory ← ok_or (directory_of node) errno.ENOTDIR
  check (allows directory caller want.Read) errno.EACCES
  Ok (answer.Listing (items_of directory.entries))

abbrev pub truncated : Node → Caller → List ℕ → ℕ → Result Node Errno
truncated tree caller path length = do
  names ← path_of path
  place ← ok_or (place_of names) errno.EISDIR
  node ← node_at tree caller (Some place)
  meta ← ok_or (meta_of_file node) errno.EISDIR
  check (may meta.mode meta.owner meta.group caller want.Write) errno.EACCES
  Ok (changed (with_length length) names tree)

abbrev pub owner_of : Node → ℕ
owner_of (file meta) = meta.owner
owner_of (dir meta entries) = meta.owner

abbrev pub with_new_mode : Node → Caller → List ℕ → ℕ → Result Node Errno
with_new_mode tree caller path mode = do
  names ← path_of path
  node ← node_at tree caller (place_of names)
  check (caller.uid == owner_of node || caller.uid == 0) errno.EPERM
  Ok (changed (with_mode mode) names tree)

-- whether a path leads on from another
abbrev pub is_below : List (List ℕ) → List (List ℕ) → Bool
is_below [] [] = false
is_below [] (name ∷ names) = true
is_below (name ∷ names) [] = false
is_below (name ∷ names) (other ∷ others) = bytes_eq name other && is_below names others

abbrev pub renamed : Node → Caller → List ℕ → List ℕ → Result Node Errno
renamed tree caller old new = do
  old_names ← path_of old
  new_names ← path_of new
  from ← ok_or (place_of old_names) errno.EINVAL
  to ← ok_or (place_of new_names) errno.EEXIST
  old_parent ← parent_of tree caller from
  check (allows old_parent caller want.Write) errno.EACCES
  node ← ok_or (found from.name old_parent.entries) errno.ENOENT
  new_parent ← parent_of tree caller to
  check (allows new_parent caller want.Write) errno.EACCES
  check (not (is_dir node && is_below old_names new_names)) errno.EINVAL
  check (is_free to.name new_parent) errno.EEXIST
  Ok (changed (hung to.name node) to.directory (changed (cut from.name) from.directory tree))

abbrev pub apply : Node → Caller → Call → Applied
apply tree caller (call.Mkdir path mode) = changes tree (with_new tree caller path (new_dir caller mode))
apply tree caller (call.Create path mode) = changes tree (with_new tree caller path (new_file caller mode))
apply tree caller (call.Rmdir path) = changes tree (without_dir tree caller path)
apply tree caller (call.Unlink path) = changes tree (without_file tree caller path)
apply tree caller (call.Stat path) = looks tree (stat tree caller path)
apply tree caller (call.List path) = looks tree (listing tree caller path)
apply tree caller (call.Truncate path length) = changes tree (truncated tree caller path length)
apply tree caller (call.Chmod path mode) = changes tree (with_new_mode tree caller path mode)
apply tree caller (call.Rename old new) = changes tree (renamed tree caller old new)
