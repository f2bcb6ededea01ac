-- What calls come to on the plain tree, told by a chain of entries and by what stands in the servers' directories.
use Rattle.std.specs.Prelude.{◌≡◌, ℕ, if◌then◌else◌, List, Option, is_none, Result, Ok}
use Rattle.std.specs.List.{list_all}
use Rattle.std.specs.Option.{ok_or}
use Rattle.inf_base.specs.declared.answer.Answer.{Answer}
use Rattle.inf_base.specs.declared.answer.Answer.TheVariants as answer
use Rattle.inf_base.specs.declared.call.Call.{Call}
use Rattle.inf_base.specs.declared.call.Call.TheVariants as call
use Rattle.inf_base.specs.declared.caller.Caller.{Caller}
use Rattle.inf_base.specs.declared.entry.Entry.{Entry}
use Rattle.inf_base.specs.declared.errno.Errno.{Errno}
use Rattle.inf_base.specs.declared.errno.Errno.TheVariants as errno
use Rattle.inf_base.specs.declared.item.Kind.TheVariants as kind
use Rattle.inf_base.specs.Checks.{◌>>=◌, ◌>>◌, check}
use Rattle.inf_perm.specs.declared.want.Want.TheVariants as want
use Rattle.inf_server.specs.Checks.{lets}
use Rattle.inf_tree.specs.Tree.{Node}
use Rattle.inf_laws_directory.specs.Things.{Thing, a_dir, a_file}

-- each directory of the chain must let the caller search
abbrev pub searched : Caller → List Entry → Result (Unit {0}) Errno
searched caller chain = check (list_all (lets caller want.Search) chain) errno.EACCES

-- a change in the last directory of the chain, which must also let the caller write
abbrev pub permitted : Caller → List Entry → Entry → Result Node Errno → Result Node Errno
permitted caller chain last change = do
  searched caller chain
  check (lets caller want.Write last) errno.EACCES
  change

-- the tree with what comes under a name, which must be free
abbrev pub if_free : Option Thing → Node → Result Node Errno
if_free standing after = check (is_none standing) errno.EEXIST >> Ok after

-- what is told of what stands there; a directory has length 0
abbrev pub told_of : Thing → Answer
told_of (a_file meta) = answer.Stat kind.File meta
told_of (a_dir access) =
    answer.Stat kind.Dir (record { mode = access.mode; owner = access.owner; group = access.group; length = 0 })

-- what is told of what may stand under a name of the last directory of the chain
abbrev pub told_along : Caller → List Entry → Option Thing → Result Answer Errno
told_along caller chain standing = do
  searched caller chain
  thing ← ok_or standing errno.ENOENT
  Ok (told_of thing)

-- why a call cannot go on behind the chain: each directory of it must let the caller search first
abbrev pub if_searched : Caller → List Entry → Errno → Errno
if_searched caller chain error = if list_all (lets caller want.Search) chain then error else errno.EACCES

-- a call on one path
abbrev pub IsCallOn : List ℕ → Call → Type 0
IsCallOn text (call.Mkdir path mode) = path ≡ text
IsCallOn text (call.Create path mode) = path ≡ text
IsCallOn text (call.Rmdir path) = path ≡ text
IsCallOn text (call.Unlink path) = path ≡ text
IsCallOn text (call.Stat path) = path ≡ text
IsCallOn text (call.List path) = path ≡ text
IsCallOn text (call.Truncate path length) = path ≡ text
IsCallOn text (call.Chmod path mode) = path ≡ text
IsCallOn text (call.Rename old new) = ⊥
