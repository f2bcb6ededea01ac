-- What user 0 is answered of one name in the root.
use Rattle.std.proofs.Common.{◌≡◌, ℕ, true, false, List, [], ◌∷◌, drop, Option, Some, None, Ok, is_some, refl, sym, ap, ◌∙◌}
use Rattle.std.specs.BTreeMap.{insert_entry, is_at}
use Rattle.std.specs.Cmp.Lexicographic.{slice_cmp}
use Rattle.std.specs.Map.{lookup}
use Rattle.std.specs.Option.{option_map}
use Rattle.std.specs.Ordering.{nat_cmp}
use Rattle.inf_base.specs.Path.{path_of}
use Rattle.inf_base.specs.declared.answer.Answer.TheVariants as answer
use Rattle.inf_base.specs.declared.call.Call.TheVariants as call
use Rattle.inf_base.specs.declared.caller.Caller.{Caller}
use Rattle.inf_base.specs.declared.errno.Errno.TheVariants as errno
use Rattle.inf_base.specs.declared.file.FileMeta.{FileMeta}
use Rattle.inf_base.specs.declared.item.Kind.TheVariants as kind
use Rattle.inf_tree.specs.Tree.{file, dir, found, root_meta}
use Rattle.inf_tree.specs.Apply.{apply}
use Rattle.inf_tree.specs.Flat.{entries_of}
use Rattle.inf_tree.proofs.FlatFiles.{found-entries_of, entries_of-insert_entry}

None-from_is_some : (o : Option FileMeta) → is_some o ≡ false → option_map file o ≡ None
None-from_is_some None h = refl
None-from_is_some (Some meta) h = cc

Some-from_is_some : (o : Option FileMeta) → is_some o ≡ true → (meta : FileMeta) × (option_map file o ≡ Some (file meta))
Some-from_is_some None h = cc
Some-from_is_some (Some meta) h = (meta, refl)

module _ (files : List (List ℕ × FileMeta)) (caller : Caller) (path name : List ℕ) (user : caller.uid ≡ 0) (names : path_of path ≡ Ok (drop 1 path ∷ [])) (same : name ≡ drop 1 path) where
  abbrev standing : Option FileMeta
  standing = lookup (is_at (slice_cmp nat_cmp name)) files

  one : path_of path ≡ Ok (name ∷ [])
  one = names ∙ ap (λ (n : List ℕ). Ok (n ∷ [])) (sym same)

  pub created : (mode : ℕ) → is_some standing ≡ false → apply (dir root_meta (entries_of files)) caller (call.Create path mode) ≡ record { answer = answer.Done; tree = dir root_meta (entries_of (insert_entry (slice_cmp nat_cmp) files name (record { mode = mode; owner = caller.uid; group = caller.gid; length = 0 }))) }
  created mode free =
      let missing : found name (entries_of files) ≡ None = found-entries_of name files ∙ None-from_is_some standing free in
      rw (one, entries_of-insert_entry, user, missing) refl

  pub not_created : (mode : ℕ) → is_some standing ≡ true → apply (dir root_meta (entries_of files)) caller (call.Create path mode) ≡ record { answer = answer.Refused errno.EEXIST; tree = dir root_meta (entries_of files) }
  not_created mode taken =
      let (meta, e) = Some-from_is_some standing taken in
      let stands : found name (entries_of files) ≡ Some (file meta) = found-entries_of name files ∙ e in
      rw (one, user, stands) refl

  pub seen : (meta : FileMeta) → standing ≡ Some meta → apply (dir root_meta (entries_of files)) caller (call.Stat path) ≡ record { answer = answer.Stat kind.File meta; tree = dir root_meta (entries_of files) }
  seen meta e =
      let stands : found name (entries_of files) ≡ Some (file meta) = found-entries_of name files ∙ ap (option_map file) e in
      rw (one, user, stands) refl

  pub not_seen : standing ≡ None → apply (dir root_meta (entries_of files)) caller (call.Stat path) ≡ record { answer = answer.Refused errno.ENOENT; tree = dir root_meta (entries_of files) }
  not_seen e =
      let missing : found name (entries_of files) ≡ None = found-entries_of name files ∙ ap (option_map file) e in
      rw (one, user, missing) refl
