-- Rename lists as rows: which versions are taken, and what is left without a row.
use Rattle.std.specs.Prelude.{◌≡◌, ℕ, ◌==◌, ◌<◌, Bool, true, false, ◌&&◌, if◌then◌else◌, List, [], ◌∷◌, filter}
use Rattle.std.specs.List.{list_any}
use Rattle.std.specs.Str.{bytes_eq}
use Rattle.inf_base.specs.declared.directory.DirRef.{DirRef}
use Rattle.inf_base.specs.declared.id.Id.{Id}
use Rattle.inf_base.specs.Renames.{RenameRow}
use Rattle.inf_base.specs.Same.{is_same_dir, is_same_id}

-- whether a row of this parent and name has this version
abbrev pub is_taken : Id → List ℕ → ℕ → List RenameRow → Bool
is_taken parent name version rows =
    list_any (λ (r : RenameRow). is_same_id parent r.parent && bytes_eq r.name name && r.version == version) rows

-- of this parent and name n is free, and each smaller version is taken
pub record IsLeastFree (parent : Id) (name : List ℕ) (rows : List RenameRow) (n : ℕ) : Type 0 where
  pub free : is_taken parent name n rows ≡ false
  pub least : (v : ℕ) → v < n → is_taken parent name v rows ≡ true

-- the rows without the first that says that this directory was made in this parent
abbrev pub without_row : Id → DirRef → List RenameRow → List RenameRow
without_row parent dir [] = []
without_row parent dir (r ∷ rows) =
    if is_same_id parent r.parent && is_same_dir r.dir dir then rows else r ∷ without_row parent dir rows

-- the rows of this parent, in their order
abbrev pub of_parent : Id → List RenameRow → List RenameRow
of_parent parent rows = filter (λ (r : RenameRow). is_same_id parent r.parent) rows
