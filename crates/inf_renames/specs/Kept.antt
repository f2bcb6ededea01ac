-- The rename list of one parent.
use Rattle.std.specs.Prelude.{ℕ, zero, suc, ◌+◌, ◌-◌, ◌==◌, Bool, ◌&&◌, if◌then◌else◌, List, [], ◌∷◌, ◌++◌, length}
use Rattle.std.specs.List.{list_any}
use Rattle.std.specs.Str.{bytes_eq}
use Rattle.inf_base.specs.declared.directory.DirRef.{DirRef}
use Rattle.inf_renames.specs.declared.row.Row.{Row}
use Rattle.inf_base.specs.Same.{is_same_dir}

-- the rows in the order of adding, and for how many more there is room
pub record Kept : Type 0 where
  pub rows : List Row
  pub spare : ℕ

-- what is kept of a parent that was never reserved
abbrev pub nothing_kept : Kept
nothing_kept = record { rows = []; spare = 0 }

-- whether a row of this name has this version
abbrev pub has_version : List ℕ → ℕ → List Row → Bool
has_version name version rows = list_any (λ (r : Row). bytes_eq r.name name && r.version == version) rows

-- the rows without the first of this directory
abbrev pub without_dir : DirRef → List Row → List Row
without_dir dir [] = []
without_dir dir (r ∷ rows) = if is_same_dir r.dir dir then rows else r ∷ without_dir dir rows

-- the least number from v on that is not taken, of so many; where all are, the number after them
abbrev pub least_from : (ℕ → Bool) → ℕ → ℕ → ℕ
least_from taken zero v = v
least_from taken (suc more) v = if taken v then least_from taken more (v + 1) else v

-- the least version of this name that no row has: so many rows take no more versions than that
abbrev pub kept_least_version : List ℕ → Kept → ℕ
kept_least_version name kept = least_from (λ (version : ℕ). has_version name version kept.rows) (length kept.rows) 0

-- with room for one more row
abbrev pub kept_with_room : Kept → Kept
kept_with_room kept = record kept { spare = kept.spare + 1 }

-- with a row added, in the room for one
abbrev pub kept_with_row : Row → Kept → Kept
kept_with_row row kept = record { rows = kept.rows ++ row ∷ []; spare = kept.spare - 1 }

-- without the first row of this directory
abbrev pub kept_without : DirRef → Kept → Kept
kept_without dir kept = record kept { rows = without_dir dir kept.rows }
