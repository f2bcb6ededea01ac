-- The rename lists of all parents.
use Rattle.std.specs.Prelude.{◌≡◌, ℕ, false, if◌then◌else◌, List, [], ◌∷◌, map, unwrap_or}
use Rattle.std.specs.BTreeMap.{insert_entry}
use Rattle.std.specs.Cmp.Lexicographic.{slice_cmp}
use Rattle.std.specs.Map.{lookup}
use Rattle.std.specs.Ordering.{nat_cmp}
use Rattle.std.specs.declared.cmp.Ordering.{Ordering}
use Rattle.inf_base.specs.declared.directory.DirRef.{DirRef}
use Rattle.inf_base.specs.declared.id.Id.{Id}
use Rattle.inf_base.specs.Renames.{RenameRow}
use Rattle.inf_renames.specs.declared.row.Row.{Row}
use Rattle.inf_renames.specs.Kept.{Kept, kept_least_version, kept_with_room, kept_with_row, kept_without, nothing_kept}
use Rattle.inf_base.specs.Same.{is_same_id}
use Rattle.inf_renames.specs.Rows.{of_parent}

-- what is kept of a parent: nothing, where it is not listed
abbrev pub kept_of : Id → List (Id × Kept) → Kept
kept_of parent lists = unwrap_or (lookup (is_same_id parent) lists) nothing_kept

-- a row of the parent's list, with the parent
abbrev pub row_in : Id → Row → RenameRow
row_in parent r = record { parent = parent; name = r.name; version = r.version; dir = r.dir }

-- the rows of a parent, in the order of adding
abbrev pub rows_of : Id → List (Id × Kept) → List RenameRow
rows_of parent lists = map (row_in parent) (kept_of parent lists).rows

-- how many rows of a parent can be added without memory
abbrev pub spare_of : Id → List (Id × Kept) → ℕ
spare_of parent lists = (kept_of parent lists).spare

-- the least version of the name in the parent that no row has
abbrev pub least_version : Id → List ℕ → List (Id × Kept) → ℕ
least_version parent name lists = kept_least_version name (kept_of parent lists)

-- identifiers are in the order of their bytes
abbrev pub id_cmp : Id → Id → Ordering
id_cmp a b = slice_cmp nat_cmp a.bytes b.bytes

-- the lists with this kept of a parent, in its place by identifier
abbrev pub with_kept : Id → Kept → List (Id × Kept) → List (Id × Kept)
with_kept parent kept lists = insert_entry id_cmp lists parent kept

-- with room for one more row of the parent
abbrev pub with_room : Id → List (Id × Kept) → List (Id × Kept)
with_room parent lists = with_kept parent (kept_with_room (kept_of parent lists)) lists

-- with a row of the parent added, in the room for one
abbrev pub with_row : Id → Row → List (Id × Kept) → List (Id × Kept)
with_row parent row lists = with_kept parent (kept_with_row row (kept_of parent lists)) lists

-- without the parent's first row of the directory; where the parent is not listed, as they are
abbrev pub forgotten : Id → DirRef → List (Id × Kept) → List (Id × Kept)
forgotten parent dir [] = []
forgotten parent dir (e ∷ lists) =
    if is_same_id parent e.0 then (e.0, kept_without dir e.1) ∷ lists else e ∷ forgotten parent dir lists

-- the rows and the room of every other parent stay
pub record OthersStay (parent : Id) (old new : List (Id × Kept)) : Type 0 where
  pub rows : (other : Id) → is_same_id parent other ≡ false → rows_of other new ≡ rows_of other old
  pub spare : (other : Id) → is_same_id parent other ≡ false → spare_of other new ≡ spare_of other old

-- the lists have the rows of one list of all parents, those of each parent in the same order
abbrev pub HasRows : List (Id × Kept) → List RenameRow → Type 0
HasRows lists rows = (parent : Id) → rows_of parent lists ≡ of_parent parent rows
