-- Rename lists of two parents, and which versions they leave free.
use Rattle.std.specs.Prelude.{ℕ, Bool, List, [], ◌∷◌, map, replicate, codes}
use Rattle.inf_base.specs.declared.directory.DirRef.{DirRef}
use Rattle.inf_base.specs.declared.id.Id.{Id}
use Rattle.inf_base.specs.Renames.{RenameRow}
use Rattle.inf_renames.specs.declared.row.Row.{Row}
use Rattle.inf_renames.specs.Kept.{Kept}
use Rattle.inf_renames.specs.Rows.{is_taken}

-- an identifier of 32 bytes of this number
abbrev pub id_of : ℕ → Id
id_of byte = record { bytes = replicate 32 byte }

-- directories of one identifier, told apart by the places of their births
abbrev pub dir_born : ℕ → DirRef
dir_born place = record { id = id_of 7; born = place }

-- a directory was made in the parent of this number under this name and version
abbrev pub row_of : ℕ → List ℕ → ℕ → DirRef → RenameRow
row_of parent name version dir = record { parent = id_of parent; name = name; version = version; dir = dir }

-- versions 0 and 1 of `a`
abbrev pub two_rows : List RenameRow
two_rows = row_of 1 (codes "a") 0 (dir_born 5) ∷ row_of 1 (codes "a") 1 (dir_born 6) ∷ []

-- versions 0 and 2 of `a`
abbrev pub gap_rows : List RenameRow
gap_rows = row_of 1 (codes "a") 2 (dir_born 5) ∷ row_of 1 (codes "a") 0 (dir_born 6) ∷ []

-- whether versions 0, 1 and 2 of a name in the parent of this number are taken
abbrev pub first_taken : ℕ → List ℕ → List RenameRow → List Bool
first_taken parent name rows = map (λ version. is_taken (id_of parent) name version rows) (0 ∷ 1 ∷ 2 ∷ [])

-- a directory born at this place was made under this version of `a`
abbrev pub row_a : ℕ → ℕ → Row
row_a version place = record { name = codes "a"; version = version; dir = dir_born place }

-- of the parent of this number these rows are kept, with room for so many more
abbrev pub entry : ℕ → List Row → ℕ → Id × Kept
entry parent rows spare = (id_of parent, record { rows = rows; spare = spare })

-- versions 0 and 2 of `a` are kept of one parent, and room for one row of another
abbrev pub gap_lists : List (Id × Kept)
gap_lists = entry 1 (row_a 0 5 ∷ row_a 2 6 ∷ []) 1 ∷ entry 3 [] 1 ∷ []
