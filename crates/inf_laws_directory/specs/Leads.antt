-- A chain of entries that is true now: each entry stands under its name in the directory before it.
use Rattle.std.specs.Prelude.{◌≡◌, ℕ, List, [], ◌∷◌, Some}
use Rattle.inf_base.specs.declared.access.Access.{Access}
use Rattle.inf_base.specs.declared.entry.Entry.{Entry}
use Rattle.inf_base.specs.Same.{dir_of}
use Rattle.inf_laws_directory.specs.Things.{Directories, a_dir, thing_under}

-- the entries lead on from a directory along these names
abbrev pub LeadsFrom : Directories → Access → List (List ℕ) → List Entry → Type 0
LeadsFrom dirs here [] [] = Unit {0}
LeadsFrom dirs here [] (e ∷ es) = ⊥
LeadsFrom dirs here (name ∷ names) [] = ⊥
LeadsFrom dirs here (name ∷ names) (e ∷ es) =
    (thing_under name (dir_of here) dirs ≡ Some (a_dir e.access)) × LeadsFrom dirs e.access names es

-- the chain begins with the root's entry, and leads along the path
abbrev pub Leads : Directories → Access → List (List ℕ) → List Entry → Type 0
Leads dirs root path [] = ⊥
Leads dirs root path (e ∷ es) = (e.access ≡ root) × LeadsFrom dirs root path es
