-- How numbers, modes and a file's metadata are printed.
use Rattle.std.specs.Prelude.{ℕ, zero, suc, ◌+◌, ◌/◌, ◌%◌, ◌==◌, List, [], ◌∷◌, ◌++◌, codes, if◌then◌else◌}
use Rattle.std.specs.List.{flat_map}
use Rattle.std.specs.Fmt.{decimal}
use Rattle.inf_base.specs.declared.file.FileMeta.{FileMeta}

-- three octal digits
abbrev pub mode_text : ℕ → List ℕ
mode_text mode = (48 + mode / 64 % 8) ∷ (48 + mode / 8 % 8) ∷ (48 + mode % 8) ∷ []

-- `MODE OWNER GROUP LENGTH`
abbrev pub meta_text : FileMeta → List ℕ
meta_text meta =
    mode_text meta.mode ++ codes " " ++ decimal meta.owner ++ codes " " ++ decimal meta.group
    ++ codes " " ++ decimal meta.length

-- a number that others stand before
abbrev pub later_number : ℕ → List ℕ
later_number number = codes "," ++ decimal number

-- numbers joined by commas, or `-` where there is none
abbrev pub numbers_text : List ℕ → List ℕ
numbers_text [] = codes "-"
numbers_text (number ∷ numbers) = decimal number ++ flat_map later_number numbers

-- the positions of the set bits among so many, ascending, where the lowest bit has this position
abbrev pub positions_from : ℕ → ℕ → ℕ → List ℕ
positions_from zero position bits = []
positions_from (suc count) position bits =
    (if bits % 2 == 1 then position ∷ [] else []) ++ positions_from count (position + 1) (bits / 2)

-- the positions of the set bits of a number of 128 bits, ascending from 0
unfoldable pub set_positions : ℕ → List ℕ
set_positions bits = positions_from 128 0 bits
