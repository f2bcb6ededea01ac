-- Bytes cut at a place: what stands before it, and what stands behind it.
use Rattle.std.specs.Prelude.{ℕ, ◌+◌, Bool, List, [], length, take, drop, Option, Some, None}
use Rattle.std.specs.List.{slice_split}

abbrev pub before : Option ℕ → List ℕ → List ℕ
before None bytes = bytes
before (Some place) bytes = take place bytes

abbrev pub behind : Option ℕ → List ℕ → Option (List ℕ)
behind None bytes = None
behind (Some place) bytes = Some (drop (place + 1) bytes)

-- the parts of what stands behind a separator, where there was one
abbrev pub parts_behind : (ℕ → Bool) → Option (List ℕ) → List (List ℕ)
parts_behind is_separator None = []
parts_behind is_separator (Some rest) = slice_split is_separator rest

-- how many bytes a separator and what stands behind it have
abbrev pub bytes_behind : Option (List ℕ) → ℕ
bytes_behind None = 0
bytes_behind (Some rest) = length rest + 1
