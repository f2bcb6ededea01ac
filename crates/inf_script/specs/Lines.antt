-- The lines of a text.
use Rattle.std.specs.Prelude.{ℕ, Bool, ◌||◌, not, ◌==◌, if◌then◌else◌, List, [], ◌∷◌}
use Rattle.std.specs.List.{slice_split}
use Rattle.inf_base.specs.Path.{is_piece}

abbrev pub is_newline : ℕ → Bool
is_newline byte = byte == 10

-- without the last part, where it is empty or where the text goes on behind it
abbrev pub whole_parts : Bool → List (List ℕ) → List (List ℕ)
whole_parts more (part ∷ next ∷ parts) = part ∷ whole_parts more (next ∷ parts)
whole_parts more (part ∷ []) = if more || not (is_piece part) then [] else part ∷ []
whole_parts more [] = []

-- the lines that can be read whole: what stands between newlines, and what stands behind the last one unless it is
-- empty or the text goes on there
abbrev pub lines_of : Bool → List ℕ → List (List ℕ)
lines_of more text = whole_parts more (slice_split is_newline text)
