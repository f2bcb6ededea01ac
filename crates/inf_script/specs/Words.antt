-- The words of a line.
use Rattle.std.specs.Prelude.{ℕ, ◌-◌, Bool, ◌||◌, ◌==◌, nat_eq, if◌then◌else◌, List, [], ◌∷◌, length, take, filter, codes}
use Rattle.std.specs.List.{slice_split, starts_with, ends_with}
use Rattle.inf_base.specs.Path.{is_piece}

-- a space or a tab
abbrev pub is_blank : ℕ → Bool
is_blank byte = byte == 32 || byte == 9

-- without the one carriage return that ends a line
abbrev pub without_return : List ℕ → List ℕ
without_return line = if ends_with nat_eq line (13 ∷ []) then take (length line - 1) line else line

-- what stands between blanks, of which several part words as one does
abbrev pub words_of : List ℕ → List (List ℕ)
words_of line = filter is_piece (slice_split is_blank line)

-- a line that begins with such a word is a comment
abbrev pub is_comment : List ℕ → Bool
is_comment word = starts_with nat_eq word (codes "#")
