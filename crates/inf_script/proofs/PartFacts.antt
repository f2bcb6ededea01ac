-- The parts of a list, by the place of its first separator, and the lines and words that they make.
use Rattle.std.proofs.Common.{◌≡◌, ℕ, ◌+◌, ◌<◌, Bool, true, false, cond, nat_lt, nat_eq, List, [], ◌∷◌, length, filter, take, drop, Option, Some, None, refl, sym, ap, ◌∙◌, subst, arith}
use Rattle.std.specs.List.{slice_split, position, position_or_len}
use Rattle.std.proofs.lemmas.Bool.{ltb-true, ltb-false}
use Rattle.std.proofs.lemmas.List.Splits.{slice_split_first, slice_split_none, length-slice_split}
use Rattle.std.proofs.lemmas.List.Sums.{fails_before_first}
use Rattle.inf_base.specs.Path.{is_piece}
use Rattle.inf_script.specs.Cuts.{before, behind, parts_behind}
use Rattle.inf_script.specs.Words.{is_blank}
use Rattle.inf_script.specs.Lines.{is_newline, whole_parts, lines_of}

split_found : (p : ℕ → Bool) (xs : List ℕ) (i : ℕ) → position p xs ≡ Some i → slice_split p xs ≡ take i xs ∷ slice_split p (drop (i + 1) xs)
split_found p xs i found = by_test (nat_lt (position_or_len p xs) (length xs)) refl found where
  by_test : (b : Bool) → nat_lt (position_or_len p xs) (length xs) ≡ b → cond b (Some (position_or_len p xs)) None ≡ Some i → slice_split p xs ≡ take i xs ∷ slice_split p (drop (i + 1) xs)
  by_test true within at =
      let place : position_or_len p xs ≡ i = cc in
      subst (λ (k : ℕ). slice_split p xs ≡ take k xs ∷ slice_split p (drop (k + 1) xs)) place (slice_split_first p xs 0 (ltb-true _ _ within))
  by_test false past at = cc

split_missed : (p : ℕ → Bool) (xs : List ℕ) → position p xs ≡ None → slice_split p xs ≡ xs ∷ []
split_missed p xs missed = by_test (nat_lt (position_or_len p xs) (length xs)) refl missed where
  by_test : (b : Bool) → nat_lt (position_or_len p xs) (length xs) ≡ b → cond b (Some (position_or_len p xs)) None ≡ None → slice_split p xs ≡ xs ∷ []
  by_test true within at = cc
  by_test false past at =
      let whole = ltb-false (position_or_len p xs) (length xs) past in
      slice_split_none p xs (λ k d below. fails_before_first p xs k d (omega arith))

-- a list that is cut at its first separator
cut_parts : (p : ℕ → Bool) (xs : List ℕ) (place : Option ℕ) → position p xs ≡ place → slice_split p xs ≡ before place xs ∷ parts_behind p (behind place xs)
cut_parts p xs (Some i) found = split_found p xs i found
cut_parts p xs None missed = split_missed p xs missed

-- the same of what a cut gave
pub parts_of_cut : (p : ℕ → Bool) (xs front : List ℕ) (place : Option ℕ) (back : Option (List ℕ)) → place ≡ position p xs → front ≡ before place xs → back ≡ behind place xs → slice_split p xs ≡ front ∷ parts_behind p back
parts_of_cut p xs front place back found first rest = rw (first, rest) (cut_parts p xs place (sym found))

front_kept : (more : Bool) (part : List ℕ) (parts : List (List ℕ)) → 0 < length parts → whole_parts more (part ∷ parts) ≡ part ∷ whole_parts more parts
front_kept more part [] some = absurd (omega arith)
front_kept more part (next ∷ parts) some = refl

-- a line that a newline ends
pub line_found : (more : Bool) (text line : List ℕ) (back : Option (List ℕ)) (rest : List ℕ) → slice_split is_newline text ≡ line ∷ parts_behind is_newline back → back ≡ Some rest → lines_of more text ≡ line ∷ lines_of more rest
line_found more text line (Some behind) rest parts found =
    let same : behind ≡ rest = cc in
    subst (λ (r : List ℕ). lines_of more text ≡ line ∷ lines_of more r) same
    (ap (whole_parts more) parts ∙ front_kept more line (slice_split is_newline behind) (omega (arith, length-slice_split is_newline behind)))
line_found more text line None rest parts found = cc

-- the last part of a text that goes on
pub line_cut : (text line : List ℕ) (back : Option (List ℕ)) → slice_split is_newline text ≡ line ∷ parts_behind is_newline back → back ≡ None → lines_of true text ≡ []
line_cut text line (Some behind) parts missed = cc
line_cut text line None parts missed = ap (whole_parts true) parts

-- the last line of a text that ends there
pub line_last : (text line : List ℕ) (back : Option (List ℕ)) → slice_split is_newline text ≡ line ∷ parts_behind is_newline back → back ≡ None → is_piece line ≡ true → lines_of false text ≡ line ∷ []
line_last text line (Some behind) parts missed piece = cc
line_last text line None parts missed piece = ap (whole_parts false) parts ∙ rw piece refl

-- a part that is not empty
pub piece_of : (part : List ℕ) → false ≡ nat_eq (length part) 0 → is_piece part ≡ true
piece_of [] filled = cc
piece_of (byte ∷ bytes) filled = refl

-- the first part that is not empty is the first word
pub word_found : (left : Option (List ℕ)) (bytes part : List ℕ) (back : Option (List ℕ)) (words : List (List ℕ)) → filter is_piece (parts_behind is_blank left) ≡ words → left ≡ Some bytes
    → slice_split is_blank bytes ≡ part ∷ parts_behind is_blank back → is_piece part ≡ true → words ≡ part ∷ filter is_piece (parts_behind is_blank back)
word_found left bytes part back words all found parts piece =
    sym all ∙ rw (found, parts, piece) refl
