-- The pieces of a path, by the place of its first slash.
use Rattle.std.proofs.Common.{◌≡◌, ℕ, ◌+◌, ◌<◌, ◌≤◌, Bool, true, false, cond, eqb, nat_lt, List, [], ◌∷◌, length, take, drop, filter, position, Some, None, refl, sym, ap, ◌∙◌, subst, arith, length-take}
use Rattle.std.specs.List.{slice_split, position_or_len}
use Rattle.std.proofs.lemmas.Bool.{ltb-true, ltb-false}
use Rattle.std.proofs.lemmas.Bool.Decides.{nat_tests}
use Rattle.std.proofs.lemmas.List.Splits.{slice_split_first, slice_split_none}
use Rattle.std.proofs.lemmas.List.Sums.{fails_before_first}
use Rattle.inf_base.specs.Path.{is_piece, is_slash, pieces_of}

-- a place that was found is the length of what stands before it
pub record IsFound {X : Type 0} (p : X → Bool) (xs : List X) (i : ℕ) : Type 0 where
  pub place : position_or_len p xs ≡ i
  pub within : i < length xs

pub found_at : {X : Type 0} (p : X → Bool) (xs : List X) (i : ℕ) → position p xs ≡ Some i → IsFound p xs i
found_at {X} p xs i found = by_test (nat_lt (position_or_len p xs) (length xs)) refl found where
  by_test : (b : Bool) → nat_lt (position_or_len p xs) (length xs) ≡ b → cond b (Some (position_or_len p xs)) None ≡ Some i → IsFound p xs i
  by_test true within at =
      let place : position_or_len p xs ≡ i = cc in
      record { place = place; within = subst (λ k. k < length xs) place (ltb-true _ _ within) }
  by_test false past at = absurd (cc)

pub missed : {X : Type 0} (p : X → Bool) (xs : List X) → position p xs ≡ None → length xs ≤ position_or_len p xs
missed {X} p xs none = by_test (nat_lt (position_or_len p xs) (length xs)) refl none where
  by_test : (b : Bool) → nat_lt (position_or_len p xs) (length xs) ≡ b → cond b (Some (position_or_len p xs)) None ≡ None → length xs ≤ position_or_len p xs
  by_test true within at = absurd (cc)
  by_test false past at = ltb-false (position_or_len p xs) (length xs) past

not_empty : (piece : List ℕ) (pieces : List (List ℕ)) → 0 < length piece → filter is_piece (piece ∷ pieces) ≡ piece ∷ filter is_piece pieces
not_empty [] pieces some = absurd (omega arith)
not_empty (b ∷ bs) pieces some = refl

pub piece_alone : (text : List ℕ) → position is_slash text ≡ None → eqb (length text) 0 ≡ false → pieces_of text ≡ text ∷ []
piece_alone text none full =
    let some : 0 < length text = grind (arith, nat_tests) in
    let past = missed is_slash text none in
    ap (filter is_piece) (slice_split_none is_slash text (λ k d below. fails_before_first is_slash text k d (omega arith))) ∙ not_empty text [] some

split_at : (text : List ℕ) (end : ℕ) → position is_slash text ≡ Some end → slice_split is_slash text ≡ take end text ∷ slice_split is_slash (drop (end + 1) text)
split_at text end at =
    let found = found_at is_slash text end at in
    subst (λ k. slice_split is_slash text ≡ take k text ∷ slice_split is_slash (drop (k + 1) text)) found.place
    (slice_split_first is_slash text 0 (subst (λ k. k < length text) (sym found.place) found.within))

pub piece_first : (text : List ℕ) (end : ℕ) → position is_slash text ≡ Some end → (end ≡ 0 → ⊥) → pieces_of text ≡ take end text ∷ pieces_of (drop (end + 1) text)
piece_first text end at some =
    let found = found_at is_slash text end at in
    ap (filter is_piece) (split_at text end at) ∙ not_empty (take end text) (slice_split is_slash (drop (end + 1) text)) (omega (arith, length-take end text, found.within, some))
