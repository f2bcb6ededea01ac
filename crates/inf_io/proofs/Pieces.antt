-- Bytes that move piece by piece from what is left.
use Rattle.std.proofs.Common.{◌≡◌, ℕ, ◌+◌, ◌-◌, ◌≤◌, ◌<◌, List, [], ◌∷◌, ◌++◌, length, take, drop, get_or, sym, ap, ap₂, ◌∙◌, subst, arith, Option, length-take, length-drop, take-append-drop}
use Rattle.std.specs.Io.KnownBytes.{Consumes}
use Rattle.std.proofs.KnownBytes.{Consumes-trans}
use Rattle.std.proofs.lemmas.List.{drop-drop, take_at, take_more, take_all, length-append}
use Rattle.inf_io.specs.Reading.{LosesAtMost, TookOneMore}

-- the piece that was copied to the front of a buffer, and the bytes after it
pub copied_piece : (bytes : List ℕ) (start n : ℕ) (front rest left : List ℕ) → left ≡ drop start bytes → front ≡ take (start + n - start) (drop start bytes) → n ≤ length bytes - start
    → left ≡ take n (front ++ rest) ++ drop (start + n) bytes
copied_piece bytes start n front rest left is_left is_front fits =
    let same : start + n - start ≡ n = omega arith in
    let piece : front ≡ take n (drop start bytes) = is_front ∙ ap (λ k. take k (drop start bytes)) same in
    let long : length front ≡ n = ap length piece ∙ simp (length-take, length-drop) (omega arith) in
    is_left ∙ sym (take-append-drop n (drop start bytes)) ∙ ap₂ (λ a b. a ++ b) (sym piece ∙ sym (take_at front rest n long)) (drop-drop n start bytes)

-- what is lost in two steps
pub LosesAtMost-more : (a b c : Option (List ℕ)) (all : List ℕ) (limit most : ℕ) → Consumes a b all → length all + most ≤ limit + 1 → LosesAtMost most b c → LosesAtMost (limit + 1) a c
LosesAtMost-more a b c all limit most before short now = record {
  lost = all ++ now.lost;
  few = let few = now.few in omega (arith, length-append all now.lost);
  consumed = Consumes-trans a b c all now.lost before now.consumed;
}

-- one byte more than the limit was taken
pub TookOneMore-from_all : (a b : Option (List ℕ)) (all front : List ℕ) (limit : ℕ) → Consumes a b all → length all ≡ limit + 1 → front ≡ take limit all → TookOneMore a b front
TookOneMore-from_all a b all front limit taken long is_front =
    let below : limit < length all = omega arith in
    let whole : all ≡ front ++ get_or all limit 0 ∷ [] = sym (take_all (limit + 1) all (omega arith)) ∙ take_more all limit 0 below ∙ ap (λ l. l ++ get_or all limit 0 ∷ []) (sym is_front) in
    (get_or all limit 0, subst (Consumes a b) whole taken)
