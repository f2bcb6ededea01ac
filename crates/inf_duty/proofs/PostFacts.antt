-- The messages of a group, and the asks that send them, by their index.
use Rattle.std.proofs.Common.{◌≡◌, ℕ, zero, suc, ◌+◌, ◌<◌, ◌≤◌, List, [], ◌∷◌, ◌++◌, length, map, drop, take, slice_get, Some, None, refl, sym, ap, ◌∙◌, arith}

-- what stands behind the first, up to an index
take_more : {A : Type 0} (xs : List A) (i : ℕ) (x : A) → slice_get xs i ≡ Some x → take i xs ++ x ∷ [] ≡ take (i + 1) xs
take_more [] i x at = absurd cc
take_more (y ∷ xs) zero x at = let same : y ≡ x = cc in ap (λ z. z ∷ []) (sym same)
take_more (y ∷ xs) (suc i) x at =
    let later : suc (i + 1) ≡ suc i + 1 = omega arith in
    ap (λ zs. y ∷ zs) (take_more xs i x at) ∙ ap (λ (n : ℕ). take n (y ∷ xs)) later

pub none_behind : {A : Type 0} (xs : List A) → [] ≡ drop 1 (take 1 xs)
none_behind [] = refl
none_behind (x ∷ xs) = refl

pub behind_more : {A : Type 0} (xs : List A) (i : ℕ) (x : A) → 1 ≤ i → slice_get xs i ≡ Some x
    → drop 1 (take i xs) ++ x ∷ [] ≡ drop 1 (take (i + 1) xs)
behind_more [] i x some at = absurd cc
behind_more (y ∷ xs) zero x some at = absurd (omega (arith, some))
behind_more (y ∷ xs) (suc i) x some at =
    let later : suc (i + 1) ≡ suc i + 1 = omega arith in
    take_more xs i x at ∙ ap (λ (n : ℕ). drop 1 (take n (y ∷ xs))) later

pub behind_all : {A : Type 0} (xs : List A) (i : ℕ) → i ≡ length xs → drop 1 (take i xs) ≡ drop 1 xs
behind_all xs i all = ap (drop 1) (take_all xs i all)
  where
    take_all : {A : Type 0} (xs : List A) (i : ℕ) → i ≡ length xs → take i xs ≡ xs
    take_all [] zero all = refl
    take_all [] (suc i) all = refl
    take_all (y ∷ xs) zero all = absurd (omega (arith, all))
    take_all (y ∷ xs) (suc i) all = ap (λ zs. y ∷ zs) (take_all xs i (omega (arith, all)))

pub there_is : {A : Type 0} (xs : List A) (i : ℕ) → i < length xs → slice_get xs i ≡ None → ⊥
there_is [] i within none = omega (arith, within)
there_is (x ∷ xs) zero within none = cc
there_is (x ∷ xs) (suc i) within none = there_is xs i (omega (arith, within)) none

pub post_at : {A B : Type 0} (f : A → B) (xs : List A) (i : ℕ) (x : A) → slice_get xs i ≡ Some x
    → slice_get (map f xs) i ≡ Some (f x)
post_at f [] i x at = absurd cc
post_at f (y ∷ xs) zero x at = let same : y ≡ x = cc in ap (λ z. Some (f z)) same
post_at f (y ∷ xs) (suc i) x at = post_at f xs i x at
