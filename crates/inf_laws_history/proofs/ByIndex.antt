-- Lists by index: what lies there once one item more is at the end, or one is set.
use Rattle.std.proofs.Common.{◌≡◌, ◌≢◌, ℕ, zero, suc, ◌<◌, List, [], ◌∷◌, ◌++◌, length, slice_get, slice_set, Some, refl, ap, arith}

pub got_pushed : {X : Type 0} (xs : List X) (y : X) → slice_get (xs ++ y ∷ []) (length xs) ≡ Some y
got_pushed [] y = refl
got_pushed (x ∷ xs) y = got_pushed xs y

pub got_before : {X : Type 0} (xs : List X) (y : X) (i : ℕ) → i < length xs → slice_get (xs ++ y ∷ []) i ≡ slice_get xs i
got_before [] y i within = absurd (omega arith)
got_before (x ∷ xs) y zero within = refl
got_before (x ∷ xs) y (suc i) within = got_before xs y i (omega arith)

pub got_stays : {X : Type 0} (xs : List X) (y : X) (i : ℕ) (x : X) → slice_get xs i ≡ Some x → slice_get (xs ++ y ∷ []) i ≡ Some x
got_stays [] y i x found = absurd cc
got_stays (z ∷ xs) y zero x found = found
got_stays (z ∷ xs) y (suc i) x found = got_stays xs y i x found

pub got_set : {X : Type 0} (xs : List X) (i : ℕ) (y : X) → i < length xs → slice_get (slice_set xs i y) i ≡ Some y
got_set [] i y within = absurd (omega arith)
got_set (x ∷ xs) zero y within = refl
got_set (x ∷ xs) (suc i) y within = got_set xs i y (omega arith)

pub got_apart : {X : Type 0} (xs : List X) (i k : ℕ) (y : X) → k ≢ i → slice_get (slice_set xs i y) k ≡ slice_get xs k
got_apart [] i k y apart = refl
got_apart (x ∷ xs) zero zero y apart = absurd (apart refl)
got_apart (x ∷ xs) zero (suc k) y apart = refl
got_apart (x ∷ xs) (suc i) zero y apart = refl
got_apart (x ∷ xs) (suc i) (suc k) y apart = got_apart xs i k y (λ e. apart (ap suc e))
