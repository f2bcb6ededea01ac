-- Which numbers a plan may have.
use Rattle.std.proofs.Common.{◌≡◌, ℕ, ◌+◌, ◌<◌, false, eqb, List, [], ◌∷◌, get_or, suc, refl, ap₂, arith, Fits, w64, ◌||◌}
use Rattle.std.proofs.lemmas.Bool.Decides.{nat_tests}
use Rattle.inf_io.specs.Faults.{is_planned}

-- a plan of u64 numbers has no greater one
pub is_planned-past : (fails : List ℕ) (calls : ℕ) → ((i : ℕ) → Fits w64 (get_or fails i 0)) → (calls + 1 < 18446744073709551616 → ⊥) → is_planned fails calls ≡ false
is_planned-past [] calls small past = refl
is_planned-past (x ∷ xs) calls small past =
    let first : Fits w64 x = small 0 in
    let apart : eqb x (calls + 1) ≡ false = grind (arith, nat_tests) in
    let others : is_planned xs calls ≡ false = is_planned-past xs calls (λ i. small (suc i)) past in
    ap₂ (λ a b. a || b) apart others
