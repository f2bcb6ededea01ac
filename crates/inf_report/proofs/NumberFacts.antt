-- Numbers that are joined by commas, one after another.
use Rattle.std.proofs.Common.{◌≡◌, ◌≢◌, ℕ, suc, ◌+◌, ◌-◌, ◌/◌, ◌%◌, ◌<◌, ◌≤◌, ◌==◌, Bool, true, false, cond, List, [], ◌∷◌, ◌++◌, refl, sym, ap, ◌∙◌, append_assoc, arith}
use Rattle.std.specs.List.{flat_map}
use Rattle.std.specs.Fmt.{decimal}
use Rattle.inf_report.specs.Numbers.{later_number, numbers_text, positions_from}

-- the text of the numbers that are left, where none or some were printed
abbrev pub rest_text : Bool → List ℕ → List ℕ
rest_text true numbers = numbers_text numbers
rest_text false numbers = flat_map later_number numbers

-- one more number is printed
pub rest_text-cons : (is_first : Bool) (number : ℕ) (numbers : List ℕ)
    → rest_text is_first (number ∷ numbers) ≡ cond is_first (decimal number) (later_number number) ++ rest_text false numbers
rest_text-cons true number numbers = refl
rest_text-cons false number numbers = refl

-- the lowest bit is looked at, and then the others
pub positions_from-step : (position bits : ℕ) → position < 128
    → positions_from (128 - position) position bits ≡ cond (bits % 2 == 1) (position ∷ []) [] ++ positions_from (128 - (position + 1)) (position + 1) (bits / 2)
positions_from-step position bits within =
    let next : 128 - position ≡ suc (128 - (position + 1)) = omega arith in
    rw next refl

-- the lowest bit is set, and its position is printed
pub position_printed : (out : List ℕ) (is_first : Bool) (position bits : ℕ) (text : List ℕ) → position < 128 → bits % 2 ≡ 1
    → out ++ rest_text is_first (positions_from (128 - position) position bits) ≡ text
    → out ++ cond is_first (decimal position) (later_number position) ++ rest_text false (positions_from (128 - (position + 1)) (position + 1) (bits / 2)) ≡ text
position_printed out is_first position bits text within odd whole =
    let others = positions_from (128 - (position + 1)) (position + 1) (bits / 2) in
    let step : positions_from (128 - position) position bits ≡ position ∷ others =
    positions_from-step position bits within ∙ ap (λ b. cond b (position ∷ []) [] ++ others) (ap (λ n. n == 1) odd) in
    append_assoc out _ _ ∙ ap (λ l. out ++ l) (sym (rest_text-cons is_first position others) ∙ ap (rest_text is_first) (sym step)) ∙ whole

-- the lowest bit is not set
pub position_passed : (out : List ℕ) (is_first : Bool) (position bits : ℕ) (text : List ℕ) → position < 128 → bits % 2 ≢ 1
    → out ++ rest_text is_first (positions_from (128 - position) position bits) ≡ text
    → out ++ rest_text is_first (positions_from (128 - (position + 1)) (position + 1) (bits / 2)) ≡ text
position_passed out is_first position bits text within even whole =
    let others = positions_from (128 - (position + 1)) (position + 1) (bits / 2) in
    let zero_bit : bits % 2 ≡ 0 = omega (arith, even) in
    let step : positions_from (128 - position) position bits ≡ others =
    positions_from-step position bits within ∙ ap (λ b. cond b (position ∷ []) [] ++ others) (ap (λ n. n == 1) zero_bit) in
    ap (λ l. out ++ rest_text is_first l) (sym step) ∙ whole

pub positions_from-none : (position bits : ℕ) → 128 ≤ position → positions_from (128 - position) position bits ≡ []
positions_from-none position bits past =
    let none : 128 - position ≡ 0 = omega arith in
    rw none refl
