-- The words that are modes and numbers: what is read is valid.
use Rattle.std.proofs.Common.{◌≡◌, ℕ, ◌+◌, ◌-◌, ◌*◌, ◌<◌, ◌≤◌, Bool, true, false, ◌&&◌, cond, nat_lt, List, [], ◌∷◌, Ok, Result, Err, IfOk, if◌then◌else◌, nat_le, refl, arith}
use Rattle.std.proofs.lemmas.Bool.{ltb-true, leb-true, le-leb, false≢true}
use Rattle.inf_base.specs.Setup.{is_mode, IsWithin}
use Rattle.inf_script.specs.declared.refusal.Why.{Why}
use Rattle.inf_script.specs.declared.refusal.Why.TheVariants as why
use Rattle.inf_script.specs.Names.{is_octal, mode_of, is_number, value_from, if_below, number_below, if_from, number_within}
use Rattle.inf_script.specs.Faults.{bad_number}

pub and_left : (a b : Bool) → (a && b) ≡ true → a ≡ true
and_left true b both = refl
and_left false b both = both

pub and_right : (a b : Bool) → (a && b) ≡ true → b ≡ true
and_right true b both = both
and_right false b both = absurd (false≢true both)

pub and_both : (a b : Bool) → a ≡ true → b ≡ true → (a && b) ≡ true
and_both true b first second = second
and_both false b first second = first

-- what holds of the value of each branch holds of the choice
pub if_both : {X : Type 0} (P : X → Type 0) (b : Bool) (x y : X) → (b ≡ true → P x) → (b ≡ false → P y) → P (cond b x y)
if_both P true x y then_holds else_holds = then_holds refl
if_both P false x y then_holds else_holds = else_holds refl

-- a value of which P holds, or a refusal
pub if_read : {X : Type 0} (P : X → Type 0) (b : Bool) (r : Result X Why) (reason : Why) → (b ≡ true → IfOk r P) → IfOk (if b then r else Err reason) P
if_read P b r reason holds = if_both (λ answer. IfOk answer P) b r (Err reason) holds (λ _. tt)

pub not_above : (m n : ℕ) → m ≤ n → nat_lt n m ≡ false
not_above m n within = by_test (nat_lt n m) refl where
  by_test : (b : Bool) → nat_lt n m ≡ b → b ≡ false
  by_test true above = absurd (let over = ltb-true n m above in omega arith)
  by_test false above = refl

pub not_above_le : (m n : ℕ) → n < m → nat_le m n ≡ false
not_above_le m n over = by_test (nat_le m n) refl where
  by_test : (b : Bool) → nat_le m n ≡ b → b ≡ false
  by_test true within = absurd (let short = leb-true m n within in omega arith)
  by_test false within = refl

octal-short : (byte : ℕ) → is_octal byte ≡ true → byte ≤ 55
octal-short byte octal = leb-true byte 55 (and_right _ _ octal)

pub mode_of-is_mode : (word : List ℕ) → IfOk (mode_of word) (λ mode. is_mode mode ≡ true)
mode_of-is_mode (a ∷ b ∷ c ∷ []) =
    if_read (λ mode. is_mode mode ≡ true) (is_octal a && is_octal b && is_octal c) (Ok ((a - 48) * 64 + (b - 48) * 8 + (c - 48))) why.BadNumber
    (λ octal.
    let first : a ≤ 55 = octal-short a (and_left (is_octal a) (is_octal b) (and_left (is_octal a && is_octal b) (is_octal c) octal)) in
    let second : b ≤ 55 = octal-short b (and_right (is_octal a) (is_octal b) (and_left (is_octal a && is_octal b) (is_octal c) octal)) in
    let third : c ≤ 55 = octal-short c (and_right (is_octal a && is_octal b) (is_octal c) octal) in
    le-leb _ _ (omega arith))
mode_of-is_mode [] = tt
mode_of-is_mode (a ∷ []) = tt
mode_of-is_mode (a ∷ b ∷ []) = tt
mode_of-is_mode (a ∷ b ∷ c ∷ d ∷ rest) = tt

pub number_below-good : (bound : ℕ) (word : List ℕ) → IfOk (number_below bound word) (λ number. number < bound)
number_below-good bound word = if_read (λ number. number < bound) (is_number word) (if_below bound (value_from 0 word)) why.BadNumber (λ _.
    if_read (λ number. number < bound) (nat_lt (value_from 0 word) bound) (Ok (value_from 0 word)) why.BadNumber (λ below. ltb-true _ _ below))

if_from-good : (low high : ℕ) (r : Result ℕ Why) → IfOk r (λ number. number < high + 1) → IfOk (if_from low r) (λ number. IsWithin low high number)
if_from-good low high (Err reason) below = tt
if_from-good low high (Ok number) below = if_read (IsWithin low high) (nat_le low number) (Ok number) why.BadNumber (λ above.
    let least = leb-true low number above in record { at_least = least; at_most = omega arith })

pub number_within-good : (low high : ℕ) (word : List ℕ) → IfOk (number_within low high word) (λ number. IsWithin low high number)
number_within-good low high word = if_from-good low high (number_below (high + 1) word) (number_below-good (high + 1) word)

pub value_from-least : (so_far : ℕ) (digits : List ℕ) → so_far ≤ value_from so_far digits
value_from-least so_far [] = omega arith
value_from-least so_far (digit ∷ digits) = omega (arith, value_from-least (so_far * 10 + (digit - 48)) digits)

-- further digits make a number that is too great no smaller
pub too_great : (bound so_far : ℕ) (digits : List ℕ) (total : ℕ) → value_from so_far digits ≡ total → bound ≤ so_far → if_below bound total ≡ bad_number
too_great bound so_far digits total spelt over =
    let least = value_from-least so_far digits in
    rw (not_above bound total (omega arith)) refl
