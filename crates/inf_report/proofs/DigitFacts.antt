-- The digits of a number, which are found from the last to the first.
use Rattle.std.proofs.Common.{◌≡◌, ℕ, ◌+◌, ◌-◌, ◌/◌, ◌%◌, ◌^◌, ◌<◌, ◌≤◌, List, ◌∷◌, ◌++◌, length, drop, take, slice_set, sym, ap, ◌∙◌, length-append, arith}
use Rattle.std.proofs.Math.Seq.{append_snoc, take-length}
use Rattle.std.proofs.lemmas.Fmt.{decimal_digit, decimal_step}
use Rattle.std.proofs.lemmas.List.{drop-set, length-drop, length-set}
use Rattle.std.specs.Fmt.{decimal}

-- the last digit moves from the number to the digits found
pub decimal-moved : (n start : ℕ) (found text : List ℕ) → 10 ≤ n → n < 2 ^ 64 → 0 < start → start ≤ length found
    → decimal n ++ drop start found ≡ text → decimal (n / 10) ++ drop (start - 1) (slice_set found (start - 1) (48 + n % 10)) ≡ text
decimal-moved n start found text large small some within whole =
    let last = 48 + n % 10 in
    let back : start - 1 + 1 ≡ start = omega arith in
    ap (λ l. decimal (n / 10) ++ l) (drop-set found (start - 1) last (omega arith))
    ∙ ap (λ i. decimal (n / 10) ++ last ∷ drop i found) back
    ∙ sym (append_snoc (decimal (n / 10)) last (drop start found))
    ∙ ap (λ l. l ++ drop start found) (sym (decimal_step n large small))
    ∙ whole

pub length-decimal-step : (n : ℕ) → 10 ≤ n → n < 2 ^ 64 → length (decimal (n / 10)) + 1 ≡ length (decimal n)
length-decimal-step n large small = sym (ap length (decimal_step n large small) ∙ length-append (decimal (n / 10)) _)

-- a digit is left, and then all digits are found
pub decimal-found : (n start : ℕ) (found text : List ℕ) → n < 10 → 0 < start → start ≤ length found
    → decimal n ++ drop start found ≡ text → drop (start - 1) (slice_set found (start - 1) (48 + n)) ≡ text
decimal-found n start found text digit some within whole =
    let back : start - 1 + 1 ≡ start = omega arith in
    drop-set found (start - 1) (48 + n) (omega arith)
    ∙ ap (λ i. (48 + n) ∷ drop i found) back
    ∙ ap (λ l. l ++ drop start found) (sym (decimal_digit n digit))
    ∙ whole

-- the part that is printed is all that was found
pub all-found : (size start : ℕ) (found text : List ℕ) (digit : ℕ) → length found ≡ size → drop start (slice_set found start digit) ≡ text
    → take (size - start) (drop start (slice_set found start digit)) ≡ text
all-found size start found text digit same whole =
    let all : length (drop start (slice_set found start digit)) ≡ size - start =
    length-drop start (slice_set found start digit) ∙ ap (λ n. n - start) (length-set found start digit ∙ same) in
    ap (λ n. take n (drop start (slice_set found start digit))) (sym all) ∙ take-length _ ∙ whole
