-- The words that are modes and numbers.
use Rattle.std.specs.Prelude.{ℕ, ◌+◌, ◌-◌, ◌*◌, ◌==◌, Bool, false, ◌&&◌, not, nat_le, nat_lt, if◌then◌else◌, List, [], ◌∷◌, Result, Ok, Err}
use Rattle.std.specs.List.{list_all}
use Rattle.inf_base.specs.Setup.{is_digit}
use Rattle.inf_script.specs.declared.refusal.Why.{Why}
use Rattle.inf_script.specs.Faults.{bad_number}

abbrev pub is_octal : ℕ → Bool
is_octal byte = nat_le 48 byte && nat_le byte 55

-- three octal digits
abbrev pub mode_of : List ℕ → Result ℕ Why
mode_of (a ∷ b ∷ c ∷ []) =
    if is_octal a && is_octal b && is_octal c then Ok ((a - 48) * 64 + (b - 48) * 8 + (c - 48)) else bad_number
mode_of word = bad_number

-- digits, with a zero in front only where it is the whole word
abbrev pub is_number : List ℕ → Bool
is_number [] = false
is_number (first ∷ []) = is_digit first
is_number (first ∷ second ∷ others) = not (first == 48) && list_all is_digit (first ∷ second ∷ others)

abbrev pub value_from : ℕ → List ℕ → ℕ
value_from so_far [] = so_far
value_from so_far (digit ∷ digits) = value_from (so_far * 10 + (digit - 48)) digits

abbrev pub if_below : ℕ → ℕ → Result ℕ Why
if_below bound number = if nat_lt number bound then Ok number else bad_number

-- the number that a word spells, of those below a bound
abbrev pub number_below : ℕ → List ℕ → Result ℕ Why
number_below bound word = if is_number word then if_below bound (value_from 0 word) else bad_number

abbrev pub if_from : ℕ → Result ℕ Why → Result ℕ Why
if_from low (Err reason) = Err reason
if_from low (Ok number) = if nat_le low number then Ok number else bad_number

-- a number from `low` to `high`
abbrev pub number_within : ℕ → ℕ → List ℕ → Result ℕ Why
number_within low high word = if_from low (number_below (high + 1) word)
