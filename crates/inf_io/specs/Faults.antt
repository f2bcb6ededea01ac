-- Counts of faults, which stop at the greatest u64, and plans of which calls are to fail.
use Rattle.std.specs.Prelude.{◌≡◌, ◌⊎◌, ℕ, ◌+◌, ◌-◌, ◌^◌, ◌<◌, min, Bool, ◌==◌, List, if◌then◌else◌}
use Rattle.std.specs.List.{list_any}

-- one more, up to the greatest u64
abbrev pub raised : ℕ → ℕ
raised count = min (count + 1) (2 ^ 64 - 1)

-- the count rose, or stands at its last value, where it can rise no more
abbrev pub Rose : ℕ → ℕ → Type 0
Rose before now = (before < now) ⊎ (now ≡ 2 ^ 64 - 1)

-- the count is as before: nothing failed
abbrev pub Stays : ℕ → ℕ → Type 0
Stays before now = now ≡ before

-- the count is one more after a failure, and stays otherwise
abbrev pub count_after : Bool → ℕ → ℕ
count_after is_failure count = if is_failure then raised count else count

-- the call after so many stands in the plan, which numbers calls from 1
abbrev pub is_planned : List ℕ → ℕ → Bool
is_planned fails calls = list_any (λ number. number == calls + 1) fails

-- calls are counted up to the greatest u64; no plan has the number of a later one
abbrev pub next_call : ℕ → ℕ
next_call calls = min (calls + 1) (2 ^ 64 - 1)
