-- What a put to a sink does.
use Rattle.std.specs.Prelude.{ℕ, ◌≤◌, ⊤, Bool, true, false, List, Option, take}
use Rattle.std.specs.Io.KnownBytes.{Appends, Keeps}
use Rattle.inf_io.specs.declared.give.Give.{Give}
use Rattle.inf_io.specs.declared.give.Give.TheVariants as gives

-- a put that succeeds takes at least one byte, and no more than were offered
abbrev pub GivesWithin : ℕ → Give → Type 0
GivesWithin offered (gives.Gave n) = (1 ≤ n) × (n ≤ offered)
GivesWithin offered gives.Failed = ⊤

-- the bytes held grow by the first of those offered, or stay
abbrev pub GivesTo : Option (List ℕ) → Option (List ℕ) → Give → List ℕ → Type 0
GivesTo old new (gives.Gave n) bytes = Appends old new (take n bytes)
GivesTo old new gives.Failed bytes = Keeps old new

-- a fact that holds where the put failed
abbrev pub OnFailedGive : Give → Type 0 → Type 0
OnFailedGive (gives.Gave n) P = ⊤
OnFailedGive gives.Failed P = P

-- a fact that holds unless the put failed
abbrev pub UnlessFailedGive : Give → Type 0 → Type 0
UnlessFailedGive (gives.Gave n) P = P
UnlessFailedGive gives.Failed P = ⊤

abbrev pub is_failed_give : Give → Bool
is_failed_give (gives.Gave n) = false
is_failed_give gives.Failed = true
