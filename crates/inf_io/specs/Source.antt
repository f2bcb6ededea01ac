-- What a take from a source does.
use Rattle.std.specs.Prelude.{ℕ, ◌≤◌, ⊤, Bool, true, false, List, Option, take}
use Rattle.std.specs.Io.KnownBytes.{Consumes, IsAtEnd, Keeps}
use Rattle.inf_io.specs.declared.take.Take.{Take}
use Rattle.inf_io.specs.declared.take.Take.TheVariants as takes

-- a take that gives gives at least one byte, and no more than there is room for
abbrev pub TakesWithin : ℕ → Take → Type 0
TakesWithin room (takes.Taken n) = (1 ≤ n) × (n ≤ room)
TakesWithin room takes.End = ⊤
TakesWithin room takes.Failed = ⊤

-- the bytes left lose those that the front of the buffer now has, or stay; at the end none is left
abbrev pub TakesFrom : Option (List ℕ) → Option (List ℕ) → Take → List ℕ → Type 0
TakesFrom old new (takes.Taken n) buf = Consumes old new (take n buf)
TakesFrom old new takes.End buf = Keeps old new × IsAtEnd new
TakesFrom old new takes.Failed buf = Keeps old new

-- a fact that holds where the take failed
abbrev pub OnFailedTake : Take → Type 0 → Type 0
OnFailedTake (takes.Taken n) P = ⊤
OnFailedTake takes.End P = ⊤
OnFailedTake takes.Failed P = P

-- a fact that holds unless the take failed
abbrev pub UnlessFailedTake : Take → Type 0 → Type 0
UnlessFailedTake (takes.Taken n) P = P
UnlessFailedTake takes.End P = P
UnlessFailedTake takes.Failed P = ⊤

abbrev pub is_failed_take : Take → Bool
is_failed_take (takes.Taken n) = false
is_failed_take takes.End = false
is_failed_take takes.Failed = true
