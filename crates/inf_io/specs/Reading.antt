-- What reading a source whole does.
use Rattle.std.specs.Prelude.{◌≡◌, ℕ, ◌≤◌, ◌<◌, ⊤, List, [], ◌∷◌, ◌++◌, length, Option, Result, Ok, Err}
use Rattle.std.specs.Io.KnownBytes.{Consumes, IsAtEnd, Keeps}
use Rattle.inf_io.specs.declared.reading.ReadFault.{ReadFault}
use Rattle.inf_io.specs.declared.reading.ReadFault.TheVariants as faults
use Rattle.inf_io.specs.declared.take.Take.{Take}
use Rattle.inf_io.specs.declared.take.Take.TheVariants as takes

-- a fact of the bytes that were read, where there were too many
abbrev pub IfTooLarge : {T : Type 0} → Result T ReadFault → (List ℕ → Type 0) → Type 0
IfTooLarge (Ok all) P = ⊤
IfTooLarge (Err faults.Read) P = ⊤
IfTooLarge (Err (faults.TooLarge front)) P = P front.items
IfTooLarge (Err faults.NoMemory) P = ⊤

-- a fact that holds unless a read failed
abbrev pub UnlessRead : {T : Type 0} → Result T ReadFault → Type 0 → Type 0
UnlessRead (Ok all) P = P
UnlessRead (Err faults.Read) P = ⊤
UnlessRead (Err (faults.TooLarge front)) P = P
UnlessRead (Err faults.NoMemory) P = P

-- these bytes and one more were taken
abbrev pub TookOneMore : Option (List ℕ) → Option (List ℕ) → List ℕ → Type 0
TookOneMore old new front = (last : ℕ) × Consumes old new (front ++ last ∷ [])

-- the bytes left lost at most so many, from the first on
pub record LosesAtMost (most : ℕ) (old new : Option (List ℕ)) : Type 0 where
  pub lost : List ℕ
  pub few : length lost ≤ most
  pub consumed : Consumes old new lost

-- some of the bytes left, at most so many, moved to the end of a list
pub record MovesSome (most : ℕ) (old new : Option (List ℕ)) (before after : List ℕ) : Type 0 where
  pub moved : List ℕ
  pub some_moved : 0 < length moved
  pub few : length moved ≤ most
  pub consumed : Consumes old new moved
  pub grown : after ≡ before ++ moved

-- what a take that moves bytes to the end of a list does
abbrev pub MovesBy : ℕ → Option (List ℕ) → Option (List ℕ) → List ℕ → List ℕ → Take → Type 0
MovesBy most old new before after (takes.Taken n) = MovesSome most old new before after
MovesBy most old new before after takes.End = Keeps old new × IsAtEnd new × (after ≡ before)
MovesBy most old new before after takes.Failed = Keeps old new × (after ≡ before)
