-- Checks that are made one after another: the first that fails decides.
use Rattle.std.specs.Prelude.{Bool, true, false, Result, Ok, Err}

infixl 10 ◌>>=◌
abbrev pub ◌>>=◌ : {A B E : Type 0} → Result A E → (A → Result B E) → Result B E
Ok x >>= next = next x
Err error >>= next = Err error

infixl 10 ◌>>◌
abbrev pub ◌>>◌ : {A B E : Type 0} → Result A E → Result B E → Result B E
Ok x >> next = next
Err error >> next = Err error

abbrev pub check : {E : Type 0} → Bool → E → Result (Unit {0}) E
check true error = Ok tt
check false error = Err error
