-- What a call may answer in place of what it is to answer: want of memory.
use Rattle.std.specs.Prelude.{◌≡◌, Option, Result, Ok, Err, IfSome}

-- the answer is the expected one, or an error that has no cause but want of memory
abbrev pub Gives : {X E F : Type 0} → (E → Option F) → Result X E → Result X F → Type 0
Gives cause (Ok x) expected = expected ≡ Ok x
Gives cause (Err e) expected = IfSome (cause e) (λ f. expected ≡ Err f)
