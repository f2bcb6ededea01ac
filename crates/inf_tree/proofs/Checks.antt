-- What holds of a chain of checks where none refuses.
use Rattle.std.proofs.Common.{Result, Ok, Err, IfOk}
use Rattle.inf_base.specs.declared.errno.Errno.{Errno}
use Rattle.inf_base.specs.Checks.{◌>>=◌, ◌>>◌}

pub after : {A B : Type 0} (P : A → Type 0) (Q : B → Type 0) (x : Result A Errno) (next : A → Result B Errno) → IfOk x P → ((a : A) → P a → IfOk (next a) Q) → IfOk (x >>= next) Q
after P Q (Ok a) next h g = g a h
after P Q (Err e) next h g = tt

pub each : {A B : Type 0} (Q : B → Type 0) (x : Result A Errno) (next : A → Result B Errno) → ((a : A) → IfOk (next a) Q) → IfOk (x >>= next) Q
each Q (Ok a) next g = g a
each Q (Err e) next g = tt

pub passed : {A B : Type 0} (Q : B → Type 0) (x : Result A Errno) (next : Result B Errno) → IfOk next Q → IfOk (x >> next) Q
passed Q (Ok a) next g = g
passed Q (Err e) next g = tt
