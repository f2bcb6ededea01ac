-- A path word that is let through has names.
use Rattle.std.proofs.Common.{◌≡◌, ℕ, true, List, [], ◌∷◌, Result, Ok, Err, refl, arith}
use Rattle.std.proofs.lemmas.Bool.{false≢true}
use Rattle.inf_base.specs.declared.errno.Errno.{Errno}
use Rattle.inf_base.specs.Path.{path_of}
use Rattle.inf_path.specs.Parsed.{has_names}
use Rattle.inf_script.specs.Built.{HasNames}

pub names_there : (path : List ℕ) → has_names (path_of path) ≡ true → HasNames path
names_there path some = by (path_of path) refl some
  where
    by : (r : Result (List (List ℕ)) Errno) → path_of path ≡ r → has_names r ≡ true → HasNames path
    by (Ok (name ∷ names)) spelt some = record { names = name ∷ names; spelt = spelt; some = omega arith }
    by (Ok []) spelt some = absurd (false≢true some)
    by (Err error) spelt some = absurd (false≢true some)
