-- The table of clients: the names as it keeps them beside the lines, and the number of calls.
use Rattle.std.specs.Prelude.{◌≡◌, ℕ, ◌≤◌, List, length, map}
use Rattle.std.specs.declared.vec.Vec.{Vec}
use Rattle.inf_base.specs.declared.setup.ClientLine.{ClientLine}
use Rattle.inf_base.specs.declared.limits.TheConstants.{MOST_CLIENTS}
use Rattle.inf_base.specs.Setup.{names_of, call_count}

-- the bytes of each name
abbrev pub spelt : {A : Type 0} → List (Vec ℕ A) → List (List ℕ)
spelt {A} names = map (λ (name : Vec ℕ A). name.items) names

-- the names are those of the lines, the calls are counted, and there are no more clients than may be
pub record IsTable {A : Type 0} (names : List (Vec ℕ A)) (lines : List ClientLine) (calls : ℕ) : Type 0 where
  pub named : spelt names ≡ names_of lines
  pub counted : calls ≡ call_count lines
  pub few : length lines ≤ MOST_CLIENTS
