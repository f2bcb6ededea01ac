-- The small run by hand, step by step.
use Rattle.std.specs.Prelude.{◌≡◌, ℕ}
use Rattle.inf_core.specs.Core.{Running}
use Rattle.inf_core.specs.Examples.{first_events, world}

-- a core that has seen so many events of the run
pub record IsAfter {R : Type 0} (count : ℕ) (core : Running R) : Type 0 where
  pub setup : core.setup ≡ world.setup
  pub history : core.history ≡ first_events count
