-- A Serve, as laws speak of it.
use Rattle.std.specs.Prelude.{ℕ}

-- by the number of its server, the place of the Ask that it serves, and its own
pub record At : Type 0 where
  pub number : ℕ
  pub ask_place : ℕ
  pub serve_place : ℕ
