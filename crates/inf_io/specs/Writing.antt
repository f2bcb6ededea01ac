-- What writing bytes whole does.
use Rattle.std.specs.Prelude.{ℕ, ◌<◌, List, length, take, Option}
use Rattle.std.specs.Io.KnownBytes.{Appends}

-- the bytes held grew by a front of these, and not by all of them
pub record AppendsPrefix (old new : Option (List ℕ)) (bytes : List ℕ) : Type 0 where
  pub count : ℕ
  pub not_all : count < length bytes
  pub front : Appends old new (take count bytes)
