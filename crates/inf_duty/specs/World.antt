-- What a run rests on: the setup, and the digest that identifiers are made by.
use Rattle.std.specs.Prelude.{ℕ, List}
use Rattle.inf_base.specs.declared.id.Id.{Id}
use Rattle.inf_base.specs.declared.setup.Setup.{Setup}
use Rattle.inf_base.specs.declared.triple.Triple.TheVariants as triple
use Rattle.inf_base.specs.Identity.{identity}
use Rattle.inf_birth.specs.Digest.{sha_id}

pub record World : Type 0 where
  pub setup : Setup
  pub digest : List ℕ → Id

-- a script's own digest: SHA-256, with as many bytes kept as it says
abbrev pub world_of : Setup → World
world_of setup = record { setup = setup; digest = sha_id setup.digest_bytes }

abbrev pub root_of : World → Id
root_of world = identity world.digest triple.Root

-- what a run rests on, where identifiers are made so
abbrev pub world_by : (List ℕ → Id) → Setup → World
world_by digest setup = record { setup = setup; digest = digest }
