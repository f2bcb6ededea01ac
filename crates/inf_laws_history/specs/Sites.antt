-- What the servers of a run are given.
use Rattle.std.specs.Prelude.{ℕ}
use Rattle.inf_duty.specs.World.{World}
use Rattle.inf_server.specs.State.{Site}

abbrev pub site_of : World → ℕ → Site
site_of world number = record { number = number; servers = world.setup.servers; digest = world.digest }
