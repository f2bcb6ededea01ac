-- Clients before their first Ask.
use Rattle.std.specs.Prelude.{ℕ, [], Option, Some, None, slice_get}
use Rattle.inf_base.specs.declared.caller.Caller.{Caller}
use Rattle.inf_base.specs.declared.setup.ClientLine.{ClientLine}
use Rattle.inf_duty.specs.World.{World, root_of}
use Rattle.inf_duty.specs.ClientState.{ClientState, idle}
use Rattle.inf_message.specs.Who.{Who}

abbrev pub who_in : World → ℕ → Caller → Who
who_in world client caller =
    record { client = client; caller = caller; servers = world.setup.servers; root = root_of world }

-- whom a client calls for that the setup does not have
abbrev pub nobody : Caller
nobody = record { uid = 0; gid = 0 }

-- a client that the setup does not have calls nothing
abbrev pub starting : World → ℕ → Option ClientLine → ClientState
starting world client (Some line) = idle (who_in world client line.caller) line.calls
starting world client None = idle (who_in world client nobody) []

abbrev pub start : World → ℕ → ClientState
start world client = starting world client (slice_get world.setup.clients client)
