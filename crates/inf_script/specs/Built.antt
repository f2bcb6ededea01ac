-- What a script may ask for today.
use Rattle.std.specs.Prelude.{◌≡◌, ℕ, ◌<◌, List, length, Ok, All}
use Rattle.inf_base.specs.declared.call.Call.{Call}
use Rattle.inf_base.specs.declared.call.Call.TheVariants as call
use Rattle.inf_base.specs.declared.setup.ClientLine.{ClientLine}
use Rattle.inf_base.specs.declared.setup.Setup.{Setup}
use Rattle.inf_base.specs.Path.{path_of}

-- a path with a name, none of whose names is at fault
pub record HasNames (path : List ℕ) : Type 0 where
  pub names : List (List ℕ)
  pub spelt : path_of path ≡ Ok names
  pub some : 0 < length names

-- mkdir, create, rmdir and stat of a path that has names
abbrev pub IsBuiltCall : Call → Type 0
IsBuiltCall (call.Mkdir path mode) = HasNames path
IsBuiltCall (call.Create path mode) = HasNames path
IsBuiltCall (call.Rmdir path) = HasNames path
IsBuiltCall (call.Unlink path) = ⊥
IsBuiltCall (call.Stat path) = HasNames path
IsBuiltCall (call.List path) = ⊥
IsBuiltCall (call.Truncate path length) = ⊥
IsBuiltCall (call.Chmod path mode) = ⊥
IsBuiltCall (call.Rename old new) = ⊥

-- a client of user 0 and group 0, each call of which is built
pub record IsBuiltClient (client : ClientLine) : Type 0 where
  pub user : client.caller.uid ≡ 0
  pub group : client.caller.gid ≡ 0
  pub calls : All IsBuiltCall client.calls

abbrev pub IsBuilt : Setup → Type 0
IsBuilt setup = All IsBuiltClient setup.clients
