-- The root's access object, as the servers have it.
use Rattle.std.specs.Prelude.{◌≡◌, ◌≢◌, ℕ, Option, Some, None}
use Rattle.std.specs.Option.{option_map}
use Rattle.inf_base.specs.declared.access.Access.{Access}
use Rattle.inf_base.specs.Content.{TopAccess}
use Rattle.inf_base.specs.Identity.{server_of}
use Rattle.inf_base.specs.Same.{dir_of}
use Rattle.inf_server.specs.State.{root_dir, root_id}
use Rattle.inf_laws_directory.specs.Objects.{Objects, Service, site_in}

-- the number of the server that keeps the root's objects
abbrev pub root_server : Service → ℕ
root_server service = server_of (root_id (site_in service 0)) service.servers

-- the access object that this server has of the root
abbrev pub root_of : Service → Objects → Option Access
root_of service objects = option_map (λ (top : TopAccess). top.access) (objects (root_server service)).top

-- this is the root's access object now: its server has just this one, and no other server has any
pub record RootStands (service : Service) (objects : Objects) (root : Access) : Type 0 where
  pub kept : root_of service objects ≡ Some root
  pub alone : (number : ℕ) → number ≢ root_server service → (objects number).top ≡ None
  -- whatever its mode and its owners are, it is of the root's directory
  pub of_root : dir_of root ≡ root_dir (site_in service 0)

-- no server has another than this as the root's access object, whether any has it or none
abbrev pub NoOtherRoot : Service → Objects → Access → Type 0
NoOtherRoot service objects root = (number : ℕ) (top : TopAccess) → (objects number).top ≡ Some top → top.access ≡ root
