-- What contracts see of a server.
use Rattle.std.specs.Prelude.{◌≡◌, ℕ, ◌≤◌, if◌then◌else◌, List, [], Option, Some, None}
use Rattle.std.specs.Option.{option_map}
use Rattle.inf_base.specs.declared.access.Access.{Access}
use Rattle.inf_base.specs.declared.directory.DirRef.{DirRef}
use Rattle.inf_base.specs.declared.id.Id.{Id}
use Rattle.inf_base.specs.declared.key.Key.{Key}
use Rattle.inf_base.specs.declared.key.Key.TheVariants as key
use Rattle.inf_base.specs.declared.triple.Triple.TheVariants as triple
use Rattle.inf_base.specs.Content.{Content, TopAccess}
use Rattle.inf_renames.specs.Kept.{Kept}
use Rattle.inf_server.specs.State.{Site, State, is_here, root_dir, root_id}

-- a server by its rule of identifiers, its number, how many there are beside the coordinator, and its state
pub record Standing (R : Type 0) : Type 0 where
  pub rule : R
  pub number : ℕ
  pub servers : ℕ
  pub state : State

abbrev pub site : ℕ → ℕ → (List ℕ → Id) → Site
site number servers digest = record { number = number; servers = servers; digest = digest }

-- what a server knows of itself, where `digest_of` says what rules answer
abbrev pub site_of : {R : Type 0} → (R → List ℕ → Id) → Standing R → Site
site_of digest_of server = site server.number server.servers (digest_of server.rule)

-- the root, if it is kept here
abbrev pub root_at : Site → Option DirRef
root_at here = if is_here here (root_id here) then Some (root_dir here) else None

-- the root is kept exactly where it belongs
pub record KeepsRoot (here : Site) (root : Option DirRef) : Type 0 where
  pub root_there : root ≡ root_at here
  pub some_servers : 1 ≤ here.servers

-- only the state of a server changes
pub record IsSameServer {R : Type 0} (old new : Standing R) : Type 0 where
  pub rule : new.rule ≡ old.rule
  pub number : new.number ≡ old.number
  pub servers : new.servers ≡ old.servers

-- the root's access object, of the server that keeps it; no call changes it yet
abbrev pub access_to : DirRef → Access
access_to root = record { id = root.id; born = root.born; mode = 0o755; owner = 0; group = 0; birth = triple.Root }

-- what each lookup of the root is told
pub record TellsOfTop (root : DirRef) (told_key : Key) (access : Access) : Type 0 where
  pub at_top : told_key ≡ key.Top
  pub of_root : access ≡ access_to root

abbrev pub top_of : DirRef → TopAccess
top_of root = record { access = access_to root; held = None }

-- the state of a server by its parts
abbrev pub state_with : Option DirRef → List Content → List (Id × Kept) → State
state_with root contents renames =
    record { contents = contents; renames = renames; marks = []; changes = []; top = option_map top_of root }
