-- The directories of a service: what the servers keep, taken together, and what shows of it.
use Rattle.std.specs.Prelude.{ℕ, ◌==◌, if◌then◌else◌, List, Option}
use Rattle.inf_base.specs.declared.directory.DirRef.{DirRef}
use Rattle.inf_base.specs.declared.id.Id.{Id}
use Rattle.inf_base.specs.Content.{Content, Slot}
use Rattle.inf_base.specs.Identity.{server_of}
use Rattle.inf_content.specs.Contents.{content_at, slots_found}
use Rattle.inf_server.specs.State.{Site, State}
use Rattle.inf_laws_directory.specs.Phases.{Phases}
use Rattle.inf_laws_directory.specs.Things.{Directories}

-- how many servers there are beside the coordinator, and the digest of identifiers
pub record Service : Type 0 where
  pub servers : ℕ
  pub digest : List ℕ → Id

abbrev pub site_in : Service → ℕ → Site
site_in service number = record { number = number; servers = service.servers; digest = service.digest }

-- the state of each server, by its number
abbrev pub Objects : Type 0
Objects = ℕ → State

-- the content objects of the server that keeps an identifier
abbrev pub kept_with : Service → Objects → Id → List Content
kept_with service objects id = (objects (server_of id service.servers)).contents

-- the directories as they are kept
abbrev pub content_in : Service → Objects → DirRef → Option Content
content_in service objects dir = content_at dir (kept_with service objects dir.id)

-- the slots of a directory as they are kept
abbrev pub slots_kept : Service → Objects → DirRef → List (List ℕ × Slot)
slots_kept service objects dir = slots_found (content_in service objects dir)

-- the directories as they show while calls are in these phases: as they are kept
abbrev pub shown_of : Service → Objects → Phases → Directories
shown_of service objects phases dir = content_in service objects dir

-- the states once one server's has changed
abbrev pub with_state : ℕ → State → Objects → Objects
with_state number state objects other = if other == number then state else objects other
