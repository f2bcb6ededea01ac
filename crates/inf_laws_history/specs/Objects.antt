-- What the servers of a history keep, taken together.
use Rattle.std.specs.Prelude.{◌≡◌, ◌⊎◌, ℕ, true, List, Some, is_some}
use Rattle.inf_base.specs.declared.directory.DirRef.{DirRef}
use Rattle.inf_duty.specs.World.{World}
use Rattle.inf_laws_directory.specs.Objects.{Objects, Service, content_in}
use Rattle.inf_laws_history.specs.Legal.{server_after}
use Rattle.inf_message.specs.declared.event.Event.{Event}
use Rattle.inf_message.specs.declared.request.Request.{Request}
use Rattle.inf_message.specs.History.{Posted, asked_at, is_served}

abbrev pub service_of : World → Service
service_of world = record { servers = world.setup.servers; digest = world.digest }

abbrev pub objects_after : World → List Event → Objects
objects_after world h number = server_after world number h

-- a request stands at this place
pub record WasAskedIn (h : List Event) (place : ℕ) (asked : Request) : Type 0 where
  pub posted : Posted
  pub found : asked_at place h ≡ Some posted
  pub is : posted.ask.request ≡ asked

-- the root is of no birth; any other directory is of the place of an Ask that was served
abbrev pub IsBorn : List Event → ℕ → Type 0
IsBorn h born = (born ≡ 0) ⊎ (is_served born h ≡ true)

-- so is each directory that the servers keep
abbrev pub AreBorn : World → Objects → List Event → Type 0
AreBorn world objects h =
    (dir : DirRef) → is_some (content_in (service_of world) objects dir) ≡ true → IsBorn h dir.born
