-- What every legal history keeps.
use Rattle.std.specs.Prelude.{◌≡◌, ◌≢◌, ℕ, ◌≤◌, List, length}
use Rattle.inf_base.specs.declared.access.Access.{Access}
use Rattle.inf_base.specs.declared.caller.CallRef.{CallRef}
use Rattle.inf_base.specs.declared.entry.Entry.{Entry}
use Rattle.inf_duty.specs.After.{client_after}
use Rattle.inf_duty.specs.Start.{who_in}
use Rattle.inf_duty.specs.World.{World}
use Rattle.inf_duty.specs.ClientState.{ClientState, call_ref}
use Rattle.inf_laws_client.specs.Asked.{AsksItsGroup}
use Rattle.inf_laws_client.specs.Paths.{KeepsToPath}
use Rattle.inf_laws_client.specs.Told.{KnowsOnly}
use Rattle.inf_laws_directory.specs.Objects.{Objects}
use Rattle.inf_laws_directory.specs.Phases.{Phases, idle}
use Rattle.inf_laws_directory.specs.Root.{RootStands}
use Rattle.inf_laws_directory.specs.Standing.{IsStanding}
use Rattle.inf_laws_directory.specs.Told.{IsToldAs}
use Rattle.inf_laws_history.specs.Decisions.{decided_in}
use Rattle.inf_laws_history.specs.Legal.{server_after}
use Rattle.inf_laws_history.specs.Objects.{AreBorn, IsBorn, WasAskedIn, service_of}
use Rattle.inf_laws_history.specs.Pending.{ArePending}
use Rattle.inf_laws_history.specs.Phases.{HasPhase, StageMay}
use Rattle.inf_message.specs.declared.event.Event.{Event}
use Rattle.inf_tree.specs.Replay.{Replays, replayed}
use Rattle.inf_tree.specs.Tree.{Node, opening_tree}

-- an entry that was told is true now, or its directory is gone; it is of a birth that was, and no younger than now
pub record IsTrue (world : World) (h : List Event) (objects : Objects) (root : Access) (phases : Phases)
    (entry : Entry) : Type 0 where
  pub told : IsToldAs (service_of world) objects root phases entry.key entry.access
  pub born : IsBorn h entry.access.born
  pub stamped : entry.stamp ≤ length h

-- a client knows only what is true, keeps to its call's path, asks its group,
-- and its call has in hand what its stage says
pub record IsKept (world : World) (h : List Event) (objects : Objects) (root : Access) (phases : Phases) (client : ℕ)
    (s : ClientState) : Type 0 where
  pub who : s.who ≡ who_in world client s.who.caller
  pub knows : KnowsOnly (IsTrue world h objects root phases) s
  pub path : KeepsToPath s
  pub asks : AsksItsGroup (WasAskedIn h) s
  pub phase : HasPhase world.digest s.who s.stage (phases (call_ref s))
  pub may : StageMay s.who.caller s.stage

pub record Kept (world : World) (h : List Event) : Type 0 where
  pub objects : Objects
  pub states : (number : ℕ) → objects number ≡ server_after world number h
  -- the root's access object, as its server has it now
  pub root : Access
  pub root_stands : RootStands (service_of world) objects root
  pub tree : Node
  pub phases : Phases
  -- the servers' directories stand for the tree, which is what the calls that were decided leave
  pub standing : IsStanding (service_of world) objects root tree phases
  pub born : AreBorn world objects h
  pub replayed : replayed opening_tree (decided_in world h) ≡ tree
  pub replays : Replays opening_tree (decided_in world h)
  pub clients : (client : ℕ) → IsKept world h objects root phases client (client_after world client h)
  -- a call that is not under way has nothing in hand
  pub others : (call : CallRef) → call.number ≢ (client_after world call.client h).number → phases call ≡ idle
  pub pending : ArePending world h
