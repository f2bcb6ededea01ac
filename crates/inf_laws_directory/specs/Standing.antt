-- What holds between two Serves: the directories stand for the tree, and what stands in the servers is owned.
use Rattle.std.specs.Prelude.{◌≡◌, ℕ, List}
use Rattle.inf_base.specs.declared.access.Access.{Access}
use Rattle.inf_base.specs.declared.answer.Answer.{Answer}
use Rattle.inf_base.specs.declared.call.Call.{Call}
use Rattle.inf_base.specs.declared.caller.Caller.{Caller}
use Rattle.inf_base.specs.declared.entry.Entry.{Entry}
use Rattle.inf_tree.specs.Apply.{apply}
use Rattle.inf_tree.specs.Tree.{IsTree, Node}
use Rattle.inf_laws_directory.specs.Objects.{Objects, Service, shown_of}
use Rattle.inf_laws_directory.specs.Owned.{AreOwned}
use Rattle.inf_laws_directory.specs.Phases.{Phases}
use Rattle.inf_laws_directory.specs.Stands.{Stands}
use Rattle.inf_laws_directory.specs.Steps.{Keeps, KeepsOlder}
use Rattle.inf_laws_directory.specs.Told.{AreTold, LinkAlong}

pub record IsStanding (service : Service) (objects : Objects) (root : Access) (tree : Node)
    (phases : Phases) : Type 0 where
  pub sorted : IsTree tree
  pub stands : Stands (shown_of service objects phases) root tree
  pub owned : AreOwned service objects root phases

-- a chain whose entries were told, and that links along these names
pub record IsToldAlong (service : Service) (objects : Objects) (root : Access) (phases : Phases) (path : List (List ℕ))
    (chain : List Entry) : Type 0 where
  pub told : AreTold service objects root phases chain
  pub links : LinkAlong path chain

-- a step that no path sees: the tree stays
pub record GoesOn (service : Service) (old new : Objects) (root : Access) (tree : Node)
    (before after : Phases) : Type 0 where
  pub standing : IsStanding service new root tree after
  pub keeps : Keeps service old new root before after

-- the same, where entries of this birth were told to nobody yet
pub record GoesOnOlder (service : Service) (place : ℕ) (old new : Objects) (root : Access) (tree : Node)
    (before after : Phases) : Type 0 where
  pub standing : IsStanding service new root tree after
  pub keeps : KeepsOlder service place old new root before after

-- a step that decides a call: its answer is the tree's, and the tree goes on
pub record Decides (service : Service) (old new : Objects) (root : Access) (tree : Node) (before after : Phases)
    (caller : Caller) (asked : Call) (given : Answer) : Type 0 where
  pub answered : (apply tree caller asked).answer ≡ given
  pub goes_on : GoesOn service old new root (apply tree caller asked).tree before after
