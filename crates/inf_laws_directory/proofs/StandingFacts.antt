-- What a step of a call makes of what stands, where the tree answers and all stays owned.
use Rattle.std.proofs.Common.{◌≡◌, ℕ, Bool, true, false, List, [], ◌∷◌, ◌++◌, Some, is_some, refl, ap, subst, sym, ◌∙◌}
use Rattle.inf_base.specs.declared.access.Access.{Access}
use Rattle.inf_base.specs.declared.answer.Answer.{Answer}
use Rattle.inf_base.specs.declared.call.Call.{Call}
use Rattle.inf_base.specs.declared.caller.CallRef.{CallRef}
use Rattle.inf_base.specs.declared.caller.Caller.{Caller}
use Rattle.inf_base.specs.declared.directory.DirRef.{DirRef}
use Rattle.inf_base.specs.declared.entry.Entry.{Entry}
use Rattle.inf_base.specs.Content.{Slot}
use Rattle.inf_base.specs.Same.{dir_of, is_same_dir}
use Rattle.inf_base.proofs.Same.{same_dir}
use Rattle.inf_server.specs.Chains.{before_last, last_of}
use Rattle.inf_tree.specs.Tree.{IsTree, Node}
use Rattle.inf_tree.proofs.Sorted.{IsTree-apply}
use Rattle.inf_laws_server.specs.Passed.{IsAsked}
use Rattle.inf_laws_directory.specs.Leads.{Leads}
use Rattle.inf_laws_directory.specs.Objects.{Objects, Service, content_in, site_in, slots_kept}
use Rattle.inf_laws_directory.specs.Owned.{AreOwned, Has, KeepsSealed}
use Rattle.inf_laws_directory.specs.Phases.{IsLoose, Phase, Phases, has_sealed, has_unlinked, idle}
use Rattle.inf_laws_directory.specs.Replays.{Answers, IsAt}
use Rattle.inf_laws_directory.specs.Serves.{IsUnseen, IsUnseenBeside}
use Rattle.inf_laws_directory.specs.Changes.{IsEmpty, IsUnreached, LooksSame}
use Rattle.inf_laws_directory.specs.Standing.{Decides, GoesOn, IsStanding, IsToldAlong}
use Rattle.inf_laws_directory.specs.Stands.{Stands}
use Rattle.inf_laws_directory.specs.Steps.{Keeps}
use Rattle.inf_laws_directory.specs.Things.{thing_in}
use Rattle.inf_content.specs.Contents.{seal_of}
use Rattle.inf_content.specs.Slots.{slot_in}
use Rattle.inf_laws_directory.proofs.ChainEnds.{last_links}
use Rattle.inf_laws_directory.proofs.OwnedFacts.{loose_in}
use Rattle.inf_laws_directory.proofs.OpenDirectories.{is_open}
use Rattle.inf_laws_directory.proofs.ToldChains.{chain_is_true}
use Rattle.inf_laws_directory.proofs.Unreached.{unreached}

module _ (service : Service) (objects next : Objects) (root : Access) (tree : Node) (phases after : Phases) where
  -- a step that keeps all owned decides a call where what stands then stands for the tree after it
  pub decides : (caller : Caller) (asked : Call) (given : Answer) → IsTree tree → Answers tree caller asked given root (content_in service next)
      → Keeps service objects next root phases after → Decides service objects next root tree phases after caller asked given
  decides caller asked given sorted answers keeps = record {
    answered = answers.answered;
    goes_on = record {
      standing = record { sorted = IsTree-apply tree caller asked sorted; stands = answers.stands; owned = keeps.owned };
      keeps = keeps;
    };
  }

  -- and one that nothing sees leaves the tree
  pub goes_on_unseen : IsTree tree → Stands (content_in service next) root tree → Keeps service objects next root phases after
      → GoesOn service objects next root tree phases after
  goes_on_unseen sorted stands keeps = record { standing = record { sorted = sorted; stands = stands; owned = keeps.owned }; keeps = keeps }

-- what is seen of no directory is seen on no path
pub looks_same : (service : Service) (objects next : Objects) (root : Access) → IsUnseen (content_in service objects) (content_in service next)
    → LooksSame (content_in service objects) (content_in service next) root
looks_same service objects next root unseen path access reaches = unseen (dir_of access)

-- what changes in one directory alone is seen on no path, where none leads to it
pub looks_same_beside : (service : Service) (objects next : Objects) (root : Access) (dir : DirRef) → IsUnreached (content_in service objects) root dir
    → IsUnseenBeside dir (content_in service objects) (content_in service next) → LooksSame (content_in service objects) (content_in service next) root
looks_same_beside service objects next root dir never unseen path access reaches = unseen (dir_of access) (by (is_same_dir dir (dir_of access)) refl)
  where
    by : (b : Bool) → is_same_dir dir (dir_of access) ≡ b → is_same_dir dir (dir_of access) ≡ false
    by true is = absurd (never path access reaches (sym (same_dir dir (dir_of access) is)))
    by false is = is

-- no path leads to what is loose in a call's hands
pub loose_unreached : (service : Service) (objects : Objects) (root : Access) (phases : Phases) → AreOwned service objects root phases
    → (call : CallRef) (dir : DirRef) → IsLoose (phases call) dir → IsUnreached (content_in service objects) root dir
loose_unreached service objects root phases owned call dir loose =
    unreached (content_in service objects) root dir
    (λ same. owned.root_apart call (subst (λ (d : DirRef). IsLoose (phases call) d) (sym same) loose))
    (loose_in service objects root phases owned call dir loose).unlinked

-- the entry that ends a chain which leads
pub is_at : (service : Service) (objects : Objects) (root : Access) (tree : Node) (phases : Phases) (path : List (List ℕ)) (chain : List Entry) (last : Entry)
    → IsStanding service objects root tree phases → Leads (content_in service objects) root path chain → last_of chain ≡ Some last
    → IsAt (content_in service objects) root tree path chain last
is_at service objects root tree phases path chain last standing leads ends = record { sorted = standing.sorted; stands = standing.stands; leads = leads; ends = ends }

-- a call with nothing in hand has unlinked nothing
pub idle_apart : (phase : Phase) (dir : DirRef) → phase ≡ idle → phase ≡ has_unlinked dir → ⊥
idle_apart phase dir at_idle unlinked = cc (at_idle, unlinked)

-- a chain that was told to a call with nothing in hand leads to the directory asked
pub asked_at : (service : Service) (objects : Objects) (number : ℕ) (root : Access) (tree : Node) (phases : Phases) (by : CallRef) (path : List (List ℕ)) (chain : List Entry) (last : Entry)
    → IsStanding service objects root tree phases → phases by ≡ idle → IsToldAlong service objects root phases path chain
    → IsAsked (site_in service number) (objects number) by (last_of chain) (chain ∷ []) last → IsAt (content_in service objects) root tree path chain last
asked_at service objects number root tree phases by path chain last standing at_idle told asked =
    let it_is_open = is_open service objects number by chain last asked in
    is_at service objects root tree phases path chain last standing
    (chain_is_true service objects root phases by standing.owned path chain last told.told told.links it_is_open (idle_apart (phases by) (dir_of last.access) at_idle)) it_is_open.last

-- nothing stands where there are no slots
pub nothing_stands : (service : Service) (objects : Objects) (dir : DirRef) → slots_kept service objects dir ≡ [] → IsEmpty (content_in service objects) dir
nothing_stands service objects dir none name = ap (λ (slots : List (List ℕ × Slot)). thing_in (slot_in name slots)) none

-- a chain that was told, and ends in a directory that the call sealed, leads to it
module _ (service : Service) (objects : Objects) (root : Access) (tree : Node) (phases : Phases) (by : CallRef) (path : List (List ℕ)) (name kept : List ℕ)
    (chain : List Entry) (parent target : Entry) (standing : IsStanding service objects root tree phases)
    (at_sealed : phases by ≡ has_sealed (dir_of parent.access) kept (dir_of target.access)) (told : IsToldAlong service objects root phases (path ++ name ∷ []) chain)
    (at_last : last_of chain ≡ Some target) where
  has_it_sealed : Has service objects by (has_sealed (dir_of parent.access) kept (dir_of target.access))
  has_it_sealed = subst (λ (phase : Phase). Has service objects by phase) at_sealed (standing.owned.has by)

  pub sealed_leads : Leads (content_in service objects) root (path ++ name ∷ []) chain
  sealed_leads =
      let sealed : KeepsSealed service objects by (dir_of target.access) = has_it_sealed.0 in
      chain_is_true service objects root phases by standing.owned (path ++ name ∷ []) chain target told.told told.links
      (record { last = at_last; there = ap is_some sealed.there; unsealed = λ sealer seal. (let same : Some sealer ≡ Some by = sym seal ∙ ap seal_of sealed.there ∙ sealed.seal in cc same) })
      (λ unlinked. (cc (at_sealed, unlinked)))

  -- under the name by which the call sealed it
  pub sealed_by_name : last_of (before_last chain) ≡ Some parent → kept ≡ name
  sealed_by_name at_parent =
      let under = has_it_sealed.1 in
      (standing.owned.once (dir_of parent.access) (dir_of parent.access) kept name under.access target.access under.linked
      (last_links (content_in service objects) name target parent root path chain sealed_leads at_last at_parent) under.same).1
