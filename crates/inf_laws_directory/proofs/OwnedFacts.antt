-- What follows where all is owned: of the directories in the hands of calls, of those that chains lead to, and of the
-- slots that a call reserved.
use Rattle.std.proofs.Common.{◌≡◌, ℕ, true, List, [], ◌∷◌, ◌⊎◌, inl, inr, Option, Some, is_some, sym, ap, ◌∙◌, subst}
use Rattle.std.specs.Option.{option_map}
use Rattle.inf_base.specs.declared.access.Access.{Access}
use Rattle.inf_base.specs.declared.caller.CallRef.{CallRef}
use Rattle.inf_base.specs.declared.directory.DirRef.{DirRef}
use Rattle.inf_base.specs.declared.entry.Entry.{Entry}
use Rattle.inf_base.specs.Content.{Content, Slot}
use Rattle.inf_base.specs.Same.{dir_of}
use Rattle.inf_content.specs.Contents.{bearer, bearer_or, seal_of, slots_found}
use Rattle.inf_content.specs.Slots.{slot_in}
use Rattle.inf_server.specs.Chains.{last_of}
use Rattle.inf_laws_directory.specs.Leads.{Leads, LeadsFrom}
use Rattle.inf_laws_directory.specs.Objects.{Objects, Service, content_in, slots_kept}
use Rattle.inf_laws_directory.specs.Owned.{AreOwned, Has, IsLinkedSomewhere, IsUnlinked}
use Rattle.inf_laws_directory.specs.Phases.{IsLoose, IsSealing, Phase, Phases, has_made, has_reserved, has_sealed, has_unlinked, idle}
use Rattle.inf_laws_directory.proofs.CallFacts.{none_not_some}
use Rattle.inf_laws_directory.proofs.Chains.{last_of-next, last_of-one}

-- a directory in the hands of a call, which is empty
pub record IsInHands (service : Service) (objects : Objects) (call : CallRef) (dir : DirRef) : Type 0 where
  pub present : is_some (content_in service objects dir) ≡ true
  pub empty : slots_found (content_in service objects dir) ≡ []
  pub bearer_is : option_map bearer (content_in service objects dir) ≡ Some call

pub record IsLooseIn (service : Service) (objects : Objects) (call : CallRef) (dir : DirRef) : Type 0 where
  pub hands : IsInHands service objects call dir
  pub unlinked : IsUnlinked (content_in service objects) dir

in_sealed_hands : (service : Service) (objects : Objects) (call : CallRef) (dir : DirRef) (content : Content)
    → content_in service objects dir ≡ Some content → content.seal ≡ Some call → content.slots ≡ [] → IsInHands service objects call dir
in_sealed_hands service objects call dir content there seal slots = record {
  present = ap is_some there;
  empty = ap slots_found there ∙ slots;
  bearer_is = ap (λ (o : Option Content). option_map bearer o) there ∙ ap (λ (s : Option CallRef). Some (bearer_or content.maker s)) seal;
}

module _ (service : Service) (objects : Objects) (root : Access) (phases : Phases) (owned : AreOwned service objects root phases) where
  loose_has : (call : CallRef) (dir : DirRef) (p : Phase) → Has service objects call p → IsLoose p dir → IsLooseIn service objects call dir
  loose_has call dir idle has loose = absurd loose
  loose_has call dir (has_reserved parent name birth) has loose = absurd loose
  loose_has call dir (has_made parent name birth made) has loose =
      subst (λ (d : DirRef). IsLooseIn service objects call d) loose (record {
        hands = record { present = ap is_some has.1; empty = ap slots_found has.1; bearer_is = ap (λ (o : Option Content). option_map bearer o) has.1 };
        unlinked = has.3;
      })
  loose_has call dir (has_sealed parent name target) has loose = absurd loose
  loose_has call dir (has_unlinked target) has loose =
      subst (λ (d : DirRef). IsLooseIn service objects call d) loose (record {
        hands = in_sealed_hands service objects call target has.0.content has.0.there has.0.seal has.0.slots;
        unlinked = has.1;
      })

  sealing_has : (call : CallRef) (dir : DirRef) (p : Phase) → Has service objects call p → IsSealing p dir → IsInHands service objects call dir
  sealing_has call dir idle has sealing = absurd sealing
  sealing_has call dir (has_reserved parent name birth) has sealing = absurd sealing
  sealing_has call dir (has_made parent name birth made) has sealing = absurd sealing
  sealing_has call dir (has_sealed parent name target) has sealing =
      subst (λ (d : DirRef). IsInHands service objects call d) sealing (in_sealed_hands service objects call target has.0.content has.0.there has.0.seal has.0.slots)
  sealing_has call dir (has_unlinked target) has sealing =
      subst (λ (d : DirRef). IsInHands service objects call d) sealing (in_sealed_hands service objects call target has.0.content has.0.there has.0.seal has.0.slots)

  seal_has : (call : CallRef) (dir : DirRef) (p : Phase) → Has service objects call p → IsSealing p dir → seal_of (content_in service objects dir) ≡ Some call
  seal_has call dir idle has sealing = absurd sealing
  seal_has call dir (has_reserved parent name birth) has sealing = absurd sealing
  seal_has call dir (has_made parent name birth made) has sealing = absurd sealing
  seal_has call dir (has_sealed parent name target) has sealing =
      subst (λ (d : DirRef). seal_of (content_in service objects d) ≡ Some call) sealing (ap seal_of has.0.there ∙ has.0.seal)
  seal_has call dir (has_unlinked target) has sealing =
      subst (λ (d : DirRef). seal_of (content_in service objects d) ≡ Some call) sealing (ap seal_of has.0.there ∙ has.0.seal)

  pub loose_in : (call : CallRef) (dir : DirRef) → IsLoose (phases call) dir → IsLooseIn service objects call dir
  loose_in call dir = loose_has call dir (phases call) (owned.has call)

  pub sealing_in : (call : CallRef) (dir : DirRef) → IsSealing (phases call) dir → IsInHands service objects call dir
  sealing_in call dir = sealing_has call dir (phases call) (owned.has call)

  pub sealed_by : (call : CallRef) (dir : DirRef) → IsSealing (phases call) dir → seal_of (content_in service objects dir) ≡ Some call
  sealed_by call dir = seal_has call dir (phases call) (owned.has call)

  -- no other call has it in hand
  pub one_bearer : (call other : CallRef) (dir : DirRef) → IsInHands service objects call dir → IsInHands service objects other dir → other ≡ call
  one_bearer call other dir here there = let same : Some other ≡ Some call = sym there.bearer_is ∙ here.bearer_is in cc

  pub one_loose : (call other : CallRef) (dir : DirRef) → IsInHands service objects call dir → IsLoose (phases other) dir → other ≡ call
  one_loose call other dir here loose = one_bearer call other dir here (loose_in other dir loose).hands

  -- a directory in which a slot stands is in no call's hands
  pub full_not_loose : (dir : DirRef) (name : List ℕ) (slot : Slot) → slot_in name (slots_kept service objects dir) ≡ Some slot
      → (call : CallRef) → IsLoose (phases call) dir → ⊥
  full_not_loose dir name slot is call loose =
      none_not_some _ slot (ap (λ (slots : List (List ℕ × Slot)). slot_in name slots) (loose_in call dir loose).hands.empty) is

  pub full_not_sealed : (dir : DirRef) (name : List ℕ) (slot : Slot) → slot_in name (slots_kept service objects dir) ≡ Some slot
      → (call : CallRef) → IsSealing (phases call) dir → ⊥
  full_not_sealed dir name slot is call sealing =
      none_not_some _ slot (ap (λ (slots : List (List ℕ × Slot)). slot_in name slots) (sealing_in call dir sealing).empty) is

  -- the directory that a chain leads to is the root or stands somewhere, so that it is in no call's hands as one that does not
  led_place : (path : List (List ℕ)) (first last : Entry) (chain : List Entry) → LeadsFrom (content_in service objects) first.access path chain
      → last_of (first ∷ chain) ≡ Some last → (last ≡ first) ⊎ IsLinkedSomewhere (content_in service objects) (dir_of last.access)
  led_place [] first last [] leads is = let same : Some last ≡ Some first = sym is ∙ last_of-one first in inl cc
  led_place [] first last (e ∷ chain) leads is = absurd leads
  led_place (name ∷ path) first last [] leads is = absurd leads
  led_place (name ∷ path) first last (e ∷ chain) leads is = by (led_place path e last chain leads.1 (sym (last_of-next first e chain) ∙ is))
    where
      by : (last ≡ e) ⊎ IsLinkedSomewhere (content_in service objects) (dir_of last.access)
          → (last ≡ first) ⊎ IsLinkedSomewhere (content_in service objects) (dir_of last.access)
      by (inl same) = inr (record { parent = dir_of first.access; name = name; access = e.access; linked = leads.0; same = ap (λ (x : Entry). dir_of x.access) (sym same) })
      by (inr linked) = inr linked

  pub led_not_loose : (path : List (List ℕ)) (chain : List Entry) (last : Entry) → Leads (content_in service objects) root path chain → last_of chain ≡ Some last
      → (call : CallRef) → IsLoose (phases call) (dir_of last.access) → ⊥
  led_not_loose path [] last leads is call loose = absurd leads
  led_not_loose path (e ∷ chain) last leads is call loose =
      by (led_place path e last chain (subst (λ (access : Access). LeadsFrom (content_in service objects) access path chain) (sym leads.0) leads.1) is)
    where
      by : (last ≡ e) ⊎ IsLinkedSomewhere (content_in service objects) (dir_of last.access) → ⊥
      by (inl same) = owned.root_apart call
          (subst (λ (d : DirRef). IsLoose (phases call) d) (ap (λ (x : Entry). dir_of x.access) same ∙ ap dir_of leads.0) loose)
      by (inr linked) = (loose_in call (dir_of last.access) loose).unlinked linked.parent linked.name linked.access linked.linked linked.same
