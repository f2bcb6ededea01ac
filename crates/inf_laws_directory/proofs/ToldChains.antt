-- A chain whose entries were told is true now, where its last directory is there and no other call has it in hand.
use Rattle.std.proofs.Common.{◌≡◌, ◌⊎◌, inl, inr, ℕ, List, [], ◌∷◌, Option, Some, is_some, sym, ap, ◌∙◌, subst}
use Rattle.inf_base.specs.declared.access.Access.{Access}
use Rattle.inf_base.specs.declared.caller.CallRef.{CallRef}
use Rattle.inf_base.specs.declared.directory.DirRef.{DirRef}
use Rattle.inf_base.specs.declared.entry.Entry.{Entry}
use Rattle.inf_base.specs.declared.key.Key.{Key}
use Rattle.inf_base.specs.declared.key.Key.TheVariants as key
use Rattle.inf_base.specs.Content.{Content, Slot}
use Rattle.inf_base.specs.Same.{dir_of}
use Rattle.inf_content.specs.Contents.{seal_of, slots_found}
use Rattle.inf_content.specs.Slots.{slot_in}
use Rattle.inf_server.specs.Chains.{last_of}
use Rattle.inf_laws_directory.specs.Leads.{Leads, LeadsFrom}
use Rattle.inf_laws_directory.specs.Objects.{Objects, Service, content_in}
use Rattle.inf_laws_directory.specs.Owned.{AreOwned, Has, KeepsSealed, Links}
use Rattle.inf_laws_directory.specs.Phases.{Phase, Phases, has_unlinked}
use Rattle.inf_laws_directory.specs.Things.{Thing, thing_in, thing_under}
use Rattle.inf_laws_directory.specs.Told.{AreTold, IsGone, IsToldAs, LinkAlong, LinkFrom}
use Rattle.inf_laws_directory.proofs.Chains.{last_of-next, last_of-one}
use Rattle.inf_laws_directory.proofs.OpenDirectories.{IsOpen}

module _ (service : Service) (objects : Objects) (root : Access) (phases : Phases) (by : CallRef) (owned : AreOwned service objects root phases) where
  abbrev HasGone : DirRef → Type 0
  HasGone dir = IsGone service objects phases dir

  -- a call that has unlinked a directory has it sealed, and nothing stands in it
  kept_sealed : (call : CallRef) (dir : DirRef) → phases call ≡ has_unlinked dir → KeepsSealed service objects call dir
  kept_sealed call dir is = (subst (λ (phase : Phase). Has service objects call phase) is (owned.has call)).0

  nothing_there : {thing : Thing} (found : Option Content) (name : List ℕ) → slots_found found ≡ [] → thing_in (slot_in name (slots_found found)) ≡ Some thing → ⊥
  nothing_there found name none is = (let at = ap (λ (slots : List (List ℕ × Slot)). thing_in (slot_in name slots)) none in cc)

  -- a directory in which something stands is not gone
  full_stays : {thing : Thing} (dir : DirRef) (name : List ℕ) → thing_under name dir (content_in service objects) ≡ Some thing → HasGone dir → ⊥
  full_stays dir name is (inl none) = nothing_there (content_in service objects dir) name (ap slots_found none) is
  full_stays dir name is (inr unlinked) =
      let sealed = kept_sealed unlinked.call dir unlinked.unlinked in
      nothing_there (content_in service objects dir) name (ap slots_found sealed.there ∙ sealed.slots) is

  -- nor is the directory asked, unless the call has unlinked it itself
  open_stays : (chain : List Entry) (last : Entry) → IsOpen service objects by chain last → (phases by ≡ has_unlinked (dir_of last.access) → ⊥)
      → HasGone (dir_of last.access) → ⊥
  open_stays chain last is_open not_own (inl none) = (let there = is_open.there in let gone = ap is_some none in cc)
  open_stays chain last is_open not_own (inr unlinked) =
      let sealed = kept_sealed unlinked.call (dir_of last.access) unlinked.unlinked in
      let own = is_open.unsealed unlinked.call (ap seal_of sealed.there ∙ sealed.seal) in
      not_own (subst (λ (call : CallRef). phases call ≡ has_unlinked (dir_of last.access)) own unlinked.unlinked)

  -- so that what was told of it is true
  true_now : (asked : Key) (dir : DirRef) (name : List ℕ) (access : Access) → asked ≡ key.At dir name → IsToldAs service objects root phases asked access
      → (HasGone (dir_of access) → ⊥) → Links (content_in service objects) dir name access
  true_now asked dir name access is told stays = by_told (subst (λ (k : Key). IsToldAs service objects root phases k access) is told)
    where
      by_told : Links (content_in service objects) dir name access ⊎ HasGone (dir_of access) → Links (content_in service objects) dir name access
      by_told (inl linked) = linked
      by_told (inr gone) = absurd (stays gone)

  record LeadsOn (first : Entry) (path : List (List ℕ)) (chain : List Entry) : Type 0 where
    leads : LeadsFrom (content_in service objects) first.access path chain
    stays : HasGone (dir_of first.access) → ⊥

  leads_on : (path : List (List ℕ)) (first last : Entry) (chain : List Entry) → AreTold service objects root phases chain → LinkFrom first.access path chain
      → last_of (first ∷ chain) ≡ Some last → (HasGone (dir_of last.access) → ⊥) → LeadsOn first path chain
  leads_on [] first last [] told link ends stays =
      let same : first ≡ last = (let both : Some first ≡ Some last = sym (last_of-one first) ∙ ends in cc) in
      record { leads = tt; stays = subst (λ (e : Entry). HasGone (dir_of e.access) → ⊥) (sym same) stays }
  leads_on [] first last (e ∷ chain) told link ends stays = absurd link
  leads_on (name ∷ path) first last [] told link ends stays = absurd link
  leads_on (name ∷ path) first last (e ∷ chain) told link ends stays =
      let later = leads_on path e last chain told.1 link.1 (sym (last_of-next first e chain) ∙ ends) stays in
      let linked = true_now e.key (dir_of first.access) name e.access link.0 told.0 later.stays in
      record { leads = (linked, later.leads); stays = full_stays (dir_of first.access) name linked }

  pub chain_is_true : (path : List (List ℕ)) (chain : List Entry) (last : Entry) → AreTold service objects root phases chain → LinkAlong path chain
      → IsOpen service objects by chain last → (phases by ≡ has_unlinked (dir_of last.access) → ⊥)
      → Leads (content_in service objects) root path chain
  chain_is_true path [] last told link is_open not_own = absurd link
  chain_is_true path (e ∷ chain) last told link is_open not_own =
      let top : e.access ≡ root = subst (λ (k : Key). IsToldAs service objects root phases k e.access) link.0 told.0 in
      let on = leads_on path e last chain told.1 link.1 is_open.last (open_stays (e ∷ chain) last is_open not_own) in
      (top, subst (λ (access : Access). LeadsFrom (content_in service objects) access path chain) top on.leads)
