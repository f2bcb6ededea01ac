-- All stays owned where the content object of one directory comes, goes or changes, and the slots of all stay.
use Rattle.std.proofs.Common.{◌≡◌, ℕ, true, false, List, inl, inr, Option, Some, is_some, refl, sym, ap, ◌∙◌, subst}
use Rattle.std.proofs.lemmas.Bool.{both_ways}
use Rattle.inf_base.specs.declared.access.Access.{Access}
use Rattle.inf_base.specs.declared.caller.CallRef.{CallRef}
use Rattle.inf_base.specs.declared.directory.DirRef.{DirRef}
use Rattle.inf_base.specs.declared.key.Key.{Key}
use Rattle.inf_base.specs.declared.key.Key.TheVariants as key
use Rattle.inf_base.specs.declared.triple.Triple.{Triple}
use Rattle.inf_base.specs.Content.{Content}
use Rattle.inf_base.specs.Same.{dir_of, is_same_dir}
use Rattle.inf_base.proofs.Same.{same_dir_self}
use Rattle.inf_content.specs.Contents.{slots_found}
use Rattle.inf_content.specs.Slots.{slot_in}
use Rattle.inf_laws_directory.specs.Objects.{Objects, Service, content_in, slots_kept}
use Rattle.inf_content.specs.Order.{AreInOrder}
use Rattle.inf_laws_directory.specs.Owned.{AreOwned, Has, HasPlace, IsUnlinked, KeepsName, KeepsSealed, Links}
use Rattle.inf_laws_directory.specs.Phases.{IsLoose, IsReserving, IsSealing, Phase, Phases, has_made, has_reserved, has_sealed, has_unlinked, idle, with_phase}
use Rattle.inf_laws_directory.specs.Things.{thing_in}
use Rattle.inf_laws_directory.specs.Told.{IsGone, IsToldAs}
use Rattle.inf_laws_directory.proofs.CallFacts.{each_call, phase_apart, phase_here}
use Rattle.inf_laws_directory.proofs.Kept.{Becomes, Slots, each_dir}

-- the same slots stand in all directories, where they do in the one that changed
module _ (service : Service) (old new : Objects) (dir : DirRef) (now : Option Content) (becomes : Becomes service old new dir now)
    (same : slots_found now ≡ slots_found (content_in service old dir)) where
  pub same_slot : (d : DirRef) (n : List ℕ) → slot_in n (slots_kept service new d) ≡ slot_in n (slots_kept service old d)
  same_slot d n =
      ap (λ (slots : Slots). slot_in n slots)
      (each_dir dir (λ (d : DirRef). slots_kept service new d ≡ slots_kept service old d)
      (ap slots_found becomes.here ∙ same) (λ d apart. ap slots_found (becomes.others d apart)) d)

  pub link_was : (d : DirRef) (n : List ℕ) (access : Access) → Links (content_in service new) d n access → Links (content_in service old) d n access
  link_was d n access linked = sym (ap thing_in (same_slot d n)) ∙ linked

  pub link_stays : (d : DirRef) (n : List ℕ) (access : Access) → Links (content_in service old) d n access → Links (content_in service new) d n access
  link_stays d n access linked = ap thing_in (same_slot d n) ∙ linked

  pub still_unlinked : (d : DirRef) → IsUnlinked (content_in service old) d → IsUnlinked (content_in service new) d
  still_unlinked d unlinked parent n access linked = unlinked parent n access (link_was parent n access linked)

-- what the phases have to say of the change
pub record MayBecome (service : Service) (old new : Objects) (root : Access) (phases : Phases) (by : CallRef) (phase : Phase)
    (dir : DirRef) (now : Option Content) : Type 0 where
  pub order : (number : ℕ) → AreInOrder (new number).contents
  pub becomes : Becomes service old new dir now
  pub same_slots : slots_found now ≡ slots_found (content_in service old dir)
  -- it is in no other call's hands
  pub not_loose : (call : CallRef) → (call ≡ by → ⊥) → IsLoose (phases call) dir → ⊥
  pub not_sealed : (call : CallRef) → (call ≡ by → ⊥) → IsSealing (phases call) dir → ⊥
  -- the directory may be so
  pub seals : (content : Content) (call : CallRef) → now ≡ Some content → content.seal ≡ Some call → IsSealing (with_phase by phase phases call) dir
  pub root_kept : dir ≡ dir_of root → is_some now ≡ true
  pub linked_kept : (parent : DirRef) (name : List ℕ) (access : Access) → Links (content_in service old) parent name access → dir_of access ≡ dir → is_some now ≡ true
  pub placed : is_some now ≡ true → HasPlace (content_in service old) root (with_phase by phase phases) dir
  -- the call has what its new phase says, and the new phase says all that the call has beside
  pub has : Has service new by phase
  pub reserving : (other : DirRef) (name : List ℕ) → IsReserving (phases by) other name → IsReserving phase other name
  pub sealing : (other : DirRef) → (other ≡ dir → ⊥) → IsSealing (phases by) other → IsSealing phase other
  pub loose : (other : DirRef) → (other ≡ dir → ⊥) → IsLoose (phases by) other → IsLoose phase other
  pub unlinked : (other : DirRef) → (other ≡ dir → ⊥) → phases by ≡ has_unlinked other → phase ≡ has_unlinked other
  pub root_apart : IsLoose phase (dir_of root) → ⊥

module _ (service : Service) (old new : Objects) (root : Access) (phases : Phases) (by : CallRef) (phase : Phase)
    (dir : DirRef) (now : Option Content) (owned : AreOwned service old root phases)
    (may : MayBecome service old new root phases by phase dir now) where
  abbrev after : Phases
  after = with_phase by phase phases

  was_slot : (d : DirRef) (n : List ℕ) → slot_in n (slots_kept service new d) ≡ slot_in n (slots_kept service old d)
  was_slot = same_slot service old new dir now may.becomes may.same_slots

  same_links : (d : DirRef) (n : List ℕ) (access : Access) → Links (content_in service new) d n access → Links (content_in service old) d n access
  same_links = link_was service old new dir now may.becomes may.same_slots

  links_stay : (d : DirRef) (n : List ℕ) (access : Access) → Links (content_in service old) d n access → Links (content_in service new) d n access
  links_stay = link_stays service old new dir now may.becomes may.same_slots

  same_unlinked : (d : DirRef) → IsUnlinked (content_in service old) d → IsUnlinked (content_in service new) d
  same_unlinked = still_unlinked service old new dir now may.becomes may.same_slots

  content_stays : (other : DirRef) → (other ≡ dir → ⊥) → content_in service new other ≡ content_in service old other
  content_stays = each_dir dir (λ (d : DirRef). (d ≡ dir → ⊥) → content_in service new d ≡ content_in service old d)
      (λ not. absurd (not refl)) (λ d apart not. may.becomes.others d apart)

  -- what holds of the directory, and of each other that is not it, holds of each
  each_apart : (P : DirRef → Type 0) → P dir → ((other : DirRef) → (other ≡ dir → ⊥) → P other) → (other : DirRef) → P other
  each_apart P here others = each_dir dir P here (λ other apart. others other (not_same other apart))
    where
      not_same : (other : DirRef) → is_same_dir dir other ≡ false → other ≡ dir → ⊥
      not_same other apart same = both_ways _ (subst (λ (d : DirRef). is_same_dir dir d ≡ false) same apart) (same_dir_self dir)

  -- what another call has
  module _ (call : CallRef) (apart : call ≡ by → ⊥) where
    name_stays : (parent : DirRef) (n : List ℕ) (birth : Triple) → KeepsName service old call parent n birth → KeepsName service new call parent n birth
    name_stays parent n birth kept = record { access = kept.access; slot = was_slot parent n ∙ kept.slot; birth_kept = kept.birth_kept }

    sealed_stays : (target : DirRef) → IsSealing (phases call) target → KeepsSealed service old call target → KeepsSealed service new call target
    sealed_stays target sealing kept = record {
      content = kept.content;
      there = content_stays target (λ same. may.not_sealed call apart (subst (λ (d : DirRef). IsSealing (phases call) d) same sealing)) ∙ kept.there;
      seal = kept.seal;
      slots = kept.slots;
    }

    has_stays : (p : Phase) → phases call ≡ p → Has service old call p → Has service new call p
    has_stays idle is has = tt
    has_stays (has_reserved parent n birth) is has = name_stays parent n birth has
    has_stays (has_made parent n birth made) is has =
        let loose : IsLoose (phases call) made = subst (λ (p : Phase). IsLoose p made) (sym is) refl in (
          name_stays parent n birth has.0,
          content_stays made (λ same. may.not_loose call apart (subst (λ (d : DirRef). IsLoose (phases call) d) same loose)) ∙ has.1,
          has.2,
          same_unlinked made has.3,
        )
    has_stays (has_sealed parent n target) is has = (
      sealed_stays target (subst (λ (p : Phase). IsSealing p target) (sym is) refl) has.0,
      record { access = has.1.access; linked = links_stay parent n has.1.access has.1.linked; same = has.1.same },
    )
    has_stays (has_unlinked target) is has =
        (sealed_stays target (subst (λ (p : Phase). IsSealing p target) (sym is) refl) has.0, same_unlinked target has.1)

  stays_sealing : (d : DirRef) (content : Content) (call : CallRef) → content_in service new d ≡ Some content → content.seal ≡ Some call → IsSealing (after call) d
  stays_sealing = each_apart (λ (d : DirRef). (content : Content) (call : CallRef) → content_in service new d ≡ Some content → content.seal ≡ Some call → IsSealing (after call) d)
      (λ content call there. may.seals content call (sym may.becomes.here ∙ there))
      (λ d not_dir content call there seal. each_call by phase phases (λ (c : CallRef) (p : Phase). IsSealing (phases c) d → IsSealing p d)
      (may.sealing d not_dir) (λ c apart sealing. sealing) call (owned.seals d content call (sym (content_stays d not_dir) ∙ there) seal))

  stays_kept : (d : DirRef) → (d ≡ dir → is_some now ≡ true) → is_some (content_in service old d) ≡ true → is_some (content_in service new d) ≡ true
  stays_kept = each_apart (λ (d : DirRef). (d ≡ dir → is_some now ≡ true) → is_some (content_in service old d) ≡ true → is_some (content_in service new d) ≡ true)
      (λ kept was. ap is_some may.becomes.here ∙ kept refl) (λ d not_dir kept was. ap is_some (content_stays d not_dir) ∙ was)

  place_stays : (d : DirRef) → (d ≡ dir → ⊥) → HasPlace (content_in service old) root phases d → HasPlace (content_in service old) root after d
  place_stays d not_dir (inl is) = inl is
  place_stays d not_dir (inr (inl linked)) = inr (inl linked)
  place_stays d not_dir (inr (inr l)) =
      each_call by phase phases (λ (c : CallRef) (p : Phase). IsLoose (phases c) d → HasPlace (content_in service old) root after d)
      (λ loose. inr (inr (record { call = by; loose = subst (λ (p : Phase). IsLoose p d) (sym (phase_here by phase phases)) (may.loose d not_dir loose) })))
      (λ c apart loose. inr (inr (record { call = c; loose = subst (λ (p : Phase). IsLoose p d) (sym (phase_apart by phase phases c apart)) loose })))
      l.call l.loose

  stays_placed : (d : DirRef) → is_some (content_in service new d) ≡ true → HasPlace (content_in service old) root after d
  stays_placed = each_apart (λ (d : DirRef). is_some (content_in service new d) ≡ true → HasPlace (content_in service old) root after d)
      (λ there. may.placed (sym (ap is_some may.becomes.here) ∙ there))
      (λ d not_dir there. place_stays d not_dir (owned.placed d (sym (ap is_some (content_stays d not_dir)) ∙ there)))

  has_place : (d : DirRef) → HasPlace (content_in service old) root after d → HasPlace (content_in service new) root after d
  has_place d (inl is) = inl is
  has_place d (inr (inl at)) =
      inr (inl (record { parent = at.parent; name = at.name; access = at.access; linked = links_stay at.parent at.name at.access at.linked; same = at.same }))
  has_place d (inr (inr loose)) = inr (inr loose)

  pub content_step_owned : AreOwned service new root after
  content_step_owned = record {
    order = may.order;
    has = each_call by phase phases (λ (c : CallRef) (p : Phase). Has service new c p) may.has (λ c apart. has_stays c apart (phases c) refl (owned.has c));
    reservations = λ d n call access is. each_call by phase phases (λ (c : CallRef) (p : Phase). IsReserving (phases c) d n → IsReserving p d n)
        (may.reserving d n) (λ c apart reserving. reserving) call (owned.reservations d n call access (sym (was_slot d n) ∙ is));
    seals = stays_sealing;
    holds = λ d n slot is. owned.holds d n slot (sym (was_slot d n) ∙ is);
    root_kept = stays_kept (dir_of root) (λ same. may.root_kept (sym same)) owned.root_kept;
    linked_kept = λ parent n access linked. let was = same_links parent n access linked in
        stays_kept (dir_of access) (may.linked_kept parent n access was) (owned.linked_kept parent n access was);
    placed = λ d there. has_place d (stays_placed d there);
    once = λ parent other n second access same linked also. owned.once parent other n second access same (same_links parent n access linked) (same_links other second same also);
    root_free = same_unlinked (dir_of root) owned.root_free;
    root_apart = each_call by phase phases (λ (c : CallRef) (p : Phase). IsLoose p (dir_of root) → ⊥) may.root_apart (λ c apart. owned.root_apart c);
  }

  gone_stays : (d : DirRef) → (d ≡ dir → IsGone service new after d) → IsGone service old phases d → IsGone service new after d
  gone_stays = each_apart (λ (d : DirRef). (d ≡ dir → IsGone service new after d) → IsGone service old phases d → IsGone service new after d)
      (λ goes was. goes refl) (λ d not_dir goes was. elsewhere d not_dir was)
    where
      elsewhere : (d : DirRef) → (d ≡ dir → ⊥) → IsGone service old phases d → IsGone service new after d
      elsewhere d not_dir (inl none) = inl (content_stays d not_dir ∙ none)
      elsewhere d not_dir (inr u) = inr (record {
        call = u.call;
        unlinked = each_call by phase phases (λ (c : CallRef) (p : Phase). phases c ≡ has_unlinked d → p ≡ has_unlinked d)
            (may.unlinked d not_dir) (λ c apart is. is) u.call u.unlinked;
      })

  -- what was told stays true, where this directory, if it was gone, is gone
  pub content_step_told : (k : Key) (access : Access) → (IsGone service old phases dir → dir_of access ≡ dir → IsGone service new after dir)
      → IsToldAs service old root phases k access → IsToldAs service new root after k access
  content_step_told key.Top access goes is = is
  content_step_told (key.At d n) access goes (inl linked) = inl (links_stay d n access linked)
  content_step_told (key.At d n) access goes (inr gone) =
      inr (gone_stays (dir_of access) (λ same. subst (λ (d : DirRef). IsGone service new after d) (sym same) (goes (subst (λ (d : DirRef). IsGone service old phases d) same gone) same)) gone)
