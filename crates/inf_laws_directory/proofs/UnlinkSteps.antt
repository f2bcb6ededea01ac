-- All stays owned where a call unlinks the directory that it has sealed.
use Rattle.std.proofs.Common.{◌≡◌, ◌⊎◌, inl, inr, ℕ, true, false, List, Option, Some, None, is_some, refl, sym, ap, ◌∙◌, subst}
use Rattle.std.proofs.lemmas.Bool.{both_ways}
use Rattle.inf_base.specs.declared.access.Access.{Access}
use Rattle.inf_base.specs.declared.caller.CallRef.{CallRef}
use Rattle.inf_base.specs.declared.directory.DirRef.{DirRef}
use Rattle.inf_base.specs.declared.key.Key.{Key}
use Rattle.inf_base.specs.declared.key.Key.TheVariants as key
use Rattle.inf_base.specs.declared.triple.Triple.{Triple}
use Rattle.inf_base.specs.Content.{Content, Slot, reserved}
use Rattle.inf_base.specs.Same.{dir_of}
use Rattle.inf_base.proofs.Same.{same_dir_self}
use Rattle.inf_content.specs.Contents.{seal_of, slots_found}
use Rattle.inf_content.specs.Slots.{slot_in}
use Rattle.inf_laws_directory.specs.Changes.{is_at}
use Rattle.inf_laws_directory.specs.Objects.{Objects, Service, content_in, slots_kept}
use Rattle.inf_laws_directory.specs.Owned.{AreOwned, Has, HasPlace, IsUnlinked, KeepsName, KeepsSealed, Links, StandsUnder}
use Rattle.inf_laws_directory.specs.Phases.{IsLoose, IsReserving, IsSealing, Phase, Phases, has_made, has_reserved, has_sealed, has_unlinked, idle, with_phase}
use Rattle.inf_laws_directory.specs.Steps.{Keeps}
use Rattle.inf_laws_directory.specs.Things.{a_dir, thing_in}
use Rattle.inf_laws_directory.specs.Told.{IsToldAs}
use Rattle.inf_laws_directory.proofs.CallFacts.{each_call, none_not_some, phase_here}
use Rattle.inf_laws_directory.proofs.Kept.{each_dir}
use Rattle.inf_laws_directory.proofs.OwnedFacts.{full_not_loose, full_not_sealed, one_bearer, sealing_in}
use Rattle.inf_laws_directory.proofs.SlotSteps.{SlotChanges, at_itself, each_name}

module _ (service : Service) (old new : Objects) (root : Access) (phases : Phases) (by : CallRef) (dir : DirRef) (name : List ℕ) (target : DirRef) (was : Slot)
    (owned : AreOwned service old root phases) (at_sealed : phases by ≡ has_sealed dir name target) (changes : SlotChanges service old new dir name (Some was) None) where
  abbrev after : Phases
  after = with_phase by (has_unlinked target) phases

  has_it : Has service old by (has_sealed dir name target)
  has_it = subst (λ (p : Phase). Has service old by p) at_sealed (owned.has by)

  abbrev stands : StandsUnder service old dir name target
  stands = has_it.1

  -- the slots and the content objects that stay
  slot_was : slot_in name (slots_kept service old dir) ≡ Some was
  slot_was = ap (λ (o : Option Content). slot_in name (slots_found o)) changes.there ∙ changes.slot_before

  slot_now : slot_in name (slots_kept service new dir) ≡ None
  slot_now = ap (λ (o : Option Content). slot_in name (slots_found o)) changes.here ∙ changes.slot_after

  slots_stay : (other_dir : DirRef) (other : List ℕ) → is_at dir name other_dir other ≡ false
      → slot_in other (slots_kept service new other_dir) ≡ slot_in other (slots_kept service old other_dir)
  slots_stay other_dir other =
      each_dir dir (λ (d : DirRef). is_at dir name d other ≡ false → slot_in other (slots_kept service new d) ≡ slot_in other (slots_kept service old d))
      (λ apart. ap (λ (o : Option Content). slot_in other (slots_found o)) changes.here
      ∙ changes.other_slots other (let same = same_dir_self dir in rw same at apart)
      ∙ sym (ap (λ (o : Option Content). slot_in other (slots_found o)) changes.there))
      (λ d apart not_at. ap (λ (o : Option Content). slot_in other (slots_found o)) (changes.others d apart)) other_dir

  there_stays : (other : DirRef) → is_some (content_in service new other) ≡ is_some (content_in service old other)
  there_stays = each_dir dir (λ (d : DirRef). is_some (content_in service new d) ≡ is_some (content_in service old d))
      (ap is_some changes.here ∙ sym (ap is_some changes.there)) (λ d apart. ap is_some (changes.others d apart))

  content_stays : (other : DirRef) → (other ≡ dir → ⊥) → content_in service new other ≡ content_in service old other
  content_stays = each_dir dir (λ (d : DirRef). (d ≡ dir → ⊥) → content_in service new d ≡ content_in service old d)
      (λ never. absurd (never refl)) (λ d apart never. changes.others d apart)

  -- what stands under each name stood there, and stands there still but for the directory that is unlinked
  slot_before : (d : DirRef) (n : List ℕ) (slot : Slot) → slot_in n (slots_kept service new d) ≡ Some slot → slot_in n (slots_kept service old d) ≡ Some slot
  slot_before d n slot = each_name dir name
      (λ (d : DirRef) (n : List ℕ). slot_in n (slots_kept service new d) ≡ Some slot → slot_in n (slots_kept service old d) ≡ Some slot)
      (λ is. none_not_some _ slot slot_now is) (λ d n apart is. sym (slots_stay d n apart) ∙ is) d n

  link_was : (parent : DirRef) (n : List ℕ) (access : Access) → Links (content_in service new) parent n access → Links (content_in service old) parent n access
  link_was parent n access = each_name dir name
      (λ (d : DirRef) (n : List ℕ). Links (content_in service new) d n access → Links (content_in service old) d n access)
      (λ linked. none_not_some _ (a_dir access) (ap thing_in slot_now) linked) (λ d n apart linked. sym (ap thing_in (slots_stay d n apart)) ∙ linked) parent n

  link_stays : (parent : DirRef) (n : List ℕ) (access : Access) → Links (content_in service old) parent n access
      → Links (content_in service new) parent n access ⊎ (dir_of access ≡ target)
  link_stays parent n access = each_name dir name
      (λ (d : DirRef) (n : List ℕ). Links (content_in service old) d n access → Links (content_in service new) d n access ⊎ (dir_of access ≡ target))
      (λ linked.
      let both : Some (a_dir access) ≡ Some (a_dir stands.access) = sym linked ∙ stands.linked in
      let same : access ≡ stands.access = cc both in
      inr (ap dir_of same ∙ stands.same))
      (λ d n apart linked. inl (ap thing_in (slots_stay d n apart) ∙ linked)) parent n

  unlinked_stays : (other : DirRef) → IsUnlinked (content_in service old) other → IsUnlinked (content_in service new) other
  unlinked_stays other unlinked parent n access linked = unlinked parent n access (link_was parent n access linked)

  -- it stood under that name alone
  target_unlinked : IsUnlinked (content_in service new) target
  target_unlinked parent n access = each_name dir name
      (λ (d : DirRef) (n : List ℕ). Links (content_in service new) d n access → dir_of access ≡ target → ⊥)
      (λ linked is. none_not_some _ (a_dir access) (ap thing_in slot_now) linked)
      (λ d n apart linked is.
      let place = owned.once dir d name n stands.access access stands.linked (link_was d n access linked) (stands.same ∙ sym is) in
      both_ways _ apart (at_itself dir name d n place.0 place.1))
      parent n

  sealed_stays : (call : CallRef) (sealed : DirRef) → IsSealing (phases call) sealed → KeepsSealed service old call sealed → KeepsSealed service new call sealed
  sealed_stays call sealed sealing keeps = record {
    content = keeps.content;
    there = content_stays sealed (λ same. full_not_sealed service old root phases owned dir name was slot_was call (subst (λ (d : DirRef). IsSealing (phases call) d) same sealing)) ∙ keeps.there;
    seal = keeps.seal;
    slots = keeps.slots;
  }

  target_sealed : IsSealing (phases by) target
  target_sealed = subst (λ (p : Phase). IsSealing p target) (sym at_sealed) refl

  has_now : Has service new by (has_unlinked target)
  has_now = (sealed_stays by target target_sealed has_it.0, target_unlinked)

  -- what another call has
  module _ (call : CallRef) (apart : call ≡ by → ⊥) where
    name_stays : (parent : DirRef) (n : List ℕ) (birth : Triple) → KeepsName service old call parent n birth → KeepsName service new call parent n birth
    name_stays parent n birth keeps = record {
      access = keeps.access;
      slot = each_name dir name
          (λ (d : DirRef) (m : List ℕ). slot_in m (slots_kept service old d) ≡ Some (reserved call keeps.access) → slot_in m (slots_kept service new d) ≡ Some (reserved call keeps.access))
          (λ is. none_not_some _ (a_dir stands.access) (ap thing_in is) stands.linked) (λ d m names is. slots_stay d m names ∙ is) parent n keeps.slot;
      birth_kept = keeps.birth_kept;
    }

    stands_still : (parent : DirRef) (n : List ℕ) (sealed : DirRef) → IsSealing (phases call) sealed → StandsUnder service old parent n sealed → StandsUnder service new parent n sealed
    stands_still parent n sealed sealing at = by_link (link_stays parent n at.access at.linked)
      where
        by_link : Links (content_in service new) parent n at.access ⊎ (dir_of at.access ≡ target) → StandsUnder service new parent n sealed
        by_link (inl linked) = record { access = at.access; linked = linked; same = at.same }
        by_link (inr same) =
            let own = subst (λ (d : DirRef). IsSealing (phases call) d) (sym at.same ∙ same) sealing in
            absurd (apart (one_bearer service old root phases owned by call target
            (sealing_in service old root phases owned by target target_sealed) (sealing_in service old root phases owned call target own)))

    has_stays : (p : Phase) → phases call ≡ p → Has service old call p → Has service new call p
    has_stays idle is has = tt
    has_stays (has_reserved parent n birth) is has = name_stays parent n birth has
    has_stays (has_made parent n birth made) is has =
        let loose : IsLoose (phases call) made = subst (λ (p : Phase). IsLoose p made) (sym is) refl in (
          name_stays parent n birth has.0,
          content_stays made (λ same. full_not_loose service old root phases owned dir name was slot_was call (subst (λ (d : DirRef). IsLoose (phases call) d) same loose)) ∙ has.1,
          has.2,
          unlinked_stays made has.3,
        )
    has_stays (has_sealed parent n sealed) is has =
        let sealing : IsSealing (phases call) sealed = subst (λ (p : Phase). IsSealing p sealed) (sym is) refl in
        (sealed_stays call sealed sealing has.0, stands_still parent n sealed sealing has.1)
    has_stays (has_unlinked unlinked) is has =
        (sealed_stays call unlinked (subst (λ (p : Phase). IsSealing p unlinked) (sym is) refl) has.0, unlinked_stays unlinked has.1)

  -- what holds of the call's phase before and after holds of each call's
  each_phase : (P : Phase → Type 0) → (P (has_sealed dir name target) → P (has_unlinked target)) → (call : CallRef) → P (phases call) → P (after call)
  each_phase P own = each_call by (has_unlinked target) phases (λ (c : CallRef) (p : Phase). P (phases c) → P p)
      (λ had. own (subst P at_sealed had)) (λ c apart had. had)

  unlinked_by : after by ≡ has_unlinked target
  unlinked_by = phase_here by (has_unlinked target) phases

  seals_stay : (content : Content) (call : CallRef) → content.seal ≡ Some call → (d : DirRef) → content_in service new d ≡ Some content → IsSealing (phases call) d
  seals_stay content call sealed = each_dir dir (λ (d : DirRef). content_in service new d ≡ Some content → IsSealing (phases call) d)
      (λ is. owned.seals dir changes.content call changes.there (ap seal_of (sym changes.here ∙ is) ∙ sealed))
      (λ d apart is. owned.seals d content call (sym (changes.others d apart) ∙ is) sealed)

  place_stays : (d : DirRef) → HasPlace (content_in service old) root phases d → HasPlace (content_in service new) root after d
  place_stays d (inl is_root) = inl is_root
  place_stays d (inr (inl at)) = by_link (link_stays at.parent at.name at.access at.linked)
    where
      by_link : Links (content_in service new) at.parent at.name at.access ⊎ (dir_of at.access ≡ target) → HasPlace (content_in service new) root after d
      by_link (inl linked) = inr (inl (record { parent = at.parent; name = at.name; access = at.access; linked = linked; same = at.same }))
      by_link (inr same) = inr (inr (record { call = by; loose = subst (λ (p : Phase). IsLoose p d) (sym unlinked_by) (sym same ∙ at.same) }))
  place_stays d (inr (inr loose)) =
      inr (inr (record { call = loose.call; loose = each_phase (λ (p : Phase). IsLoose p d) (λ had. absurd had) loose.call loose.loose }))

  unlink_owned : AreOwned service new root after
  unlink_owned = record {
    order = changes.order;
    has = each_call by (has_unlinked target) phases (λ (c : CallRef) (p : Phase). Has service new c p) has_now (λ c apart. has_stays c apart (phases c) refl (owned.has c));
    reservations = λ d n call access is.
        each_phase (λ (p : Phase). IsReserving p d n) (λ had. absurd had) call (owned.reservations d n call access (slot_before d n (reserved call access) is));
    seals = λ d content call is sealed. each_phase (λ (p : Phase). IsSealing p d) (λ had. had) call (seals_stay content call sealed d is);
    holds = λ d n slot is. owned.holds d n slot (slot_before d n slot is);
    root_kept = there_stays (dir_of root) ∙ owned.root_kept;
    linked_kept = λ parent n access linked. there_stays (dir_of access) ∙ owned.linked_kept parent n access (link_was parent n access linked);
    placed = λ d there. place_stays d (owned.placed d (sym (there_stays d) ∙ there));
    once = λ parent other n second access same linked also is. owned.once parent other n second access same (link_was parent n access linked) (link_was other second same also) is;
    root_free = unlinked_stays (dir_of root) owned.root_free;
    root_apart = each_call by (has_unlinked target) phases (λ (c : CallRef) (p : Phase). IsLoose p (dir_of root) → ⊥)
        (λ same. owned.root_free dir name stands.access stands.linked (stands.same ∙ same)) (λ c apart. owned.root_apart c);
  }

  none_stays : (new_found old_found : Option Content) → is_some new_found ≡ is_some old_found → old_found ≡ None → new_found ≡ None
  none_stays None old_found there none = refl
  none_stays (Some content) old_found there none = (let never : true ≡ false = there ∙ ap is_some none in absurd (cc))

  told_stays : (asked : Key) (access : Access) → IsToldAs service old root phases asked access → IsToldAs service new root after asked access
  told_stays key.Top access told = told
  told_stays (key.At parent n) access (inl linked) = by_link (link_stays parent n access linked)
    where
      by_link : Links (content_in service new) parent n access ⊎ (dir_of access ≡ target) → IsToldAs service new root after (key.At parent n) access
      by_link (inl linked) = inl linked
      by_link (inr same) = inr (inr (record { call = by; unlinked = unlinked_by ∙ ap has_unlinked (sym same) }))
  told_stays (key.At parent n) access (inr (inl none)) = inr (inl (none_stays _ _ (there_stays (dir_of access)) none))
  told_stays (key.At parent n) access (inr (inr unlinked)) = inr (inr (record {
    call = unlinked.call;
    unlinked = each_phase (λ (p : Phase). p ≡ has_unlinked (dir_of access)) (λ never. absurd (cc)) unlinked.call unlinked.unlinked;
  }))

  pub unlink_keeps : Keeps service old new root phases after
  unlink_keeps = record { owned = unlink_owned; told = told_stays }
