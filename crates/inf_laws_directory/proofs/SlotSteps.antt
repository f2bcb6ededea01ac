-- All stays owned where one slot of a directory changes, and nothing that stood is lost.
use Rattle.std.proofs.Common.{◌≡◌, ℕ, Bool, true, false, List, ◌⊎◌, inl, inr, Option, Some, None, is_some, refl, sym, ap, ◌∙◌, subst, subst₂}
use Rattle.std.specs.Str.{bytes_eq}
use Rattle.inf_base.specs.declared.access.Access.{Access}
use Rattle.inf_base.specs.declared.caller.CallRef.{CallRef}
use Rattle.inf_base.specs.declared.directory.DirRef.{DirRef}
use Rattle.inf_base.specs.declared.key.Key.{Key}
use Rattle.inf_base.specs.declared.key.Key.TheVariants as key
use Rattle.inf_base.specs.declared.triple.Triple.{Triple}
use Rattle.inf_base.specs.Content.{Content, Slot, reserved}
use Rattle.inf_base.specs.Same.{dir_of, is_same_dir}
use Rattle.inf_base.proofs.Same.{same_dir, same_dir_self, same_name, same_name_self}
use Rattle.inf_content.specs.Contents.{seal_of, slots_found}
use Rattle.inf_content.specs.Slots.{slot_in}
use Rattle.inf_laws_directory.specs.Changes.{is_at}
use Rattle.inf_laws_directory.specs.Objects.{Objects, Service, content_in, slots_kept}
use Rattle.inf_content.specs.Order.{AreInOrder}
use Rattle.inf_laws_directory.specs.Owned.{AreOwned, Has, HasPlace, IsUnheld, IsUnlinked, KeepsName, KeepsSealed, Links}
use Rattle.inf_laws_directory.specs.Phases.{IsLoose, IsReserving, IsSealing, Phase, Phases, has_made, has_reserved, has_sealed, has_unlinked, idle, with_phase}
use Rattle.inf_laws_directory.specs.Steps.{Keeps}
use Rattle.inf_laws_directory.specs.Things.{a_dir, thing_in}
use Rattle.inf_laws_directory.specs.Told.{IsGone, IsToldAs}
use Rattle.inf_laws_directory.proofs.CallFacts.{each_call, none_not_some, phase_apart, phase_here}
use Rattle.inf_laws_directory.proofs.Kept.{Slots, each_dir}

-- the slot under one name of a directory that is there changed, and nothing else
pub record SlotChanges (service : Service) (old new : Objects) (dir : DirRef) (name : List ℕ) (was now : Option Slot) : Type 0 where
  pub content : Content
  pub slots : Slots
  pub there : content_in service old dir ≡ Some content
  pub here : content_in service new dir ≡ Some (record content { slots = slots })
  pub others : (other : DirRef) → is_same_dir dir other ≡ false → content_in service new other ≡ content_in service old other
  pub slot_before : slot_in name content.slots ≡ was
  pub slot_after : slot_in name slots ≡ now
  pub other_slots : (other : List ℕ) → bytes_eq name other ≡ false → slot_in other slots ≡ slot_in other content.slots
  pub order : (number : ℕ) → AreInOrder (new number).contents

-- a directory may come to stand somewhere by a call: it is there, stands nowhere, is not the root, and no other call's
pub record MayStand (service : Service) (objects : Objects) (root : Access) (phases : Phases) (by : CallRef) (dir : DirRef) : Type 0 where
  pub present : is_some (content_in service objects dir) ≡ true
  pub unlinked : IsUnlinked (content_in service objects) dir
  pub not_root : dir ≡ dir_of root → ⊥
  pub others : (call : CallRef) → (call ≡ by → ⊥) → IsLoose (phases call) dir → ⊥

-- what the phases have to say of the change
pub record MayChange (service : Service) (old new : Objects) (root : Access) (phases : Phases) (by : CallRef) (phase : Phase)
    (dir : DirRef) (name : List ℕ) (was now : Option Slot) : Type 0 where
  -- no call made the directory, or sealed it
  pub unmade : (call : CallRef) → IsLoose (phases call) dir → ⊥
  pub unsealed : (call : CallRef) → IsSealing (phases call) dir → ⊥
  -- nothing stood there, and no other call kept the name
  pub unseen : thing_in was ≡ None
  pub own : (call : CallRef) (access : Access) → was ≡ Some (reserved call access) → call ≡ by
  -- what stands there then may
  pub reserves : (call : CallRef) (access : Access) → now ≡ Some (reserved call access) → (call ≡ by) × IsReserving phase dir name
  pub unheld : (slot : Slot) → now ≡ Some slot → IsUnheld slot
  pub stands : (access : Access) → thing_in now ≡ Some (a_dir access) → MayStand service old root phases by (dir_of access)
  -- the call has what its new phase says, and the new phase says all that the call has
  pub has : Has service new by phase
  pub reserving : (other_dir : DirRef) (other : List ℕ) → is_at dir name other_dir other ≡ false → IsReserving (phases by) other_dir other → IsReserving phase other_dir other
  pub sealing : (other : DirRef) → IsSealing (phases by) other → ⊥
  pub loose : (other : DirRef) → IsLoose (phases by) other
      → IsLoose phase other ⊎ ((access : Access) × (thing_in now ≡ Some (a_dir access)) × (dir_of access ≡ other))
  pub loose_before : (other : DirRef) → IsLoose phase other → IsLoose (phases by) other

-- what holds of a name of a directory, and of all others, holds of each
pub each_name : (dir : DirRef) (name : List ℕ) (P : DirRef → List ℕ → Type 0) → P dir name
    → ((other_dir : DirRef) (other : List ℕ) → is_at dir name other_dir other ≡ false → P other_dir other)
    → (other_dir : DirRef) (other : List ℕ) → P other_dir other
each_name dir name P here others other_dir other = by (is_same_dir dir other_dir) refl (bytes_eq name other) refl
  where
    by : (b : Bool) → is_same_dir dir other_dir ≡ b → (d : Bool) → bytes_eq name other ≡ d → P other_dir other
    by true dirs true names = subst₂ P (same_dir dir other_dir dirs) (same_name name other names) here
    by true dirs false names = others other_dir other (rw (dirs, names) refl)
    by false dirs d names = others other_dir other (rw dirs refl)

pub at_itself : (dir : DirRef) (name : List ℕ) (other_dir : DirRef) (other : List ℕ) → dir ≡ other_dir → name ≡ other → is_at dir name other_dir other ≡ true
at_itself dir name other_dir other dirs names =
    let here = same_dir_self dir in
    let named = same_name_self name in
    subst₂ (λ (d : DirRef) (n : List ℕ). is_at dir name d n ≡ true) dirs names (rw here named)

sealed_so : {P : Type 0} (found : Option Content) (by : CallRef) → seal_of found ≡ Some by
    → ((content : Content) → found ≡ Some content → content.seal ≡ Some by → P) → P
sealed_so None by is next = absurd cc
sealed_so (Some content) by is next = next content refl is

no_content : (found : Option Content) → is_some found ≡ false → found ≡ None
no_content None is = refl
no_content (Some content) is = cc

module _ (service : Service) (old new : Objects) (root : Access) (phases : Phases) (by : CallRef) (phase : Phase)
    (dir : DirRef) (name : List ℕ) (was now : Option Slot)
    (owned : AreOwned service old root phases) (changes : SlotChanges service old new dir name was now)
    (may : MayChange service old new root phases by phase dir name was now) where
  slot_was : slot_in name (slots_kept service old dir) ≡ was
  slot_was = ap (λ (o : Option Content). slot_in name (slots_found o)) changes.there ∙ changes.slot_before

  slot_now : slot_in name (slots_kept service new dir) ≡ now
  slot_now = ap (λ (o : Option Content). slot_in name (slots_found o)) changes.here ∙ changes.slot_after

  slots_stay : (other_dir : DirRef) (other : List ℕ) → is_at dir name other_dir other ≡ false
      → slot_in other (slots_kept service new other_dir) ≡ slot_in other (slots_kept service old other_dir)
  slots_stay other_dir other =
      each_dir dir (λ (d : DirRef). is_at dir name d other ≡ false → slot_in other (slots_kept service new d) ≡ slot_in other (slots_kept service old d))
      (λ apart. ap (λ (o : Option Content). slot_in other (slots_found o)) changes.here
      ∙ changes.other_slots other (let same = same_dir_self dir in rw same at apart)
      ∙ sym (ap (λ (o : Option Content). slot_in other (slots_found o)) changes.there))
      (λ d apart not_at. ap (λ (o : Option Content). slot_in other (slots_found o)) (changes.others d apart)) other_dir

  there_stays : (other : DirRef) → is_some (content_in service new other) ≡ is_some (content_in service old other)
  there_stays = each_dir dir (λ (d : DirRef). is_some (content_in service new d) ≡ is_some (content_in service old d))
      (ap is_some changes.here ∙ sym (ap is_some changes.there)) (λ d apart. ap is_some (changes.others d apart))

  seal_stays : (other : DirRef) → seal_of (content_in service new other) ≡ seal_of (content_in service old other)
  seal_stays = each_dir dir (λ (d : DirRef). seal_of (content_in service new d) ≡ seal_of (content_in service old d))
      (ap seal_of changes.here ∙ sym (ap seal_of changes.there)) (λ d apart. ap seal_of (changes.others d apart))

  content_stays : (other : DirRef) → (other ≡ dir → ⊥) → content_in service new other ≡ content_in service old other
  content_stays = each_dir dir (λ (d : DirRef). (d ≡ dir → ⊥) → content_in service new d ≡ content_in service old d)
      (λ not. absurd (not refl)) (λ d apart not. changes.others d apart)

  -- links stay, and the only one that may come is the one under the name
  link_stays : (parent : DirRef) (other : List ℕ) (access : Access) → Links (content_in service old) parent other access → Links (content_in service new) parent other access
  link_stays parent other access =
      each_name dir name (λ (d : DirRef) (n : List ℕ). Links (content_in service old) d n access → Links (content_in service new) d n access)
      (λ linked. none_not_some (thing_in was) (a_dir access) may.unseen (sym (ap thing_in slot_was) ∙ linked))
      (λ d n apart linked. ap thing_in (slots_stay d n apart) ∙ linked) parent other

  link_was : (parent : DirRef) (other : List ℕ) (access : Access) → Links (content_in service new) parent other access
      → Links (content_in service old) parent other access ⊎ ((parent ≡ dir) × (other ≡ name) × (thing_in now ≡ Some (a_dir access)))
  link_was parent other access =
      each_name dir name (λ (d : DirRef) (n : List ℕ). Links (content_in service new) d n access
      → Links (content_in service old) d n access ⊎ ((d ≡ dir) × (n ≡ name) × (thing_in now ≡ Some (a_dir access))))
      (λ linked. inr (refl, refl, sym (ap thing_in slot_now) ∙ linked))
      (λ d n apart linked. inl (sym (ap thing_in (slots_stay d n apart)) ∙ linked)) parent other

  unlinked_stays : (target : DirRef) → ((access : Access) → thing_in now ≡ Some (a_dir access) → dir_of access ≡ target → ⊥)
      → IsUnlinked (content_in service old) target → IsUnlinked (content_in service new) target
  unlinked_stays target never unlinked parent other access linked same = by_link (link_was parent other access linked)
    where
      by_link : Links (content_in service old) parent other access ⊎ ((parent ≡ dir) × (other ≡ name) × (thing_in now ≡ Some (a_dir access))) → ⊥
      by_link (inl stood) = unlinked parent other access stood same
      by_link (inr comes) = never access comes.2 same

  -- what another call has
  module _ (call : CallRef) (apart : call ≡ by → ⊥) where
    name_stays : (parent : DirRef) (n : List ℕ) (birth : Triple) → KeepsName service old call parent n birth → KeepsName service new call parent n birth
    name_stays parent n birth kept = record {
      access = kept.access;
      slot = each_name dir name
          (λ (d : DirRef) (m : List ℕ). slot_in m (slots_kept service old d) ≡ Some (reserved call kept.access) → slot_in m (slots_kept service new d) ≡ Some (reserved call kept.access))
          (λ is. absurd (apart (may.own call kept.access (sym slot_was ∙ is)))) (λ d m names is. slots_stay d m names ∙ is) parent n kept.slot;
      birth_kept = kept.birth_kept;
    }

    sealed_stays : (target : DirRef) → IsSealing (phases call) target → KeepsSealed service old call target → KeepsSealed service new call target
    sealed_stays target sealing kept = record {
      content = kept.content;
      there = content_stays target (λ same. may.unsealed call (subst (λ (d : DirRef). IsSealing (phases call) d) same sealing)) ∙ kept.there;
      seal = kept.seal;
      slots = kept.slots;
    }

    loose_stays : (target : DirRef) → IsLoose (phases call) target → IsUnlinked (content_in service old) target → IsUnlinked (content_in service new) target
    loose_stays target loose = unlinked_stays target
        (λ access comes same. (may.stands access comes).others call apart (subst (λ (d : DirRef). IsLoose (phases call) d) (sym same) loose))

    has_stays : (p : Phase) → phases call ≡ p → Has service old call p → Has service new call p
    has_stays idle is has = tt
    has_stays (has_reserved parent n birth) is has = name_stays parent n birth has
    has_stays (has_made parent n birth made) is has =
        let loose : IsLoose (phases call) made = subst (λ (p : Phase). IsLoose p made) (sym is) refl in (
          name_stays parent n birth has.0,
          content_stays made (λ same. may.unmade call (subst (λ (d : DirRef). IsLoose (phases call) d) same loose)) ∙ has.1,
          has.2,
          loose_stays made loose has.3,
        )
    has_stays (has_sealed parent n target) is has = (
      sealed_stays target (subst (λ (p : Phase). IsSealing p target) (sym is) refl) has.0,
      record { access = has.1.access; linked = link_stays parent n has.1.access has.1.linked; same = has.1.same },
    )
    has_stays (has_unlinked target) is has = (
      sealed_stays target (subst (λ (p : Phase). IsSealing p target) (sym is) refl) has.0,
      loose_stays target (subst (λ (p : Phase). IsLoose p target) (sym is) refl) has.1,
    )

  abbrev after : Phases
  after = with_phase by phase phases

  stays_reserving : (d : DirRef) (n : List ℕ) (call : CallRef) (access : Access)
      → slot_in n (slots_kept service new d) ≡ Some (reserved call access) → IsReserving (after call) d n
  stays_reserving d n call access =
      each_name dir name (λ (d : DirRef) (n : List ℕ). slot_in n (slots_kept service new d) ≡ Some (reserved call access) → IsReserving (after call) d n)
      (λ is. let (same, reserving) = may.reserves call access (sym slot_now ∙ is) in
      subst (λ (c : CallRef). IsReserving (after c) dir name) (sym same) (subst (λ (p : Phase). IsReserving p dir name) (sym (phase_here by phase phases)) reserving))
      (λ d n apart is. each_call by phase phases (λ (c : CallRef) (p : Phase). IsReserving (phases c) d n → IsReserving p d n)
      (may.reserving d n apart) (λ c not_by reserving. reserving) call (owned.reservations d n call access (sym (slots_stay d n apart) ∙ is))) d n

  stays_sealing : (d : DirRef) (content : Content) (call : CallRef) → content_in service new d ≡ Some content → content.seal ≡ Some call → IsSealing (after call) d
  stays_sealing d content call there seal =
      sealed_so (content_in service old d) call (sym (seal_stays d) ∙ ap seal_of there ∙ seal)
      (λ c was_there sealed. each_call by phase phases (λ (c : CallRef) (p : Phase). IsSealing (phases c) d → IsSealing p d)
      (λ sealing. absurd (may.sealing d sealing)) (λ c not_by sealing. sealing) call (owned.seals d c call was_there sealed))

  stays_placed : (d : DirRef) → HasPlace (content_in service old) root phases d → HasPlace (content_in service new) root after d
  stays_placed d (inl is) = inl is
  stays_placed d (inr (inl l)) = inr (inl (record { parent = l.parent; name = l.name; access = l.access; linked = link_stays l.parent l.name l.access l.linked; same = l.same }))
  stays_placed d (inr (inr l)) =
      each_call by phase phases (λ (c : CallRef) (p : Phase). IsLoose (phases c) d → HasPlace (content_in service new) root after d)
      (λ loose. by_loose (may.loose d loose))
      (λ c apart loose. inr (inr (record { call = c; loose = subst (λ (p : Phase). IsLoose p d) (sym (phase_apart by phase phases c apart)) loose })))
      l.call l.loose
    where
      by_loose : IsLoose phase d ⊎ ((access : Access) × (thing_in now ≡ Some (a_dir access)) × (dir_of access ≡ d)) → HasPlace (content_in service new) root after d
      by_loose (inl loose) = inr (inr (record { call = by; loose = subst (λ (p : Phase). IsLoose p d) (sym (phase_here by phase phases)) loose }))
      by_loose (inr comes) = inr (inl (record { parent = dir; name = name; access = comes.0; linked = ap thing_in slot_now ∙ comes.1; same = comes.2 }))

  stays_once : (parent other : DirRef) (n second : List ℕ) (access same : Access)
      → Links (content_in service new) parent n access → Links (content_in service new) other second same
      → dir_of access ≡ dir_of same → (parent ≡ other) × (n ≡ second)
  stays_once parent other n second access same linked also is = by_links (link_was parent n access linked) (link_was other second same also)
    where
      by_links : Links (content_in service old) parent n access ⊎ ((parent ≡ dir) × (n ≡ name) × (thing_in now ≡ Some (a_dir access)))
          → Links (content_in service old) other second same ⊎ ((other ≡ dir) × (second ≡ name) × (thing_in now ≡ Some (a_dir same)))
          → (parent ≡ other) × (n ≡ second)
      by_links (inl first) (inl then) = owned.once parent other n second access same first then is
      by_links (inl first) (inr comes) = absurd ((may.stands same comes.2).unlinked parent n access first is)
      by_links (inr comes) (inl then) = absurd ((may.stands access comes.2).unlinked other second same then (sym is))
      by_links (inr first) (inr then) = (first.0 ∙ sym then.0, first.1 ∙ sym then.1)

  stays_kept : (parent : DirRef) (n : List ℕ) (access : Access) → Links (content_in service new) parent n access → is_some (content_in service new (dir_of access)) ≡ true
  stays_kept parent n access linked = there_stays (dir_of access) ∙ by_link (link_was parent n access linked)
    where
      by_link : Links (content_in service old) parent n access ⊎ ((parent ≡ dir) × (n ≡ name) × (thing_in now ≡ Some (a_dir access)))
          → is_some (content_in service old (dir_of access)) ≡ true
      by_link (inl stood) = owned.linked_kept parent n access stood
      by_link (inr comes) = (may.stands access comes.2).present

  stays_owned : AreOwned service new root after
  stays_owned = record {
    order = changes.order;
    has = each_call by phase phases (λ (c : CallRef) (p : Phase). Has service new c p) may.has (λ c apart. has_stays c apart (phases c) refl (owned.has c));
    reservations = stays_reserving;
    seals = stays_sealing;
    holds = λ d n slot. each_name dir name (λ (d : DirRef) (n : List ℕ). slot_in n (slots_kept service new d) ≡ Some slot → IsUnheld slot)
        (λ is. may.unheld slot (sym slot_now ∙ is)) (λ d n apart is. owned.holds d n slot (sym (slots_stay d n apart) ∙ is)) d n;
    root_kept = there_stays (dir_of root) ∙ owned.root_kept;
    linked_kept = stays_kept;
    placed = λ d there. stays_placed d (owned.placed d (sym (there_stays d) ∙ there));
    once = stays_once;
    root_free = unlinked_stays (dir_of root) (λ access comes. (may.stands access comes).not_root) owned.root_free;
    root_apart = each_call by phase phases (λ (c : CallRef) (p : Phase). IsLoose p (dir_of root) → ⊥)
        (λ loose. owned.root_apart by (may.loose_before (dir_of root) loose)) (λ c apart. owned.root_apart c);
  }

  gone_stays : (d : DirRef) → IsGone service old phases d → IsGone service new after d
  gone_stays d (inl none) = inl (no_content _ (there_stays d ∙ ap is_some none))
  gone_stays d (inr unlinked) = inr (record {
    call = unlinked.call;
    unlinked = each_call by phase phases (λ (c : CallRef) (p : Phase). phases c ≡ has_unlinked d → p ≡ has_unlinked d)
        (λ is. absurd (may.sealing d (subst (λ (p : Phase). IsSealing p d) (sym is) refl))) (λ c apart is. is) unlinked.call unlinked.unlinked;
  })

  stays_told : (k : Key) (access : Access) → IsToldAs service old root phases k access → IsToldAs service new root after k access
  stays_told key.Top access is = is
  stays_told (key.At d n) access (inl linked) = inl (link_stays d n access linked)
  stays_told (key.At d n) access (inr gone) = inr (gone_stays (dir_of access) gone)

  pub slot_step_keeps : Keeps service old new root phases after
  slot_step_keeps = record { owned = stays_owned; told = stays_told }
