-- A step that changes no content object keeps all.
use Rattle.std.proofs.Common.{◌≡◌, inl, inr, ℕ, List, Option, is_some, refl, sym, ap, ◌∙◌, subst}
use Rattle.inf_base.specs.declared.access.Access.{Access}
use Rattle.inf_base.specs.declared.caller.CallRef.{CallRef}
use Rattle.inf_base.specs.declared.directory.DirRef.{DirRef}
use Rattle.inf_base.specs.declared.key.Key.{Key}
use Rattle.inf_base.specs.declared.key.Key.TheVariants as key
use Rattle.inf_base.specs.declared.triple.Triple.{Triple}
use Rattle.inf_base.specs.Content.{Content}
use Rattle.inf_base.specs.Same.{dir_of}
use Rattle.inf_content.specs.Contents.{content_at, slots_found}
use Rattle.inf_content.specs.Slots.{slot_in}
use Rattle.inf_server.specs.State.{State}
use Rattle.inf_laws_directory.specs.Objects.{Objects, Service, content_in, slots_kept, with_state}
use Rattle.inf_content.specs.Order.{AreInOrder}
use Rattle.inf_laws_directory.specs.Owned.{AreOwned, Has, HasPlace, IsUnlinked, KeepsName, KeepsSealed, Links}
use Rattle.inf_laws_directory.specs.Phases.{Phase, Phases, has_made, has_reserved, has_sealed, has_unlinked, idle}
use Rattle.inf_laws_directory.specs.Serves.{IsUnseen}
use Rattle.inf_laws_directory.specs.Steps.{Keeps}
use Rattle.inf_laws_directory.specs.Things.{thing_in}
use Rattle.inf_laws_directory.specs.Told.{IsToldAs}
use Rattle.inf_laws_directory.proofs.Kept.{each_content}
use Rattle.inf_laws_directory.proofs.ServedSlots.{orders_after}
use Rattle.inf_laws_directory.proofs.ServiceFacts.{looks_as_found}

module _ (service : Service) (old new : Objects) (root : Access) (phases : Phases) (owned : AreOwned service old root phases)
    (same : (dir : DirRef) → content_in service new dir ≡ content_in service old dir) (order : (number : ℕ) → AreInOrder (new number).contents) where
  slot_was : (dir : DirRef) (name : List ℕ) → slot_in name (slots_kept service old dir) ≡ slot_in name (slots_kept service new dir)
  slot_was dir name = sym (ap (λ (o : Option Content). slot_in name (slots_found o)) (same dir))

  link_was : (parent : DirRef) (name : List ℕ) (access : Access) → Links (content_in service new) parent name access → Links (content_in service old) parent name access
  link_was parent name access linked = ap thing_in (slot_was parent name) ∙ linked

  link_stays : (parent : DirRef) (name : List ℕ) (access : Access) → Links (content_in service old) parent name access → Links (content_in service new) parent name access
  link_stays parent name access linked = sym (ap thing_in (slot_was parent name)) ∙ linked

  there_was : (dir : DirRef) → is_some (content_in service old dir) ≡ is_some (content_in service new dir)
  there_was dir = sym (ap is_some (same dir))

  unlinked_stays : (target : DirRef) → IsUnlinked (content_in service old) target → IsUnlinked (content_in service new) target
  unlinked_stays target unlinked parent name access linked = unlinked parent name access (link_was parent name access linked)

  name_stays : (call : CallRef) (parent : DirRef) (name : List ℕ) (birth : Triple) → KeepsName service old call parent name birth → KeepsName service new call parent name birth
  name_stays call parent name birth keeps = record { access = keeps.access; slot = sym (slot_was parent name) ∙ keeps.slot; birth_kept = keeps.birth_kept }

  sealed_stays : (call : CallRef) (target : DirRef) → KeepsSealed service old call target → KeepsSealed service new call target
  sealed_stays call target keeps = record { content = keeps.content; there = same target ∙ keeps.there; seal = keeps.seal; slots = keeps.slots }

  has_stays : (call : CallRef) (phase : Phase) → Has service old call phase → Has service new call phase
  has_stays call idle has = tt
  has_stays call (has_reserved parent name birth) has = name_stays call parent name birth has
  has_stays call (has_made parent name birth made) has = (name_stays call parent name birth has.0, same made ∙ has.1, has.2, unlinked_stays made has.3)
  has_stays call (has_sealed parent name target) has =
      (sealed_stays call target has.0, record { access = has.1.access; linked = link_stays parent name has.1.access has.1.linked; same = has.1.same })
  has_stays call (has_unlinked target) has = (sealed_stays call target has.0, unlinked_stays target has.1)

  place_stays : (dir : DirRef) → HasPlace (content_in service old) root phases dir → HasPlace (content_in service new) root phases dir
  place_stays dir (inl is_root) = inl is_root
  place_stays dir (inr (inl at)) = inr (inl (record { parent = at.parent; name = at.name; access = at.access; linked = link_stays at.parent at.name at.access at.linked; same = at.same }))
  place_stays dir (inr (inr loose)) = inr (inr loose)

  told_stays : (asked : Key) (access : Access) → IsToldAs service old root phases asked access → IsToldAs service new root phases asked access
  told_stays key.Top access told = told
  told_stays (key.At parent name) access (inl linked) = inl (link_stays parent name access linked)
  told_stays (key.At parent name) access (inr (inl none)) = inr (inl (same (dir_of access) ∙ none))
  told_stays (key.At parent name) access (inr (inr unlinked)) = inr (inr unlinked)

  pub all_stay : Keeps service old new root phases phases
  all_stay = record {
    owned = record {
      order = order;
      has = λ call. has_stays call (phases call) (owned.has call);
      reservations = λ dir name call access slot. owned.reservations dir name call access (slot_was dir name ∙ slot);
      seals = λ dir content call is. owned.seals dir content call (sym (same dir) ∙ is);
      holds = λ dir name slot is. owned.holds dir name slot (slot_was dir name ∙ is);
      root_kept = ap is_some (same (dir_of root)) ∙ owned.root_kept;
      linked_kept = λ parent name access linked. ap is_some (same (dir_of access)) ∙ owned.linked_kept parent name access (link_was parent name access linked);
      placed = λ dir there. place_stays dir (owned.placed dir (there_was dir ∙ there));
      once = λ parent other name second access also linked links is.
          owned.once parent other name second access also (link_was parent name access linked) (link_was other second also links) is;
      root_free = unlinked_stays (dir_of root) owned.root_free;
      root_apart = owned.root_apart;
    };
    told = told_stays;
  }

-- a server that keeps its content objects as they are
module _ (service : Service) (objects : Objects) (number : ℕ) (state : State) (same : state.contents ≡ (objects number).contents) where
  same_contents : (dir : DirRef) → content_in service (with_state number state objects) dir ≡ content_in service objects dir
  same_contents dir =
      each_content service objects number state (λ (old now : Option Content). now ≡ old) dir (λ here. ap (content_at dir) same) (λ elsewhere. refl)

  pub nothing_seen : IsUnseen (content_in service objects) (content_in service (with_state number state objects))
  nothing_seen dir = looks_as_found (content_in service objects) (content_in service (with_state number state objects)) dir (same_contents dir)

  pub kept_stay : (root : Access) (phases : Phases) → AreOwned service objects root phases → Keeps service objects (with_state number state objects) root phases phases
  kept_stay root phases owned =
      all_stay service objects (with_state number state objects) root phases owned
      same_contents
      (orders_after objects number state owned.order (subst AreInOrder (sym same) (owned.order number)))
