use Rattle.std.proofs.Common.{◌≡◌, ℕ, Bool, true, false, cond, List, Option, Some, None, inl, Ok, refl, sym, ap, ◌∙◌, subst}
use Rattle.std.specs.Str.{bytes_eq}
use Rattle.std.proofs.lemmas.Bool.{both_ways}
use Rattle.inf_base.specs.declared.access.Access.{Access}
use Rattle.inf_base.specs.declared.caller.CallRef.{CallRef}
use Rattle.inf_base.specs.declared.directory.DirRef.{DirRef}
use Rattle.inf_base.specs.declared.triple.Triple.{Triple}
use Rattle.inf_base.specs.Content.{Content, Hold, Slot, reserved, file, directory}
use Rattle.inf_base.specs.Same.{is_same_call}
use Rattle.inf_base.proofs.Same.{same_call, same_call_self, same_name_self}
use Rattle.inf_content.specs.Contents.{dropped_at, may_drop_found, slots_found}
use Rattle.inf_content.specs.Slot.{let_go}
use Rattle.inf_content.specs.Slots.{lifted, slot_in}
use Rattle.inf_message.specs.declared.ask.Ask.{Ask}
use Rattle.inf_server.specs.Births.{cancel}
use Rattle.inf_server.specs.Removals.{drop_dir}
use Rattle.inf_server.specs.Response.{Response}
use Rattle.inf_server.specs.State.{State}
use Rattle.inf_laws_directory.specs.Objects.{Objects, Service, site_in, with_state}
use Rattle.inf_content.specs.Order.{AreInOrder}
use Rattle.inf_laws_directory.specs.Owned.{AreOwned, Has, IsUnheld, KeepsName}
use Rattle.inf_laws_directory.specs.Phases.{IsLoose, IsReserving, IsSealing, Phase, Phases, has_made, has_reserved, has_unlinked, idle, with_phase}
use Rattle.inf_laws_directory.specs.Steps.{Keeps}
use Rattle.inf_laws_directory.specs.Things.{a_dir}
use Rattle.inf_laws_directory.proofs.CallFacts.{none_not_some}
use Rattle.inf_laws_directory.proofs.ContentSteps.{MayBecome, content_step_owned, content_step_told, same_slot}
use Rattle.inf_laws_directory.proofs.Kept.{Becomes, dropped_becomes}
use Rattle.inf_content.proofs.Ordered.{dropped_in_order, lifted_in_order}
use Rattle.inf_laws_directory.proofs.OwnedFacts.{IsInHands, full_not_loose, full_not_sealed, loose_in, one_bearer, one_loose, sealing_in}
use Rattle.inf_laws_directory.proofs.ServedSlots.{has_slot, orders_after, slot_changes, slots_in_order}
use Rattle.inf_laws_directory.proofs.SlotFacts.{lifted_one, lifted_slot}
use Rattle.inf_laws_directory.proofs.SlotSteps.{MayChange, at_itself, slot_step_keeps}
use Rattle.inf_laws_server.proofs.Came.{Did}
use Rattle.inf_laws_directory.proofs.ServedKinds.{cancelled, dropped, has_lifted}
use Rattle.inf_message.specs.declared.request.Request.TheVariants as request
use Rattle.inf_laws_directory.proofs.phases.undoing_keeps.Goals as goal

-- a slot that nobody holds and that the call did not reserve is left as it is
held_none : (by : CallRef) (held : Option Hold) → held ≡ None → let_go by held ≡ held
held_none by None is = refl
held_none by (Some hold) is = cc

left_alone : (by : CallRef) (slot : Slot) → IsUnheld slot → ((access : Access) → slot ≡ reserved by access → ⊥) → lifted_one by (Some slot) ≡ Some slot
left_alone by (reserved other access) unheld never = by_call (is_same_call other by) refl
  where
    by_call : (b : Bool) → is_same_call other by ≡ b → cond b None (Some (reserved other access)) ≡ Some (reserved other access)
    by_call true is = absurd (never access (ap (λ (c : CallRef). reserved c access) (same_call other by is)))
    by_call false is = refl
left_alone by (file meta held) unheld never = ap (λ (h : Option Hold). Some (file meta h)) (held_none by held unheld)
left_alone by (directory access held) unheld never = ap (λ (h : Option Hold). Some (directory access h)) (held_none by held unheld)

left_as_is : (by : CallRef) (found : Option Slot) → ((slot : Slot) → found ≡ Some slot → lifted_one by (Some slot) ≡ Some slot) → lifted_one by found ≡ found
left_as_is by None stays = refl
left_as_is by (Some slot) stays = stays slot refl

module _ (service : Service) (objects : Objects) (number : ℕ) (root : Access) (phases : Phases) (ask : Ask)
    (parent : DirRef) (name : List ℕ) (birth : Triple) (done : Response)
    (owned : AreOwned service objects root phases) (phase : phases ask.from ≡ has_reserved parent name birth)
    (is : cancel (site_in service number) (objects number) ask parent ≡ Ok done) where
  kept : KeepsName service objects ask.from parent name birth
  kept = subst (λ (p : Phase). Has service objects ask.from p) phase (owned.has ask.from)

  abbrev was : Option Slot
  was = Some (reserved ask.from kept.access)

  reserves_here : (dir : DirRef) (other : List ℕ) → IsReserving (phases ask.from) dir other → (parent ≡ dir) × (name ≡ other)
  reserves_here dir other reserving = subst (λ (p : Phase). IsReserving p dir other) phase reserving

  may_cancel : MayChange service objects (with_state number done.state objects) root phases ask.from idle parent name was None
  may_cancel = record {
    unmade = full_not_loose service objects root phases owned parent name (reserved ask.from kept.access) kept.slot;
    unsealed = full_not_sealed service objects root phases owned parent name (reserved ask.from kept.access) kept.slot;
    unseen = refl;
    own = λ call access same. cc;
    reserves = λ call access same. none_not_some None (reserved call access) refl same;
    unheld = λ slot same. none_not_some None slot refl same;
    stands = λ access same. none_not_some None (a_dir access) refl same;
    has = tt;
    reserving = λ dir other apart reserving. let here = reserves_here dir other reserving in absurd (both_ways _ apart (at_itself parent name dir other here.0 here.1));
    sealing = λ dir sealing. subst (λ (p : Phase). IsSealing p dir) phase sealing;
    loose = λ dir loose. absurd (subst (λ (p : Phase). IsLoose p dir) phase loose);
    loose_before = λ dir loose. absurd loose;
  }

  cancelling : Keeps service objects (with_state number done.state objects) root phases (with_phase ask.from idle phases)
  cancelling =
      let was_lifted = cancelled (site_in service number) (objects number) ask done parent is in
      let slot = has_slot _ name (reserved ask.from kept.access) kept.slot in
      let sorted = slots_in_order service objects owned.order parent slot.content slot.there in
      let in_parent = λ (other : List ℕ) (s : Slot) (at : slot_in other slot.content.slots ≡ Some s). ap (λ (o : Option Content). slot_in other (slots_found o)) slot.there ∙ at in
      slot_step_keeps service objects (with_state number done.state objects) root phases ask.from idle parent name was None owned
      (slot_changes service objects number done.state owned.order parent (lifted ask.from) (lifted_in_order parent ask.from) (has_lifted (site_in service number) (objects number) done.state ask.from parent was_lifted.passed.here was_lifted.did)
      slot.content slot.there name was None slot.slot_is
      (lifted_slot ask.from name slot.content.slots sorted ∙ ap (lifted_one ask.from) slot.slot_is ∙ (let same = same_call_self ask.from in rw same refl))
      (λ other apart. lifted_slot ask.from other slot.content.slots sorted
      ∙ left_as_is ask.from (slot_in other slot.content.slots) (λ s at. left_alone ask.from s (owned.holds parent other s (in_parent other s at))
      (λ access reserved_so. let here = reserves_here parent other (owned.reservations parent other ask.from access (in_parent other s at ∙ ap (λ (x : Slot). Some x) reserved_so)) in
      both_ways _ apart (subst (λ (n : List ℕ). bytes_eq name n ≡ true) here.1 (same_name_self name))))))
      may_cancel

module _ (service : Service) (objects : Objects) (number : ℕ) (root : Access) (phases : Phases) (ask : Ask)
    (parent made : DirRef) (name : List ℕ) (birth : Triple) (done : Response)
    (owned : AreOwned service objects root phases) (phase : phases ask.from ≡ has_made parent name birth made)
    (is : drop_dir (site_in service number) (objects number) ask made ≡ Ok done) where
  abbrev next : Objects
  next = with_state number done.state objects

  has_it : Has service objects ask.from (has_made parent name birth made)
  has_it = subst (λ (p : Phase). Has service objects ask.from p) phase (owned.has ask.from)

  loose_made : IsLoose (phases ask.from) made
  loose_made = subst (λ (p : Phase). IsLoose p made) (sym phase) refl

  hands : IsInHands service objects ask.from made
  hands = (loose_in service objects root phases owned ask.from made loose_made).hands

  was_dropped : Did (site_in service number) (objects number) 0 ask (request.Drop made) done
  was_dropped = dropped (site_in service number) (objects number) ask done made is

  contents_dropped : done.state.contents ≡ dropped_at made ask.from (objects number).contents
  contents_dropped = ap (λ (s : State). s.contents) was_dropped.did

  drops : Becomes service objects next made None
  drops =
      dropped_becomes service objects number done.state made was_dropped.passed.here ask.from (owned.order number)
      (ap (may_drop_found ask.from) has_it.1 ∙ same_call_self ask.from) contents_dropped

  may_drop : MayBecome service objects next root phases ask.from (has_reserved parent name birth) made None
  may_drop = record {
    order = orders_after objects number done.state owned.order (subst AreInOrder (sym contents_dropped) (dropped_in_order made ask.from (objects number).contents (owned.order number)));
    becomes = drops;
    same_slots = sym hands.empty;
    not_loose = λ call apart loose. apart (one_loose service objects root phases owned ask.from call made hands loose);
    not_sealed = λ call apart sealing. apart (one_bearer service objects root phases owned ask.from call made hands (sealing_in service objects root phases owned call made sealing));
    seals = λ content call there. none_not_some None content refl there;
    root_kept = λ same. absurd (owned.root_apart ask.from (subst (λ (d : DirRef). IsLoose (phases ask.from) d) same loose_made));
    linked_kept = λ other n access linked same. absurd (has_it.3 other n access linked same);
    placed = λ there. absurd cc;
    has = record {
      access = has_it.0.access;
      slot = same_slot service objects next made None drops (sym hands.empty) parent name ∙ has_it.0.slot;
      birth_kept = has_it.0.birth_kept;
    };
    reserving = λ other n reserving. subst (λ (p : Phase). IsReserving p other n) phase reserving;
    sealing = λ other not_made sealing. absurd (subst (λ (p : Phase). IsSealing p other) phase sealing);
    loose = λ other not_made loose. not_made (sym (subst (λ (p : Phase). IsLoose p other) phase loose));
    unlinked = λ other not_made unlinked. let never : has_made parent name birth made ≡ has_unlinked other = sym phase ∙ unlinked in cc;
    root_apart = λ loose. loose;
  }

  dropping : Keeps service objects next root phases (with_phase ask.from (has_reserved parent name birth) phases)
  dropping = record {
    owned = content_step_owned service objects next root phases ask.from (has_reserved parent name birth) made None owned may_drop;
    told = λ k access. content_step_told service objects next root phases ask.from (has_reserved parent name birth) made None owned may_drop k access (λ gone same. inl drops.here);
  }

pub returns-clause-dropped : goal.returns-clause-dropped
returns-clause-dropped c = dropping

pub returns-clause-cancelled : goal.returns-clause-cancelled
returns-clause-cancelled c = cancelling
