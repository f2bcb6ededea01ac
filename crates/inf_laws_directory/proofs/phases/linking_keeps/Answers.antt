use Rattle.std.proofs.Common.{◌≡◌, ℕ, List, Option, Some, None, inr, Ok, refl, sym, ap, ◌∙◌, subst}
use Rattle.std.proofs.lemmas.Bool.{both_ways}
use Rattle.inf_base.specs.declared.access.Access.{Access}
use Rattle.inf_base.specs.declared.caller.Caller.{Caller}
use Rattle.inf_base.specs.declared.directory.DirRef.{DirRef}
use Rattle.inf_base.specs.declared.entry.Entry.{Entry}
use Rattle.inf_base.specs.declared.triple.Triple.{Triple}
use Rattle.inf_base.specs.Content.{Content, Slot, reserved, directory}
use Rattle.inf_base.specs.Same.{dir_of}
use Rattle.inf_content.specs.Contents.{slots_found}
use Rattle.inf_content.specs.Slot.{filled, linked, reserves}
use Rattle.inf_content.specs.Slots.{filled_in, first, slot_in}
use Rattle.inf_message.specs.declared.ask.Ask.{Ask}
use Rattle.inf_server.specs.Births.{link}
use Rattle.inf_server.specs.Chains.{last_of}
use Rattle.inf_server.specs.Response.{Response}
use Rattle.inf_laws_directory.specs.Objects.{Objects, Service, content_in, site_in, slots_kept, with_state}
use Rattle.inf_laws_directory.specs.Owned.{AreOwned, Has, IsUnheld}
use Rattle.inf_laws_directory.specs.Phases.{IsLoose, IsReserving, IsSealing, Phase, Phases, has_made, idle, with_phase}
use Rattle.inf_laws_directory.specs.Steps.{Keeps}
use Rattle.inf_laws_directory.proofs.AskedFacts.{same_last}
use Rattle.inf_content.proofs.Ordered.{filled_in_order}
use Rattle.inf_laws_directory.proofs.OwnedFacts.{full_not_loose, full_not_sealed, loose_in, one_loose}
use Rattle.inf_laws_directory.proofs.OwnSlots.{first_own}
use Rattle.inf_laws_directory.proofs.ServedSlots.{HasSlot, has_slot, slot_changes, slots_in_order}
use Rattle.inf_laws_directory.proofs.Kept.{HasChanged}
use Rattle.inf_laws_directory.proofs.SlotFacts.{IsChanged, first_is_changed}
use Rattle.inf_laws_directory.proofs.SlotSteps.{MayChange, MayStand, SlotChanges, at_itself, slot_step_keeps}
use Rattle.inf_laws_server.proofs.Came.{Did}
use Rattle.inf_laws_directory.proofs.ServedKinds.{has_edited, linked_so}
use Rattle.inf_message.specs.declared.request.Request.TheVariants as request
use Rattle.inf_laws_server.specs.Edits as edit
use Rattle.inf_laws_directory.proofs.phases.linking_keeps.Goals as goal

module _ (service : Service) (objects : Objects) (number mode : ℕ) (root : Access) (phases : Phases) (ask : Ask)
    (chain : List Entry) (last : Entry) (name : List ℕ) (birth : Triple) (made : DirRef) (end : Response)
    (owned : AreOwned service objects root phases) (at_last : last_of chain ≡ Some last)
    (phase : phases ask.from ≡ has_made (dir_of last.access) name birth made)
    (is : link (site_in service number) (objects number) ask chain made mode ≡ Ok end) where
  abbrev next : Objects
  next = with_state number end.state objects

  abbrev dir : DirRef
  dir = dir_of last.access

  abbrev as_made : Option (DirRef × ℕ × Caller)
  as_made = Some (made, mode, ask.caller)

  has_it : Has service objects ask.from (has_made dir name birth made)
  has_it = subst (λ (p : Phase). Has service objects ask.from p) phase (owned.has ask.from)

  abbrev was : Slot
  was = reserved ask.from has_it.0.access

  abbrev access : Access
  access = linked as_made has_it.0.access

  abbrev now : Slot
  now = directory access None

  -- the request changed the slots of the directory where the call keeps the name
  was_linked : Did (site_in service number) (objects number) 0 ask (request.Link chain name made mode) end
  was_linked = linked_so (site_in service number) (objects number) ask end chain name made mode is

  has : HasChanged (site_in service number) (objects number) end.state dir (filled_in ask.from as_made)
  has =
      let put = was_linked.passed in
      subst (λ (e : Entry). HasChanged (site_in service number) (objects number) end.state (dir_of e.access) (filled_in ask.from as_made))
      (same_last chain put.entry last put.is_asked.last at_last)
      (has_edited (site_in service number) (objects number) end.state ask.from (last_of chain) put.entry (edit.fills ask.from made mode ask.caller) put.is_asked was_linked.did)

  slot : HasSlot (content_in service objects dir) name was
  slot = has_slot (content_in service objects dir) name was has_it.0.slot

  -- it is the first that the call reserved there, as it reserved no other
  at_first : first (reserves ask.from) slot.content.slots ≡ Some (name, was)
  at_first =
      first_own ask.from name has_it.0.access slot.content.slots (slots_in_order service objects owned.order dir slot.content slot.there) slot.slot_is
      (λ other access is.
      let there : slot_in other (slots_kept service objects dir) ≡ Some (reserved ask.from access) = ap (λ (o : Option Content). slot_in other (slots_found o)) slot.there ∙ is in
      (subst (λ (p : Phase). IsReserving p dir other) phase (owned.reservations dir other ask.from access there)).1)

  changed : IsChanged (reserves ask.from) (filled as_made) slot.content.slots (name, was)
  changed = first_is_changed (reserves ask.from) (filled as_made) slot.content.slots (name, was)
      (slots_in_order service objects owned.order dir slot.content slot.there) at_first

  changes : SlotChanges service objects next dir name (Some was) (Some now)
  changes =
      slot_changes service objects number end.state owned.order dir (filled_in ask.from as_made) (filled_in_order dir ask.from as_made) has slot.content slot.there
      name (Some was) (Some now) slot.slot_is changed.new changed.others

  loose_made : IsLoose (phases ask.from) made
  loose_made = subst (λ (p : Phase). IsLoose p made) (sym phase) refl

  may_stand : MayStand service objects root phases ask.from made
  may_stand =
      let loose = loose_in service objects root phases owned ask.from made loose_made in
      record {
        present = loose.hands.present;
        unlinked = loose.unlinked;
        not_root = λ same. owned.root_apart ask.from (subst (λ (d : DirRef). IsLoose (phases ask.from) d) same loose_made);
        others = λ call apart other_loose. apart (one_loose service objects root phases owned ask.from call made loose.hands other_loose);
      }

  may_link : MayChange service objects next root phases ask.from idle dir name (Some was) (Some now)
  may_link = record {
    unmade = full_not_loose service objects root phases owned dir name was has_it.0.slot;
    unsealed = full_not_sealed service objects root phases owned dir name was has_it.0.slot;
    unseen = refl;
    own = λ call other same. cc;
    reserves = λ call other same. absurd cc;
    unheld = λ other same. let it : now ≡ other = cc in subst IsUnheld it refl;
    stands = λ other same. let it : access ≡ other = cc in subst (λ (a : Access). MayStand service objects root phases ask.from (dir_of a)) it may_stand;
    has = tt;
    reserving = λ other_dir other apart reserving.
        let here = subst (λ (p : Phase). IsReserving p other_dir other) phase reserving in
        absurd (both_ways _ apart (at_itself dir name other_dir other here.0 here.1));
    sealing = λ other sealing. subst (λ (p : Phase). IsSealing p other) phase sealing;
    loose = λ other loose. inr (access, refl, subst (λ (p : Phase). IsLoose p other) phase loose);
    loose_before = λ other loose. absurd loose;
  }

  linking : Keeps service objects next root phases (with_phase ask.from idle phases)
  linking = slot_step_keeps service objects next root phases ask.from idle dir name (Some was) (Some now) owned changes may_link

pub returns : goal.returns
returns c = linking
