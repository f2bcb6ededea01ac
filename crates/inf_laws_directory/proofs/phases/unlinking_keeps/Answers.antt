use Rattle.std.proofs.Common.{◌≡◌, ℕ, List, Option, Some, None, Ok, refl, subst, subst₂}
use Rattle.inf_base.specs.declared.access.Access.{Access}
use Rattle.inf_base.specs.declared.directory.DirRef.{DirRef}
use Rattle.inf_base.specs.declared.entry.Entry.{Entry}
use Rattle.inf_base.specs.declared.key.Key.TheVariants as key
use Rattle.inf_base.specs.Content.{Slot}
use Rattle.inf_base.specs.Same.{dir_of}
use Rattle.inf_content.specs.Slots.{slot_in, without_slot}
use Rattle.inf_message.specs.declared.ask.Ask.{Ask}
use Rattle.inf_server.specs.Chains.{before_last, last_of}
use Rattle.inf_server.specs.Removals.{unlink}
use Rattle.inf_server.specs.Response.{Response}
use Rattle.inf_laws_directory.specs.Objects.{Objects, Service, content_in, site_in, slots_kept, with_state}
use Rattle.inf_laws_directory.specs.Owned.{AreOwned, Has, StandsUnder}
use Rattle.inf_laws_directory.specs.Phases.{Phase, Phases, has_sealed, has_unlinked, with_phase}
use Rattle.inf_laws_directory.specs.Steps.{Keeps}
use Rattle.inf_laws_directory.specs.Things.{a_dir, thing_in}
use Rattle.inf_content.proofs.Ordered.{without_slot_in_order}
use Rattle.inf_laws_directory.proofs.ServedSlots.{HasSlot, has_slot, slot_changes, slots_in_order}
use Rattle.inf_laws_directory.proofs.Kept.{HasChanged}
use Rattle.inf_laws_directory.proofs.SlotFacts.{without_slot_apart, without_slot_gone}
use Rattle.inf_laws_directory.proofs.UnlinkSteps.{unlink_keeps}
use Rattle.inf_laws_server.proofs.Came.{Did}
use Rattle.inf_laws_server.specs.Passed.{MayUnlink}
use Rattle.inf_laws_directory.proofs.ServedKinds.{has_edited, named_so, unlinked_so}
use Rattle.inf_message.specs.declared.request.Request.TheVariants as request
use Rattle.inf_laws_server.specs.Edits as edit
use Rattle.inf_laws_directory.proofs.phases.unlinking_keeps.Goals as goal

-- a slot in which a directory stands
record IsSlot (found : Option Slot) : Type 0 where
  slot : Slot
  is : found ≡ Some slot

linked_slot : (found : Option Slot) (access : Access) → thing_in found ≡ Some (a_dir access) → IsSlot found
linked_slot None access linked = absurd (cc)
linked_slot (Some slot) access linked = record { slot = slot; is = refl }

module _ (service : Service) (objects : Objects) (number : ℕ) (root : Access) (phases : Phases) (ask : Ask)
    (chain : List Entry) (parent target : Entry) (at : DirRef) (name : List ℕ) (done : Response)
    (owned : AreOwned service objects root phases)
    (at_sealed : phases ask.from ≡ has_sealed (dir_of parent.access) name (dir_of target.access))
    (at_last : last_of chain ≡ Some target) (at_key : target.key ≡ key.At at name) (at_parent : last_of (before_last chain) ≡ Some parent)
    (is : unlink (site_in service number) (objects number) ask chain ≡ Ok done) where
  abbrev dir : DirRef
  dir = dir_of parent.access

  was_unlinked : Did (site_in service number) (objects number) 0 ask (request.Unlink chain) done
  was_unlinked = unlinked_so (site_in service number) (objects number) ask done chain is

  abbrev taken : MayUnlink (site_in service number) (objects number) ask chain
  taken = was_unlinked.passed

  changed : HasChanged (site_in service number) (objects number) done.state dir (without_slot name)
  changed =
      let same_target : taken.target ≡ target = (let ends = taken.last in cc (ends, at_last)) in
      let same_parent : taken.entry ≡ parent = (let ends = taken.is_asked.last in cc (ends, at_parent)) in
      let named = named_so taken.target target at taken.name name taken.named same_target at_key in
      subst₂ (λ (e : Entry) (n : List ℕ). HasChanged (site_in service number) (objects number) done.state (dir_of e.access) (without_slot n)) same_parent named
      (has_edited (site_in service number) (objects number) done.state ask.from (last_of (before_last chain)) taken.entry (edit.takes taken.name) taken.is_asked was_unlinked.did)

  stands : StandsUnder service objects dir name (dir_of target.access)
  stands = (subst (λ (p : Phase). Has service objects ask.from p) at_sealed (owned.has ask.from)).1

  slot : IsSlot (slot_in name (slots_kept service objects dir))
  slot = linked_slot (slot_in name (slots_kept service objects dir)) stands.access stands.linked

  there : HasSlot (content_in service objects dir) name slot.slot
  there = has_slot (content_in service objects dir) name slot.slot slot.is

  unlinking : Keeps service objects (with_state number done.state objects) root phases (with_phase ask.from (has_unlinked (dir_of target.access)) phases)
  unlinking =
      unlink_keeps service objects (with_state number done.state objects) root phases ask.from dir name (dir_of target.access) slot.slot owned at_sealed
      (slot_changes service objects number done.state owned.order dir (without_slot name) (λ contents. without_slot_in_order dir name contents) changed there.content there.there
      name (Some slot.slot) None there.slot_is
      (without_slot_gone name there.content.slots (slots_in_order service objects owned.order dir there.content there.there))
      (λ other apart. without_slot_apart name other there.content.slots apart))

pub returns : goal.returns
returns c = unlinking
