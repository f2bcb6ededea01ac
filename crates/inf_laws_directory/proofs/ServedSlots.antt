-- How a served request that changes the slots of one directory changes the slot under one name.
use Rattle.std.proofs.Common.{◌≡◌, ℕ, ◌==◌, Bool, true, false, cond, List, Option, Some, None, refl, sym, ap, ◌∙◌, subst}
use Rattle.std.specs.Option.{option_map}
use Rattle.std.specs.Str.{bytes_eq}
use Rattle.inf_base.specs.declared.directory.DirRef.{DirRef}
use Rattle.inf_base.specs.Content.{Content, Slot}
use Rattle.inf_content.specs.Contents.{slots_found, with_slots_at}
use Rattle.inf_content.specs.Slots.{slot_in}
use Rattle.inf_server.specs.State.{State}
use Rattle.inf_laws_directory.specs.Objects.{Objects, Service, content_in, kept_with, site_in, with_state}
use Rattle.inf_content.specs.Order.{AreInOrder}
use Rattle.inf_laws_directory.proofs.ContentFacts.{slots_sorted, with_changed}
use Rattle.inf_laws_directory.proofs.Kept.{HasChanged, Slots, slots_become}
use Rattle.inf_laws_directory.proofs.SlotFacts.{AreSorted}
use Rattle.inf_laws_directory.proofs.SlotSteps.{SlotChanges}

-- each server's objects are in order where those of the one that changed are
pub orders_after : (objects : Objects) (number : ℕ) (state : State) → ((n : ℕ) → AreInOrder (objects n).contents) → AreInOrder state.contents
    → (n : ℕ) → AreInOrder (with_state number state objects n).contents
orders_after objects number state before ordered n = by (n == number)
  where
    by : (b : Bool) → AreInOrder (cond b state (objects n)).contents
    by true = ordered
    by false = before n

-- a directory in which a slot stands is there
pub record HasSlot (found : Option Content) (name : List ℕ) (slot : Slot) : Type 0 where
  pub content : Content
  pub there : found ≡ Some content
  pub slot_is : slot_in name content.slots ≡ Some slot

pub has_slot : (found : Option Content) (name : List ℕ) (slot : Slot) → slot_in name (slots_found found) ≡ Some slot → HasSlot found name slot
has_slot None name slot is = absurd cc
has_slot (Some content) name slot is = record { content = content; there = refl; slot_is = is }

module _ (service : Service) (objects : Objects) (number : ℕ) (state : State) (ordered : (n : ℕ) → AreInOrder (objects n).contents)
    (dir : DirRef) (change : Slots → Slots) (keeps : (contents : List Content) → AreInOrder contents → AreInOrder (with_slots_at dir change contents))
    (has : HasChanged (site_in service number) (objects number) state dir change) (content : Content) (there : content_in service objects dir ≡ Some content) where
  slots_order : AreInOrder state.contents
  slots_order = subst AreInOrder (sym has.contents) (keeps (objects number).contents (ordered number))

  pub slot_changes : (name : List ℕ) (was now : Option Slot) → slot_in name content.slots ≡ was → slot_in name (change content.slots) ≡ now
      → ((other : List ℕ) → bytes_eq name other ≡ false → slot_in other (change content.slots) ≡ slot_in other content.slots)
      → SlotChanges service objects (with_state number state objects) dir name was now
  slot_changes name was now before after others =
      let now_there = slots_become service objects number state dir change has in
      record {
        content = content;
        slots = change content.slots;
        there = there;
        here = now_there.here ∙ ap (λ (o : Option Content). option_map (with_changed change) o) there;
        others = now_there.others;
        slot_before = before;
        slot_after = after;
        other_slots = others;
        order = orders_after objects number state ordered slots_order;
      }

-- the slots of a directory are in order
pub slots_in_order : (service : Service) (objects : Objects) (ordered : (n : ℕ) → AreInOrder (objects n).contents) (dir : DirRef) (content : Content)
    → content_in service objects dir ≡ Some content → AreSorted content.slots
slots_in_order service objects ordered dir content there =
    subst (λ (o : Option Content). AreSorted (slots_found o)) there (slots_sorted dir (kept_with service objects dir.id) (ordered _).names)
