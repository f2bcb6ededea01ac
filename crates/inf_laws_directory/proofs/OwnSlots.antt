-- The slot that a call reserved, where it reserved no other: the first that it reserved.
use Rattle.std.proofs.Common.{◌≡◌, ℕ, Bool, true, false, cond, List, [], ◌∷◌, Some, is_some, refl, sym, ap, ◌∙◌}
use Rattle.std.specs.BTreeMap.{is_at}
use Rattle.std.specs.Cmp.Lexicographic.{slice_cmp}
use Rattle.std.specs.Ordering.{nat_cmp}
use Rattle.inf_base.specs.declared.access.Access.{Access}
use Rattle.inf_base.specs.declared.caller.CallRef.{CallRef}
use Rattle.inf_base.specs.Content.{Slot, reserved, file, directory}
use Rattle.inf_base.proofs.Same.{same_call, same_call_self}
use Rattle.inf_content.specs.Slot.{reserves}
use Rattle.inf_content.specs.Slots.{first, slot_in}
use Rattle.inf_laws_directory.proofs.AskedFacts.{is_there}
use Rattle.inf_laws_directory.proofs.SlotFacts.{AreSorted, first_is_changed, first_passes}

record IsReservedBy (by : CallRef) (slot : Slot) : Type 0 where
  access : Access
  is : slot ≡ reserved by access

reserved_so : (by : CallRef) (slot : Slot) → reserves by slot ≡ true → IsReservedBy by slot
reserved_so by (reserved other access) is = record { access = access; is = ap (λ (c : CallRef). reserved c access) (same_call other by is) }
reserved_so by (file meta held) is = absurd cc
reserved_so by (directory access held) is = absurd cc

-- where the slot under a name passes, some slot does
some_passes : (test : Slot → Bool) (name : List ℕ) (slot : Slot) (slots : List (List ℕ × Slot)) → slot_in name slots ≡ Some slot → test slot ≡ true
    → is_some (first test slots) ≡ true
some_passes test name slot [] is passes = cc
some_passes test name slot (e ∷ es) is passes =
    by (is_at (slice_cmp nat_cmp name) e.0) (test e.1) refl is (λ later. some_passes test name slot es later passes)
  where
    by : (here b : Bool) → test e.1 ≡ b → cond here (Some e.1) (slot_in name es) ≡ Some slot
        → (slot_in name es ≡ Some slot → is_some (first test es) ≡ true) → is_some (cond b (Some e) (first test es)) ≡ true
    by here true tests found later = refl
    by true false tests found later = (let same : e.1 ≡ slot = cc in let passed : test e.1 ≡ true = ap test same ∙ passes in cc)
    by false false tests found later = later found

is_pair : (found : List ℕ × Slot) (name : List ℕ) (slot : Slot) → name ≡ found.0 → found.1 ≡ slot → found ≡ (name, slot)
is_pair found name slot named same = ap (λ (n : List ℕ). (n, found.1)) (sym named) ∙ ap (λ (s : Slot). (name, s)) same

pub first_own : (by : CallRef) (name : List ℕ) (access : Access) (slots : List (List ℕ × Slot)) → AreSorted slots
    → slot_in name slots ≡ Some (reserved by access) → ((other : List ℕ) (a : Access) → slot_in other slots ≡ Some (reserved by a) → name ≡ other)
    → first (reserves by) slots ≡ Some (name, reserved by access)
first_own by name access slots sorted is alone =
    let found = is_there (first (reserves by) slots) (some_passes (reserves by) name (reserved by access) slots is (same_call_self by)) in
    let changed = first_is_changed (reserves by) (λ (s : Slot). s) slots found.value sorted found.there in
    let so = reserved_so by found.value.1 (first_passes (reserves by) slots found.value found.there) in
    let named : name ≡ found.value.0 = alone found.value.0 so.access (changed.old ∙ ap (λ (s : Slot). Some s) so.is) in
    let old : Some found.value.1 ≡ Some (reserved by access) = sym changed.old ∙ ap (λ (n : List ℕ). slot_in n slots) (sym named) ∙ is in
    let same : found.value.1 ≡ reserved by access = cc old in
    found.there ∙ ap (λ (e : List ℕ × Slot). Some e) (is_pair found.value name (reserved by access) named same)
