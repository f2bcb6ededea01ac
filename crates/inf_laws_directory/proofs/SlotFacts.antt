-- What stands under each name once the slots of a directory have changed.
use Rattle.std.proofs.Common.{◌≡◌, ℕ, Bool, true, false, cond, List, [], ◌∷◌, Option, Some, None, refl, sym, ap, ◌∙◌, subst}
use Rattle.std.specs.BTreeMap.{is_at}
use Rattle.std.specs.Cmp.Lexicographic.{slice_cmp}
use Rattle.std.specs.List.{AllByRecursion}
use Rattle.std.specs.Map.{keys_of}
use Rattle.std.specs.Ordering.{nat_cmp, match_ordering, is_eq}
use Rattle.std.specs.Str.{bytes_eq}
use Rattle.std.specs.declared.cmp.Ordering.{Ordering}
use Rattle.std.specs.declared.cmp.Ordering.TheVariants.{Less, Equal, Greater}
use Rattle.std.proofs.lemmas.Bool.{both_ways, false_from_ne_true}
use Rattle.std.proofs.lemmas.Map.Keys.{sorted_head, sorted_tail}
use Rattle.std.proofs.lemmas.Map.Text.{is_eq-slice_cmp}
use Rattle.std.proofs.lemmas.Slice.Eq.{bytes_eq-Decides}
use Rattle.inf_base.specs.declared.access.Access.{Access}
use Rattle.inf_base.specs.declared.caller.CallRef.{CallRef}
use Rattle.inf_base.specs.Content.{Slot, reserved, file, directory}
use Rattle.inf_base.proofs.Same.{same_name, same_name_self}
use Rattle.inf_content.specs.Order.{NamesRise}
use Rattle.inf_content.specs.Slot.{freed, reserves}
use Rattle.inf_content.specs.Slots.{first, first_changed, lifted, slot_in, with_slot, without_slot}
use Rattle.inf_laws_directory.specs.Things.{thing_in}

abbrev pub AreSorted : List (List ℕ × Slot) → Type 0
AreSorted slots = NamesRise slots

abbrev IsBefore : List ℕ → List (List ℕ) → Type 0
IsBefore name names = AllByRecursion (λ (other : List ℕ). slice_cmp nat_cmp name other ≡ Less) names

-- the slots are found by the order, and names are told apart by their bytes
pub same_test : (a b : List ℕ) → is_at (slice_cmp nat_cmp a) b ≡ bytes_eq a b
same_test a b = is_eq-slice_cmp a b

apart_back : (a b : List ℕ) → bytes_eq a b ≡ false → bytes_eq b a ≡ false
apart_back a b apart = false_from_ne_true _ (λ same. both_ways _ apart ((bytes_eq-Decides a b).1 (sym (same_name b a same))))

apart_by_order : (a b : List ℕ) → slice_cmp nat_cmp a b ≡ Less → bytes_eq a b ≡ false
apart_by_order a b less = sym (same_test a b) ∙ ap is_eq less

-- a name that stands before all others is none of them
absent : (name : List ℕ) (slots : List (List ℕ × Slot)) → IsBefore name (keys_of slots) → slot_in name slots ≡ None
absent name [] before = refl
absent name (e ∷ es) before = rw before.0 (absent name es before.1)

-- one slot under a name
pub with_slot_here : (name : List ℕ) (slot : Slot) (slots : List (List ℕ × Slot)) → slot_in name (with_slot name slot slots) ≡ Some slot
with_slot_here name slot [] = rw (same_test name name, same_name_self name) refl
with_slot_here name slot (e ∷ es) = by (slice_cmp nat_cmp name e.0) refl (with_slot_here name slot es)
  where
    by : (o : Ordering) → slice_cmp nat_cmp name e.0 ≡ o → slot_in name (with_slot name slot es) ≡ Some slot
        → slot_in name (match_ordering o ((name, slot) ∷ e ∷ es) ((e.0, slot) ∷ es) (e ∷ with_slot name slot es)) ≡ Some slot
    by Less is later = rw (same_test name name, same_name_self name) refl
    by Equal is later = rw is refl
    by Greater is later = rw is later

pub with_slot_apart : (name other : List ℕ) (slot : Slot) (slots : List (List ℕ × Slot)) → bytes_eq name other ≡ false
    → slot_in other (with_slot name slot slots) ≡ slot_in other slots
with_slot_apart name other slot [] apart = rw (same_test other name, apart_back name other apart) refl
with_slot_apart name other slot (e ∷ es) apart = by (slice_cmp nat_cmp name e.0) refl (with_slot_apart name other slot es apart)
  where
    by : (o : Ordering) → slice_cmp nat_cmp name e.0 ≡ o → slot_in other (with_slot name slot es) ≡ slot_in other es
        → slot_in other (match_ordering o ((name, slot) ∷ e ∷ es) ((e.0, slot) ∷ es) (e ∷ with_slot name slot es)) ≡ slot_in other (e ∷ es)
    by Less is later = rw (same_test other name, apart_back name other apart) refl
    by Equal is later =
        let same : name ≡ e.0 = same_name name e.0 (sym (same_test name e.0) ∙ ap is_eq is) in
        let here : bytes_eq other e.0 ≡ false = subst (λ (n : List ℕ). bytes_eq other n ≡ false) same (apart_back name other apart) in
        rw (same_test other e.0, here) refl
    by Greater is later = ap (λ (o : Option Slot). cond (is_at (slice_cmp nat_cmp other) e.0) (Some e.1) o) later

-- what is reserved under a free name is not seen
pub reserved_unseen : (name other : List ℕ) (by : CallRef) (access : Access) (slots : List (List ℕ × Slot)) → slot_in name slots ≡ None
    → thing_in (slot_in other (with_slot name (reserved by access) slots)) ≡ thing_in (slot_in other slots)
reserved_unseen name other by access slots free = by_name (bytes_eq name other) refl
  where
    by_name : (b : Bool) → bytes_eq name other ≡ b → thing_in (slot_in other (with_slot name (reserved by access) slots)) ≡ thing_in (slot_in other slots)
    by_name true same =
        subst (λ (n : List ℕ). thing_in (slot_in n (with_slot name (reserved by access) slots)) ≡ thing_in (slot_in n slots)) (same_name name other same)
        (ap thing_in (with_slot_here name (reserved by access) slots) ∙ sym (ap thing_in free))
    by_name false apart = ap thing_in (with_slot_apart name other (reserved by access) slots apart)

-- the slot under a name gone
pub without_slot_gone : (name : List ℕ) (slots : List (List ℕ × Slot)) → AreSorted slots → slot_in name (without_slot name slots) ≡ None
without_slot_gone name [] sorted = refl
without_slot_gone name (e ∷ es) sorted =
    by (bytes_eq name e.0) (same_test name e.0) refl (without_slot_gone name es (sorted_tail (slice_cmp nat_cmp) e.0 (keys_of es) sorted))
  where
    by : (b : Bool) → is_at (slice_cmp nat_cmp name) e.0 ≡ b → bytes_eq name e.0 ≡ b → slot_in name (without_slot name es) ≡ None
        → slot_in name (cond (is_at (slice_cmp nat_cmp name) e.0) es (e ∷ without_slot name es)) ≡ None
    by true test is later =
        let gone : slot_in name es ≡ None = subst (λ (n : List ℕ). slot_in n es ≡ None) (sym (same_name name e.0 is)) (absent e.0 es (sorted_head (slice_cmp nat_cmp) e.0 (keys_of es) sorted)) in
        rw test gone
    by false test is later = rw test (rw test later)

pub without_slot_apart : (name other : List ℕ) (slots : List (List ℕ × Slot)) → bytes_eq name other ≡ false
    → slot_in other (without_slot name slots) ≡ slot_in other slots
without_slot_apart name other [] apart = refl
without_slot_apart name other (e ∷ es) apart = by (bytes_eq name e.0) (same_test name e.0) refl (without_slot_apart name other es apart)
  where
    by : (b : Bool) → is_at (slice_cmp nat_cmp name) e.0 ≡ b → bytes_eq name e.0 ≡ b → slot_in other (without_slot name es) ≡ slot_in other es
        → slot_in other (cond (is_at (slice_cmp nat_cmp name) e.0) es (e ∷ without_slot name es)) ≡ slot_in other (e ∷ es)
    by true test is later =
        let here : bytes_eq other e.0 ≡ false = subst (λ (n : List ℕ). bytes_eq other n ≡ false) (same_name name e.0 is) (apart_back name other apart) in
        rw (test, same_test other e.0, here) refl
    by false test is later = rw test (ap (λ (o : Option Slot). cond (is_at (slice_cmp nat_cmp other) e.0) (Some e.1) o) later)

-- what holds of each name holds of that of the first slot that passes
named_first : (P : List ℕ → Type 0) (test : Slot → Bool) (slots : List (List ℕ × Slot)) (found : List ℕ × Slot)
    → AllByRecursion P (keys_of slots) → first test slots ≡ Some found → P found.0
named_first P test [] found all is = cc
named_first P test (e ∷ es) found all is = by (test e.1) is (named_first P test es found all.1)
  where
    by : (b : Bool) → cond b (Some e) (first test es) ≡ Some found → (first test es ≡ Some found → P found.0) → P found.0
    by true is later = let same : e ≡ found = cc in subst (λ (x : List ℕ × Slot). P x.0) same all.0
    by false is later = later is

-- the first slot that passes is the one under its name, before it is changed and after
pub record IsChanged (test : Slot → Bool) (change : Slot → Slot) (slots : List (List ℕ × Slot)) (found : List ℕ × Slot) : Type 0 where
  pub old : slot_in found.0 slots ≡ Some found.1
  pub new : slot_in found.0 (first_changed test change slots) ≡ Some (change found.1)
  pub others : (other : List ℕ) → bytes_eq found.0 other ≡ false → slot_in other (first_changed test change slots) ≡ slot_in other slots

pub first_is_changed : (test : Slot → Bool) (change : Slot → Slot) (slots : List (List ℕ × Slot)) (found : List ℕ × Slot)
    → AreSorted slots → first test slots ≡ Some found → IsChanged test change slots found
first_is_changed test change [] found sorted is = cc
first_is_changed test change (e ∷ es) found sorted is =
    by (test e.1) refl is (first_is_changed test change es found (sorted_tail (slice_cmp nat_cmp) e.0 (keys_of es) sorted))
  where
    by : (b : Bool) → test e.1 ≡ b → cond b (Some e) (first test es) ≡ Some found
        → (first test es ≡ Some found → IsChanged test change es found) → IsChanged test change (e ∷ es) found
    by true passes is later =
        let same : e ≡ found = cc in
        subst (λ (x : List ℕ × Slot). IsChanged test change (e ∷ es) x) same (record {
          old = rw (same_test e.0 e.0, same_name_self e.0) refl;
          new = rw (passes, same_test e.0 e.0, same_name_self e.0) refl;
          others = λ other apart. rw (passes, same_test other e.0, apart_back e.0 other apart) refl;
        })
    by false fails is later =
        let rest = later is in
        let below : slice_cmp nat_cmp e.0 found.0 ≡ Less = named_first (λ (n : List ℕ). slice_cmp nat_cmp e.0 n ≡ Less) test es found (sorted_head (slice_cmp nat_cmp) e.0 (keys_of es) sorted) is in
        let apart : bytes_eq found.0 e.0 ≡ false = apart_back e.0 found.0 (apart_by_order e.0 found.0 below) in
        record {
          old = rw (same_test found.0 e.0, apart) rest.old;
          new = rw (fails, same_test found.0 e.0, apart) rest.new;
          others = λ other apart. rw fails (ap (λ (o : Option Slot). cond (is_at (slice_cmp nat_cmp other) e.0) (Some e.1) o) (rest.others other apart));
        }

-- what the call reserved gone, and what it held let go, nothing else stands under a name than before
thing-freed : (by : CallRef) (slot : Slot) → thing_in (Some (freed by slot)) ≡ thing_in (Some slot)
thing-freed by (reserved other access) = refl
thing-freed by (file meta held) = refl
thing-freed by (directory access held) = refl

thing-reserved : (by : CallRef) (slot : Slot) → reserves by slot ≡ true → thing_in (Some slot) ≡ None
thing-reserved by (reserved other access) is = refl
thing-reserved by (file meta held) is = cc
thing-reserved by (directory access held) is = cc

-- each slot, once what the call reserved is gone
abbrev pub lifted_one : CallRef → Option Slot → Option Slot
lifted_one by None = None
lifted_one by (Some slot) = cond (reserves by slot) None (Some (freed by slot))

pub lifted_slot : (by : CallRef) (name : List ℕ) (slots : List (List ℕ × Slot)) → AreSorted slots
    → slot_in name (lifted by slots) ≡ lifted_one by (slot_in name slots)
lifted_slot by name [] sorted = refl
lifted_slot by name (e ∷ es) sorted =
    by_taken (reserves by e.1) refl (bytes_eq name e.0) (same_test name e.0) refl (lifted_slot by name es (sorted_tail (slice_cmp nat_cmp) e.0 (keys_of es) sorted))
  where
    none_later : bytes_eq name e.0 ≡ true → slot_in name es ≡ None
    none_later same = subst (λ (n : List ℕ). slot_in n es ≡ None) (sym (same_name name e.0 same)) (absent e.0 es (sorted_head (slice_cmp nat_cmp) e.0 (keys_of es) sorted))

    by_taken : (taken : Bool) → reserves by e.1 ≡ taken → (b : Bool) → is_at (slice_cmp nat_cmp name) e.0 ≡ b → bytes_eq name e.0 ≡ b
        → slot_in name (lifted by es) ≡ lifted_one by (slot_in name es)
        → slot_in name (cond taken (lifted by es) ((e.0, freed by e.1) ∷ lifted by es)) ≡ lifted_one by (cond (is_at (slice_cmp nat_cmp name) e.0) (Some e.1) (slot_in name es))
    by_taken true takes true test same later = rw test (later ∙ ap (lifted_one by) (none_later same) ∙ (rw takes refl))
    by_taken true takes false test same later = rw test later
    by_taken false takes true test same later = rw (test, takes) refl
    by_taken false takes false test same later = rw test later

thing-lifted : (by : CallRef) (slot : Option Slot) → thing_in (lifted_one by slot) ≡ thing_in slot
thing-lifted by None = refl
thing-lifted by (Some slot) = by_taken (reserves by slot) refl
  where
    by_taken : (taken : Bool) → reserves by slot ≡ taken → thing_in (cond taken None (Some (freed by slot))) ≡ thing_in (Some slot)
    by_taken true takes = sym (thing-reserved by slot takes)
    by_taken false takes = thing-freed by slot

pub lifted_unseen : (by : CallRef) (name : List ℕ) (slots : List (List ℕ × Slot)) → AreSorted slots
    → thing_in (slot_in name (lifted by slots)) ≡ thing_in (slot_in name slots)
lifted_unseen by name slots sorted = ap thing_in (lifted_slot by name slots sorted) ∙ thing-lifted by (slot_in name slots)

-- the first slot that passes does
pub first_passes : (test : Slot → Bool) (slots : List (List ℕ × Slot)) (found : List ℕ × Slot) → first test slots ≡ Some found → test found.1 ≡ true
first_passes test [] found is = cc
first_passes test (e ∷ es) found is = by (test e.1) refl is (first_passes test es found)
  where
    by : (b : Bool) → test e.1 ≡ b → cond b (Some e) (first test es) ≡ Some found → (first test es ≡ Some found → test found.1 ≡ true) → test found.1 ≡ true
    by true passes is later = let same : e ≡ found = cc in subst (λ (x : List ℕ × Slot). test x.1 ≡ true) same passes
    by false fails is later = later is
