-- What edits of the slots of a directory leave.
use Rattle.std.proofs.Common.{◌≡◌, ℕ, Bool, true, false, cond, ◌||◌, List, [], ◌∷◌, Option, Some, None, Less, refl, ap, subst}
use Rattle.std.specs.BTreeMap.{is_at}
use Rattle.std.specs.List.Sorted.{IsStrictlySortedBy}
use Rattle.std.specs.Map.{keys_of, lookup, remove_entry, set_value}
use Rattle.std.specs.Ordering.{is_eq}
use Rattle.std.proofs.lemmas.Map.Keys.{sorted_head, sorted_tail}
use Rattle.inf_base.specs.declared.caller.CallRef.{CallRef}
use Rattle.inf_base.specs.Content.{Hold, Slot, reserved, file, directory}
use Rattle.inf_content.specs.Slot.{freed, holds, is_held_by, let_go, reserves}
use Rattle.inf_content.specs.Slots.{changed_slot, first, first_changed, lifted, slot_in, without_first}
use Rattle.inf_content.proofs.Listed.{IsBelow, above, name_cmp, same_name}

-- a slot under a name that is there, written back changed
found_step : (b : Bool) (e : List ℕ × Slot) (es changed written : List (List ℕ × Slot)) (later : Option Slot) (change : Slot → Slot) (v w : Slot)
    → w ≡ change v → cond b (Some e.1) later ≡ Some v → (later ≡ Some v → written ≡ changed)
    → cond b ((e.0, w) ∷ es) (e ∷ written) ≡ cond b ((e.0, change e.1) ∷ es) (e ∷ changed)
found_step true e es changed written later change v w is at rest = let same : e.1 ≡ v = cc in rw (is, same) refl
found_step false e es changed written later change v w is at rest = ap (λ xs. e ∷ xs) (rest at)

pub changed_slot-found : (name : List ℕ) (change : Slot → Slot) (es : List (List ℕ × Slot)) (v w : Slot)
    → lookup (is_at (name_cmp name)) es ≡ Some v → w ≡ change v
    → set_value (is_at (name_cmp name)) es w ≡ changed_slot name change es
changed_slot-found name change [] v w at is = refl
changed_slot-found name change (e ∷ es) v w at is =
    found_step (is_at (name_cmp name) e.0) e es _ _ _ change v w is at (λ later. changed_slot-found name change es v w later is)

missing_step : (b : Bool) (e : List ℕ × Slot) (es changed : List (List ℕ × Slot)) (later : Option Slot) (change : Slot → Slot)
    → cond b (Some e.1) later ≡ None → (later ≡ None → changed ≡ es)
    → cond b ((e.0, change e.1) ∷ es) (e ∷ changed) ≡ e ∷ es
missing_step true e es changed later change at rest = cc
missing_step false e es changed later change at rest = ap (λ xs. e ∷ xs) (rest at)

pub changed_slot-missing : (name : List ℕ) (change : Slot → Slot) (es : List (List ℕ × Slot))
    → lookup (is_at (name_cmp name)) es ≡ None → changed_slot name change es ≡ es
changed_slot-missing name change [] at = refl
changed_slot-missing name change (e ∷ es) at =
    missing_step (is_at (name_cmp name) e.0) e es _ _ change at (changed_slot-missing name change es)

-- where no slot passes, none is changed or removed
none_step : (b : Bool) (e w : List ℕ × Slot) (es changed removed : List (List ℕ × Slot)) (later : Option (List ℕ × Slot))
    → cond b (Some e) later ≡ None → (later ≡ None → (changed ≡ es) × (removed ≡ es))
    → (cond b (w ∷ es) (e ∷ changed) ≡ e ∷ es) × (cond b es (e ∷ removed) ≡ e ∷ es)
none_step true e w es changed removed later none rest = cc
none_step false e w es changed removed later none rest = (ap (λ xs. e ∷ xs) (rest none).0, ap (λ xs. e ∷ xs) (rest none).1)

pub none_passes : (test : Slot → Bool) (change : Slot → Slot) (es : List (List ℕ × Slot)) → first test es ≡ None
    → (first_changed test change es ≡ es) × (without_first test es ≡ es)
none_passes test change [] none = (refl, refl)
none_passes test change (e ∷ es) none = none_step (test e.1) e (e.0, change e.1) es _ _ _ none (none_passes test change es)

-- ---- the first slot that passes, by its name
pub record IsFirst (test : Slot → Bool) (es : List (List ℕ × Slot)) (name : List ℕ) (slot : Slot) : Type 0 where
  pub found : first test es ≡ Some (name, slot)
  pub at : slot_in name es ≡ Some slot
  pub passes : test slot ≡ true
  pub changed : (change : Slot → Slot) → first_changed test change es ≡ set_value (is_at (name_cmp name)) es (change slot)
  pub removed : without_first test es ≡ remove_entry (is_at (name_cmp name)) es

above_step : (b : Bool) (k : List ℕ) (e p : List ℕ × Slot) (later : Option (List ℕ × Slot)) → name_cmp k e.0 ≡ Less
    → (later ≡ Some p → name_cmp k p.0 ≡ Less) → cond b (Some e) later ≡ Some p → name_cmp k p.0 ≡ Less
above_step true k e p later less rest found = let same : e ≡ p = cc in subst (λ (x : List ℕ × Slot). name_cmp k x.0 ≡ Less) same less
above_step false k e p later less rest found = rest found

first_above : (test : Slot → Bool) (k : List ℕ) (es : List (List ℕ × Slot)) (p : List ℕ × Slot) → IsBelow k (keys_of es) → first test es ≡ Some p → name_cmp k p.0 ≡ Less
first_above test k [] p below found = cc
first_above test k (e ∷ es) p below found = above_step (test e.1) k e p (first test es) below.0 (first_above test k es p below.1) found

here : (test : Slot → Bool) (e : List ℕ × Slot) (es : List (List ℕ × Slot)) → test e.1 ≡ true → IsFirst test (e ∷ es) e.0 e.1
here test e es is =
    let same : is_at (name_cmp e.0) e.0 ≡ true = ap is_eq (same_name e.0) in
    record { found = rw is refl; at = rw same refl; passes = is; changed = λ change. rw (is, same) refl; removed = rw (is, same) refl }

there : (test : Slot → Bool) (e : List ℕ × Slot) (es : List (List ℕ × Slot)) (name : List ℕ) (slot : Slot) → test e.1 ≡ false → name_cmp e.0 name ≡ Less
    → IsFirst test es name slot → IsFirst test (e ∷ es) name slot
there test e es name slot is less later =
    let apart : is_at (name_cmp name) e.0 ≡ false = ap is_eq (above name e.0 less) in record {
      found = rw is later.found;
      at = rw apart later.at;
      passes = later.passes;
      changed = λ change. rw (is, apart) (ap (λ xs. e ∷ xs) (later.changed change));
      removed = rw (is, apart) (ap (λ xs. e ∷ xs) later.removed);
    }

first_step : (b : Bool) (test : Slot → Bool) (e : List ℕ × Slot) (es : List (List ℕ × Slot)) (p : List ℕ × Slot) → test e.1 ≡ b
    → (test e.1 ≡ false → first test es ≡ Some p → IsFirst test (e ∷ es) p.0 p.1)
    → cond b (Some e) (first test es) ≡ Some p → IsFirst test (e ∷ es) p.0 p.1
first_step true test e es p is later found = let same : e ≡ p = cc in subst (λ (x : List ℕ × Slot). IsFirst test (e ∷ es) x.0 x.1) same (here test e es is)
first_step false test e es p is later found = later is found

pub first_is : (test : Slot → Bool) (es : List (List ℕ × Slot)) (p : List ℕ × Slot) → IsStrictlySortedBy name_cmp (keys_of es)
    → first test es ≡ Some p → IsFirst test es p.0 p.1
first_is test [] p sorted found = cc
first_is test (e ∷ es) p sorted found =
    first_step (test e.1) test e es p refl
    (λ is later. there test e es p.0 p.1 is (first_above test e.0 es p (sorted_head name_cmp e.0 (keys_of es) sorted) later)
    (first_is test es p (sorted_tail name_cmp e.0 (keys_of es) sorted) later))
    found

-- ---- what a call took, let go slot by slot
freed_hold : (b : Bool) (by : CallRef) (held : Option Hold) → is_held_by by held ≡ b → let_go by (let_go by held) ≡ let_go by held
freed_hold true by held is = rw is refl
freed_hold false by held is = rw (is, is) refl

freed_again : (by : CallRef) (slot : Slot) → reserves by slot ≡ false → (reserves by (freed by slot) ≡ false) × (freed by (freed by slot) ≡ freed by slot)
freed_again by (reserved other access) is = (is, refl)
freed_again by (file meta held) is = (refl, ap (λ h. file meta h) (freed_hold _ by held refl))
freed_again by (directory access held) is = (refl, ap (λ h. directory access h) (freed_hold _ by held refl))

not_held : (by : CallRef) (slot : Slot) → holds by slot ≡ false → freed by slot ≡ slot
not_held by (reserved other access) is = refl
not_held by (file meta held) is = rw is refl
not_held by (directory access held) is = rw is refl

freed_step : (b : Bool) (by : CallRef) (e : List ℕ × Slot) (es written : List (List ℕ × Slot)) (slot : Slot) (later : Option Slot) → reserves by slot ≡ false
    → cond b (Some e.1) later ≡ Some slot → (later ≡ Some slot → lifted by written ≡ lifted by es)
    → lifted by (cond b ((e.0, freed by slot) ∷ es) (e ∷ written)) ≡ lifted by (e ∷ es)
freed_step true by e es written slot later is found rest = let same : e.1 ≡ slot = cc in let again = freed_again by slot is in rw (same, is, again.0, again.1) refl
freed_step false by e es written slot later is found rest = ap (λ xs. cond (reserves by e.1) xs ((e.0, freed by e.1) ∷ xs)) (rest found)

pub lifted-freed : (by : CallRef) (test : List ℕ → Bool) (es : List (List ℕ × Slot)) (slot : Slot) → lookup test es ≡ Some slot → reserves by slot ≡ false
    → lifted by (set_value test es (freed by slot)) ≡ lifted by es
lifted-freed by test [] slot found is = refl
lifted-freed by test (e ∷ es) slot found is = freed_step (test e.0) by e es _ slot _ is found (λ later. lifted-freed by test es slot later is)

removed_step : (b : Bool) (by : CallRef) (e : List ℕ × Slot) (es removed : List (List ℕ × Slot)) (slot : Slot) (later : Option Slot) → reserves by slot ≡ true
    → cond b (Some e.1) later ≡ Some slot → (later ≡ Some slot → lifted by removed ≡ lifted by es)
    → lifted by (cond b es (e ∷ removed)) ≡ lifted by (e ∷ es)
removed_step true by e es removed slot later is found rest = let same : e.1 ≡ slot = cc in rw (same, is) refl
removed_step false by e es removed slot later is found rest = ap (λ xs. cond (reserves by e.1) xs ((e.0, freed by e.1) ∷ xs)) (rest found)

pub lifted-removed : (by : CallRef) (test : List ℕ → Bool) (es : List (List ℕ × Slot)) (slot : Slot) → lookup test es ≡ Some slot → reserves by slot ≡ true
    → lifted by (remove_entry test es) ≡ lifted by es
lifted-removed by test [] slot found is = refl
lifted-removed by test (e ∷ es) slot found is = removed_step (test e.0) by e es _ slot _ is found (λ later. lifted-removed by test es slot later is)

lifted_step : (r h : Bool) (by : CallRef) (e : List ℕ × Slot) (es lifted_rest : List (List ℕ × Slot)) (later : Option (List ℕ × Slot)) → holds by e.1 ≡ h
    → cond (r || h) (Some e) later ≡ None → (later ≡ None → lifted_rest ≡ es) → cond r lifted_rest ((e.0, freed by e.1) ∷ lifted_rest) ≡ e ∷ es
lifted_step true h by e es lifted_rest later is none rest = cc
lifted_step false true by e es lifted_rest later is none rest = cc
lifted_step false false by e es lifted_rest later is none rest = rw (not_held by e.1 is, rest none) refl

-- where a call took nothing
pub lifted-none : (by : CallRef) (es : List (List ℕ × Slot)) → first (λ slot. reserves by slot || holds by slot) es ≡ None → lifted by es ≡ es
lifted-none by [] none = refl
lifted-none by (e ∷ es) none = lifted_step (reserves by e.1) (holds by e.1) by e es (lifted by es) _ refl none (lifted-none by es)
