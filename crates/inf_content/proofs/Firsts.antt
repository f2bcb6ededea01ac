-- The first slot that passes a test, found by its name.
use Rattle.std.proofs.Common.{◌≡◌, ℕ, ◌<◌, Bool, List, Option, Some, None, find, length, nat_lt, refl, sym, ap, ◌∙◌, subst, arith}
use Rattle.std.specs.BTreeMap.{is_at}
use Rattle.std.specs.List.Sorted.{IsStrictlySortedBy}
use Rattle.std.specs.Map.{keys_of, lookup}
use Rattle.std.specs.List.{slice_get}
use Rattle.std.specs.Option.{option_and_then, option_map}
use Rattle.std.specs.Set.{remove_key}
use Rattle.inf_base.specs.declared.caller.CallRef.{CallRef}
use Rattle.inf_base.specs.Content.{Slot}
use Rattle.inf_content.specs.declared.named.Named.{Named}
use Rattle.inf_content.specs.declared.wanted.Wanted.{Wanted}
use Rattle.inf_content.specs.BusyNames.{Busy, busy_names, is_busy, without_name}
use Rattle.inf_content.specs.Named.{AreKept, slots_of}
use Rattle.inf_content.specs.Slot.{taker}
use Rattle.inf_content.specs.Slots.{first, first_taker, has_free}
use Rattle.inf_content.specs.Wanted.{is_wanted, is_wanted_name}
use Rattle.inf_content.proofs.Busy.{busy_names-head, find-busy, first_taker-first, has_free-length, name_of, sorted_busy, taker_of}
use Rattle.inf_content.proofs.Edits.{IsFirst, first_is}
use Rattle.inf_content.proofs.Listed.{length-remove_key, name_cmp, remove_key-found, remove_key-none}
use Rattle.inf_content.proofs.Stripped.{keys_of-slots_of, length-slots_of, lookup-slots_of, slot_only}
use Rattle.inf_content.proofs.Takers.{wanted_busy}

pub sorted_slots : (es : List (List ℕ × Named)) → IsStrictlySortedBy name_cmp (keys_of es) → IsStrictlySortedBy name_cmp (keys_of (slots_of es))
sorted_slots es sorted = subst (IsStrictlySortedBy name_cmp) (sym (keys_of-slots_of es)) sorted

-- ---- what the map finds under the name of the first slot that passes
some_is : (x y : Slot) → Some x ≡ Some y → x ≡ y
some_is x y is = cc

some_mapped : (found : Option (List ℕ × Slot)) (name : List ℕ) → Some name ≡ option_map name_of found → (slot : Slot) × (found ≡ Some (name, slot))
some_mapped None name is = cc
some_mapped (Some e) name is = let same : name ≡ e.0 = cc in (e.1, ap (λ n. Some (n, e.1)) (sym same))

none_mapped : (found : Option (List ℕ × Slot)) → None ≡ option_map name_of found → found ≡ None
none_mapped None is = refl
none_mapped (Some e) is = cc

module _ (test : Slot → Bool) (es : List (List ℕ × Named)) (sorted : IsStrictlySortedBy name_cmp (keys_of es)) (name : List ℕ)
    (named : Some name ≡ option_map name_of (first test (slots_of es))) where
  first_there : (slot : Slot) × IsFirst test (slots_of es) name slot
  first_there = let p = some_mapped _ name named in (p.0, first_is test (slots_of es) (name, p.0) (sorted_slots es sorted) p.1)

  first_missing : None ≡ lookup (is_at (name_cmp name)) es → ⊥
  first_missing missing = let gone = sym first_there.1.at ∙ lookup-slots_of (is_at (name_cmp name)) es ∙ ap (option_map slot_only) (sym missing) in cc

  first_at : (v : Named) → Some v ≡ lookup (is_at (name_cmp name)) es → IsFirst test (slots_of es) name v.kept
  first_at v found =
      subst (λ slot. IsFirst test (slots_of es) name slot)
      (some_is first_there.0 v.kept (sym first_there.1.at ∙ lookup-slots_of (is_at (name_cmp name)) es ∙ ap (option_map slot_only) (sym found))) first_there.1

-- ---- the first slot that is wanted of a call
module _ (w : Wanted) (by : CallRef) (es : List (List ℕ × Named)) (busy : Busy) (kept : AreKept es busy) where
  abbrev test : Slot → Bool
  test = is_wanted w by

  abbrev names_wanted : List ℕ → Bool
  names_wanted = is_wanted_name w by (slots_of es)

  first_named : find names_wanted busy.names ≡ option_map name_of (first test (slots_of es))
  first_named = ap (find names_wanted) kept.listed ∙ find-busy test (slots_of es) (sorted_slots es kept.in_order) (wanted_busy w by)

  pub none_taken : None ≡ find names_wanted busy.names → first test (slots_of es) ≡ None
  none_taken none = none_mapped _ (none ∙ first_named)

  pub taken_missing : (name : List ℕ) → Some name ≡ find names_wanted busy.names → None ≡ lookup (is_at (name_cmp name)) es → ⊥
  taken_missing name found = first_missing test es kept.in_order name (found ∙ first_named)

  pub taken : (name : List ℕ) (v : Named) → Some name ≡ find names_wanted busy.names → Some v ≡ lookup (is_at (name_cmp name)) es
      → IsFirst test (slots_of es) name v.kept
  taken name v found = first_at test es kept.in_order name (found ∙ first_named) v

  -- where none is taken, all stay
  pub kept_whole : (left : Busy) → None ≡ find names_wanted busy.names → left ≡ record busy { names = remove_key names_wanted busy.names } → AreKept es left
  kept_whole left none is = subst (AreKept es) (sym (is ∙ ap (λ names. record busy { names = names }) (remove_key-none names_wanted busy.names (sym none)))) kept

  pub left_names : (left : Busy) (name : List ℕ) → Some name ≡ find names_wanted busy.names → left ≡ record busy { names = remove_key names_wanted busy.names }
      → left ≡ record busy { names = without_name name busy.names }
  left_names left name found is =
      is ∙ ap (λ (names : List (List ℕ)). record busy { names = names })
      (remove_key-found names_wanted name busy.names
      (subst (IsStrictlySortedBy name_cmp) (sym kept.listed) (sorted_busy (slots_of es) (sorted_slots es kept.in_order))) (sym found))

  pub fewer_left : (left : Busy) (name : List ℕ) (fs : List (List ℕ × Named)) → Some name ≡ find names_wanted busy.names
      → left ≡ record busy { names = remove_key names_wanted busy.names } → AreKept fs left → length (busy_names (slots_of fs)) < length (busy_names (slots_of es))
  fewer_left left name fs found is after =
      omega (arith, length-remove_key names_wanted name busy.names found, ap (λ (b : Busy). length b.names) is, ap length kept.listed, ap length after.listed)

-- ---- the first slot that a call holds or reserves
module _ (es : List (List ℕ × Named)) (busy : Busy) (kept : AreKept es busy) where
  head_is : slice_get busy.names 0 ≡ option_map name_of (first is_busy (slots_of es))
  head_is = ap (λ names. slice_get names 0) kept.listed ∙ busy_names-head (slots_of es)

  pub none_busy : None ≡ slice_get busy.names 0 → None ≡ first_taker (slots_of es)
  none_busy none = sym (first_taker-first (slots_of es) ∙ ap (option_and_then taker_of) (none_mapped _ (none ∙ head_is)))

  pub first_busy_missing : (name : List ℕ) → Some name ≡ slice_get busy.names 0 → None ≡ lookup (is_at (name_cmp name)) es → ⊥
  first_busy_missing name at_head = first_missing is_busy es kept.in_order name (at_head ∙ head_is)

  pub first_busy : (name : List ℕ) (v : Named) → Some name ≡ slice_get busy.names 0 → Some v ≡ lookup (is_at (name_cmp name)) es
      → taker v.kept ≡ first_taker (slots_of es)
  first_busy name v at_head found =
      ap (option_and_then taker_of) (sym (first_at is_busy es kept.in_order name (at_head ∙ head_is) v found).found) ∙ sym (first_taker-first (slots_of es))

  -- there are more slots than busy names
  pub free_by_count : has_free (slots_of es) ≡ nat_lt (length busy.names) (length es)
  free_by_count =
      has_free-length (slots_of es) ∙ ap (λ n. nat_lt (length (busy_names (slots_of es))) n) (length-slots_of es)
      ∙ ap (λ names. nat_lt (length names) (length es)) (sym kept.listed)
