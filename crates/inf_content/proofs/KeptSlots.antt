-- The slots of a directory as they are kept, with the list of the busy ones, as one of them changes.
use Rattle.std.proofs.Common.{◌≡◌, ℕ, ◌+◌, ◌<◌, ◌≤◌, Bool, true, false, cond, List, Option, Some, None, IfSome, find, length, remove, refl, sym, ap, ◌∙◌, subst, arith}
use Rattle.std.specs.BTreeMap.{BTreeMap, UpdatesBy, WritesThrough, insert_entry, is_at}
use Rattle.std.specs.List.Sorted.{IsStrictlySortedBy}
use Rattle.std.specs.Map.{keys_of, lookup, remove_entry, set_value}
use Rattle.std.specs.List.{position_or_len}
use Rattle.std.specs.Option.{IsSome, option_map}
use Rattle.std.specs.Set.{remove_key}
use Rattle.std.specs.Str.{bytes_eq}
use Rattle.std.proofs.lemmas.Map.Steps.{set_value_same}
use Rattle.std.proofs.lemmas.Map.Text.{is_eq-slice_cmp}
use Rattle.std.proofs.lemmas.Slice.Eq.{bytes_eq-Decides}
use Rattle.inf_base.specs.declared.caller.CallRef.{CallRef}
use Rattle.inf_base.specs.Content.{Slot}
use Rattle.inf_content.specs.declared.named.Named.{Named}
use Rattle.inf_content.specs.declared.wanted.Wanted.{Wanted}
use Rattle.inf_content.specs.BusyNames.{Busy, busy_names, is_busy, with_name, without_name}
use Rattle.inf_content.specs.Named.{AreKept, AreSpared, slots_of, spare_of}
use Rattle.inf_content.specs.Slots.{changed_slot, first, first_changed, slot_in, with_slot, without_slot}
use Rattle.inf_content.specs.Wanted.{is_wanted, is_wanted_name}
use Rattle.inf_content.proofs.Firsts.{left_names, sorted_slots, taken}
use Rattle.inf_content.proofs.Busy.{busy_names-fewer, busy_names-le, busy_names-set_value, busy_names-with_slot, busy_names-without_slot, listed, set_value-with_slot}
use Rattle.inf_content.proofs.Edits.{IsFirst, changed_slot-found, changed_slot-missing}
use Rattle.inf_content.proofs.Listed.{name_cmp, remove_key-at}
use Rattle.inf_content.proofs.Stripped.{length-slots_of, lookup-slots_of, slot_only, slots_of-insert_entry, slots_of-remove_entry, slots_of-set_value}

-- ---- the copies of the names
same_key : (name other : List ℕ) → is_at (name_cmp name) other ≡ true → name ≡ other
same_key name other is = (bytes_eq-Decides name other).0 (sym (is_eq-slice_cmp name other) ∙ is)

spared_step : (b : Bool) (name other : List ℕ) (w later : Option Named) (named : Named) → is_at (name_cmp name) other ≡ b
    → IfSome w (λ n. n.spare ≡ spare_of name n.kept) → (later ≡ Some named → named.spare ≡ spare_of other named.kept)
    → cond b w later ≡ Some named → named.spare ≡ spare_of other named.kept
spared_step true name other None later named is here rest found = cc
spared_step true name other (Some w) later named is here rest found =
    let same : w ≡ named = cc in subst (λ k. named.spare ≡ spare_of k named.kept) (same_key name other is) (subst (λ (n : Named). n.spare ≡ spare_of name n.kept) same here)
spared_step false name other w later named is here rest found = rest found

-- after one slot is put, changed or removed
spared_after : (name : List ℕ) (es fs : List (List ℕ × Named)) (w : Option Named) → AreSpared es
    → ((q : List ℕ) → lookup (is_at (name_cmp q)) fs ≡ cond (is_at (name_cmp name) q) w (lookup (is_at (name_cmp q)) es))
    → IfSome w (λ named. named.spare ≡ spare_of name named.kept) → AreSpared fs
spared_after name es fs w spared at here other named found =
    spared_step (is_at (name_cmp name) other) name other w _ named refl here (spared other named) (sym (at other) ∙ found)

held_step : (b : Bool) (name : List ℕ) → None ≡ cond b None (Some name) → b ≡ true
held_step true name is = refl
held_step false name is = cc

free_step : (b : Bool) (name x : List ℕ) → Some x ≡ cond b None (Some name) → (b ≡ false) × (x ≡ name)
free_step true name x is = cc
free_step false name x is = (refl, cc)

-- ---- a slot that is found under a name
pub record IsAt (name : List ℕ) (es : List (List ℕ × Named)) (busy : Busy) (v : Named) : Type 0 where
  pub kept : AreKept es busy
  pub found : Some v ≡ lookup (is_at (name_cmp name)) es

module _ {name : List ℕ} {es : List (List ℕ × Named)} {busy : Busy} {v : Named} (a : IsAt name es busy v) where
  pub slot_at : slot_in name (slots_of es) ≡ Some v.kept
  slot_at = lookup-slots_of (is_at (name_cmp name)) es ∙ ap (option_map slot_only) (sym a.found)

  pub spare_missing : None ≡ v.spare → is_busy v.kept ≡ true
  spare_missing none = held_step (is_busy v.kept) name (none ∙ a.kept.spared name v (sym a.found))

  pub spare_there : {x : List ℕ} → Some x ≡ v.spare → (is_busy v.kept ≡ false) × (x ≡ name)
  spare_there {x} some = free_step (is_busy v.kept) name x (some ∙ a.kept.spared name v (sym a.found))

  pub room_for_one : {x : List ℕ} → Some x ≡ v.spare → length busy.names < busy.room
  room_for_one some =
      let fewer = busy_names-fewer (is_at (name_cmp name)) (slots_of es) v.kept slot_at (spare_there some).0 in
      omega (arith, ap length a.kept.listed, a.kept.room, fewer, length-slots_of es)

-- ---- and is written back
pub record IsWritten (name : List ℕ) (es fs : List (List ℕ × Named)) (busy : Busy) (v w : Named) : Type 0 where
  pub was : IsAt name es busy v
  pub entries : fs ≡ set_value (is_at (name_cmp name)) es w
  pub in_order : IsStrictlySortedBy name_cmp (keys_of fs)
  pub here : (q : List ℕ) → lookup (is_at (name_cmp q)) fs ≡ cond (is_at (name_cmp name) q) (Some w) (lookup (is_at (name_cmp q)) es)
  pub size : length fs ≡ length es

pub written : (name : List ℕ) (m n : BTreeMap (List ℕ) Named) (busy : Busy) (v w : Named) → AreKept m.entries busy
    → Some v ≡ lookup (is_at (name_cmp name)) m.entries → WritesThrough name_cmp (name_cmp name) m w n → IsWritten name m.entries n.entries busy v w
written name m n busy v w kept found through = record {
  was = record { kept = kept; found = found };
  entries = through.0;
  in_order = through.4;
  here = (through.3 (subst IsSome found refl)).0;
  size = through.2;
}

-- what was found, written back as it is
pub unwritten : (name : List ℕ) (m n : BTreeMap (List ℕ) Named) (v : Named) → Some v ≡ lookup (is_at (name_cmp name)) m.entries
    → WritesThrough name_cmp (name_cmp name) m v n → n.entries ≡ m.entries
unwritten name m n v found through = through.0 ∙ set_value_same (is_at (name_cmp name)) m.entries v (sym found)

module _ {name : List ℕ} {es fs : List (List ℕ × Named)} {busy : Busy} {v w : Named} (is : IsWritten name es fs busy v w) where
  pub slots_written : slots_of fs ≡ set_value (is_at (name_cmp name)) (slots_of es) w.kept
  slots_written = ap slots_of is.entries ∙ slots_of-set_value (is_at (name_cmp name)) es w

  pub slots_changed : (change : Slot → Slot) → w.kept ≡ change v.kept → slots_of fs ≡ changed_slot name change (slots_of es)
  slots_changed change same = slots_written ∙ changed_slot-found name change (slots_of es) v.kept w.kept (slot_at is.was) same

  pub slots_first : (test : Slot → Bool) (change : Slot → Slot) → IsFirst test (slots_of es) name v.kept → w.kept ≡ change v.kept → slots_of fs ≡ first_changed test change (slots_of es)
  slots_first test change first same = slots_written ∙ ap (set_value (is_at (name_cmp name)) (slots_of es)) same ∙ sym (first.changed change)

  kept_listed : {left : Busy} → w.spare ≡ spare_of name w.kept → left.names ≡ listed (is_busy w.kept) name busy.names → left.room ≡ busy.room → AreKept fs left
  kept_listed spare names room =
      let sorted = sorted_slots es is.was.kept.in_order in record {
        in_order = is.in_order;
        spared = spared_after name es fs (Some w) is.was.kept.spared is.here spare;
        listed =
            names ∙ ap (listed (is_busy w.kept) name) is.was.kept.listed ∙ sym (busy_names-with_slot name w.kept (slots_of es) sorted)
            ∙ ap busy_names (sym (slots_written ∙ set_value-with_slot name (slots_of es) v.kept w.kept sorted (slot_at is.was)));
        room = omega (arith, is.size, is.was.kept.room, room);
      }

  -- no call holds or reserves it now
  pub kept_free : {left : Busy} → is_busy w.kept ≡ false → w.spare ≡ Some name → left ≡ record busy { names = without_name name busy.names } → AreKept fs left
  kept_free free spare left =
      kept_listed (spare ∙ ap (λ (b : Bool). cond b None (Some name)) (sym free))
      (ap (λ (b : Busy). b.names) left ∙ ap (λ (b : Bool). listed b name busy.names) (sym free)) (ap (λ (b : Busy). b.room) left)

  -- a call holds it now
  pub kept_held : {left : Busy} → is_busy w.kept ≡ true → w.spare ≡ None → left ≡ record busy { names = with_name name busy.names } → AreKept fs left
  kept_held held spare left =
      kept_listed (spare ∙ ap (λ (b : Bool). cond b None (Some name)) (sym held))
      (ap (λ (b : Busy). b.names) left ∙ ap (λ (b : Bool). listed b name busy.names) (sym held)) (ap (λ (b : Busy). b.room) left)

  pub kept_same : is_busy w.kept ≡ is_busy v.kept → w.spare ≡ v.spare → AreKept fs busy
  kept_same same spare = record {
    in_order = is.in_order;
    spared = spared_after name es fs (Some w) is.was.kept.spared is.here
        (spare ∙ is.was.kept.spared name v (sym is.was.found) ∙ ap (λ (b : Bool). cond b None (Some name)) (sym same));
    listed =
        is.was.kept.listed ∙ sym (busy_names-set_value (is_at (name_cmp name)) (slots_of es) v.kept w.kept (slot_at is.was) same)
        ∙ ap busy_names (sym slots_written);
    room = omega (arith, is.size, is.was.kept.room);
  }

-- ---- the first slot that is wanted of a call, when it is let go
pub record LetsGo (wants : Wanted) (by : CallRef) (name : List ℕ) (es fs : List (List ℕ × Named)) (busy left : Busy) (v w : Named) : Type 0 where
  pub first : IsFirst (is_wanted wants by) (slots_of es) name v.kept
  pub is : IsWritten name es fs busy v w
  pub left_is : left ≡ record busy { names = without_name name busy.names }

pub lets_go : (wants : Wanted) (by : CallRef) (m n : BTreeMap (List ℕ) Named) (busy left : Busy) (name : List ℕ) (v w : Named) → AreKept m.entries busy
    → Some name ≡ find (is_wanted_name wants by (slots_of m.entries)) busy.names
    → left ≡ record busy { names = remove_key (is_wanted_name wants by (slots_of m.entries)) busy.names }
    → Some v ≡ lookup (is_at (name_cmp name)) m.entries → WritesThrough name_cmp (name_cmp name) m w n → LetsGo wants by name m.entries n.entries busy left v w
lets_go wants by m n busy left name v w kept taken_name taken_left found through = record {
  first = taken wants by m.entries busy kept name v taken_name found;
  is = written name m n busy v w kept found through;
  left_is = left_names wants by m.entries busy kept left name taken_name taken_left;
}

-- ---- a slot that is put under a name, or removed
pub slots_put : (name : List ℕ) (m n : BTreeMap (List ℕ) Named) (w : Named) → n.entries ≡ insert_entry name_cmp m.entries name w
    → slots_of n.entries ≡ with_slot name w.kept (slots_of m.entries)
slots_put name m n w put = ap slots_of put ∙ slots_of-insert_entry m.entries name w

pub slots_removed : (name : List ℕ) (m n : BTreeMap (List ℕ) Named) → n.entries ≡ remove_entry (is_at (name_cmp name)) m.entries
    → slots_of n.entries ≡ without_slot name (slots_of m.entries)
slots_removed name m n removed = ap slots_of removed ∙ slots_of-remove_entry (is_at (name_cmp name)) m.entries

module _ (name : List ℕ) (m n : BTreeMap (List ℕ) Named) (busy : Busy) (kept : AreKept m.entries busy) where
  pub kept_put : {left : Busy} (w : Named) → n.entries ≡ insert_entry name_cmp m.entries name w → IsStrictlySortedBy name_cmp (keys_of n.entries)
      → UpdatesBy name_cmp (name_cmp name) m n (Some w) → w.spare ≡ spare_of name w.kept → left.names ≡ listed (is_busy w.kept) name busy.names
      → length n.entries ≤ left.room → AreKept n.entries left
  kept_put w put in_order updates spare names room = record {
    in_order = in_order;
    spared = spared_after name m.entries n.entries (Some w) kept.spared updates.0 spare;
    listed =
        names ∙ ap (listed (is_busy w.kept) name) kept.listed
        ∙ sym (busy_names-with_slot name w.kept (slots_of m.entries) (sorted_slots m.entries kept.in_order))
        ∙ ap busy_names (sym (slots_put name m n w put));
    room = room;
  }

  pub kept_removed : {left : Busy} → n.entries ≡ remove_entry (is_at (name_cmp name)) m.entries → IsStrictlySortedBy name_cmp (keys_of n.entries)
      → UpdatesBy name_cmp (name_cmp name) m n None → length n.entries ≤ length m.entries → left ≡ record busy { names = without_name name busy.names }
      → AreKept n.entries left
  kept_removed removed in_order updates fewer left = record {
    in_order = in_order;
    spared = spared_after name m.entries n.entries None kept.spared updates.0 tt;
    listed =
        ap (λ (b : Busy). b.names) left ∙ ap (without_name name) kept.listed
        ∙ sym (busy_names-without_slot name (slots_of m.entries) (sorted_slots m.entries kept.in_order))
        ∙ ap busy_names (sym (slots_removed name m n removed));
    room = omega (arith, kept.room, ap (λ (b : Busy). b.room) left);
  }

pub slots_missing : (name : List ℕ) (es : List (List ℕ × Named)) (change : Slot → Slot) → None ≡ lookup (is_at (name_cmp name)) es
    → slots_of es ≡ changed_slot name change (slots_of es)
slots_missing name es change missing =
    sym (changed_slot-missing name change (slots_of es) (lookup-slots_of (is_at (name_cmp name)) es ∙ ap (option_map slot_only) (sym missing)))

-- ---- counts and places of busy names
pub names_within : (es : List (List ℕ × Named)) (busy : Busy) → AreKept es busy → length busy.names ≤ length es
names_within es busy kept = omega (arith, ap length kept.listed, busy_names-le (slots_of es), length-slots_of es)

pub put_within : (b : Bool) (n m room : ℕ) → n ≡ m + cond b 0 1 → m + 1 ≤ room → n ≤ room
put_within true n m room is le = omega arith
put_within false n m room is le = omega arith

pub names_without : (name : List ℕ) (names : List (List ℕ)) (at : ℕ) → at ≡ position_or_len (bytes_eq name) names → remove names at ≡ without_name name names
names_without name names at is = ap (remove names) is ∙ sym (remove_key-at (bytes_eq name) names)
