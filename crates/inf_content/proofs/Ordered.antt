-- Calls keep content objects and their slots in order.
use Rattle.std.proofs.Common.{◌≡◌, ℕ, Bool, true, false, cond, ◌&&◌, ◌==◌, List, [], ◌∷◌, map, Option, None, Some, Less, Equal, Greater, refl, sym, ap, ◌∙◌, subst}
use Rattle.std.specs.BTreeMap.{is_at}
use Rattle.std.specs.BTreeSet.{insert_key}
use Rattle.std.specs.Cmp.Lexicographic.{nat_list_cmp_total}
use Rattle.std.specs.List.{All}
use Rattle.std.specs.List.Sorted.{IsStrictlySortedBy}
use Rattle.std.specs.Map.{keys_of}
use Rattle.std.specs.Ordering.{match_ordering, ordering_reverse}
use Rattle.std.specs.declared.cmp.Ordering.{Ordering}
use Rattle.std.proofs.lemmas.List.Elements.{All-cons, All-head, All-nil, All-tail}
use Rattle.std.proofs.lemmas.Map.Lookups.{exact_bytes}
use Rattle.inf_base.specs.declared.access.Access.{Access}
use Rattle.inf_base.specs.declared.caller.CallRef.{CallRef}
use Rattle.inf_base.specs.declared.caller.Caller.{Caller}
use Rattle.inf_base.specs.declared.directory.DirRef.{DirRef}
use Rattle.inf_base.specs.declared.file.FileMeta.{FileMeta}
use Rattle.inf_base.specs.declared.id.Id.{Id}
use Rattle.inf_base.specs.declared.triple.Triple.{Triple}
use Rattle.inf_base.specs.Content.{Content, Slot, file, reserved}
use Rattle.inf_base.specs.Same.{is_same_id}
use Rattle.inf_content.specs.Contents.{changed_at, content_of_id, dropped_at, empty_content, erased_at, filled_at, held_at, lifted_at, made_at, may_drop, placed, reserved_at, sealed_at, settled_at, unsealed_at, with_file_at, with_meta_at, with_new, with_slots_at, without_slot_at}
use Rattle.inf_content.specs.Order.{AreInOrder, NamesRise}
use Rattle.inf_content.specs.Slot.{erases, filled, freed, held_slot, holds, reserves, settled, with_meta}
use Rattle.inf_content.specs.Slots.{changed_slot, erased, filled_in, first_changed, lifted, settled_in, with_slot, without_first, without_slot}
use Rattle.inf_content.proofs.Listed.{IsBelow, below_all, name_cmp}

-- ---- some of the keys, in their order
record Keeps (xs ys : List (List ℕ)) : Type 0 where
  below : (k : List ℕ) → IsBelow k xs → IsBelow k ys
  sorted : IsStrictlySortedBy name_cmp xs → IsStrictlySortedBy name_cmp ys

keeps_all : (xs : List (List ℕ)) → Keeps xs xs
keeps_all xs = record { below = λ k below. below; sorted = λ sorted. sorted }

keeps_key : (x : List ℕ) {xs ys : List (List ℕ)} → Keeps xs ys → Keeps (x ∷ xs) (x ∷ ys)
unfolding IsStrictlySortedBy
keeps_key x rest = record { below = λ k below. (below.0, rest.below k below.1); sorted = λ sorted. (rest.below x sorted.0, rest.sorted sorted.1) }

keeps_less : (x : List ℕ) {xs ys : List (List ℕ)} → Keeps xs ys → Keeps (x ∷ xs) ys
unfolding IsStrictlySortedBy
keeps_less x rest = record { below = λ k below. rest.below k below.1; sorted = λ sorted. rest.sorted sorted.1 }

-- ---- one key more
below_step : (o : Ordering) (k name x : List ℕ) (xs put : List (List ℕ)) → name_cmp k name ≡ Less → IsBelow k (x ∷ xs) → IsBelow k put
    → IsBelow k (match_ordering o (name ∷ x ∷ xs) (x ∷ xs) (x ∷ put))
below_step Less k name x xs put less below rest = (less, below)
below_step Equal k name x xs put less below rest = below
below_step Greater k name x xs put less below rest = (below.0, rest)

below_insert : (k name : List ℕ) (xs : List (List ℕ)) → name_cmp k name ≡ Less → IsBelow k xs → IsBelow k (insert_key name_cmp xs name)
below_insert k name [] less below = (less, tt)
below_insert k name (x ∷ xs) less below = below_step (name_cmp name x) k name x xs _ less below (below_insert k name xs less below.1)

sorted_step : (o : Ordering) (name x : List ℕ) (xs put : List (List ℕ)) → name_cmp name x ≡ o → IsStrictlySortedBy name_cmp (x ∷ xs)
    → (name_cmp x name ≡ Less → IsBelow x put) → IsStrictlySortedBy name_cmp put
    → IsStrictlySortedBy name_cmp (match_ordering o (name ∷ x ∷ xs) (x ∷ xs) (x ∷ put))
unfolding IsStrictlySortedBy
sorted_step Less name x xs put is sorted below rest = ((is, below_all name x xs is sorted.0), sorted)
sorted_step Equal name x xs put is sorted below rest = sorted
sorted_step Greater name x xs put is sorted below rest = (below (nat_list_cmp_total.antisymm x name ∙ ap ordering_reverse is), rest)

sorted_insert : (name : List ℕ) (xs : List (List ℕ)) → IsStrictlySortedBy name_cmp xs → IsStrictlySortedBy name_cmp (insert_key name_cmp xs name)
unfolding IsStrictlySortedBy
sorted_insert name [] sorted = (tt, tt)
sorted_insert name (x ∷ xs) sorted =
    sorted_step (name_cmp name x) name x xs _ refl sorted (λ less. below_insert x name xs less sorted.0) (sorted_insert name xs sorted.1)

-- ---- slots
changed_keys : (name : List ℕ) (change : Slot → Slot) (es : List (List ℕ × Slot)) → Keeps (keys_of es) (keys_of (changed_slot name change es))
changed_keys name change [] = keeps_all []
changed_keys name change (e ∷ es) = by (is_at (name_cmp name) e.0) (changed_keys name change es)
  where
    by : (b : Bool) → Keeps (keys_of es) (keys_of (changed_slot name change es))
        → Keeps (keys_of (e ∷ es)) (keys_of (cond b ((e.0, change e.1) ∷ es) (e ∷ changed_slot name change es)))
    by true later = keeps_all (keys_of (e ∷ es))
    by false later = keeps_key e.0 later

first_changed_keys : (test : Slot → Bool) (change : Slot → Slot) (es : List (List ℕ × Slot)) → Keeps (keys_of es) (keys_of (first_changed test change es))
first_changed_keys test change [] = keeps_all []
first_changed_keys test change (e ∷ es) = by (test e.1) (first_changed_keys test change es)
  where
    by : (b : Bool) → Keeps (keys_of es) (keys_of (first_changed test change es))
        → Keeps (keys_of (e ∷ es)) (keys_of (cond b ((e.0, change e.1) ∷ es) (e ∷ first_changed test change es)))
    by true later = keeps_all (keys_of (e ∷ es))
    by false later = keeps_key e.0 later

without_slot_keys : (name : List ℕ) (es : List (List ℕ × Slot)) → Keeps (keys_of es) (keys_of (without_slot name es))
without_slot_keys name [] = keeps_all []
without_slot_keys name (e ∷ es) = by (is_at (name_cmp name) e.0) (without_slot_keys name es)
  where
    by : (b : Bool) → Keeps (keys_of es) (keys_of (without_slot name es)) → Keeps (keys_of (e ∷ es)) (keys_of (cond b es (e ∷ without_slot name es)))
    by true later = keeps_less e.0 (keeps_all (keys_of es))
    by false later = keeps_key e.0 later

without_first_keys : (test : Slot → Bool) (es : List (List ℕ × Slot)) → Keeps (keys_of es) (keys_of (without_first test es))
without_first_keys test [] = keeps_all []
without_first_keys test (e ∷ es) = by (test e.1) (without_first_keys test es)
  where
    by : (b : Bool) → Keeps (keys_of es) (keys_of (without_first test es)) → Keeps (keys_of (e ∷ es)) (keys_of (cond b es (e ∷ without_first test es)))
    by true later = keeps_less e.0 (keeps_all (keys_of es))
    by false later = keeps_key e.0 later

lifted_keys : (by : CallRef) (es : List (List ℕ × Slot)) → Keeps (keys_of es) (keys_of (lifted by es))
lifted_keys by [] = keeps_all []
lifted_keys by (e ∷ es) = at (reserves by e.1) (lifted_keys by es)
  where
    at : (b : Bool) → Keeps (keys_of es) (keys_of (lifted by es)) → Keeps (keys_of (e ∷ es)) (keys_of (cond b (lifted by es) ((e.0, freed by e.1) ∷ lifted by es)))
    at true later = keeps_less e.0 later
    at false later = keeps_key e.0 later

put_keys : (name : List ℕ) (slot : Slot) (es : List (List ℕ × Slot)) → keys_of (with_slot name slot es) ≡ insert_key name_cmp (keys_of es) name
put_keys name slot [] = refl
put_keys name slot (e ∷ es) = by (name_cmp name e.0) (put_keys name slot es)
  where
    by : (o : Ordering) → keys_of (with_slot name slot es) ≡ insert_key name_cmp (keys_of es) name
        → keys_of (match_ordering o ((name, slot) ∷ e ∷ es) ((e.0, slot) ∷ es) (e ∷ with_slot name slot es))
        ≡ match_ordering o (name ∷ e.0 ∷ keys_of es) (e.0 ∷ keys_of es) (e.0 ∷ insert_key name_cmp (keys_of es) name)
    by Less later = refl
    by Equal later = refl
    by Greater later = ap (λ ks. e.0 ∷ ks) later

names_changed : (name : List ℕ) (change : Slot → Slot) (slots : List (List ℕ × Slot)) → NamesRise slots → NamesRise (changed_slot name change slots)
names_changed name change slots rise = (changed_keys name change slots).sorted rise

names_first_changed : (test : Slot → Bool) (change : Slot → Slot) (slots : List (List ℕ × Slot)) → NamesRise slots → NamesRise (first_changed test change slots)
names_first_changed test change slots rise = (first_changed_keys test change slots).sorted rise

names_without_slot : (name : List ℕ) (slots : List (List ℕ × Slot)) → NamesRise slots → NamesRise (without_slot name slots)
names_without_slot name slots rise = (without_slot_keys name slots).sorted rise

names_without_first : (test : Slot → Bool) (slots : List (List ℕ × Slot)) → NamesRise slots → NamesRise (without_first test slots)
names_without_first test slots rise = (without_first_keys test slots).sorted rise

names_lifted : (by : CallRef) (slots : List (List ℕ × Slot)) → NamesRise slots → NamesRise (lifted by slots)
names_lifted by slots rise = (lifted_keys by slots).sorted rise

names_put : (name : List ℕ) (slot : Slot) (slots : List (List ℕ × Slot)) → NamesRise slots → NamesRise (with_slot name slot slots)
names_put name slot slots rise = subst (IsStrictlySortedBy name_cmp) (sym (put_keys name slot slots)) (sorted_insert name (keys_of slots) rise)

-- ---- content objects
abbrev bytes_of : Content → List ℕ
bytes_of c = c.dir.id.bytes

abbrev Rises : Content → Type 0
Rises c = NamesRise c.slots

changed_ids : (dir : DirRef) (change : Content → Content) → ((c : Content) → (change c).dir ≡ c.dir) → (cs : List Content)
    → map bytes_of (changed_at dir change cs) ≡ map bytes_of cs
changed_ids dir change same [] = refl
changed_ids dir change same (c ∷ cs) = by (is_same_id dir.id c.dir.id) (c.dir.born == dir.born) (changed_ids dir change same cs)
  where
    by : (b born : Bool) → map bytes_of (changed_at dir change cs) ≡ map bytes_of cs
        → map bytes_of (cond b (cond born (change c) c ∷ cs) (c ∷ changed_at dir change cs)) ≡ map bytes_of (c ∷ cs)
    by true true later = ap (λ (d : DirRef). d.id.bytes ∷ map bytes_of cs) (same c)
    by true false later = refl
    by false born later = ap (λ ids. c.dir.id.bytes ∷ ids) later

changed_names : (dir : DirRef) (change : Content → Content) → ((c : Content) → Rises c → Rises (change c)) → (cs : List Content)
    → All Rises cs → All Rises (changed_at dir change cs)
changed_names dir change keeps [] all = all
changed_names dir change keeps (c ∷ cs) all =
    by (is_same_id dir.id c.dir.id) (c.dir.born == dir.born) (All-head Rises c cs all) (All-tail Rises c cs all)
    (changed_names dir change keeps cs (All-tail Rises c cs all))
  where
    by : (b born : Bool) → Rises c → All Rises cs → All Rises (changed_at dir change cs)
        → All Rises (cond b (cond born (change c) c ∷ cs) (c ∷ changed_at dir change cs))
    by true true here rest later = All-cons Rises (change c) cs (keeps c here) rest
    by true false here rest later = All-cons Rises c cs here rest
    by false born here rest later = All-cons Rises c _ here later

changed_in_order : (dir : DirRef) (change : Content → Content) → ((c : Content) → (change c).dir ≡ c.dir) → ((c : Content) → Rises c → Rises (change c))
    → (cs : List Content) → AreInOrder cs → AreInOrder (changed_at dir change cs)
changed_in_order dir change same keeps cs order = record {
  identifiers = subst (IsStrictlySortedBy name_cmp) (sym (changed_ids dir change same cs)) order.identifiers;
  names = changed_names dir change keeps cs order.names;
}

with_slots_in_order : (dir : DirRef) (change : List (List ℕ × Slot) → List (List ℕ × Slot))
    → ((slots : List (List ℕ × Slot)) → NamesRise slots → NamesRise (change slots)) → (cs : List Content) → AreInOrder cs → AreInOrder (with_slots_at dir change cs)
with_slots_in_order dir change keeps cs order =
    changed_in_order dir (λ (c : Content). record c { slots = change c.slots }) (λ c. refl) (λ c rise. keeps c.slots rise) cs order

dropped_ids : (dir : DirRef) (by : CallRef) (cs : List Content) → Keeps (map bytes_of cs) (map bytes_of (dropped_at dir by cs))
dropped_ids dir by [] = keeps_all []
dropped_ids dir by (c ∷ cs) = at (is_same_id dir.id c.dir.id) (c.dir.born == dir.born && may_drop by c) (dropped_ids dir by cs)
  where
    at : (b drops : Bool) → Keeps (map bytes_of cs) (map bytes_of (dropped_at dir by cs))
        → Keeps (map bytes_of (c ∷ cs)) (map bytes_of (cond b (cond drops cs (c ∷ cs)) (c ∷ dropped_at dir by cs)))
    at true true later = keeps_less c.dir.id.bytes (keeps_all (map bytes_of cs))
    at true false later = keeps_all (map bytes_of (c ∷ cs))
    at false drops later = keeps_key c.dir.id.bytes later

dropped_names : (dir : DirRef) (by : CallRef) (cs : List Content) → All Rises cs → All Rises (dropped_at dir by cs)
dropped_names dir by [] all = all
dropped_names dir by (c ∷ cs) all =
    at (is_same_id dir.id c.dir.id) (c.dir.born == dir.born && may_drop by c) (dropped_names dir by cs (All-tail Rises c cs all))
  where
    at : (b drops : Bool) → All Rises (dropped_at dir by cs) → All Rises (cond b (cond drops cs (c ∷ cs)) (c ∷ dropped_at dir by cs))
    at true true later = All-tail Rises c cs all
    at true false later = all
    at false drops later = All-cons Rises c _ (All-head Rises c cs all) later

pub dropped_in_order : (dir : DirRef) (by : CallRef) (cs : List Content) → AreInOrder cs → AreInOrder (dropped_at dir by cs)
dropped_in_order dir by cs order = record { identifiers = (dropped_ids dir by cs).sorted order.identifiers; names = dropped_names dir by cs order.names }

placed_ids : (content : Content) (cs : List Content) → map bytes_of (placed content cs) ≡ insert_key name_cmp (map bytes_of cs) content.dir.id.bytes
placed_ids content [] = refl
placed_ids content (c ∷ cs) = by (name_cmp content.dir.id.bytes c.dir.id.bytes) refl (placed_ids content cs)
  where
    by : (o : Ordering) → name_cmp content.dir.id.bytes c.dir.id.bytes ≡ o
        → map bytes_of (placed content cs) ≡ insert_key name_cmp (map bytes_of cs) content.dir.id.bytes
        → map bytes_of (match_ordering o (content ∷ c ∷ cs) (content ∷ cs) (c ∷ placed content cs))
        ≡ match_ordering o (content.dir.id.bytes ∷ c.dir.id.bytes ∷ map bytes_of cs) (c.dir.id.bytes ∷ map bytes_of cs)
        (c.dir.id.bytes ∷ insert_key name_cmp (map bytes_of cs) content.dir.id.bytes)
    by Less is later = refl
    by Equal is later = ap (λ id. id ∷ map bytes_of cs) (exact_bytes content.dir.id.bytes c.dir.id.bytes is)
    by Greater is later = ap (λ ids. c.dir.id.bytes ∷ ids) later

placed_names : (content : Content) (cs : List Content) → Rises content → All Rises cs → All Rises (placed content cs)
placed_names content [] rise all = All-cons Rises content [] rise all
placed_names content (c ∷ cs) rise all =
    by (name_cmp content.dir.id.bytes c.dir.id.bytes) (placed_names content cs rise (All-tail Rises c cs all))
  where
    by : (o : Ordering) → All Rises (placed content cs) → All Rises (match_ordering o (content ∷ c ∷ cs) (content ∷ cs) (c ∷ placed content cs))
    by Less later = All-cons Rises content (c ∷ cs) rise all
    by Equal later = All-cons Rises content cs rise (All-tail Rises c cs all)
    by Greater later = All-cons Rises c _ (All-head Rises c cs all) later

with_new_in_order : (content : Content) (found : Option Content) (cs : List Content) → Rises content → AreInOrder cs → AreInOrder (with_new content found cs)
with_new_in_order content None cs rise order = record {
  identifiers = subst (IsStrictlySortedBy name_cmp) (sym (placed_ids content cs)) (sorted_insert content.dir.id.bytes (map bytes_of cs) order.identifiers);
  names = placed_names content cs rise order.names;
}
with_new_in_order content (Some kept) cs rise order = order

pub made_in_order : (id : Id) (born : ℕ) (triple : Triple) (by : CallRef) (cs : List Content) → AreInOrder cs → AreInOrder (made_at id born triple by cs)
unfolding IsStrictlySortedBy
made_in_order id born triple by cs order = with_new_in_order (empty_content id born triple by) (content_of_id id cs) cs tt order

pub none_in_order : AreInOrder []
unfolding IsStrictlySortedBy
none_in_order = record { identifiers = tt; names = All-nil Rises }

-- ---- calls
module _ (dir : DirRef) where
  pub sealed_in_order : (by : CallRef) (cs : List Content) → AreInOrder cs → AreInOrder (sealed_at dir by cs)
  sealed_in_order by cs = changed_in_order dir _ (λ c. refl) (λ c rise. rise) cs

  pub unsealed_in_order : (by : CallRef) (cs : List Content) → AreInOrder cs → AreInOrder (unsealed_at dir by cs)
  unsealed_in_order by cs = changed_in_order dir _ (λ c. refl) (λ c rise. rise) cs

  pub reserved_in_order : (name : List ℕ) (by : CallRef) (access : Access) (cs : List Content) → AreInOrder cs → AreInOrder (reserved_at dir name by access cs)
  reserved_in_order name by access cs = with_slots_in_order dir (with_slot name (reserved by access)) (names_put name (reserved by access)) cs

  pub with_file_in_order : (name : List ℕ) (meta : FileMeta) (cs : List Content) → AreInOrder cs → AreInOrder (with_file_at dir name meta cs)
  with_file_in_order name meta cs = with_slots_in_order dir (with_slot name (file meta None)) (names_put name (file meta None)) cs

  pub with_meta_in_order : (name : List ℕ) (meta : FileMeta) (cs : List Content) → AreInOrder cs → AreInOrder (with_meta_at dir name meta cs)
  with_meta_in_order name meta cs = with_slots_in_order dir (changed_slot name (with_meta meta)) (names_changed name (with_meta meta)) cs

  pub without_slot_in_order : (name : List ℕ) (cs : List Content) → AreInOrder cs → AreInOrder (without_slot_at dir name cs)
  without_slot_in_order name cs = with_slots_in_order dir (without_slot name) (names_without_slot name) cs

  pub held_in_order : (name : List ℕ) (by : CallRef) (mode : Option ℕ) (cs : List Content) → AreInOrder cs → AreInOrder (held_at dir name by mode cs)
  held_in_order name by mode cs = with_slots_in_order dir (changed_slot name (held_slot by mode)) (names_changed name (held_slot by mode)) cs

  pub settled_in_order : (by : CallRef) (cs : List Content) → AreInOrder cs → AreInOrder (settled_at dir by cs)
  settled_in_order by cs = with_slots_in_order dir (settled_in by) (names_first_changed (holds by) settled) cs

  pub filled_in_order : (by : CallRef) (link : Option (DirRef × ℕ × Caller)) (cs : List Content) → AreInOrder cs → AreInOrder (filled_at dir by link cs)
  filled_in_order by link cs = with_slots_in_order dir (filled_in by link) (names_first_changed (reserves by) (filled link)) cs

  pub lifted_in_order : (by : CallRef) (cs : List Content) → AreInOrder cs → AreInOrder (lifted_at dir by cs)
  lifted_in_order by cs = with_slots_in_order dir (lifted by) (names_lifted by) cs

  pub erased_in_order : (by : CallRef) (cs : List Content) → AreInOrder cs → AreInOrder (erased_at dir by cs)
  erased_in_order by cs = with_slots_in_order dir (erased by) (names_without_first (erases by)) cs

-- content objects as they are kept, after a call that keeps the order
pub order_after : {kept old new after : List Content} → kept ≡ old → AreInOrder kept → (AreInOrder old → AreInOrder after) → new ≡ after → AreInOrder new
order_after view order keeps is = subst AreInOrder (sym is) (keeps (subst AreInOrder view order))
