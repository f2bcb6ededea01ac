-- The busy names of a directory: what becomes of them as its slots change, and what they tell of its slots.
use Rattle.std.proofs.Common.{◌≡◌, ℕ, suc, ◌<◌, ◌≤◌, ◌||◌, Bool, true, false, cond, nat_lt, List, [], ◌∷◌, Option, Some, None, find, is_none, is_some, length, refl, sym, ap, ◌∙◌, arith}
use Rattle.std.specs.BTreeMap.{is_at}
use Rattle.std.specs.Cmp.{both_ways}
use Rattle.std.specs.Cmp.Lexicographic.{nat_list_cmp_total}
use Rattle.std.specs.List.{AllByRecursion, slice_get}
use Rattle.std.specs.List.Sorted.{IsStrictlySortedBy}
use Rattle.std.specs.Map.{keys_of, lookup, set_value}
use Rattle.std.specs.Option.{option_and_then, option_map}
use Rattle.std.specs.Ordering.{is_eq, match_ordering}
use Rattle.std.specs.Str.{bytes_eq}
use Rattle.std.specs.declared.cmp.Ordering.{Ordering}
use Rattle.std.specs.declared.cmp.Ordering.TheVariants.{Less, Equal, Greater}
use Rattle.std.proofs.lemmas.Bool.{lt-ltb, ltb-true, true≢false}
use Rattle.std.proofs.lemmas.Map.{lookup-none}
use Rattle.std.proofs.lemmas.Map.Entries.{none_below_head}
use Rattle.std.proofs.lemmas.Map.Keys.{sorted_head, sorted_tail}
use Rattle.std.proofs.lemmas.Map.Lookups.{exact_bytes}
use Rattle.inf_base.specs.declared.caller.CallRef.{CallRef}
use Rattle.inf_base.specs.Content.{Slot}
use Rattle.inf_content.specs.BusyNames.{busy_names, is_busy, with_name, without_name}
use Rattle.inf_content.specs.Slot.{taker}
use Rattle.inf_content.specs.Slots.{first, first_taker, has_free, or_later, slot_in, with_slot, without_slot}
use Rattle.inf_content.specs.Wanted.{passes}
use Rattle.inf_content.proofs.Listed.{IsBelow, above, below_all, name_cmp, same_by_order, same_name, with_name-below, without_name-below}

-- names with one more, or without it
abbrev pub listed : Bool → List ℕ → List (List ℕ) → List (List ℕ)
listed busy name names = cond busy (with_name name names) (without_name name names)

listed-below : (b : Bool) (name : List ℕ) (names : List (List ℕ)) → IsBelow name names → cond b (name ∷ names) names ≡ listed b name names
listed-below true name names below = sym (with_name-below name names below)
listed-below false name names below = sym (without_name-below name names below)

below_cond : (b : Bool) (k name : List ℕ) (names : List (List ℕ)) → name_cmp k name ≡ Less → IsBelow k names → IsBelow k (cond b (name ∷ names) names)
below_cond true k name names less below = (less, below)
below_cond false k name names less below = below

-- names that are before those of all slots are before the busy ones
below_busy : (k : List ℕ) (es : List (List ℕ × Slot)) → IsBelow k (keys_of es) → IsBelow k (busy_names es)
below_busy k [] below = tt
below_busy k (e ∷ es) below = below_cond (is_busy e.1) k e.0 (busy_names es) below.0 (below_busy k es below.1)

sorted_cond : (b : Bool) (name : List ℕ) (names : List (List ℕ)) → IsBelow name names → IsStrictlySortedBy name_cmp names → IsStrictlySortedBy name_cmp (cond b (name ∷ names) names)
unfolding IsStrictlySortedBy
sorted_cond true name names below sorted = (below, sorted)
sorted_cond false name names below sorted = sorted

pub sorted_busy : (es : List (List ℕ × Slot)) → IsStrictlySortedBy name_cmp (keys_of es) → IsStrictlySortedBy name_cmp (busy_names es)
unfolding IsStrictlySortedBy
sorted_busy [] sorted = tt
sorted_busy (e ∷ es) sorted = sorted_cond (is_busy e.1) e.0 (busy_names es) (below_busy e.0 es sorted.0) (sorted_busy es sorted.1)

-- ---- a slot that is put
at_name : (b busy : Bool) (name k : List ℕ) (rest : List (List ℕ)) → name_cmp name k ≡ Equal → IsBelow k rest
    → cond b (k ∷ rest) rest ≡ listed b name (cond busy (k ∷ rest) rest)
at_name true true name k rest is below = sym (ap (λ o. match_ordering o (name ∷ k ∷ rest) (k ∷ rest) (k ∷ with_name name rest)) is)
at_name false true name k rest is below = sym (ap (λ t. cond t rest (k ∷ without_name name rest)) (same_by_order name k Equal is))
at_name b false name k rest is below = rw (exact_bytes name k is) (listed-below b k rest below)

after_removed : (busy : Bool) (name k : List ℕ) (rest removed : List (List ℕ)) → bytes_eq name k ≡ false → removed ≡ without_name name rest
    → cond busy (k ∷ removed) removed ≡ without_name name (cond busy (k ∷ rest) rest)
after_removed true name k rest removed apart later = ap (λ xs. k ∷ xs) later ∙ sym (ap (λ t. cond t rest (k ∷ without_name name rest)) apart)
after_removed false name k rest removed apart later = later

after_name : (b busy : Bool) (name k : List ℕ) (rest put : List (List ℕ)) → name_cmp name k ≡ Greater → put ≡ listed b name rest
    → cond busy (k ∷ put) put ≡ listed b name (cond busy (k ∷ rest) rest)
after_name true true name k rest put is later = ap (λ xs. k ∷ xs) later ∙ sym (ap (λ o. match_ordering o (name ∷ k ∷ rest) (k ∷ rest) (k ∷ with_name name rest)) is)
after_name false busy name k rest put is later = after_removed busy name k rest put (same_by_order name k Greater is) later
after_name true false name k rest put is later = later

put_step : (o : Ordering) (name : List ℕ) (slot : Slot) (e : List ℕ × Slot) (es put : List (List ℕ × Slot)) → name_cmp name e.0 ≡ o → IsBelow e.0 (busy_names es)
    → busy_names put ≡ listed (is_busy slot) name (busy_names es)
    → busy_names (match_ordering o ((name, slot) ∷ e ∷ es) ((e.0, slot) ∷ es) (e ∷ put)) ≡ listed (is_busy slot) name (busy_names (e ∷ es))
put_step Less name slot e es put is below later =
    listed-below (is_busy slot) name _ (below_cond (is_busy e.1) name e.0 (busy_names es) is (below_all name e.0 (busy_names es) is below))
put_step Equal name slot e es put is below later = at_name (is_busy slot) (is_busy e.1) name e.0 (busy_names es) is below
put_step Greater name slot e es put is below later = after_name (is_busy slot) (is_busy e.1) name e.0 (busy_names es) (busy_names put) is later

pub busy_names-with_slot : (name : List ℕ) (slot : Slot) (es : List (List ℕ × Slot)) → IsStrictlySortedBy name_cmp (keys_of es)
    → busy_names (with_slot name slot es) ≡ listed (is_busy slot) name (busy_names es)
busy_names-with_slot name slot [] sorted = listed-below (is_busy slot) name [] tt
busy_names-with_slot name slot (e ∷ es) sorted =
    put_step (name_cmp name e.0) name slot e es _ refl (below_busy e.0 es (sorted_head name_cmp e.0 (keys_of es) sorted))
    (busy_names-with_slot name slot es (sorted_tail name_cmp e.0 (keys_of es) sorted))

-- ---- a slot that is removed
remove_step : (o : Ordering) (name : List ℕ) (e : List ℕ × Slot) (es removed : List (List ℕ × Slot)) → name_cmp name e.0 ≡ o → IsBelow e.0 (busy_names es)
    → busy_names removed ≡ without_name name (busy_names es)
    → busy_names (cond (is_eq o) es (e ∷ removed)) ≡ without_name name (busy_names (e ∷ es))
remove_step Less name e es removed is below later = after_removed (is_busy e.1) name e.0 (busy_names es) (busy_names removed) (same_by_order name e.0 Less is) later
remove_step Equal name e es removed is below later = at_name false (is_busy e.1) name e.0 (busy_names es) is below
remove_step Greater name e es removed is below later = after_removed (is_busy e.1) name e.0 (busy_names es) (busy_names removed) (same_by_order name e.0 Greater is) later

pub busy_names-without_slot : (name : List ℕ) (es : List (List ℕ × Slot)) → IsStrictlySortedBy name_cmp (keys_of es)
    → busy_names (without_slot name es) ≡ without_name name (busy_names es)
busy_names-without_slot name [] sorted = refl
busy_names-without_slot name (e ∷ es) sorted =
    remove_step (name_cmp name e.0) name e es _ refl (below_busy e.0 es (sorted_head name_cmp e.0 (keys_of es) sorted))
    (busy_names-without_slot name es (sorted_tail name_cmp e.0 (keys_of es) sorted))

-- ---- a slot that is written where one stands
set_step : (o : Ordering) (name : List ℕ) (e : List ℕ × Slot) (es set put : List (List ℕ × Slot)) (v w : Slot) (later : Option Slot) → name_cmp name e.0 ≡ o
    → cond (is_eq o) (Some e.1) later ≡ Some v → (name_cmp name e.0 ≡ Less → cond (is_eq o) (Some e.1) later ≡ None) → (later ≡ Some v → set ≡ put)
    → cond (is_eq o) ((e.0, w) ∷ es) (e ∷ set) ≡ match_ordering o ((name, w) ∷ e ∷ es) ((e.0, w) ∷ es) (e ∷ put)
set_step Less name e es set put v w later is found none rest = let gone = none is in cc
set_step Equal name e es set put v w later is found none rest = refl
set_step Greater name e es set put v w later is found none rest = ap (λ xs. e ∷ xs) (rest found)

pub set_value-with_slot : (name : List ℕ) (es : List (List ℕ × Slot)) (v w : Slot) → IsStrictlySortedBy name_cmp (keys_of es)
    → slot_in name es ≡ Some v → set_value (is_at (name_cmp name)) es w ≡ with_slot name w es
set_value-with_slot name [] v w sorted found = cc
set_value-with_slot name (e ∷ es) v w sorted found =
    set_step (name_cmp name e.0) name e es _ _ v w _ refl found
    (λ less. lookup-none (is_at (name_cmp name)) (e ∷ es) (none_below_head nat_list_cmp_total name e es sorted less))
    (set_value-with_slot name es v w (sorted_tail name_cmp e.0 (keys_of es) sorted))

same_step : (b : Bool) (e : List ℕ × Slot) (es set : List (List ℕ × Slot)) (v w : Slot) (later : Option Slot) → is_busy w ≡ is_busy v
    → cond b (Some e.1) later ≡ Some v → (later ≡ Some v → busy_names set ≡ busy_names es)
    → busy_names (cond b ((e.0, w) ∷ es) (e ∷ set)) ≡ busy_names (e ∷ es)
same_step true e es set v w later is found rest = let same : e.1 ≡ v = cc in rw (is, same) refl
same_step false e es set v w later is found rest = ap (λ names. cond (is_busy e.1) (e.0 ∷ names) names) (rest found)

-- held or reserved as before
pub busy_names-set_value : (test : List ℕ → Bool) (es : List (List ℕ × Slot)) (v w : Slot) → lookup test es ≡ Some v → is_busy w ≡ is_busy v
    → busy_names (set_value test es w) ≡ busy_names es
busy_names-set_value test [] v w found is = refl
busy_names-set_value test (e ∷ es) v w found is =
    same_step (test e.0) e es _ v w _ is found (λ later. busy_names-set_value test es v w later is)

-- ---- how many there are
pub busy_names-le : (es : List (List ℕ × Slot)) → length (busy_names es) ≤ length es
busy_names-le [] = omega arith
busy_names-le (e ∷ es) = by (is_busy e.1) (busy_names-le es)
  where
    by : (b : Bool) → length (busy_names es) ≤ length es → length (cond b (e.0 ∷ busy_names es) (busy_names es)) ≤ length (e ∷ es)
    by true later = omega arith
    by false later = omega arith

fewer_step : (b busy : Bool) (e : List ℕ × Slot) (es : List (List ℕ × Slot)) (v : Slot) (later : Option Slot) → is_busy e.1 ≡ busy → is_busy v ≡ false
    → cond b (Some e.1) later ≡ Some v → (later ≡ Some v → length (busy_names es) < length es)
    → length (cond busy (e.0 ∷ busy_names es) (busy_names es)) < length (e ∷ es)
fewer_step b false e es v later is free found rest = omega (arith, busy_names-le es)
fewer_step true true e es v later is free found rest =
    let same : e.1 ≡ v = cc in let both : true ≡ false = sym is ∙ ap is_busy same ∙ free in absurd (true≢false both)
fewer_step false true e es v later is free found rest = omega (arith, rest found)

-- where one is free
pub busy_names-fewer : (test : List ℕ → Bool) (es : List (List ℕ × Slot)) (v : Slot) → lookup test es ≡ Some v → is_busy v ≡ false
    → length (busy_names es) < length es
busy_names-fewer test [] v found free = cc
busy_names-fewer test (e ∷ es) v found free =
    fewer_step (test e.0) (is_busy e.1) e es v _ refl free found (λ later. busy_names-fewer test es v later free)

free_step : (by : Option CallRef) (n m : ℕ) (k : List ℕ) (names : List (List ℕ)) → length names ≡ n → n ≤ m
    → (is_none by || nat_lt n m) ≡ nat_lt (length (cond (is_some by) (k ∷ names) names)) (suc m)
free_step None n m k names is le = sym (lt-ltb _ _ (omega arith))
free_step (Some by) n m k names is le = both_ways _ _ (λ less. lt-ltb _ _ (omega (arith, ltb-true _ _ less))) (λ less. lt-ltb _ _ (omega (arith, ltb-true _ _ less)))

pub has_free-length : (es : List (List ℕ × Slot)) → has_free es ≡ nat_lt (length (busy_names es)) (length es)
has_free-length [] = refl
has_free-length (e ∷ es) =
    ap (λ b. is_none (taker e.1) || b) (has_free-length es) ∙ free_step (taker e.1) _ (length es) e.0 (busy_names es) refl (busy_names-le es)

-- ---- which slot is first
abbrev pub name_of : List ℕ × Slot → List ℕ
name_of e = e.0

find_same : (p q : List ℕ → Bool) (names : List (List ℕ)) → AllByRecursion (λ n. p n ≡ q n) names → find p names ≡ find q names
find_same p q [] same = refl
find_same p q (n ∷ names) same = rw (same.0, find_same p q names same.1) refl

later_same : (test : Slot → Bool) (e : List ℕ × Slot) (es : List (List ℕ × Slot)) (names : List (List ℕ)) → IsBelow e.0 names
    → AllByRecursion (λ n. passes test (slot_in n (e ∷ es)) ≡ passes test (slot_in n es)) names
later_same test e es [] below = tt
later_same test e es (n ∷ names) below =
    (ap (λ o. passes test (cond (is_eq o) (Some e.1) (slot_in n es))) (above n e.0 below.0), later_same test e es names below.1)

named_step : (b t : Bool) (p : List ℕ → Bool) (e : List ℕ × Slot) (names : List (List ℕ)) (later : Option (List ℕ × Slot))
    → (t ≡ true → b ≡ true) → p e.0 ≡ t → find p names ≡ option_map name_of later
    → find p (cond b (e.0 ∷ names) names) ≡ option_map name_of (cond t (Some e) later)
named_step true true p e names later only at rest = ap (λ (c : Bool). cond c (Some e.0) (find p names)) at
named_step true false p e names later only at rest = ap (λ (c : Bool). cond c (Some e.0) (find p names)) at ∙ rest
named_step false true p e names later only at rest = absurd (true≢false (sym (only refl)))
named_step false false p e names later only at rest = rest

-- a test that busy slots alone pass finds its first slot by the first busy name whose slot passes
pub find-busy : (test : Slot → Bool) (es : List (List ℕ × Slot)) → IsStrictlySortedBy name_cmp (keys_of es)
    → ((slot : Slot) → test slot ≡ true → is_busy slot ≡ true)
    → find (λ n. passes test (slot_in n es)) (busy_names es) ≡ option_map name_of (first test es)
find-busy test [] sorted only = refl
find-busy test (e ∷ es) sorted only =
    named_step (is_busy e.1) (test e.1) _ e (busy_names es) (first test es) (only e.1)
    (ap (λ o. passes test (cond (is_eq o) (Some e.1) (slot_in e.0 es))) (same_name e.0))
    (find_same _ _ (busy_names es) (later_same test e es (busy_names es) (below_busy e.0 es (sorted_head name_cmp e.0 (keys_of es) sorted)))
    ∙ find-busy test es (sorted_tail name_cmp e.0 (keys_of es) sorted) only)

head_step : (b : Bool) (e : List ℕ × Slot) (names : List (List ℕ)) (later : Option (List ℕ × Slot)) → slice_get names 0 ≡ option_map name_of later
    → slice_get (cond b (e.0 ∷ names) names) 0 ≡ option_map name_of (cond b (Some e) later)
head_step true e names later rest = refl
head_step false e names later rest = rest

pub busy_names-head : (es : List (List ℕ × Slot)) → slice_get (busy_names es) 0 ≡ option_map name_of (first is_busy es)
busy_names-head [] = refl
busy_names-head (e ∷ es) = head_step (is_busy e.1) e (busy_names es) (first is_busy es) (busy_names-head es)

abbrev pub taker_of : List ℕ × Slot → Option CallRef
taker_of e = taker e.1

taker_step : (by : Option CallRef) (e : List ℕ × Slot) (later : Option (List ℕ × Slot)) (rest : Option CallRef) → taker e.1 ≡ by
    → rest ≡ option_and_then taker_of later → or_later by rest ≡ option_and_then taker_of (cond (is_some by) (Some e) later)
taker_step None e later rest is same = same
taker_step (Some by) e later rest is same = sym is

pub first_taker-first : (es : List (List ℕ × Slot)) → first_taker es ≡ option_and_then taker_of (first is_busy es)
first_taker-first [] = refl
first_taker-first (e ∷ es) = taker_step (taker e.1) e (first is_busy es) (first_taker es) refl (first_taker-first es)
