-- Names in order: where one stands or would stand, and what is left without it.
use Rattle.std.proofs.Common.{◌≡◌, ℕ, ◌+◌, ◌<◌, Bool, true, false, cond, not, List, [], ◌∷◌, Option, Some, None, find, position, unwrap_or, get_or, nat_lt, remove, length, refl, sym, ap, ◌∙◌, subst, arith, add_comm, add-one}
use Rattle.std.specs.Cmp.Lexicographic.{slice_cmp, nat_list_cmp_total}
use Rattle.std.specs.List.{AllByRecursion, position_or_len, slice_get}
use Rattle.std.specs.List.Sorted.{IsStrictlySortedBy}
use Rattle.std.specs.Ordering.{is_eq, match_ordering, nat_cmp, ordering_reverse}
use Rattle.std.specs.Set.{remove_key}
use Rattle.std.specs.Str.{bytes_eq}
use Rattle.std.specs.declared.cmp.Ordering.{Ordering}
use Rattle.std.specs.declared.cmp.Ordering.TheVariants.{Less, Equal, Greater}
use Rattle.std.proofs.lemmas.Bool.{ltb-false, ltb-true}
use Rattle.std.proofs.lemmas.List.Folds.{find_at}
use Rattle.std.proofs.lemmas.List.Sums.{prefix_len-le-length}
use Rattle.std.proofs.lemmas.Map.Keys.{sorted_head, sorted_tail}
use Rattle.std.proofs.lemmas.Map.Text.{is_eq-slice_cmp}
use Rattle.std.proofs.lemmas.Option.{slice_get_past, slice_get_read}
use Rattle.inf_content.specs.BusyNames.{with_name, without_name}

abbrev pub name_cmp : List ℕ → List ℕ → Ordering
name_cmp = slice_cmp nat_cmp

-- a name that is before all of these
abbrev pub IsBelow : List ℕ → List (List ℕ) → Type 0
IsBelow name names = AllByRecursion (λ other. name_cmp name other ≡ Less) names

pub same_name : (name : List ℕ) → name_cmp name name ≡ Equal
same_name name = by (name_cmp name name) (nat_list_cmp_total.antisymm name name)
  where
    by : (o : Ordering) → o ≡ ordering_reverse o → o ≡ Equal
    by Less turned = cc
    by Equal turned = refl
    by Greater turned = cc

-- the map finds by the order, and a name is known by its bytes
pub same_by_order : (name other : List ℕ) (o : Ordering) → name_cmp name other ≡ o → bytes_eq name other ≡ is_eq o
same_by_order name other o is = sym (is_eq-slice_cmp name other) ∙ ap is_eq is

pub same_bytes : (name : List ℕ) → bytes_eq name name ≡ true
same_bytes name = same_by_order name name Equal (same_name name)

pub above : (name other : List ℕ) → name_cmp other name ≡ Less → name_cmp name other ≡ Greater
above name other less = nat_list_cmp_total.antisymm name other ∙ ap ordering_reverse less

pub below_all : (name other : List ℕ) (names : List (List ℕ)) → name_cmp name other ≡ Less → IsBelow other names → IsBelow name names
below_all name other [] less below = tt
below_all name other (n ∷ names) less below = (nat_list_cmp_total.trans name other n less below.0, below_all name other names less below.1)

-- what passes first is found, and removed, at its place
removed_after : {K : Type 0} (x : K) (xs : List K) (k : ℕ) → remove (x ∷ xs) (1 + k) ≡ x ∷ remove xs k
removed_after x xs k = rw (add_comm 1 k, add-one k) refl

pub remove_key-at : {K : Type 0} (test : K → Bool) (xs : List K) → remove_key test xs ≡ remove xs (position_or_len test xs)
remove_key-at test [] = refl
remove_key-at test (x ∷ xs) = by (test x) (remove_key-at test xs)
  where
    by : (b : Bool) → remove_key test xs ≡ remove xs (position_or_len test xs)
        → cond b xs (x ∷ remove_key test xs) ≡ remove (x ∷ xs) (cond (not b) (1 + position_or_len test xs) 0)
    by true later = refl
    by false later = ap (λ rest. x ∷ rest) later ∙ sym (removed_after x xs (position_or_len test xs))

pub remove_key-none : {K : Type 0} (test : K → Bool) (xs : List K) → find test xs ≡ None → remove_key test xs ≡ xs
remove_key-none test [] none = refl
remove_key-none test (x ∷ xs) none = by (test x) none (remove_key-none test xs)
  where
    by : (b : Bool) → cond b (Some x) (find test xs) ≡ None → (find test xs ≡ None → remove_key test xs ≡ xs) → cond b xs (x ∷ remove_key test xs) ≡ x ∷ xs
    by true found later = cc
    by false later_none later = ap (λ rest. x ∷ rest) (later later_none)

-- a name that is before all others
pub with_name-below : (name : List ℕ) (names : List (List ℕ)) → IsBelow name names → with_name name names ≡ name ∷ names
with_name-below name [] below = refl
with_name-below name (n ∷ names) below = ap (λ o. match_ordering o (name ∷ n ∷ names) (n ∷ names) (n ∷ with_name name names)) below.0

pub without_name-below : (name : List ℕ) (names : List (List ℕ)) → IsBelow name names → without_name name names ≡ names
without_name-below name [] below = refl
without_name-below name (n ∷ names) below =
    rw (same_by_order name n Less below.0) (ap (λ rest. n ∷ rest) (without_name-below name names below.1))

pub length-remove_key : {K : Type 0} (test : K → Bool) (x : K) (xs : List K) → Some x ≡ find test xs → length (remove_key test xs) < length xs
length-remove_key test x [] found = cc
length-remove_key test x (y ∷ xs) found = by (test y) found (length-remove_key test x xs)
  where
    by : (b : Bool) → Some x ≡ cond b (Some y) (find test xs) → (Some x ≡ find test xs → length (remove_key test xs) < length xs)
        → length (cond b xs (y ∷ remove_key test xs)) < length (y ∷ xs)
    by true found later = omega arith
    by false found later = omega (arith, later found)

-- what is found is not before the first
found_step : (b : Bool) (test : List ℕ → Bool) (k n name : List ℕ) (names : List (List ℕ)) → name_cmp k n ≡ Less
    → (find test names ≡ Some name → name_cmp k name ≡ Less) → cond b (Some n) (find test names) ≡ Some name → name_cmp k name ≡ Less
found_step true test k n name names less later found = let same : n ≡ name = cc in subst (λ x. name_cmp k x ≡ Less) same less
found_step false test k n name names less later found = later found

found_above : (test : List ℕ → Bool) (k name : List ℕ) (names : List (List ℕ)) → IsBelow k names → find test names ≡ Some name → name_cmp k name ≡ Less
found_above test k name [] below found = cc
found_above test k name (n ∷ names) below found =
    found_step (test n) test k n name names below.0 (found_above test k name names below.1) found

-- among names in order, what passes first is removed by its name
pub remove_key-found : (test : List ℕ → Bool) (name : List ℕ) (names : List (List ℕ)) → IsStrictlySortedBy name_cmp names
    → find test names ≡ Some name → remove_key test names ≡ without_name name names
remove_key-found test name [] sorted found = refl
remove_key-found test name (n ∷ names) sorted found =
    by (test n) found (remove_key-found test name names (sorted_tail name_cmp n names sorted))
  where
    by : (b : Bool) → cond b (Some n) (find test names) ≡ Some name
        → (find test names ≡ Some name → remove_key test names ≡ without_name name names)
        → cond b names (n ∷ remove_key test names) ≡ without_name name (n ∷ names)
    by true found later = let same : n ≡ name = cc in rw (same, same_bytes name) refl
    by false found later =
        rw (same_by_order name n Greater (above name n (found_above test n name names (sorted_head name_cmp n names sorted) found))) (ap (λ rest. n ∷ rest) (later found))

-- what `position` finds
pub record IsFound {K : Type 0} (test : K → Bool) (xs : List K) (at : ℕ) : Type 0 where
  pub first : at ≡ position_or_len test xs
  pub within : at < length xs

pub found_at : {K : Type 0} (test : K → Bool) (xs : List K) (at : ℕ) → position test xs ≡ Some at → IsFound test xs at
found_at test xs at found = by (nat_lt (position_or_len test xs) (length xs)) refl found
  where
    by : (b : Bool) → nat_lt (position_or_len test xs) (length xs) ≡ b → cond b (Some (position_or_len test xs)) None ≡ Some at → IsFound test xs at
    by true within found = let first : at ≡ position_or_len test xs = cc in record { first = first; within = rw first (ltb-true _ _ within) }
    by false past found = cc

pub found_nowhere : {K : Type 0} (test : K → Bool) (xs : List K) → position test xs ≡ None → position_or_len test xs ≡ length xs
found_nowhere test xs found = by (nat_lt (position_or_len test xs) (length xs)) refl found
  where
    by : (b : Bool) → nat_lt (position_or_len test xs) (length xs) ≡ b → cond b (Some (position_or_len test xs)) None ≡ None → position_or_len test xs ≡ length xs
    by true within found = cc
    by false past found = omega (arith, prefix_len-le-length (λ x. not (test x)) xs, ltb-false _ _ past)

pub found_or_length : {K : Type 0} (test : K → Bool) (xs : List K) (found : Option ℕ) → found ≡ position test xs → unwrap_or found (length xs) ≡ position_or_len test xs
found_or_length test xs None is = sym (found_nowhere test xs (sym is))
found_or_length test xs (Some at) is = (found_at test xs at (sym is)).first

pub find-none : {K : Type 0} (test : K → Bool) (xs : List K) → position test xs ≡ None → find test xs ≡ None
find-none test xs found = find_at test xs ∙ slice_get_past xs _ (omega (arith, found_nowhere test xs found))

-- what is read and removed at the place that `position` found
pub find_read : {K : Type 0} (test : K → Bool) (xs : List K) (at : ℕ) (x : K) → position test xs ≡ Some at → x ≡ get_or xs at x → find test xs ≡ Some x
find_read test xs at x found read =
    let f = found_at test xs at found in find_at test xs ∙ ap (slice_get xs) (sym f.first) ∙ slice_get_read xs _ at x refl f.within read

pub remove_key-found_at : {K : Type 0} (test : K → Bool) (xs : List K) (at : ℕ) → position test xs ≡ Some at → remove_key test xs ≡ remove xs at
remove_key-found_at test xs at found = remove_key-at test xs ∙ ap (remove xs) (sym (found_at test xs at found).first)
