-- The table of clients: where a name stands, and what a further client and a further call change.
use Rattle.std.proofs.Common.{◌≡◌, ℕ, zero, suc, ◌+◌, ◌<◌, ◌≤◌, Bool, true, false, ◌||◌, not, cond, nat_lt, List, [], ◌∷◌, ◌++◌, length, map, Some, None, position, set, get_or, refl, sym, ap, ◌∙◌, arith}
use Rattle.std.specs.List.{position_or_len, list_any}
use Rattle.std.specs.Str.{bytes_eq}
use Rattle.std.specs.declared.vec.Vec.{Vec}
use Rattle.std.proofs.lemmas.Bool.{ltb-false}
use Rattle.std.proofs.lemmas.List.{length-append, length-map, map-append}
use Rattle.std.proofs.lemmas.List.Sums.{sum_by-cons, sum_by-append}
use Rattle.indexmap.specs.IndexSet.{insert_key}
use Rattle.inf_base.specs.declared.call.Call.{Call}
use Rattle.inf_base.specs.declared.setup.ClientLine.{ClientLine}
use Rattle.inf_base.specs.declared.limits.TheConstants.{MOST_CLIENTS}
use Rattle.inf_base.specs.Setup.{names_of, call_count}
use Rattle.inf_script.specs.CallLine.{calling}
use Rattle.inf_script.specs.ClientTable.{spelt, IsTable}
use Rattle.inf_script.specs.Draft.{place_of}

position_or_len-map : {X Y : Type 0} (p : Y → Bool) (f : X → Y) (xs : List X) → position_or_len p (map f xs) ≡ position_or_len (λ x. p (f x)) xs
position_or_len-map p f [] = refl
position_or_len-map p f (x ∷ xs) = rw (position_or_len-map p f xs) refl

position-map : {X Y : Type 0} (p : Y → Bool) (f : X → Y) (xs : List X) → position p (map f xs) ≡ position (λ x. p (f x)) xs
position-map p f xs = rw (position_or_len-map p f xs, length-map xs f) refl

-- the place of a key is that of the line with its name
pub found_place : {A : Type 0} (name : List ℕ) (keys : List (Vec ℕ A)) (lines clients : List ClientLine) → spelt keys ≡ names_of lines → lines ≡ clients → position (λ (key : Vec ℕ A). bytes_eq name key.items) keys ≡ place_of name clients
found_place {A} name keys lines clients same seen =
    sym (position-map (bytes_eq name) (λ (key : Vec ℕ A). key.items) keys) ∙ ap (position (bytes_eq name)) same ∙ ap (place_of name) seen

any_step : (b : Bool) (n m : ℕ) (r : Bool) → suc n ≤ cond (not b) (1 + m) 0 → (n ≤ m → r ≡ false) → (b || r) ≡ false
any_step true n m r over rest = absurd (omega arith)
any_step false n m r over rest = rest (omega arith)

passed_over : {X : Type 0} (p : X → Bool) (xs : List X) → length xs ≤ position_or_len p xs → list_any p xs ≡ false
passed_over p [] over = refl
passed_over p (x ∷ xs) over = any_step (p x) (length xs) (position_or_len p xs) (list_any p xs) over (λ further. passed_over p xs further)

-- what has no place is not there
pub none_at : {X : Type 0} (p : X → Bool) (xs : List X) → position p xs ≡ None → list_any p xs ≡ false
none_at p xs missed = by_test (nat_lt (position_or_len p xs) (length xs)) refl missed where
  by_test : (b : Bool) → nat_lt (position_or_len p xs) (length xs) ≡ b → cond b (Some (position_or_len p xs)) None ≡ None → list_any p xs ≡ false
  by_test true within at = cc
  by_test false past at = passed_over p xs (ltb-false _ _ past)

-- a new name goes last
pub keys_with : {A : Type 0} (key : Vec ℕ A) (keys : List (Vec ℕ A)) (lines clients : List ClientLine) (name : List ℕ) → key.items ≡ name → spelt keys ≡ names_of lines → lines ≡ clients → place_of name clients ≡ None
    → spelt (insert_key (λ (x y : Vec ℕ A). bytes_eq x.items y.items) keys key) ≡ names_of clients ++ name ∷ []
keys_with {A} key keys lines clients name made same seen unknown =
    let missed : list_any (λ (k : Vec ℕ A). bytes_eq key.items k.items) keys ≡ false = none_at _ keys (ap (λ (n : List ℕ). position (λ (k : Vec ℕ A). bytes_eq n k.items) keys) made ∙ found_place name keys lines clients same seen ∙ unknown) in
    rw missed (map-append (λ (k : Vec ℕ A). k.items) keys (key ∷ []) ∙ rw (same, seen, made) refl)

-- a write of the client's line with one call more
pub calling-set : (place : ℕ) (call : Call) (xs : List ClientLine) (first grown : ClientLine) → place < length xs
    → first ≡ get_or xs place first → grown ≡ record first { calls = first.calls ++ call ∷ [] } → set xs place grown ≡ calling place call xs
calling-set place call [] first grown within at is = absurd (omega arith)
calling-set zero call (x ∷ xs) first grown within at is = rw (is, at) refl
calling-set (suc place) call (x ∷ xs) first grown within at is = ap (λ (rest : List ClientLine). x ∷ rest) (calling-set place call xs first grown (omega arith) at is)

pub names_of-calling : (place : ℕ) (call : Call) (xs : List ClientLine) → names_of (calling place call xs) ≡ names_of xs
names_of-calling place call [] = refl
names_of-calling zero call (x ∷ xs) = refl
names_of-calling (suc place) call (x ∷ xs) = ap (λ (rest : List (List ℕ)). x.name ∷ rest) (names_of-calling place call xs)

pub length-calling : (place : ℕ) (call : Call) (xs : List ClientLine) → length (calling place call xs) ≡ length xs
length-calling place call [] = refl
length-calling zero call (x ∷ xs) = refl
length-calling (suc place) call (x ∷ xs) = ap suc (length-calling place call xs)

pub call_count-calling : (place : ℕ) (call : Call) (xs : List ClientLine) → place < length xs → call_count (calling place call xs) ≡ call_count xs + 1
call_count-calling place call [] within = absurd (omega arith)
call_count-calling zero call (x ∷ xs) within = omega (arith, length-append x.calls (call ∷ []), sum_by-cons (λ (c : ClientLine). length c.calls) x xs, sum_by-cons (λ (c : ClientLine). length c.calls) (record x { calls = x.calls ++ call ∷ [] }) xs)
call_count-calling (suc place) call (x ∷ xs) within = omega (arith, call_count-calling place call xs (omega arith), sum_by-cons (λ (c : ClientLine). length c.calls) x xs, sum_by-cons (λ (c : ClientLine). length c.calls) x (calling place call xs))

-- the table's facts stay where a call is added
pub calling-kept : {A : Type 0} (names : List (Vec ℕ A)) (lines : List ClientLine) (calls place : ℕ) (call : Call) → place < length lines → IsTable names lines calls → IsTable names (calling place call lines) (calls + 1)
calling-kept names lines calls place call within table = record {
  named = table.named ∙ sym (names_of-calling place call lines);
  counted = ap (λ (n : ℕ). n + 1) table.counted ∙ sym (call_count-calling place call lines within);
  few = rw (length-calling place call lines) table.few;
}

-- and where a client is added whose name was unknown
pub client-kept : {A : Type 0} (key : Vec ℕ A) (names new_names : List (Vec ℕ A)) (lines new_lines clients : List ClientLine) (calls : ℕ) (line : ClientLine) (name : List ℕ)
    → IsTable names lines calls → lines ≡ clients → place_of name clients ≡ None → length clients < MOST_CLIENTS
    → key.items ≡ name → line.name ≡ name → line.calls ≡ [] → new_names ≡ insert_key (λ (x y : Vec ℕ A). bytes_eq x.items y.items) names key → new_lines ≡ lines ++ line ∷ [] → IsTable new_names new_lines calls
client-kept {A} key names new_names lines new_lines clients calls line name table seen unknown room made named fresh put grown =
    let counts = sum_by-append (λ (c : ClientLine). length c.calls) lines (line ∷ []) in
    let single = sum_by-cons (λ (c : ClientLine). length c.calls) line [] in
    let none : length line.calls ≡ 0 = ap length fresh in
    let total : call_count lines ≡ call_count (lines ++ line ∷ []) = omega arith in
    let longer = length-append lines (line ∷ []) in
    let as_long : length lines ≡ length clients = ap length seen in
    let below : length (lines ++ line ∷ []) ≤ MOST_CLIENTS = omega arith in
    record {
      named = ap spelt put ∙ keys_with key names lines clients name made table.named seen unknown ∙ ap (λ (xs : List ClientLine). names_of xs ++ name ∷ []) (sym seen)
          ∙ ap (λ (n : List ℕ). names_of lines ++ n ∷ []) (sym named) ∙ sym (map-append (λ (c : ClientLine). c.name) lines (line ∷ [])) ∙ ap names_of (sym grown);
      counted = table.counted ∙ total ∙ ap call_count (sym grown);
      few = rw grown below;
    }
