-- The rows of one parent: how many versions they can take, and what is left without the first row of a directory.
use Rattle.std.proofs.Common.{◌≡◌, ℕ, zero, suc, ◌+◌, ◌<◌, ◌≤◌, Bool, true, false, cond, not, ◌==◌, ◌&&◌, eqb, nat_lt, List, [], ◌∷◌, length, map, remove, None, Some, position, refl, sym, ap, subst, ◌∙◌, ⊎_elim, arith, add_comm, add-one}
use Rattle.std.specs.List.{list_any, position_or_len}
use Rattle.std.specs.Str.{bytes_eq}
use Rattle.std.proofs.lemmas.Bool.{cases_lt, or_cases, and_parts, or_left, or_right, false_from_ne_true, ltb-false, eqb-true, eq-eqb}
use borrow.Author.Count.{below_more}
use Rattle.std.proofs.lemmas.List.{length-map}
use Rattle.std.proofs.lemmas.Map.Steps.{le-length_from_below}
use Rattle.inf_base.specs.declared.directory.DirRef.{DirRef}
use Rattle.inf_renames.specs.declared.row.Row.{Row}
use Rattle.inf_renames.specs.Kept.{Kept, has_version, kept_least_version, least_from, without_dir}
use Rattle.inf_base.specs.Same.{is_same_dir}

abbrev versions_of : List Row → List ℕ
versions_of rows = map (λ (r : Row). r.version) rows

-- a version that a row of a name has is one of all versions
is_listed : (name : List ℕ) (v : ℕ) (rows : List Row) → has_version name v rows ≡ true → list_any (eqb v) (versions_of rows) ≡ true
is_listed name v [] has = has
is_listed name v (r ∷ rows) has =
    ⊎_elim
    (λ here. or_left _ _ (eq-eqb v r.version (sym (eqb-true r.version v (and_parts (bytes_eq r.name name) (r.version == v) here).1))))
    (λ later. or_right _ _ (is_listed name v rows later))
    (or_cases (bytes_eq r.name name && r.version == v) (has_version name v rows) has)

-- as many rows as there are versions from 0 on that are taken
pub taken_within : (name : List ℕ) (rows : List Row) (n : ℕ) → ((v : ℕ) → v < n → has_version name v rows ≡ true) → n ≤ length rows
taken_within name rows n taken =
    let below = le-length_from_below (versions_of rows) n (λ v less. is_listed name v rows (taken v less)) in
    simp length-map at below

-- past as many taken versions as there are rows, none is taken
free_past : (name : List ℕ) (rows : List Row) (n : ℕ) → length rows ≤ n → ((v : ℕ) → v < n → has_version name v rows ≡ true) → has_version name n rows ≡ false
free_past name rows n all taken =
    false_from_ne_true _ (λ also. let within = taken_within name rows (n + 1) (below_more (λ v. has_version name v rows ≡ true) n taken also) in absurd (omega arith))

-- a free number below which all are taken is what the tries find
least_from_is : (taken : ℕ → Bool) (more v n : ℕ) → v ≤ n → n ≤ v + more → ((u : ℕ) → u < n → taken u ≡ true) → taken n ≡ false → least_from taken more v ≡ n
least_from_is taken zero v n low high below free = omega arith
least_from_is taken (suc more) v n low high below free =
    ⊎_elim
    (λ (less : v < n).
    let used : taken v ≡ true = below v less in
    rw used (least_from_is taken more (v + 1) n (omega arith) (omega arith) below free))
    (λ (past : n ≤ v).
    let same : n ≡ v = omega arith in
    let here : taken v ≡ false = subst (λ k. taken k ≡ false) same free in
    rw here (sym same))
    (cases_lt v n)

pub least_found : (name : List ℕ) (kept : Kept) (n : ℕ) → ((v : ℕ) → v < n → has_version name v kept.rows ≡ true) → has_version name n kept.rows ≡ false → kept_least_version name kept ≡ n
least_found name kept n taken free =
    let within = taken_within name kept.rows n taken in
    least_from_is (λ v. has_version name v kept.rows) (length kept.rows) 0 n (omega arith) (omega arith) taken free

-- what the tries find is free or the last, and all from the first to it are taken
record IsFound (taken : ℕ → Bool) (more v n : ℕ) : Type 0 where
  low : v ≤ n
  high : n ≤ v + more
  below : (u : ℕ) → v ≤ u → u < n → taken u ≡ true
  here : n < v + more → taken n ≡ false

found_from : (taken : ℕ → Bool) (more v : ℕ) → IsFound taken more v (least_from taken more v)
found_from taken zero v = record { low = omega arith; high = omega arith; below = λ u after before. absurd (omega arith); here = λ less. absurd (omega arith) }
found_from taken (suc more) v = by (taken v) refl (found_from taken more (v + 1))
  where
    by : (b : Bool) → taken v ≡ b → IsFound taken more (v + 1) (least_from taken more (v + 1)) → IsFound taken (suc more) v (cond b (least_from taken more (v + 1)) v)
    by true used next = record {
      low = let low = next.low in omega arith;
      high = let high = next.high in omega arith;
      below = λ u after before. ⊎_elim
          (λ (past : v < u). next.below u (omega arith) before)
          (λ (first : u ≤ v). let same : v ≡ u = omega arith in subst (λ k. taken k ≡ true) same used)
          (cases_lt v u);
      here = λ less. next.here (omega arith);
    }
    by false free next = record { low = omega arith; high = omega arith; below = λ u after before. absurd (omega arith); here = λ less. free }

module _ (name : List ℕ) (kept : Kept) where
  found : IsFound (λ v. has_version name v kept.rows) (length kept.rows) 0 (kept_least_version name kept)
  found = found_from (λ v. has_version name v kept.rows) (length kept.rows) 0

  pub below_least : (v : ℕ) → v < kept_least_version name kept → has_version name v kept.rows ≡ true
  below_least v less = found.below v (omega arith) less

  pub least_is_free : has_version name (kept_least_version name kept) kept.rows ≡ false
  least_is_free = ⊎_elim
      (λ (less : kept_least_version name kept < length kept.rows). found.here (omega arith))
      (λ (last : length kept.rows ≤ kept_least_version name kept). free_past name kept.rows _ last below_least)
      (cases_lt _ _)

abbrev place_of : DirRef → List Row → ℕ
place_of dir rows = position_or_len (λ (r : Row). is_same_dir r.dir dir) rows

removed_after : (r : Row) (rows : List Row) (k : ℕ) → remove (r ∷ rows) (1 + k) ≡ r ∷ remove rows k
removed_after r rows k = rw (add_comm 1 k, add-one k) refl

without_place : (dir : DirRef) (rows : List Row) → without_dir dir rows ≡ remove rows (place_of dir rows)
without_place dir [] = refl
without_place dir (r ∷ rows) = by (is_same_dir r.dir dir) (without_place dir rows)
  where
    by : (b : Bool) → without_dir dir rows ≡ remove rows (place_of dir rows) → cond b rows (r ∷ without_dir dir rows) ≡ remove (r ∷ rows) (cond (not b) (1 + place_of dir rows) 0)
    by true later = refl
    by false later = ap (λ rest. r ∷ rest) later ∙ sym (removed_after r rows (place_of dir rows))

-- the first row of the directory goes
pub without_found : (dir : DirRef) (rows : List Row) (i : ℕ) → position (λ (r : Row). is_same_dir r.dir dir) rows ≡ Some i → without_dir dir rows ≡ remove rows i
without_found dir rows i found = without_place dir rows ∙ ap (λ k. remove rows k) (at (nat_lt (place_of dir rows) (length rows)) found)
  where
    at : (b : Bool) → cond b (Some (place_of dir rows)) None ≡ Some i → place_of dir rows ≡ i
    at true here = cc
    at false here = absurd (cc)

within_place : (dir : DirRef) (rows : List Row) → length rows ≤ place_of dir rows → without_dir dir rows ≡ rows
within_place dir [] past = refl
within_place dir (r ∷ rows) past = by (is_same_dir r.dir dir) past (within_place dir rows)
  where
    by : (b : Bool) → length (r ∷ rows) ≤ cond (not b) (1 + place_of dir rows) 0 → (length rows ≤ place_of dir rows → without_dir dir rows ≡ rows) → cond b rows (r ∷ without_dir dir rows) ≡ r ∷ rows
    by true none later = absurd (omega arith)
    by false further later = ap (λ rest. r ∷ rest) (later (omega arith))

-- where there is none, all rows stay
without_missing : (dir : DirRef) (rows : List Row) → position (λ (r : Row). is_same_dir r.dir dir) rows ≡ None → without_dir dir rows ≡ rows
without_missing dir rows missing = within_place dir rows (ltb-false _ _ (at (nat_lt (place_of dir rows) (length rows)) missing))
  where
    at : (b : Bool) → cond b (Some (place_of dir rows)) None ≡ None → b ≡ false
    at true here = absurd (cc)
    at false here = refl

pub kept_whole : (dir : DirRef) (k : Kept) (rows : List Row) → rows ≡ k.rows → position (λ (r : Row). is_same_dir r.dir dir) rows ≡ None → k ≡ record { rows = without_dir dir k.rows; spare = k.spare }
kept_whole dir k rows same missing =
    let all = without_missing dir k.rows (subst (λ rs. position (λ (r : Row). is_same_dir r.dir dir) rs ≡ None) same missing) in
    ap (λ rs. record k { rows = rs }) (sym all)
