-- The rename lists of all parents, as one of them changes.
use Rattle.std.proofs.Common.{◌≡◌, ℕ, ◌+◌, ◌≤◌, Bool, true, false, cond, List, [], ◌∷◌, ◌++◌, map, Some, refl, sym, ap, subst, ◌∙◌, arith}
use Rattle.std.specs.BTreeMap.{is_at}
use Rattle.std.specs.Map.{lookup}
use Rattle.std.specs.Option.{unwrap_or}
use Rattle.std.specs.Ordering.{is_eq, match_ordering}
use Rattle.std.specs.declared.cmp.Ordering.{Ordering}
use Rattle.std.specs.declared.cmp.Ordering.TheVariants.{Less, Equal, Greater}
use Rattle.std.proofs.lemmas.Bool.{both_ways, false_from_ne_true}
use Rattle.std.proofs.lemmas.List.{map-append}
use Rattle.std.proofs.lemmas.Map.Text.{is_eq-slice_cmp}
use Rattle.inf_base.specs.declared.directory.DirRef.{DirRef}
use Rattle.inf_base.specs.declared.id.Id.{Id}
use Rattle.inf_renames.specs.declared.row.Row.{Row}
use Rattle.inf_renames.specs.Kept.{Kept, has_version, kept_with_room, kept_with_row, kept_without, nothing_kept, without_dir}
use Rattle.inf_renames.specs.Renames.{OthersStay, forgotten, id_cmp, kept_of, least_version, row_in, rows_of, spare_of, with_kept, with_room, with_row}
use Rattle.inf_base.specs.Same.{is_same_dir, is_same_id}
use Rattle.inf_base.proofs.Same.{same_id, same_id_self}
use Rattle.inf_renames.specs.Rows.{IsLeastFree, is_taken, without_row}
use Rattle.inf_renames.proofs.KeptFacts.{below_least, least_is_free}

pub same_test : (p q : Id) → is_at (id_cmp p) q ≡ is_same_id p q
same_test p q = is_eq-slice_cmp p.bytes q.bytes

pub apart_back : (p q : Id) → is_same_id p q ≡ false → is_same_id q p ≡ false
apart_back p q apart = false_from_ne_true _ (λ same. both_ways _ apart (subst (λ x. is_same_id x q ≡ true) (same_id q p same) (same_id_self q)))

-- a version is taken where the parent's list has it
taken_in : (p : Id) (name : List ℕ) (version : ℕ) (rows : List Row) → is_taken p name version (map (row_in p) rows) ≡ has_version name version rows
taken_in p name version [] = refl
taken_in p name version (r ∷ rows) = rw (same_id_self p, taken_in p name version rows) refl

without_in : (p : Id) (dir : DirRef) (rows : List Row) → without_row p dir (map (row_in p) rows) ≡ map (row_in p) (without_dir dir rows)
without_in p dir [] = refl
without_in p dir (r ∷ rows) = rw (same_id_self p) (by (is_same_dir r.dir dir) (without_in p dir rows))
  where
    by : (b : Bool) → without_row p dir (map (row_in p) rows) ≡ map (row_in p) (without_dir dir rows)
        → cond b (map (row_in p) rows) (row_in p r ∷ without_row p dir (map (row_in p) rows)) ≡ map (row_in p) (cond b rows (r ∷ without_dir dir rows))
    by true later = refl
    by false later = ap (λ rest. row_in p r ∷ rest) later

pub least_version_free : (p : Id) (name : List ℕ) (lists : List (Id × Kept)) → IsLeastFree p name (rows_of p lists) (least_version p name lists)
least_version_free p name lists = let kept = kept_of p lists in record {
  free = taken_in p name (least_version p name lists) kept.rows ∙ least_is_free name kept;
  least = λ v less. taken_in p name v kept.rows ∙ below_least name kept v less;
}

pub least_version_found : (p : Id) (name : List ℕ) (lists : List (Id × Kept)) (n : ℕ) → n ≡ least_version p name lists → IsLeastFree p name (rows_of p lists) n
least_version_found p name lists n is = subst (λ v. IsLeastFree p name (rows_of p lists) v) (sym is) (least_version_free p name lists)

module _ (p : Id) (w : Kept) where
  with_kept_found : (lists : List (Id × Kept)) → lookup (is_same_id p) (with_kept p w lists) ≡ Some w
  with_kept_found [] = rw (same_id_self p) refl
  with_kept_found (e ∷ lists) = by (id_cmp p e.0) (sym (same_test p e.0)) (with_kept_found lists)
    where
      by : (o : Ordering) → is_same_id p e.0 ≡ is_eq o → lookup (is_same_id p) (with_kept p w lists) ≡ Some w
          → lookup (is_same_id p) (match_ordering o ((p, w) ∷ e ∷ lists) ((e.0, w) ∷ lists) (e ∷ with_kept p w lists)) ≡ Some w
      by Less test later = rw (same_id_self p) refl
      by Equal test later = rw test refl
      by Greater test later = rw test later

  with_kept_apart : (q : Id) (lists : List (Id × Kept)) → is_same_id q p ≡ false → lookup (is_same_id q) (with_kept p w lists) ≡ lookup (is_same_id q) lists
  with_kept_apart q [] apart = rw apart refl
  with_kept_apart q (e ∷ lists) apart = by (id_cmp p e.0) (sym (same_test p e.0)) (with_kept_apart q lists apart)
    where
      by : (o : Ordering) → is_same_id p e.0 ≡ is_eq o → lookup (is_same_id q) (with_kept p w lists) ≡ lookup (is_same_id q) lists
          → lookup (is_same_id q) (match_ordering o ((p, w) ∷ e ∷ lists) ((e.0, w) ∷ lists) (e ∷ with_kept p w lists)) ≡ lookup (is_same_id q) (e ∷ lists)
      by Less test later = rw apart refl
      by Equal test later = let here : is_same_id q e.0 ≡ false = subst (λ x. is_same_id q x ≡ false) (same_id p e.0 test) apart in rw here refl
      by Greater test later = ap (λ o. cond (is_same_id q e.0) (Some e.1) o) later

-- of the parent this is kept, and of the others what was
record IsWritten (p : Id) (w : Kept) (lists new : List (Id × Kept)) : Type 0 where
  here : kept_of p new ≡ w
  others : (q : Id) → is_same_id p q ≡ false → kept_of q new ≡ kept_of q lists

with_kept_written : (p : Id) (w : Kept) (lists : List (Id × Kept)) → IsWritten p w lists (with_kept p w lists)
with_kept_written p w lists = record {
  here = ap (λ o. unwrap_or o nothing_kept) (with_kept_found p w lists);
  others = λ q apart. ap (λ o. unwrap_or o nothing_kept) (with_kept_apart p w q lists (apart_back p q apart));
}

forgotten_here : (p : Id) (dir : DirRef) (lists : List (Id × Kept)) → kept_of p (forgotten p dir lists) ≡ kept_without dir (kept_of p lists)
forgotten_here p dir [] = refl
forgotten_here p dir (e ∷ lists) = by (is_same_id p e.0) refl (forgotten_here p dir lists)
  where
    by : (b : Bool) → is_same_id p e.0 ≡ b → kept_of p (forgotten p dir lists) ≡ kept_without dir (kept_of p lists)
        → kept_of p (cond b ((e.0, kept_without dir e.1) ∷ lists) (e ∷ forgotten p dir lists)) ≡ kept_without dir (unwrap_or (cond b (Some e.1) (lookup (is_same_id p) lists)) nothing_kept)
    by true test later = rw test refl
    by false test later = rw test later

forgotten_apart : (p q : Id) (dir : DirRef) (lists : List (Id × Kept)) → is_same_id q p ≡ false → lookup (is_same_id q) (forgotten p dir lists) ≡ lookup (is_same_id q) lists
forgotten_apart p q dir [] apart = refl
forgotten_apart p q dir (e ∷ lists) apart = by (is_same_id p e.0) refl (forgotten_apart p q dir lists apart)
  where
    by : (b : Bool) → is_same_id p e.0 ≡ b → lookup (is_same_id q) (forgotten p dir lists) ≡ lookup (is_same_id q) lists
        → lookup (is_same_id q) (cond b ((e.0, kept_without dir e.1) ∷ lists) (e ∷ forgotten p dir lists)) ≡ lookup (is_same_id q) (e ∷ lists)
    by true test later = let here : is_same_id q e.0 ≡ false = subst (λ x. is_same_id q x ≡ false) (same_id p e.0 test) apart in rw here refl
    by false test later = ap (λ o. cond (is_same_id q e.0) (Some e.1) o) later

forgotten_written : (p : Id) (dir : DirRef) (lists : List (Id × Kept)) → IsWritten p (kept_without dir (kept_of p lists)) lists (forgotten p dir lists)
forgotten_written p dir lists = record {
  here = forgotten_here p dir lists;
  others = λ q apart. ap (λ o. unwrap_or o nothing_kept) (forgotten_apart p q dir lists (apart_back p q apart));
}

module _ (p : Id) (w : Kept) (lists new : List (Id × Kept)) (change : IsWritten p w lists new) where
  new_rows : rows_of p new ≡ map (row_in p) w.rows
  new_rows = ap (λ (x : Kept). map (row_in p) x.rows) change.here

  new_spare : spare_of p new ≡ w.spare
  new_spare = ap (λ (x : Kept). x.spare) change.here

  others_stay : OthersStay p lists new
  others_stay = record {
    rows = λ other apart. ap (λ (x : Kept). map (row_in other) x.rows) (change.others other apart);
    spare = λ other apart. ap (λ (x : Kept). x.spare) (change.others other apart);
  }

module _ (p : Id) (lists : List (Id × Kept)) where
  abbrev kept : Kept
  kept = kept_of p lists

  room_made : IsWritten p (kept_with_room kept) lists (with_room p lists)
  room_made = with_kept_written p (kept_with_room kept) lists

  pub room_rows : rows_of p (with_room p lists) ≡ rows_of p lists
  room_rows = new_rows p _ lists _ room_made

  pub room_spare : spare_of p (with_room p lists) ≡ spare_of p lists + 1
  room_spare = new_spare p _ lists _ room_made

  pub room_others : OthersStay p lists (with_room p lists)
  room_others = others_stay p _ lists _ room_made

  module _ (r : Row) where
    row_added : IsWritten p (kept_with_row r kept) lists (with_row p r lists)
    row_added = with_kept_written p (kept_with_row r kept) lists

    pub row_rows : rows_of p (with_row p r lists) ≡ rows_of p lists ++ row_in p r ∷ []
    row_rows = new_rows p _ lists _ row_added ∙ map-append (row_in p) kept.rows (r ∷ [])

    pub row_spare : 1 ≤ spare_of p lists → spare_of p (with_row p r lists) + 1 ≡ spare_of p lists
    row_spare some = let less = new_spare p _ lists _ row_added in omega (arith, less)

    pub row_others : OthersStay p lists (with_row p r lists)
    row_others = others_stay p _ lists _ row_added

  module _ (dir : DirRef) where
    row_gone : IsWritten p (kept_without dir kept) lists (forgotten p dir lists)
    row_gone = forgotten_written p dir lists

    pub forgotten_rows : rows_of p (forgotten p dir lists) ≡ without_row p dir (rows_of p lists)
    forgotten_rows = new_rows p _ lists _ row_gone ∙ sym (without_in p dir kept.rows)

    pub forgotten_spare : spare_of p (forgotten p dir lists) ≡ spare_of p lists
    forgotten_spare = new_spare p _ lists _ row_gone

    pub forgotten_others : OthersStay p lists (forgotten p dir lists)
    forgotten_others = others_stay p _ lists _ row_gone
