-- Rename lists against one list of all rows in the order of adding.
use Rattle.std.proofs.Common.{◌≡◌, ℕ, Bool, true, false, cond, ◌==◌, ◌&&◌, ◌||◌, List, [], ◌∷◌, ◌++◌, refl, sym, ap, subst, ◌∙◌, ⊎_elim}
use Rattle.std.specs.Str.{bytes_eq}
use Rattle.std.proofs.lemmas.Bool.{both_ways, cases_Bool, cases_order}
use Rattle.std.proofs.lemmas.List.{append-nil}
use Rattle.std.proofs.lemmas.List.Elements.{filter-append}
use Rattle.inf_base.specs.declared.directory.DirRef.{DirRef}
use Rattle.inf_base.specs.declared.id.Id.{Id}
use Rattle.inf_base.specs.Renames.{RenameRow}
use Rattle.inf_renames.specs.Kept.{Kept}
use Rattle.inf_renames.specs.Renames.{HasRows, OthersStay, rows_of}
use Rattle.inf_base.specs.Same.{is_same_dir, is_same_id}
use Rattle.inf_base.proofs.Same.{same_id, same_id_self}
use Rattle.inf_renames.specs.Rows.{IsLeastFree, is_taken, of_parent, without_row}
use Rattle.inf_renames.proofs.RenamesFacts.{apart_back}

pub least_unique : (parent : Id) (name : List ℕ) (rows : List RenameRow) (m n : ℕ) → IsLeastFree parent name rows m → IsLeastFree parent name rows n → m ≡ n
least_unique parent name rows m n a b =
    ⊎_elim
    (λ same. same)
    (⊎_elim (λ less. absurd (both_ways _ a.free (b.least m less))) (λ more. absurd (both_ways _ b.free (a.least n more))))
    (cases_order m n)

-- what holds of a parent and of the others
of_each : (p q : Id) (P : Id → Type 0) → P p → (is_same_id p q ≡ false → P q) → P q
of_each p q P here apart = ⊎_elim (λ same. subst P (same_id p q same) here) apart (cases_Bool (is_same_id p q))

pub taken_of_parent : (p : Id) (name : List ℕ) (version : ℕ) (rows : List RenameRow) → is_taken p name version (of_parent p rows) ≡ is_taken p name version rows
taken_of_parent p name version [] = refl
taken_of_parent p name version (r ∷ rows) = by (is_same_id p r.parent) refl (taken_of_parent p name version rows)
  where
    by : (b : Bool) → is_same_id p r.parent ≡ b → is_taken p name version (of_parent p rows) ≡ is_taken p name version rows
        → is_taken p name version (cond b (r ∷ of_parent p rows) (of_parent p rows)) ≡ (b && bytes_eq r.name name && r.version == version || is_taken p name version rows)
    by true same later = rw same (ap (λ t. bytes_eq r.name name && r.version == version || t) later)
    by false apart later = later

without_of_parent : (p : Id) (dir : DirRef) (rows : List RenameRow) → of_parent p (without_row p dir rows) ≡ without_row p dir (of_parent p rows)
without_of_parent p dir [] = refl
without_of_parent p dir (r ∷ rows) = by (is_same_id p r.parent) (is_same_dir r.dir dir) refl refl (without_of_parent p dir rows)
  where
    by : (b d : Bool) → is_same_id p r.parent ≡ b → is_same_dir r.dir dir ≡ d → of_parent p (without_row p dir rows) ≡ without_row p dir (of_parent p rows)
        → of_parent p (cond (b && d) rows (r ∷ without_row p dir rows)) ≡ without_row p dir (cond b (r ∷ of_parent p rows) (of_parent p rows))
    by true true same that later = rw (same, that) refl
    by true false same that later = rw (same, that) (ap (λ rest. r ∷ rest) later)
    by false d apart that later = rw apart later

without_of_other : (p q : Id) (dir : DirRef) (rows : List RenameRow) → is_same_id p q ≡ false → of_parent q (without_row p dir rows) ≡ of_parent q rows
without_of_other p q dir [] other = refl
without_of_other p q dir (r ∷ rows) other = by (is_same_id p r.parent) (is_same_dir r.dir dir) refl (without_of_other p q dir rows other)
  where
    kept : of_parent q (without_row p dir rows) ≡ of_parent q rows → of_parent q (r ∷ without_row p dir rows) ≡ of_parent q (r ∷ rows)
    kept later = ap (λ rest. cond (is_same_id q r.parent) (r ∷ rest) rest) later

    by : (b d : Bool) → is_same_id p r.parent ≡ b → of_parent q (without_row p dir rows) ≡ of_parent q rows
        → of_parent q (cond (b && d) rows (r ∷ without_row p dir rows)) ≡ of_parent q (r ∷ rows)
    by true true same later = rw (subst (λ x. is_same_id q x ≡ false) (same_id p r.parent same) (apart_back p q other)) refl
    by true false same later = kept later
    by false d apart later = kept later

added_here : (row : RenameRow) (rows : List RenameRow) → of_parent row.parent (rows ++ row ∷ []) ≡ of_parent row.parent rows ++ row ∷ []
added_here row rows = filter-append _ rows (row ∷ []) ∙ ap (λ b. of_parent row.parent rows ++ cond b (row ∷ []) []) (same_id_self row.parent)

added_elsewhere : (q : Id) (row : RenameRow) (rows : List RenameRow) → is_same_id row.parent q ≡ false → of_parent q (rows ++ row ∷ []) ≡ of_parent q rows
added_elsewhere q row rows apart =
    filter-append _ rows (row ∷ []) ∙ ap (λ b. of_parent q rows ++ cond b (row ∷ []) []) (apart_back row.parent q apart) ∙ append-nil (of_parent q rows)

-- the list of one parent follows, and the others stay
follows : (p : Id) (lists new : List (Id × Kept)) (rows after : List RenameRow) → HasRows lists rows → OthersStay p lists new → rows_of p new ≡ of_parent p after
    → ((q : Id) → is_same_id p q ≡ false → of_parent q after ≡ of_parent q rows) → HasRows new after
follows p lists new rows after has stay here elsewhere =
    λ q. of_each p q (λ x. rows_of x new ≡ of_parent x after) here (λ apart. stay.rows q apart ∙ has q ∙ sym (elsewhere q apart))

pub taken_follows : (lists : List (Id × Kept)) (rows : List RenameRow) (p : Id) (name : List ℕ) (version : ℕ) → HasRows lists rows
    → is_taken p name version (rows_of p lists) ≡ is_taken p name version rows
taken_follows lists rows p name version has = ap (λ rs. is_taken p name version rs) (has p) ∙ taken_of_parent p name version rows

pub reserved_follows : (lists new : List (Id × Kept)) (rows : List RenameRow) (p : Id) → HasRows lists rows → rows_of p new ≡ rows_of p lists → OthersStay p lists new → HasRows new rows
reserved_follows lists new rows p has same stay = follows p lists new rows rows has stay (same ∙ has p) (λ q apart. refl)

pub added_follows : (lists new : List (Id × Kept)) (rows : List RenameRow) (row : RenameRow) → HasRows lists rows → rows_of row.parent new ≡ rows_of row.parent lists ++ row ∷ []
    → OthersStay row.parent lists new → HasRows new (rows ++ row ∷ [])
added_follows lists new rows row has more stay =
    follows row.parent lists new rows (rows ++ row ∷ []) has stay
    (more ∙ ap (λ rs. rs ++ row ∷ []) (has row.parent) ∙ sym (added_here row rows))
    (λ q apart. added_elsewhere q row rows apart)

pub removed_follows : (lists new : List (Id × Kept)) (rows : List RenameRow) (p : Id) (dir : DirRef) → HasRows lists rows → rows_of p new ≡ without_row p dir (rows_of p lists)
    → OthersStay p lists new → HasRows new (without_row p dir rows)
removed_follows lists new rows p dir has less stay =
    follows p lists new rows (without_row p dir rows) has stay
    (less ∙ ap (λ rs. without_row p dir rs) (has p) ∙ sym (without_of_parent p dir rows))
    (λ q apart. without_of_other p q dir rows apart)
