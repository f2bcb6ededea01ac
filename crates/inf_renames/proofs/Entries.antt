-- The entries of the map of rename lists after a write.
use Rattle.std.proofs.Common.{◌≡◌, Bool, true, false, cond, List, [], ◌∷◌, Option, None, Some, refl, sym, ap, subst, ◌∙◌}
use Rattle.std.specs.BTreeMap.{BTreeMap, WritesThrough, get_by, is_at}
use Rattle.std.specs.Cmp.Lexicographic.{on_texts}
use Rattle.std.specs.List.Sorted.{IsStrictlySortedBy}
use Rattle.std.specs.Map.{keys_of, lookup, set_value}
use Rattle.std.specs.Option.{unwrap_or}
use Rattle.std.specs.Ordering.{is_eq, match_ordering}
use Rattle.std.specs.declared.cmp.Ordering.{Ordering}
use Rattle.std.specs.declared.cmp.Ordering.TheVariants.{Less, Equal, Greater}
use Rattle.std.proofs.lemmas.Map.{lookup-none}
use Rattle.std.proofs.lemmas.Map.Entries.{none_below_head}
use Rattle.std.proofs.lemmas.Map.Steps.{set_value_same}
use Rattle.inf_base.specs.declared.directory.DirRef.{DirRef}
use Rattle.inf_base.specs.declared.id.Id.{Id}
use Rattle.inf_base.specs.Same.{is_same_id}
use Rattle.inf_renames.specs.Kept.{Kept, kept_without, nothing_kept}
use Rattle.inf_renames.specs.Renames.{forgotten, id_cmp, kept_of, with_kept}
use Rattle.inf_renames.proofs.RenamesFacts.{same_test}

abbrev Found : Id → Kept → List (Id × Kept) → Type 0
Found p k es = lookup (is_at (id_cmp p)) es ≡ Some k

-- among keys in order, what replaces the value that is found goes to its place
set_in_place : (p : Id) (k w : Kept) (es : List (Id × Kept)) → IsStrictlySortedBy id_cmp (keys_of es) → Found p k es → set_value (is_at (id_cmp p)) es w ≡ with_kept p w es
unfolding IsStrictlySortedBy
set_in_place p k w [] sorted found = absurd (cc)
set_in_place p k w (e ∷ es) sorted found = by (id_cmp p e.0) refl found (set_in_place p k w es sorted.1)
  where
    by : (o : Ordering) → id_cmp p e.0 ≡ o → cond (is_eq o) (Some e.1) (lookup (is_at (id_cmp p)) es) ≡ Some k → (Found p k es → set_value (is_at (id_cmp p)) es w ≡ with_kept p w es)
        → cond (is_eq o) ((e.0, w) ∷ es) (e ∷ set_value (is_at (id_cmp p)) es w) ≡ match_ordering o ((p, w) ∷ e ∷ es) ((e.0, w) ∷ es) (e ∷ with_kept p w es)
    by Less before here later =
        let none = lookup-none (is_at (id_cmp p)) (e ∷ es) (none_below_head (on_texts (λ (q : Id). q.bytes)) p e es sorted before) in
        absurd (cc (none, found))
    by Equal same here later = refl
    by Greater after here later = ap (λ rest. e ∷ rest) (later here)

forgotten_found : (p : Id) (dir : DirRef) (k : Kept) (es : List (Id × Kept)) → Found p k es → set_value (is_at (id_cmp p)) es (kept_without dir k) ≡ forgotten p dir es
forgotten_found p dir k [] found = refl
forgotten_found p dir k (e ∷ es) found = by (is_at (id_cmp p) e.0) (is_same_id p e.0) (same_test p e.0) found (forgotten_found p dir k es)
  where
    by : (b d : Bool) → b ≡ d → cond b (Some e.1) (lookup (is_at (id_cmp p)) es) ≡ Some k → (Found p k es → set_value (is_at (id_cmp p)) es (kept_without dir k) ≡ forgotten p dir es)
        → cond b ((e.0, kept_without dir k) ∷ es) (e ∷ set_value (is_at (id_cmp p)) es (kept_without dir k)) ≡ cond d ((e.0, kept_without dir e.1) ∷ es) (e ∷ forgotten p dir es)
    by true true same here later = let is : k ≡ e.1 = cc in rw is refl
    by false false same here later = ap (λ rest. e ∷ rest) (later here)
    by true false same here later = absurd (cc)
    by false true same here later = absurd (cc)

forgotten_missing : (p : Id) (dir : DirRef) (es : List (Id × Kept)) → lookup (is_at (id_cmp p)) es ≡ None → es ≡ forgotten p dir es
forgotten_missing p dir [] missing = refl
forgotten_missing p dir (e ∷ es) missing = by (is_at (id_cmp p) e.0) (is_same_id p e.0) (same_test p e.0) missing (forgotten_missing p dir es)
  where
    by : (b d : Bool) → b ≡ d → cond b (Some e.1) (lookup (is_at (id_cmp p)) es) ≡ None → (lookup (is_at (id_cmp p)) es ≡ None → es ≡ forgotten p dir es)
        → e ∷ es ≡ cond d ((e.0, kept_without dir e.1) ∷ es) (e ∷ forgotten p dir es)
    by true d same here later = absurd (cc)
    by false false same here later = ap (λ rest. e ∷ rest) (later here)
    by false true same here later = absurd (cc)

same_found : (p : Id) (es : List (Id × Kept)) → lookup (is_at (id_cmp p)) es ≡ lookup (is_same_id p) es
same_found p [] = refl
same_found p (e ∷ es) = rw (same_test p e.0, same_found p es) refl

-- what the map finds is what is kept
pub kept_found : (p : Id) (m : BTreeMap Id Kept) (old : List (Id × Kept)) (o : Option Kept) → m.entries ≡ old → o ≡ get_by (id_cmp p) m → kept_of p old ≡ unwrap_or o nothing_kept
kept_found p m old o view is = ap (λ es. kept_of p es) (sym view) ∙ ap (λ x. unwrap_or x nothing_kept) (sym (same_found p m.entries) ∙ sym is)

module _ (p : Id) (m n : BTreeMap Id Kept) (old : List (Id × Kept)) (k w : Kept) (view : m.entries ≡ old) (is : Some k ≡ get_by (id_cmp p) m) (through : WritesThrough id_cmp (id_cmp p) m w n) where
  -- what was found is replaced
  pub written : n.entries ≡ with_kept p w old
  written = through.0 ∙ set_in_place p k w m.entries (subst (λ ks. IsStrictlySortedBy id_cmp ks) through.1 through.4) (sym is) ∙ ap (λ es. with_kept p w es) view

  -- what was read is written back
  pub unchanged : w ≡ k → n.entries ≡ old
  unchanged same = through.0 ∙ set_value_same (is_at (id_cmp p)) m.entries w (sym is ∙ ap Some (sym same)) ∙ view

  pub without : (dir : DirRef) → w ≡ kept_without dir k → n.entries ≡ forgotten p dir old
  without dir less = through.0 ∙ ap (λ x. set_value (is_at (id_cmp p)) m.entries x) less ∙ forgotten_found p dir k m.entries (sym is) ∙ ap (λ es. forgotten p dir es) view

pub left : (p : Id) (dir : DirRef) (m : BTreeMap Id Kept) (old : List (Id × Kept)) → m.entries ≡ old → None ≡ get_by (id_cmp p) m → m.entries ≡ forgotten p dir old
left p dir m old view missing = forgotten_missing p dir m.entries (sym missing) ∙ ap (λ es. forgotten p dir es) view
