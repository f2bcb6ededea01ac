-- What is found after a node is placed, and after a name is cut off.
use Rattle.std.proofs.Common.{◌≡◌, ℕ, Bool, true, false, cond, List, Option, Some, None, refl, sym, ap, ◌∙◌, subst}
use Rattle.std.specs.Cmp.Lexicographic.{slice_cmp}
use Rattle.std.specs.List.{AllByRecursion}
use Rattle.std.specs.List.Sorted.{IsStrictlySortedBy}
use Rattle.std.specs.Ordering.{nat_cmp, match_ordering, is_eq}
use Rattle.std.specs.Str.{bytes_eq}
use Rattle.std.specs.declared.cmp.Ordering.{Ordering}
use Rattle.std.specs.declared.cmp.Ordering.TheVariants.{Less, Equal, Greater}
use Rattle.std.proofs.lemmas.Map.Text.{is_eq-slice_cmp}
use Rattle.std.proofs.lemmas.Slice.Eq.{bytes_eq-Decides}
use Rattle.inf_tree.specs.Tree.{Node, Entries, none, entry, names_of, found, placed, without}

-- two names that compare so are equal, or are not
equal_by : (a b : List ℕ) (o : Ordering) → slice_cmp nat_cmp a b ≡ o → bytes_eq a b ≡ is_eq o
equal_by a b o e = sym (is_eq-slice_cmp a b) ∙ ap is_eq e

either_same : {A : Type 0} (b : Bool) (x : A) → x ≡ cond b x x
either_same true x = refl
either_same false x = refl

-- two tests that do not both hold may be made in either order
either_first : {A : Type 0} (a b : Bool) (x y z : A) → (a ≡ true → b ≡ true → ⊥) → cond a x (cond b y z) ≡ cond b y (cond a x z)
either_first true true x y z apart = absurd (apart refl refl)
either_first true false x y z apart = refl
either_first false b x y z apart = refl

apart : (q a b : List ℕ) → bytes_eq a b ≡ false → bytes_eq q b ≡ true → bytes_eq q a ≡ true → ⊥
apart q a b differ to_b to_a =
    let q_is_b : q ≡ b = (bytes_eq-Decides q b).0 to_b in
    let q_is_a : q ≡ a = (bytes_eq-Decides q a).0 to_a in
    let same : bytes_eq a b ≡ true = (bytes_eq-Decides a b).1 (sym q_is_a ∙ q_is_b) in
    cc

pub found-placed : (q name : List ℕ) (node : Node) (entries : Entries) → found q (placed name node entries) ≡ cond (bytes_eq q name) (Some node) (found q entries)
found-placed q name node none = refl
found-placed q name node (entry other old rest) = by (slice_cmp nat_cmp name other) refl (found-placed q name node rest)
  where
    again : (b : Bool) → cond b (Some node) (found q rest) ≡ cond b (Some node) (cond b (Some old) (found q rest))
    again true = refl
    again false = refl

    by : (o : Ordering) → slice_cmp nat_cmp name other ≡ o → found q (placed name node rest) ≡ cond (bytes_eq q name) (Some node) (found q rest) → found q (match_ordering o (entry name node (entry other old rest)) (entry other node rest) (entry other old (placed name node rest))) ≡ cond (bytes_eq q name) (Some node) (cond (bytes_eq q other) (Some old) (found q rest))
    by Less e later = refl
    by Equal e later =
        let same : other ≡ name = sym ((bytes_eq-Decides name other).0 (equal_by name other Equal e)) in
        subst (λ (n : List ℕ). cond (bytes_eq q n) (Some node) (found q rest) ≡ cond (bytes_eq q name) (Some node) (cond (bytes_eq q n) (Some old) (found q rest))) (sym same) (again (bytes_eq q name))
    by Greater e later =
        ap (λ (o : Option Node). cond (bytes_eq q other) (Some old) o) later
        ∙ either_first (bytes_eq q other) (bytes_eq q name) (Some old) (Some node) (found q rest) (apart q name other (equal_by name other Greater e))

-- a name that stands before all others is none of them
found-before : (name : List ℕ) (entries : Entries) → AllByRecursion (λ other. slice_cmp nat_cmp name other ≡ Less) (names_of entries) → found name entries ≡ None
found-before name none first = refl
found-before name (entry other node rest) first = rw (equal_by name other Less first.0) (found-before name rest first.1)

pub found-without : (q name : List ℕ) (entries : Entries) → IsStrictlySortedBy (slice_cmp nat_cmp) (names_of entries) → found q (without name entries) ≡ cond (bytes_eq q name) None (found q entries)
unfolding IsStrictlySortedBy
found-without q name none sorted = either_same {A = Option Node} (bytes_eq q name) None
found-without q name (entry other node rest) sorted = by (bytes_eq name other) refl (found-without q name rest sorted.1)
  where
    gone : (b : Bool) → (b ≡ true → found q rest ≡ None) → found q rest ≡ cond b None (cond b (Some node) (found q rest))
    gone true e = e refl
    gone false e = refl

    first : bytes_eq q other ≡ true → found q rest ≡ None
    first e = subst (λ (n : List ℕ). found n rest ≡ None) (sym ((bytes_eq-Decides q other).0 e)) (found-before other rest sorted.0)

    by : (b : Bool) → bytes_eq name other ≡ b → found q (without name rest) ≡ cond (bytes_eq q name) None (found q rest) → found q (cond b rest (entry other node (without name rest))) ≡ cond (bytes_eq q name) None (cond (bytes_eq q other) (Some node) (found q rest))
    by true e later = subst (λ (n : List ℕ). found q rest ≡ cond (bytes_eq q n) None (cond (bytes_eq q other) (Some node) (found q rest))) (sym ((bytes_eq-Decides name other).0 e)) (gone (bytes_eq q other) first)
    by false e later =
        ap (λ (o : Option Node). cond (bytes_eq q other) (Some node) o) later
        ∙ either_first (bytes_eq q other) (bytes_eq q name) (Some node) None (found q rest) (apart q name other e)
