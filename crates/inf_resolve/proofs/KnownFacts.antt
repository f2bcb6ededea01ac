-- What was told under a key: it is among what was told, and its key is that one.
use Rattle.std.proofs.Common.{◌≡◌, ℕ, ◌&&◌, Bool, true, false, cond, List, [], ◌∷◌, Some, refl, ap, subst, ◌∙◌, arith}
use Rattle.std.specs.List.{Contains}
use Rattle.std.specs.Str.{bytes_eq}
use Rattle.std.proofs.lemmas.List.Elements.{Contains-append_right}
use Rattle.inf_base.specs.declared.id.Id.{Id}
use Rattle.inf_base.specs.declared.key.LookKey.{LookKey}
use Rattle.inf_base.specs.declared.key.LookKey.TheVariants as look
use Rattle.inf_base.specs.Same.{is_same_id}
use Rattle.inf_base.proofs.Same.{same_id, same_id_self, same_name, same_name_self}
use Rattle.inf_resolve.specs.declared.known.Known.{Known}
use Rattle.inf_resolve.specs.Known.{is_same_key, told_under}

same_at : (d e : Id) (n m : List ℕ) (ids names : Bool) → is_same_id d e ≡ ids → bytes_eq n m ≡ names
    → (ids && names) ≡ true
    → look.At d n ≡ look.At e m
same_at d e n m true true ids names same =
    ap (λ (x : Id). look.At x n) (same_id d e ids) ∙ ap (λ (x : List ℕ). look.At e x) (same_name n m names)
same_at d e n m true false ids names same = cc
same_at d e n m false names_same ids names same = cc

-- keys that are the same are equal
pub same_key : (a b : LookKey) → is_same_key a b ≡ true → a ≡ b
same_key look.Top look.Top same = refl
same_key look.Top (look.At dir name) same = cc
same_key (look.At dir name) look.Top same = cc
same_key (look.At dir name) (look.At other_dir other_name) same =
    same_at dir other_dir name other_name (is_same_id dir other_dir) (bytes_eq name other_name) refl refl same

pub same_key_self : (a : LookKey) → is_same_key a a ≡ true
same_key_self look.Top = refl
same_key_self (look.At dir name) = rw (same_id_self dir, same_name_self name) refl

abbrev IsKnownAs : LookKey → List Known → Known → Type 0
IsKnownAs k known x = Contains known x × (is_same_key k x.key ≡ true)

told_first : (k : LookKey) (y : Known) (known : List Known) (x : Known) (same : Bool) → is_same_key k y.key ≡ same
    → cond same (Some y) (told_under k known) ≡ Some x → (told_under k known ≡ Some x → IsKnownAs k known x)
    → IsKnownAs k (y ∷ known) x
told_first k y known x true same is rest =
    let it : y ≡ x = cc in
    ((0, omega arith, it), subst (λ (z : Known). is_same_key k z.key ≡ true) it same)
told_first k y known x false same is rest =
    let told = rest is in
    (Contains-append_right (y ∷ []) known x told.0, told.1)

pub told_is_known : (k : LookKey) (known : List Known) (x : Known) → told_under k known ≡ Some x
    → Contains known x × (is_same_key k x.key ≡ true)
told_is_known k [] x is = absurd cc
told_is_known k (y ∷ known) x is =
    told_first k y known x (is_same_key k y.key) refl is (told_is_known k known x)
