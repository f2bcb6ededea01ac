-- The keys that are asked: each once, and none that is known.
use Rattle.std.proofs.Common.{◌≡◌, ◌||◌, Bool, true, false, if◌then◌else◌, List, [], ◌∷◌, ◌++◌, is_some, refl, sym, subst, ◌∙◌}
use Rattle.std.specs.List.{AllByRecursion, IsDistinct, fold}
use Rattle.inf_base.specs.declared.key.LookKey.{LookKey}
use Rattle.inf_resolve.specs.declared.known.Known.{Known}
use Rattle.inf_resolve.specs.Keys.{is_among, to_ask, with_key}
use Rattle.inf_resolve.specs.Known.{is_same_key, told_under}
use Rattle.inf_resolve.proofs.KnownFacts.{same_key, same_key_self}

-- keys that differ do so either way
flipped : (a b : LookKey) (same : Bool) → is_same_key b a ≡ same → is_same_key a b ≡ false → is_same_key b a ≡ false
flipped a b true is apart =
    let self : is_same_key a a ≡ false = subst (λ (x : LookKey). is_same_key a x ≡ false) (same_key b a is) apart in
    let clash : true ≡ false = sym (same_key_self a) ∙ self in
    absurd cc
flipped a b false is apart = is

or_false : (a b : Bool) → (a || b) ≡ false → (a ≡ false) × (b ≡ false)
or_false true b is = absurd cc
or_false false b is = (refl, is)

all_with : {A : Type 0} (P : A → Type 0) (xs : List A) (x : A) → AllByRecursion P xs → P x
    → AllByRecursion P (xs ++ x ∷ [])
all_with P [] x all holds = (holds, tt)
all_with P (y ∷ xs) x all holds = (all.0, all_with P xs x all.1 holds)

distinct_with : (keys : List LookKey) (k : LookKey) → IsDistinct is_same_key keys → is_among k keys ≡ false
    → IsDistinct is_same_key (keys ++ k ∷ [])
unfolding IsDistinct
distinct_with [] k distinct apart = (tt, tt)
distinct_with (x ∷ keys) k distinct apart =
    let parts = or_false (is_same_key k x) (is_among k keys) apart in (
      all_with (λ (y : LookKey). is_same_key x y ≡ false) keys k distinct.0
          (flipped k x (is_same_key x k) refl parts.0),
      distinct_with keys k distinct.1 parts.1,
    )

-- the keys so far
record IsNew (known : List Known) (keys : List LookKey) : Type 0 where
  distinct : IsDistinct is_same_key keys
  unknown : AllByRecursion (λ (k : LookKey). is_some (told_under k known) ≡ false) keys

new_with : (known : List Known) (keys : List LookKey) (k : LookKey) (is_known is_there : Bool)
    → is_some (told_under k known) ≡ is_known
    → is_among k keys ≡ is_there → IsNew known keys
    → IsNew known (if is_known || is_there then keys else keys ++ k ∷ [])
new_with known keys k true there at among new = new
new_with known keys k false true at among new = new
new_with known keys k false false at among new = record {
  distinct = distinct_with keys k new.distinct among;
  unknown = all_with (λ (x : LookKey). is_some (told_under x known) ≡ false) keys k new.unknown at;
}

all_new : (known : List Known) (keys more : List LookKey) → IsNew known keys
    → IsNew known (fold (with_key known) keys more)
all_new known keys [] new = new
all_new known keys (k ∷ more) new =
    all_new known (with_key known keys k) more
    (new_with known keys k (is_some (told_under k known)) (is_among k keys) refl refl new)

asked_new : (known : List Known) (keys : List LookKey) → IsNew known (to_ask known keys)
unfolding IsDistinct
asked_new known keys = all_new known [] keys (record { distinct = tt; unknown = tt })

pub asked_once : (known : List Known) (keys : List LookKey) → IsDistinct is_same_key (to_ask known keys)
asked_once known keys = (asked_new known keys).distinct

pub asked_unknown : (known : List Known) (keys : List LookKey)
    → AllByRecursion (λ (k : LookKey). is_some (told_under k known) ≡ false) (to_ask known keys)
asked_unknown known keys = (asked_new known keys).unknown
