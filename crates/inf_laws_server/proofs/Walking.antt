-- Steps through checks that are made one after another: what holds of each failure, and of what comes through.
use Rattle.std.proofs.Common.{◌≡◌, Bool, true, false, Option, Some, None, Result, Ok, Err, ok_or, refl, subst}
use Rattle.inf_base.specs.Checks.{◌>>=◌, ◌>>◌, check}
use Rattle.inf_message.specs.declared.reply.Reply.{Reply}

-- the checks fail so, or this holds of what they let through
abbrev pub Comes : {A : Type 0} → (Reply → Type 0) → (A → Type 0) → Result A Reply → Type 0
Comes fails holds (Ok value) = holds value
Comes fails holds (Err given) = fails given

-- of what came through nothing is asked
abbrev pub Anything : {A : Type 0} → A → Type 0
Anything value = Unit {0}

module _ (fails : Reply → Type 0) where
  pub behind : {A B : Type 0} (some : A → Type 0) (holds : B → Type 0) (first : Result A Reply)
      (next : A → Result B Reply)
      → Comes fails some first → ((value : A) → first ≡ Ok value → some value → Comes fails holds (next value))
      → Comes fails holds (first >>= next)
  behind some holds (Ok value) next comes rest = rest value refl comes
  behind some holds (Err given) next comes rest = comes

  pub behind_unit : {B : Type 0} (holds : B → Type 0) (first : Result (Unit {0}) Reply) (next : Result B Reply)
      → ((given : Reply) → first ≡ Err given → fails given) → (first ≡ Ok tt → Comes fails holds next)
      → Comes fails holds (first >> next)
  behind_unit holds (Ok tt) next comes rest = rest refl
  behind_unit holds (Err given) next comes rest = comes given refl

  pub behind_check : {B : Type 0} (holds : B → Type 0) (test : Bool) (given : Reply) (next : Result B Reply)
      → (test ≡ false → fails given) → (test ≡ true → Comes fails holds next)
      → Comes fails holds (check test given >> next)
  behind_check holds true given next comes rest = rest refl
  behind_check holds false given next comes rest = comes refl

  pub behind_some : {A B : Type 0} (holds : B → Type 0) (found : Option A) (given : Reply) (next : A → Result B Reply)
      → (found ≡ None → fails given) → ((value : A) → found ≡ Some value → Comes fails holds (next value))
      → Comes fails holds (ok_or found given >>= next)
  behind_some holds None given next comes rest = comes refl
  behind_some holds (Some value) given next comes rest = rest value refl

-- what fails in one way fails in another
pub weaken : {A : Type 0} (fails other : Reply → Type 0) (holds : A → Type 0) (served : Result A Reply)
    → ((given : Reply) → fails given → other given)
    → Comes fails holds served → Comes other holds served
weaken fails other holds (Ok value) widens comes = comes
weaken fails other holds (Err given) widens comes = widens given comes
