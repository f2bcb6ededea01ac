-- A history as code keeps it, the oldest event first: an event's index is one less than its place.
use Rattle.std.proofs.Common.{◌≡◌, ℕ, zero, suc, false, cond, eqb, List, [], ◌∷◌, ◌++◌, length, reverse, Some, refl, arith}
use Rattle.std.proofs.lemmas.Bool.Decides.{nat_tests}
use Rattle.std.proofs.lemmas.List.{length-reverse, reverse-append}
use Rattle.std.specs.List.{slice_get}
use Rattle.inf_message.specs.declared.event.Event.{Event}
use Rattle.inf_message.specs.History.{event_at}

eqb_suc : (a b : ℕ) → eqb (suc a) (suc b) ≡ eqb a b
eqb_suc a b = grind (arith, nat_tests)

suc_zero : (a : ℕ) → eqb (suc a) 0 ≡ false
suc_zero a = grind (arith, nat_tests)

zero_suc : (a : ℕ) → eqb 0 (suc a) ≡ false
zero_suc a = grind (arith, nat_tests)

slice_get_push : {X : Type 0} (xs : List X) (y : X) (i : ℕ) → slice_get (xs ++ y ∷ []) i ≡ cond (eqb i (length xs)) (Some y) (slice_get xs i)
slice_get_push [] y zero = refl
slice_get_push [] y (suc i) = rw suc_zero refl
slice_get_push (x ∷ xs) y zero = rw zero_suc refl
slice_get_push (x ∷ xs) y (suc i) = rw (eqb_suc, slice_get_push xs y i) refl

pub event_is_indexed : (i : ℕ) (h : List Event) → event_at (suc i) h ≡ slice_get (reverse h) i
event_is_indexed i [] = refl
event_is_indexed i (e ∷ h) =
    let last : reverse (e ∷ h) ≡ reverse h ++ e ∷ [] = reverse-append (e ∷ []) h in
    rw (last, slice_get_push (reverse h) e i, length-reverse h, eqb_suc i (length h), event_is_indexed i h) refl
