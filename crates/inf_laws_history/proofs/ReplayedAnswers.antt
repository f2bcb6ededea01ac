-- Each result whose answer was decided has a place, and is among those that are replayed.
use Rattle.std.proofs.Common.{◌≡◌, ℕ, zero, suc, ◌-◌, ◌≤◌, Bool, true, false, cond, List, [], ◌∷◌, length, filter, get_or, Option, None, Some, is_some, IfSome, All, refl, sym, ap, subst, ◌∙◌, ⊎_elim, arith}
use Rattle.std.specs.List.{Contains, cons_option, filter_map}
use Rattle.std.proofs.lemmas.Bool.{cases_eq}
use Rattle.std.proofs.lemmas.List.Elements.{Contains-append_left, Contains-append_right, Contains-get_or}
use Rattle.inf_base.specs.declared.answer.Answer.{Answer}
use Rattle.inf_duty.specs.Outcome.{Outcome, in_order, is_place, stands_at}
use Rattle.inf_duty.specs.World.{World}
use Rattle.inf_laws_history.specs.Counted.{IsCounted, IsOfScript, answered, is_decided}
use Rattle.inf_laws_history.specs.Replayed.{decided_by, decided_call, decided_of, decisions}
use Rattle.inf_laws_history.proofs.Numbered.{results_are_of_script}
use Rattle.inf_laws_history.proofs.OwnPlaces.{results_have_own_places}
use Rattle.inf_laws_history.proofs.PlacedAnswers.{IsOfServes, outcome_are}
use Rattle.inf_message.specs.declared.call_result.CallResult.{CallResult}
use Rattle.inf_message.specs.declared.event.Event.{Event}
use Rattle.inf_message.proofs.HistoryLaws.{itself}

-- ---- an answer that was decided has a place

abbrev IsPlaced : Answer → Option ℕ → Type 0
IsPlaced given at = is_some at ≡ is_decided given

placed_by_serves : IsOfServes IsPlaced
placed_by_serves = record {
  done = λ place. refl;
  stat = λ kind meta place. refl;
  refused = λ error place. refl;
  again = λ by place. refl;
  clash = λ own kept place. refl;
  wanting = refl;
}

-- ---- what stands at a place is among what is in order of place

module _ {X : Type 0} where
  cons_has : (x y : X) (xs : List X) → Contains xs y → Contains (x ∷ xs) y
  cons_has x y xs at = (suc at.0, omega (arith, at.1), at.2)

  head_has : (x : X) (xs : List X) → Contains (x ∷ xs) x
  head_has x xs = (zero, omega arith, refl)

  filter_has : (p : X → Bool) (x : X) (xs : List X) → p x ≡ true → Contains xs x → Contains (filter p xs) x
  filter_has p x [] passes at = absurd (omega (arith, at.1))
  filter_has p x (y ∷ ys) passes (zero, within, same) = by (p y) (ap p same ∙ passes)
    where
      by : (b : Bool) → b ≡ true → Contains (cond b (y ∷ filter p ys) (filter p ys)) x
      by true is = subst (λ z. Contains (y ∷ filter p ys) z) same (head_has y (filter p ys))
      by false is = absurd cc
  filter_has p x (y ∷ ys) passes (suc k, within, same) = by (p y) (filter_has p x ys passes (k, omega (arith, within), same))
    where
      by : (b : Bool) → Contains (filter p ys) x → Contains (cond b (y ∷ filter p ys) (filter p ys)) x
      by true at = cons_has y x (filter p ys) at
      by false at = at

filter_map_has : {X Y : Type 0} (f : X → Option Y) (x : X) (y : Y) (xs : List X) → f x ≡ Some y → Contains xs x → Contains (filter_map f xs) y
filter_map_has f x y [] is at = absurd (omega (arith, at.1))
filter_map_has {X} {Y} f x y (z ∷ zs) is (zero, within, same) = by (f z) (ap f same ∙ is)
  where
    by : (o : Option Y) → o ≡ Some y → Contains (cons_option o (filter_map f zs)) y
    by None it = absurd cc
    by (Some w) it = let one : w ≡ y = cc in subst (λ v. Contains (w ∷ filter_map f zs) v) one (head_has w (filter_map f zs))
filter_map_has {X} {Y} f x y (z ∷ zs) is (suc k, within, same) = by (f z) (filter_map_has f x y zs is (k, omega (arith, within), same))
  where
    by : (o : Option Y) → Contains (filter_map f zs) y → Contains (cons_option o (filter_map f zs)) y
    by None at = at
    by (Some w) at = cons_has w y (filter_map f zs) at

in_order_has : (result : CallResult) (results : List CallResult) (place most : ℕ) → result.place ≡ Some place → 1 ≤ place → place ≤ most
    → Contains results result → Contains (in_order most results) result
in_order_has result results place zero is counted within at = absurd (omega (arith, counted, within))
in_order_has result results place (suc most) is counted within at =
    ⊎_elim
    (λ (same : place ≡ suc most).
    Contains-append_right (in_order most results) (filter (stands_at (suc most)) results) result
    (filter_has (stands_at (suc most)) result results
    (ap (is_place (suc most)) is ∙ subst (λ p. is_place (suc most) (Some p) ≡ true) (sym same) (itself (suc most))) at))
    (λ (unlike : _).
    Contains-append_left (in_order most results) (filter (stands_at (suc most)) results) result
    (in_order_has result results place most is counted (omega (arith, within, unlike)) at))
    (cases_eq place (suc most))

-- ---- so it is replayed

pub decided_is : (world : World) (result : CallResult) (is : IsOfScript world result.call) → decided_of world result ≡ Some (answered result.call is result.answer)
decided_is world result is =
    ap (decided_by result (result.call.number - 1)) is.client
    ∙ ap (decided_call is.line result) is.called

replayed_at : (world : World) (h : List Event) (results : List CallResult) (result : CallResult) (is : IsOfScript world result.call) (at : Option ℕ)
    → result.place ≡ at → is_some at ≡ true → IfSome at (λ place. (1 ≤ place) × (place ≤ length h)) → Contains results result
    → Contains (decisions world h results) (answered result.call is result.answer)
replayed_at world h results result is None same some within inside = absurd cc
replayed_at world h results result is (Some place) same some within inside =
    filter_map_has (decided_of world) result (answered result.call is result.answer) (in_order (length h) results) (decided_is world result is)
    (in_order_has result results place (length h) same within.0 within.1 inside)

one_is_counted : (world : World) (h : List Event) (results : List CallResult) (result : CallResult) → IsOfScript world result.call
    → IsPlaced result.answer result.place → IfSome result.place (λ place. (1 ≤ place) × (place ≤ length h)) → Contains results result
    → IsCounted world h results result
one_is_counted world h results result of_script placed within inside = record {
  of_script = of_script;
  placed = placed;
  replayed = λ decided. replayed_at world h results result of_script result.place refl (placed ∙ decided) within inside;
}

-- each result is of a call of the script, has a place exactly where its answer was decided, and is then replayed
pub results_are_counted : (world : World) (h : List Event) (results : List CallResult) → Outcome world h results → All (IsCounted world h results) results
results_are_counted world h results out k d inside =
    let own = results_have_own_places world h results out in
    one_is_counted world h results (get_or results k d) (results_are_of_script world h results out k d inside)
    (outcome_are IsPlaced placed_by_serves refl world h 0 world.setup.clients results out k d inside)
    (own.within k d inside)
    (Contains-get_or results k d inside)
