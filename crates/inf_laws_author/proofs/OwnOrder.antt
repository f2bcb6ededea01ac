-- The Asks of a client in a history stand in the order of asking, and so do those that it knows.
use Rattle.std.proofs.Common.{◌≡◌, ℕ, suc, ◌<◌, ◌≤◌, ◌&&◌, Bool, true, false, cond, eqb, nat_lt, List, [], ◌∷◌, ◌++◌, length, map, reverse, None, refl, sym, ap, ◌∙◌, subst, arith}
use Rattle.std.proofs.lemmas.Bool.Decides.{nat_tests}
use Rattle.std.proofs.lemmas.List.{map-append}
use mathlib.Core.List.{reverse-cons}
use Rattle.inf_duty.proofs.BegunKept.{if_both}
use Rattle.inf_duty.specs.Own.{own_asks, own_of, rises_from}
use Rattle.inf_duty.specs.declared.own.OwnAsk.{OwnAsk}
use Rattle.inf_laws_author.specs.LessTold.{LessTold}
use Rattle.inf_message.specs.declared.event.Event.{Event}
use Rattle.inf_message.specs.declared.event.Event.TheVariants as event
use Rattle.inf_message.specs.History.{Own, Told, asks_of, made_ask, own_ask, served_at, told_reply}

-- ---- the newest first

-- the places fall from below this one, and count from 1
abbrev FallsBelow : ℕ → List Own → Type 0
FallsBelow bound [] = Unit {0}
FallsBelow bound (own ∷ owns) =
    (0 < own.made.ask_place) × (own.made.ask_place < bound) × FallsBelow own.made.ask_place owns

falls_on : (bound more : ℕ) (owns : List Own) → bound ≤ more → FallsBelow bound owns → FallsBelow more owns
falls_on bound more [] within falls = tt
falls_on bound more (own ∷ owns) within (counted, below, falls) = (counted, omega arith, falls)

place_stays : (place : ℕ) (told : Told) (own : Own) → (served_at place told own).made.ask_place ≡ own.made.ask_place
place_stays place told own =
    if_both (λ (x : Own). x.made.ask_place ≡ own.made.ask_place) (eqb own.made.ask_place place) _ own refl refl

falls_told : (bound place : ℕ) (told : Told) (owns : List Own) → FallsBelow bound owns
    → FallsBelow bound (map (served_at place told) owns)
falls_told bound place told [] falls = tt
falls_told bound place told (own ∷ owns) (counted, below, falls) =
    subst (λ p. (0 < p) × (p < bound) × FallsBelow p (map (served_at place told) owns))
    (sym (place_stays place told own))
    (counted, below, falls_told own.made.ask_place place told owns falls)

asks_fall : (client : ℕ) (h : List Event) → FallsBelow (suc (length h)) (asks_of client h)
asks_fall client [] = tt
asks_fall client (event.Ask number ask ∷ h) = by (asks_fall client h) (eqb ask.from.client client)
  where
    by : FallsBelow (suc (length h)) (asks_of client h) → (b : Bool)
        → FallsBelow (suc (suc (length h)))
        (cond b (own_ask (made_ask number ask (suc (length h))) None ∷ asks_of client h) (asks_of client h))
    by falls true = (omega arith, omega arith, falls)
    by falls false = falls_on (suc (length h)) (suc (suc (length h))) (asks_of client h) (omega arith) falls
asks_fall client (event.Serve number ask_place given ∷ h) =
    falls_told (suc (suc (length h))) ask_place (told_reply (suc (length h)) given) (asks_of client h)
    (falls_on (suc (length h)) (suc (suc (length h))) (asks_of client h) (omega arith) (asks_fall client h))

-- ---- the oldest first

-- they rise, and end below this place
abbrev RisesTo : ℕ → ℕ → List OwnAsk → Type 0
RisesTo last bound [] = last < bound
RisesTo last bound (own ∷ later) = (last < own.ask_place) × RisesTo own.ask_place bound later

rises_more : (last bound : ℕ) (own : OwnAsk) (earlier : List OwnAsk) → RisesTo last own.ask_place earlier
    → own.ask_place < bound → RisesTo last bound (earlier ++ own ∷ [])
rises_more last bound own [] rises below = (rises, below)
rises_more last bound own (x ∷ earlier) (after, rises) below =
    (after, rises_more x.ask_place bound own earlier rises below)

turned_round : (bound : ℕ) (owns : List Own) → 0 < bound → FallsBelow bound owns
    → RisesTo 0 bound (map own_of (reverse owns))
turned_round bound [] some falls = some
turned_round bound (own ∷ owns) some (counted, below, falls) =
    let earlier : List OwnAsk = map own_of (reverse owns) in
    let cut : map own_of (reverse (own ∷ owns)) ≡ earlier ++ own_of own ∷ [] = simp (reverse-cons, map-append) refl in
    subst (RisesTo 0 bound) (sym cut)
    (rises_more 0 bound (own_of own) earlier (turned_round own.made.ask_place owns counted falls) below)

is_less : (a b : ℕ) → a < b → nat_lt a b ≡ true
is_less a b less = grind (arith, nat_tests)

rises : (last bound : ℕ) (own : List OwnAsk) → RisesTo last bound own → rises_from last own ≡ true
rises last bound [] is = refl
rises last bound (own ∷ later) (after, is) =
    ap (λ b. b && rises_from own.ask_place later) (is_less last own.ask_place after)
    ∙ rises own.ask_place bound later is

own_asks_rise : (client : ℕ) (h : List Event) → rises_from 0 (own_asks client h) ≡ true
own_asks_rise client h =
    rises 0 (suc (length h)) (own_asks client h)
    (turned_round (suc (length h)) (asks_of client h) (omega arith) (asks_fall client h))

-- ---- those that are known

known_rise : (last : ℕ) (known told : List OwnAsk) → LessTold known told → rises_from last told ≡ true
    → rises_from last known ≡ true
known_rise last [] [] less is = refl
known_rise last [] (y ∷ told) less is = absurd less
known_rise last (x ∷ known) [] less is = absurd less
known_rise last (x ∷ known) (y ∷ told) less is =
    by (known_rise x.ask_place known told less.1) (nat_lt last x.ask_place)
    (subst (λ p. (nat_lt last p && rises_from p told) ≡ true) (sym less.0.ask_place) is)
  where
    by : (rises_from x.ask_place told ≡ true → rises_from x.ask_place known ≡ true) → (b : Bool)
        → (b && rises_from x.ask_place told) ≡ true → (b && rises_from x.ask_place known) ≡ true
    by later true on = later on
    by later false on = absurd cc

pub known_asks_rise : (client : ℕ) (h : List Event) (known : List OwnAsk) → LessTold known (own_asks client h)
    → rises_from 0 known ≡ true
known_asks_rise client h known less = known_rise 0 known (own_asks client h) less (own_asks_rise client h)
