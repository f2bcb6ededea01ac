-- An Ask that waits is answered: it leaves those that wait, and its trip is put among the others.
use Rattle.std.proofs.Common.{◌≡◌, ℕ, zero, suc, ◌<◌, ◌≤◌, ◌≢◌, Bool, true, false, cond, eqb, ltb, List, [], ◌∷◌, length, map, get_or, insert, remove, None, Some, refl, sym, ap, ap₂, ◌∙◌, subst, arith}
use Rattle.std.specs.List.{AllWithin}
use Rattle.std.proofs.lemmas.Bool.{cond-false, cond-true, ne_eqb}
use Rattle.inf_message.specs.declared.trip.Trip.{Trip}
use Rattle.inf_message.specs.History.{Made, Own, Told, or_told, own_ask, served_at}
use Rattle.inf_client.specs.AskLog.{Rise, is_at, merged, own_of_trip, places_of, trip_told, with_own}
use Rattle.inf_client.proofs.Places.{EachPlace, apart, each_with, rise_without}
use Rattle.inf_client.proofs.Merging.{here, past, swap}

-- ---- a trip put where its place says

pub inserted : (trip : Trip) (trips : List Trip) (index : ℕ) → index ≤ length trips
    → AllWithin (λ (earlier : Trip). earlier.ask_place ≤ trip.ask_place) trips 0 index
    → AllWithin (λ (later : Trip). trip.ask_place < later.ask_place) trips index (length trips)
    → map own_of_trip (insert trips index trip) ≡ with_own (own_of_trip trip) (map own_of_trip trips)
inserted trip [] zero within earlier later = refl
inserted trip [] (suc index) within earlier later = absurd (omega arith)
inserted trip (first ∷ trips) zero within earlier later =
    sym (here (own_of_trip trip) (own_of_trip first) (map own_of_trip trips) (later zero trip (omega arith) (omega arith)))
inserted trip (first ∷ trips) (suc index) within earlier later =
    ap (λ more. own_of_trip first ∷ more)
    (inserted trip trips index (omega arith) (λ k d from to. earlier (suc k) d (omega arith) (omega arith)) (λ k d from to. later (suc k) d (omega arith) (omega arith)))
    ∙ sym (past (own_of_trip trip) (own_of_trip first) (map own_of_trip trips) (earlier zero trip (omega arith) (omega arith)))

put_among : (trip : Trip) (trips more : List Trip) → map own_of_trip more ≡ with_own (own_of_trip trip) (map own_of_trip trips)
    → (waiting : List Made) → EachPlace (λ place. place ≢ trip.ask_place) (merged trips waiting)
    → merged more waiting ≡ with_own (own_of_trip trip) (merged trips waiting)
put_among trip trips more put [] others = put
put_among trip trips more put (made ∷ waiting) others =
    let both = each_with (λ place. place ≢ trip.ask_place) (own_ask made None) (merged trips waiting) others in
    ap (with_own (own_ask made None)) (put_among trip trips more put waiting both.1)
    ∙ swap (own_ask made None) (own_of_trip trip) (merged trips waiting) both.0

-- ---- an answer

-- an answer changes no place
place_stays : (place : ℕ) (told : Told) (own : Own) → (served_at place told own).made ≡ own.made
place_stays place told own = by (eqb own.made.ask_place place)
  where
    by : (b : Bool) → (cond b (own_ask own.made (Some (or_told own.told told))) own).made ≡ own.made
    by true = refl
    by false = refl

pub places_told : (place : ℕ) (told : Told) (asks : List Own) → places_of (map (served_at place told) asks) ≡ places_of asks
places_told place told [] = refl
places_told place told (own ∷ asks) =
    ap₂ (λ (made : Made) places. made.ask_place ∷ places) (place_stays place told own) (places_told place told asks)

told_with : (place : ℕ) (told : Told) (own : Own) (asks : List Own)
    → map (served_at place told) (with_own own asks) ≡ with_own (served_at place told own) (map (served_at place told) asks)
told_with place told own [] = refl
told_with place told own (other ∷ others) =
    by (ltb own.made.ask_place other.made.ask_place) (told_with place told own others)
    ∙ ap₂ (λ (a b : Made). cond (ltb a.ask_place b.ask_place) (served_at place told own ∷ map (served_at place told) (other ∷ others))
    (served_at place told other ∷ with_own (served_at place told own) (map (served_at place told) others)))
    (sym (place_stays place told own)) (sym (place_stays place told other))
  where
    by : (b : Bool) → map (served_at place told) (with_own own others) ≡ with_own (served_at place told own) (map (served_at place told) others)
        → map (served_at place told) (cond b (own ∷ other ∷ others) (other ∷ with_own own others))
        ≡ cond b (served_at place told own ∷ map (served_at place told) (other ∷ others))
        (served_at place told other ∷ with_own (served_at place told own) (map (served_at place told) others))
    by true later = refl
    by false later = ap (λ more. served_at place told other ∷ more) later

stays : (place : ℕ) (told : Told) (own : Own) → own.made.ask_place ≢ place → served_at place told own ≡ own
stays place told own differ =
    cond-false (eqb own.made.ask_place place) (own_ask own.made (Some (or_told own.told told))) own (ne_eqb own.made.ask_place place differ)

all_stay : (place : ℕ) (told : Told) (asks : List Own) → EachPlace (λ other. other ≢ place) asks → map (served_at place told) asks ≡ asks
all_stay place told [] others = refl
all_stay place told (own ∷ asks) others = ap₂ (λ (first : Own) more. first ∷ more) (stays place told own others.0) (all_stay place told asks others.1)

told_now : (told : Told) (made : Made) (trips more : List Trip) (waiting : List Made)
    → map own_of_trip more ≡ with_own (own_of_trip (trip_told made told)) (map own_of_trip trips)
    → Rise (places_of (merged trips (made ∷ waiting)))
    → (place : ℕ) → is_at place made ≡ true → made.ask_place ≡ place
    → merged more waiting ≡ map (served_at place told) (merged trips (made ∷ waiting))
told_now told made trips more waiting put rise place tested same =
    let others = apart (own_ask made None) (merged trips waiting) rise in
    put_among (trip_told made told) trips more put waiting others
    ∙ ap₂ with_own
    (sym (cond-true (eqb made.ask_place place) (own_ask made (Some told)) (own_ask made None) tested))
    (sym (all_stay place told (merged trips waiting) (subst (λ p. EachPlace (λ other. other ≢ p) (merged trips waiting)) same others)))
    ∙ sym (told_with place told (own_ask made None) (merged trips waiting))

-- the Ask of this index among those that wait is the first at its place
pub told_merged : (told : Told) (place : ℕ) (made : Made) (trips more : List Trip) (waiting : List Made) (index : ℕ)
    → map own_of_trip more ≡ with_own (own_of_trip (trip_told made told)) (map own_of_trip trips)
    → index < length waiting → made ≡ get_or waiting index made → is_at place made ≡ true → made.ask_place ≡ place
    → ((k : ℕ) → k < index → is_at place (get_or waiting k made) ≡ false)
    → Rise (places_of (merged trips waiting))
    → merged more (remove waiting index) ≡ map (served_at place told) (merged trips waiting)
told_merged told place made trips more [] index put within found tested same before rise = absurd (omega arith)
told_merged told place made trips more (first ∷ waiting) zero put within found tested same before rise =
    subst (λ (m : Made). merged more waiting ≡ map (served_at place told) (merged trips (m ∷ waiting))) found
    (told_now told made trips more waiting put (subst (λ (m : Made). Rise (places_of (merged trips (m ∷ waiting)))) (sym found) rise) place tested same)
told_merged told place made trips more (first ∷ waiting) (suc index) put within found tested same before rise =
    ap₂ with_own
    (sym (cond-false (eqb first.ask_place place) (own_ask first (Some told)) (own_ask first None) (before zero (omega arith))))
    (told_merged told place made trips more waiting index put (omega arith) found tested same (λ k less. before (suc k) (omega arith))
    (rise_without (own_ask first None) (merged trips waiting) rise))
    ∙ sym (told_with place told (own_ask first None) (merged trips waiting))
