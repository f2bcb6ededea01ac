-- Places that rise, and those of Asks that others were put among.
use Rattle.std.proofs.Common.{◌≡◌, ℕ, zero, suc, ◌-◌, ◌<◌, ◌≤◌, ◌≢◌, Bool, true, false, cond, ltb, List, [], ◌∷◌, ◌++◌, length, map, get_or, None, ⊎_elim, refl, sym, ap, subst, arith}
use Rattle.std.proofs.lemmas.Bool.{cases_lt}
use Rattle.std.proofs.lemmas.List.{get_or-map, get_or_read, length-map, map-append}
use Rattle.std.proofs.lemmas.List.Elements.{All-from_recursion, All-map, recursion_from_All}
use Rattle.std.proofs.lemmas.List.Kept.{AllPairs-cons}
use Rattle.std.proofs.lemmas.List.Quantifiers.{all_pairs_push}
use Rattle.std.specs.List.{AllByRecursion, AllWithin}
use Rattle.inf_message.specs.declared.trip.Trip.{Trip}
use Rattle.inf_message.specs.History.{Made, Own, own_ask}
use Rattle.inf_client.specs.AskLog.{IsLater, Rise, merged, own_of_trip, places_of, trip_places, with_own}

-- a fact of the place of each Ask
abbrev pub EachPlace : (ℕ → Type 0) → List Own → Type 0
EachPlace P asks = AllByRecursion P (places_of asks)

weaker : (P Q : ℕ → Type 0) → ((place : ℕ) → P place → Q place) → (places : List ℕ) → AllByRecursion P places → AllByRecursion Q places
weaker P Q implies [] each = tt
weaker P Q implies (place ∷ places) each = (implies place each.0, weaker P Q implies places each.1)

rise_head : (place : ℕ) (places : List ℕ) → Rise (place ∷ places) → AllByRecursion (λ later. place < later) places
rise_head place places rise = recursion_from_All (λ later. place < later) places (λ k d within. rise zero (suc k) d (omega arith) (omega arith))

rise_tail : (place : ℕ) (places : List ℕ) → Rise (place ∷ places) → Rise places
rise_tail place places rise = λ i j d less within. rise (suc i) (suc j) d (omega arith) (omega arith)

-- ---- an Ask put among others

pub each_with : (P : ℕ → Type 0) (own : Own) (asks : List Own) → EachPlace P (with_own own asks) → P own.made.ask_place × EachPlace P asks
each_with P own [] each = (each.0, tt)
each_with P own (other ∷ others) each = by (ltb own.made.ask_place other.made.ask_place) each (each_with P own others)
  where
    by : (b : Bool) → EachPlace P (cond b (own ∷ other ∷ others) (other ∷ with_own own others))
        → (EachPlace P (with_own own others) → P own.made.ask_place × EachPlace P others)
        → P own.made.ask_place × EachPlace P (other ∷ others)
    by true each later = each
    by false each later = let rest = later each.1 in (rest.0, (each.0, rest.1))

-- where the places rise, no other stands at the same place
pub apart : (own : Own) (asks : List Own) → Rise (places_of (with_own own asks)) → EachPlace (λ place. place ≢ own.made.ask_place) asks
apart own [] rise = tt
apart own (other ∷ others) rise = by (ltb own.made.ask_place other.made.ask_place) rise (apart own others)
  where
    by : (b : Bool) → Rise (places_of (cond b (own ∷ other ∷ others) (other ∷ with_own own others)))
        → (Rise (places_of (with_own own others)) → EachPlace (λ place. place ≢ own.made.ask_place) others)
        → EachPlace (λ place. place ≢ own.made.ask_place) (other ∷ others)
    by true rise later =
        weaker (λ place. own.made.ask_place < place) (λ place. place ≢ own.made.ask_place) (λ place less same. omega arith) (places_of (other ∷ others))
        (rise_head own.made.ask_place (places_of (other ∷ others)) rise)
    by false rise later =
        let less : other.made.ask_place < own.made.ask_place = (each_with (λ place. other.made.ask_place < place) own others (rise_head other.made.ask_place (places_of (with_own own others)) rise)).0 in
        (λ same. omega arith, later (rise_tail other.made.ask_place (places_of (with_own own others)) rise))

pub rise_without : (own : Own) (asks : List Own) → Rise (places_of (with_own own asks)) → Rise (places_of asks)
rise_without own [] rise = λ i j d less within. absurd (omega arith)
rise_without own (other ∷ others) rise = by (ltb own.made.ask_place other.made.ask_place) rise (rise_without own others)
  where
    by : (b : Bool) → Rise (places_of (cond b (own ∷ other ∷ others) (other ∷ with_own own others)))
        → (Rise (places_of (with_own own others)) → Rise (places_of others)) → Rise (places_of (other ∷ others))
    by true rise later = rise_tail own.made.ask_place (places_of (other ∷ others)) rise
    by false rise later =
        AllPairs-cons (λ earlier later. earlier < later) other.made.ask_place (places_of others)
        (All-from_recursion (λ place. other.made.ask_place < place) (places_of others)
        (each_with (λ place. other.made.ask_place < place) own others (rise_head other.made.ask_place (places_of (with_own own others)) rise)).1)
        (later (rise_tail other.made.ask_place (places_of (with_own own others)) rise))

-- ---- the Asks that were answered, and a new Ask

places_answered : (trips : List Trip) → places_of (map own_of_trip trips) ≡ trip_places trips
places_answered [] = refl
places_answered (trip ∷ trips) = ap (λ places. trip.ask_place ∷ places) (places_answered trips)

pub trips_rise : (trips : List Trip) (waiting : List Made) → Rise (places_of (merged trips waiting)) → Rise (trip_places trips)
trips_rise trips [] rise = subst Rise (places_answered trips) rise
trips_rise trips (made ∷ waiting) rise = trips_rise trips waiting (rise_without (own_ask made None) (merged trips waiting) rise)

pub each_before : (place : ℕ) (asks : List Own) → IsLater place asks → EachPlace (λ earlier. earlier < place) asks
each_before place asks later =
    recursion_from_All (λ earlier. earlier < place) (places_of asks) (All-map (λ earlier. earlier < place) (λ (own : Own). own.made.ask_place) asks later)

pub rise_asked : (own : Own) (asks : List Own) → Rise (places_of asks) → IsLater own.made.ask_place asks → Rise (places_of (asks ++ own ∷ []))
rise_asked own asks rise later =
    subst Rise (sym (map-append (λ (own : Own). own.made.ask_place) asks (own ∷ [])))
    (all_pairs_push (λ earlier later. earlier < later) (places_of asks) own.made.ask_place rise
    (All-map (λ earlier. earlier < own.made.ask_place) (λ (own : Own). own.made.ask_place) asks later))

-- ---- trips that stand before one

pub earlier_too : (place : ℕ) (trips : List Trip) (index : ℕ) (last : Trip) → Rise (trip_places trips) → 0 < index → index ≤ length trips
    → last ≡ get_or trips (index - 1) last → last.ask_place ≤ place
    → AllWithin (λ (trip : Trip). trip.ask_place ≤ place) trips 0 index
earlier_too place trips index last rise some within is not_later k d from below =
    let at_last : last.ask_place ≡ (get_or trips (index - 1) d).ask_place =
    ap (λ (trip : Trip). trip.ask_place) (get_or_read trips (index - 1) last (omega arith) is d) in
    ⊎_elim
    (λ (before : k < index - 1).
    let place_k : get_or (trip_places trips) k 0 ≡ (get_or trips k d).ask_place =
    get_or-map (λ (trip : Trip). trip.ask_place) trips k d 0 (omega arith) in
    let place_last : get_or (trip_places trips) (index - 1) 0 ≡ (get_or trips (index - 1) d).ask_place =
    get_or-map (λ (trip : Trip). trip.ask_place) trips (index - 1) d 0 (omega arith) in
    let as_many : length (trip_places trips) ≡ length trips = length-map trips (λ (trip : Trip). trip.ask_place) in
    let less : get_or (trip_places trips) k 0 < get_or (trip_places trips) (index - 1) 0 = rise k (index - 1) 0 before (omega arith) in
    omega arith)
    (λ (not_before : index - 1 ≤ k).
    let same : index - 1 ≡ k = omega arith in
    subst (λ n. (get_or trips n d).ask_place ≤ place) same (omega arith))
    (cases_lt k (index - 1))
