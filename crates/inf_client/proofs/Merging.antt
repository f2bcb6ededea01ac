-- What shows of the Asks that were answered and of those that wait, once their places have merged them.
use Rattle.std.proofs.Common.{◌≡◌, ℕ, ◌<◌, ◌≤◌, ◌≢◌, Bool, true, false, cond, ltb, ◌||◌, List, [], ◌∷◌, ◌++◌, map, Option, None, Some, refl, sym, ap, ◌∙◌, ⊎_elim, arith}
use Rattle.std.specs.List.{cons_option, filter_map, list_any}
use Rattle.std.proofs.lemmas.Bool.{cases_lt, cond-false, cond-true, le-ltb, lt-ltb}
use Rattle.inf_message.specs.declared.trip.Trip.{Trip}
use Rattle.inf_message.specs.History.{Made, Own, Told, own_ask, trip_of, unless_told}
use Rattle.inf_client.specs.AskLog.{is_at, merged, own_of_trip, waiting_asks, waits_at, with_own}
use Rattle.inf_client.proofs.Places.{EachPlace, each_with}

-- ---- where an Ask is put

pub here : (own other : Own) (others : List Own) → own.made.ask_place < other.made.ask_place → with_own own (other ∷ others) ≡ own ∷ other ∷ others
here own other others less =
    cond-true (ltb own.made.ask_place other.made.ask_place) (own ∷ other ∷ others) (other ∷ with_own own others) (lt-ltb own.made.ask_place other.made.ask_place less)

pub past : (own other : Own) (others : List Own) → other.made.ask_place ≤ own.made.ask_place → with_own own (other ∷ others) ≡ other ∷ with_own own others
past own other others not_less =
    cond-false (ltb own.made.ask_place other.made.ask_place) (own ∷ other ∷ others) (other ∷ with_own own others) (le-ltb own.made.ask_place other.made.ask_place not_less)

-- of two, the one with the earlier place comes first, whichever is put first
swap_first : (a b : Own) (others : List Own) → a.made.ask_place < b.made.ask_place → with_own b others ≡ b ∷ others → with_own a others ≡ a ∷ others
    → with_own a (with_own b others) ≡ with_own b (with_own a others)
swap_first a b others less b_first a_first =
    ap (with_own a) b_first ∙ here a b others less ∙ sym (ap (with_own b) a_first ∙ past b a others (omega arith) ∙ ap (λ more. a ∷ more) b_first)

swap_apart : (a b other : Own) (others : List Own) → a.made.ask_place < other.made.ask_place → other.made.ask_place ≤ b.made.ask_place
    → with_own a (with_own b (other ∷ others)) ≡ with_own b (with_own a (other ∷ others))
swap_apart a b other others less not_less =
    ap (with_own a) (past b other others not_less) ∙ here a other (with_own b others) less
    ∙ sym (ap (with_own b) (here a other others less) ∙ past b a (other ∷ others) (omega arith) ∙ ap (λ more. a ∷ more) (past b other others not_less))

pub swap : (a b : Own) (asks : List Own) → a.made.ask_place ≢ b.made.ask_place → with_own a (with_own b asks) ≡ with_own b (with_own a asks)
swap a b [] differ =
    ⊎_elim
    (λ (less : a.made.ask_place < b.made.ask_place). swap_first a b [] less refl refl)
    (λ (not_less : b.made.ask_place ≤ a.made.ask_place). sym (swap_first b a [] (omega arith) refl refl))
    (cases_lt a.made.ask_place b.made.ask_place)
swap a b (other ∷ others) differ =
    ⊎_elim
    (λ (a_less : a.made.ask_place < other.made.ask_place). ⊎_elim
    (λ (b_less : b.made.ask_place < other.made.ask_place). both a_less b_less)
    (λ (b_not : other.made.ask_place ≤ b.made.ask_place). swap_apart a b other others a_less b_not)
    (cases_lt b.made.ask_place other.made.ask_place))
    (λ (a_not : other.made.ask_place ≤ a.made.ask_place). ⊎_elim
    (λ (b_less : b.made.ask_place < other.made.ask_place). sym (swap_apart b a other others b_less a_not))
    (λ (b_not : other.made.ask_place ≤ b.made.ask_place). behind a_not b_not (swap a b others differ))
    (cases_lt b.made.ask_place other.made.ask_place))
    (cases_lt a.made.ask_place other.made.ask_place)
  where
    both : a.made.ask_place < other.made.ask_place → b.made.ask_place < other.made.ask_place
        → with_own a (with_own b (other ∷ others)) ≡ with_own b (with_own a (other ∷ others))
    both a_less b_less =
        ⊎_elim
        (λ (less : a.made.ask_place < b.made.ask_place). swap_first a b (other ∷ others) less (here b other others b_less) (here a other others a_less))
        (λ (not_less : b.made.ask_place ≤ a.made.ask_place).
        sym (swap_first b a (other ∷ others) (omega arith) (here a other others a_less) (here b other others b_less)))
        (cases_lt a.made.ask_place b.made.ask_place)

    behind : other.made.ask_place ≤ a.made.ask_place → other.made.ask_place ≤ b.made.ask_place
        → with_own a (with_own b others) ≡ with_own b (with_own a others)
        → with_own a (with_own b (other ∷ others)) ≡ with_own b (with_own a (other ∷ others))
    behind a_not b_not later =
        ap (with_own a) (past b other others b_not) ∙ past a other (with_own b others) a_not ∙ ap (λ more. other ∷ more) later
        ∙ sym (ap (with_own b) (past a other others a_not) ∙ past b other (with_own a others) b_not)

-- ---- the Asks that were answered

trips_answered : (trips : List Trip) → filter_map trip_of (map own_of_trip trips) ≡ trips
trips_answered [] = refl
trips_answered (trip ∷ trips) = ap (λ more. trip ∷ more) (trips_answered trips)

trips_with : (made : Made) (asks : List Own) → filter_map trip_of (with_own (own_ask made None) asks) ≡ filter_map trip_of asks
trips_with made [] = refl
trips_with made (other ∷ others) = by (ltb made.ask_place other.made.ask_place) (trips_with made others)
  where
    by : (b : Bool) → filter_map trip_of (with_own (own_ask made None) others) ≡ filter_map trip_of others
        → filter_map trip_of (cond b (own_ask made None ∷ other ∷ others) (other ∷ with_own (own_ask made None) others)) ≡ filter_map trip_of (other ∷ others)
    by true later = refl
    by false later = ap (cons_option (trip_of other)) later

pub trips_merged : (trips : List Trip) (waiting : List Made) → filter_map trip_of (merged trips waiting) ≡ trips
trips_merged trips [] = trips_answered trips
trips_merged trips (made ∷ waiting) = trips_with made (merged trips waiting) ∙ trips_merged trips waiting

-- ---- the Asks that wait

none_wait : (trips : List Trip) → waiting_asks (map own_of_trip trips) ≡ []
none_wait [] = refl
none_wait (trip ∷ trips) = none_wait trips

or_swap : (a b c : Bool) → (a || (b || c)) ≡ (b || (a || c))
or_swap true true c = refl
or_swap true false c = refl
or_swap false b c = refl

waits_behind : (place : ℕ) (made other : Made) (told : Option Told) (more less : List Made)
    → list_any (is_at place) more ≡ (is_at place made || list_any (is_at place) less)
    → list_any (is_at place) (cons_option (unless_told other told) more) ≡ (is_at place made || list_any (is_at place) (cons_option (unless_told other told) less))
waits_behind place made other None more less later =
    ap (λ b. is_at place other || b) later ∙ or_swap (is_at place other) (is_at place made) (list_any (is_at place) less)
waits_behind place made other (Some told) more less later = later

waits_with : (place : ℕ) (made : Made) (asks : List Own) → waits_at place (with_own (own_ask made None) asks) ≡ (is_at place made || waits_at place asks)
waits_with place made [] = refl
waits_with place made (other ∷ others) = by (ltb made.ask_place other.made.ask_place) (waits_with place made others)
  where
    by : (b : Bool) → waits_at place (with_own (own_ask made None) others) ≡ (is_at place made || waits_at place others)
        → waits_at place (cond b (own_ask made None ∷ other ∷ others) (other ∷ with_own (own_ask made None) others))
        ≡ (is_at place made || waits_at place (other ∷ others))
    by true later = refl
    by false later =
        waits_behind place made other.made other.told (waiting_asks (with_own (own_ask made None) others)) (waiting_asks others) later

pub waits_merged : (place : ℕ) (trips : List Trip) (waiting : List Made) → waits_at place (merged trips waiting) ≡ list_any (is_at place) waiting
waits_merged place trips [] = ap (list_any (is_at place)) (none_wait trips)
waits_merged place trips (made ∷ waiting) =
    waits_with place made (merged trips waiting) ∙ ap (λ b. is_at place made || b) (waits_merged place trips waiting)

-- ---- an Ask at the end

with_last : (own : Own) (asks : List Own) → EachPlace (λ place. place < own.made.ask_place) asks → with_own own asks ≡ asks ++ own ∷ []
with_last own [] each = refl
with_last own (other ∷ others) each = past own other others (omega arith) ∙ ap (λ more. other ∷ more) (with_last own others each.1)

with_push : (own last : Own) (asks : List Own) → own.made.ask_place < last.made.ask_place
    → with_own own (asks ++ last ∷ []) ≡ with_own own asks ++ last ∷ []
with_push own last [] less = here own last [] less
with_push own last (other ∷ others) less = by (ltb own.made.ask_place other.made.ask_place) (with_push own last others less)
  where
    by : (b : Bool) → with_own own (others ++ last ∷ []) ≡ with_own own others ++ last ∷ []
        → cond b (own ∷ other ∷ (others ++ last ∷ [])) (other ∷ with_own own (others ++ last ∷ [])) ≡ cond b (own ∷ other ∷ others) (other ∷ with_own own others) ++ last ∷ []
    by true later = refl
    by false later = ap (λ more. other ∷ more) later

pub asked_merged : (trips : List Trip) (waiting : List Made) (made : Made) → EachPlace (λ place. place < made.ask_place) (merged trips waiting)
    → merged trips (waiting ++ made ∷ []) ≡ merged trips waiting ++ own_ask made None ∷ []
asked_merged trips [] made each = with_last (own_ask made None) (map own_of_trip trips) each
asked_merged trips (first ∷ waiting) made each =
    let both = each_with (λ place. place < made.ask_place) (own_ask first None) (merged trips waiting) each in
    ap (with_own (own_ask first None)) (asked_merged trips waiting made both.1)
    ∙ with_push (own_ask first None) (own_ask made None) (merged trips waiting) both.0
