-- The log as it is kept: what its parts show, before and after an Ask and an answer.
use Rattle.std.proofs.Common.{◌≡◌, ℕ, ◌+◌, ◌-◌, ◌<◌, ◌≤◌, Bool, true, false, cond, ltb, not, ◌||◌, List, [], ◌∷◌, ◌++◌, length, map, get_or, insert, position, remove, None, Some, sym, ap, ap₂, ◌∙◌, subst, arith}
use Rattle.std.specs.List.{AllWithin, list_any, position_or_len}
use Rattle.std.proofs.lemmas.Bool.{cond-true, eqb-true, lt-ltb}
use Rattle.std.proofs.lemmas.List.Quantifiers.{position-Some}
use Rattle.inf_message.specs.declared.trip.Trip.{Trip}
use Rattle.inf_message.specs.History.{Made, Posted, Told, own_ask, served_at}
use Rattle.inf_client.specs.AskLog.{AskLog, IsLater, Rise, asked_log, is_at, made_at, merged, places_of, told_log, trip_places, trip_told, trips_in, waits_at}
use Rattle.inf_client.proofs.Places.{each_before, rise_asked, trips_rise}
use Rattle.inf_client.proofs.Merging.{asked_merged, trips_merged, waits_merged}
use Rattle.inf_client.proofs.Telling.{inserted, places_told, told_merged}

-- what passes somewhere has a first place
first_within : (test : Made → Bool) (made : List Made) → list_any test made ≡ true → position_or_len test made < length made
first_within test [] passes = absurd (cc)
first_within test (first ∷ made) passes = by (test first) passes (first_within test made)
  where
    by : (b : Bool) → (b || list_any test made) ≡ true → (list_any test made ≡ true → position_or_len test made < length made)
        → cond (not b) (1 + position_or_len test made) 0 < length (first ∷ made)
    by true passes later = omega arith
    by false passes later = let within = later passes in omega arith

found : (test : Made → Bool) (made : List Made) → list_any test made ≡ true → position test made ≡ None → ⊥
found test made passes none =
    let here : position test made ≡ Some (position_or_len test made) =
    cond-true (ltb (position_or_len test made) (length made)) (Some (position_or_len test made)) None (lt-ltb _ _ (first_within test made passes)) in
    cc

abbrev pub log_of : List Trip → List Made → ℕ → AskLog
log_of trips waiting room = record { asks = merged trips waiting; room = room }

module _ (trips : List Trip) (waiting : List Made) (room : ℕ) (log : AskLog) (is : log_of trips waiting room ≡ log) where
  pub trips_shown : trips ≡ trips_in log
  trips_shown = sym (trips_merged trips waiting) ∙ ap trips_in is

  pub trips_shown_rise : Rise (places_of (merged trips waiting)) → Rise (trip_places (trips_in log))
  trips_shown_rise rise = subst (λ t. Rise (trip_places t)) trips_shown (trips_rise trips waiting rise)

  pub waits_shown : (place : ℕ) → list_any (is_at place) waiting ≡ waits_at place log.asks
  waits_shown place = sym (waits_merged place trips waiting) ∙ ap (λ (l : AskLog). waits_at place l.asks) is

  -- ---- an Ask

  later_shown : (place : ℕ) → IsLater place log.asks → IsLater place (merged trips waiting)
  later_shown place later = subst (λ (l : AskLog). IsLater place l.asks) (sym is) later

  pub asked_shown : (place : ℕ) (posted : Posted) (more : List Made) → IsLater place log.asks
      → more ≡ waiting ++ made_at place posted ∷ [] → log_of trips more (room - 1) ≡ asked_log place posted log
  asked_shown place posted more later pushed =
      ap (λ w. log_of trips w (room - 1)) pushed
      ∙ ap (λ asks. record { asks = asks; room = room - 1 })
      (asked_merged trips waiting (made_at place posted) (each_before place (merged trips waiting) (later_shown place later)))
      ∙ ap (asked_log place posted) is

  pub asked_rise : (place : ℕ) (made : Made) (more : List Made) → IsLater place log.asks → made.ask_place ≡ place
      → more ≡ waiting ++ made ∷ [] → Rise (places_of (merged trips waiting)) → Rise (places_of (merged trips more))
  asked_rise place made more later here pushed rise =
      let after : IsLater made.ask_place (merged trips waiting) = subst (λ p. IsLater p (merged trips waiting)) (sym here) (later_shown place later) in
      subst (λ w. Rise (places_of (merged trips w))) (sym pushed)
      (subst (λ asks. Rise (places_of asks)) (sym (asked_merged trips waiting made (each_before made.ask_place (merged trips waiting) after)))
      (rise_asked (own_ask made None) (merged trips waiting) rise after))

  -- ---- an answer

  pub waits_somewhere : (place : ℕ) → waits_at place log.asks ≡ true → position (is_at place) waiting ≡ None → ⊥
  waits_somewhere place waits none = found (is_at place) waiting (waits_shown place ∙ waits) none

-- the Ask of this index waits no more, and its trip was put among the others
module _ (trips more : List Trip) (waiting left : List Made) (place : ℕ) (told : Told) (made : Made) (index at : ℕ)
    (first : position (is_at place) waiting ≡ Some index) (found : made ≡ get_or waiting index made) (removed : left ≡ remove waiting index)
    (within : at ≤ length trips) (earlier : AllWithin (λ (trip : Trip). trip.ask_place ≤ place) trips 0 at)
    (later : AllWithin (λ (trip : Trip). place < trip.ask_place) trips at (length trips))
    (put : more ≡ insert trips at (trip_told made told)) (rise : Rise (places_of (merged trips waiting))) where
  told_asks : merged more left ≡ map (served_at place told) (merged trips waiting)
  told_asks =
      let facts = position-Some (is_at place) waiting index made first in
      let here : is_at place made ≡ true = ap (is_at place) found ∙ facts.1 in
      let same : made.ask_place ≡ place = eqb-true made.ask_place place here in
      ap₂ merged put removed
      ∙ told_merged told place made trips (insert trips at (trip_told made told)) waiting index
      (inserted (trip_told made told) trips at within
      (subst (λ p. AllWithin (λ (trip : Trip). trip.ask_place ≤ p) trips 0 at) (sym same) earlier)
      (subst (λ p. AllWithin (λ (trip : Trip). p < trip.ask_place) trips at (length trips)) (sym same) later))
      facts.0 found here same facts.2 rise

  pub told_rise : Rise (places_of (merged more left))
  told_rise = subst Rise (sym (ap places_of told_asks ∙ places_told place told (merged trips waiting))) rise

  pub told_shown : (room : ℕ) (log : AskLog) → log_of trips waiting room ≡ log → log_of more left room ≡ told_log place told log
  told_shown room log is = ap (λ asks. record { asks = asks; room = room }) told_asks ∙ ap (told_log place told) is
