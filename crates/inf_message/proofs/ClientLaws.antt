-- What one more event changes for a client, and that its trips are what the history shows.
use Rattle.std.proofs.Common.{◌≡◌, ◌≢◌, ◌==◌, ℕ, not, filter, suc, Bool, true, false, cond, eqb, List, [], ◌∷◌, length, map, Option, None, Some, IfSome, All, refl, sym, ap, subst, ◌∙◌}
use Rattle.std.proofs.lemmas.Bool.Decides.{Decides-eqb}
use Rattle.std.proofs.lemmas.List.Elements.{All-nil, All-cons, All-head, All-tail, All-map, All-weaker}
use Rattle.std.specs.List.{filter_map, cons_option}
use Rattle.inf_message.specs.declared.ask.Ask.{Ask}
use Rattle.inf_message.specs.declared.event.Event.{Event}
use Rattle.inf_message.specs.declared.event.Event.TheVariants as event
use Rattle.inf_message.specs.declared.reply.Reply.{Reply}
use Rattle.inf_message.specs.History.{Made, Own, Posted, Told, asked_at, asks_of, event_at, made_ask, or_told, own_ask, served_at, trip_of, trip_with, told_reply, trips_of, unless_told, waiting_in, waiting_of}
use Rattle.inf_message.specs.Shown.{IsMade, IsOwn, IsToldAt, IsTrip}
use Rattle.inf_message.proofs.HistoryLaws.{asked_newest, asked_stays, asked_within, event_stays, event_within, itself, other}

pub asks_apart : (client number : ℕ) (ask : Ask) (h : List Event) → ask.from.client ≢ client → asks_of client (event.Ask number ask ∷ h) ≡ asks_of client h
asks_apart client number ask h unlike = rw (other ask.from.client client unlike) refl

-- ---- what was told stays

made_stays : (client : ℕ) (h : List Event) (e : Event) (made : Made) → IsMade client h made → IsMade client (e ∷ h) made
made_stays client h e made is =
    let place = asked_within made.ask_place _ h is.asked in
    record { asked = asked_stays made.ask_place e h place.within ∙ is.asked; by_client = is.by_client }

told_stays : (h : List Event) (e : Event) (place : ℕ) (told : Option Told) → IsToldAt h place told → IsToldAt (e ∷ h) place told
told_stays h e place None is = tt
told_stays h e place (Some told) is =
    let there = event_within told.serve_place _ h is.1 in
    (is.0, event_stays told.serve_place e h there.within ∙ is.1)

own_stays : (client : ℕ) (h : List Event) (e : Event) (own : Own) → IsOwn client h own → IsOwn client (e ∷ h) own
own_stays client h e own is =
    record { made = made_stays client h e own.made is.made; told = told_stays h e own.made.ask_place own.told is.told }

-- ---- what a Serve adds

event_newest : (e : Event) (h : List Event) → event_at (suc (length h)) (e ∷ h) ≡ Some e
event_newest e h = rw (itself (suc (length h))) refl

abbrev told_by : List Event → Reply → Told
told_by h reply = told_reply (suc (length h)) reply

told_now : (h : List Event) (number place : ℕ) (reply : Reply) (before : Option Told) → IsToldAt h place before → IsToldAt (event.Serve number place reply ∷ h) place (Some (or_told before (told_by h reply)))
told_now h number place reply None is = (number, event_newest (event.Serve number place reply) h)
told_now h number place reply (Some told) is = told_stays h (event.Serve number place reply) place (Some told) is

own_served : (client number place : ℕ) (reply : Reply) (h : List Event) (own : Own) → IsOwn client h own → IsOwn client (event.Serve number place reply ∷ h) (served_at place (told_by h reply) own)
own_served client number place reply h own is = by_place (eqb own.made.ask_place place) refl
  where
    by_place : (b : Bool) → eqb own.made.ask_place place ≡ b → IsOwn client (event.Serve number place reply ∷ h) (cond b (own_ask own.made (Some (or_told own.told (told_by h reply)))) own)
    by_place true same =
        let e : own.made.ask_place ≡ place = (Decides-eqb own.made.ask_place place).0 same in
        let now = told_now h number own.made.ask_place reply own.told is.told in
        record {
          made = made_stays client h (event.Serve number place reply) own.made is.made;
          told = subst (λ p. IsToldAt (event.Serve number p reply ∷ h) own.made.ask_place (Some (or_told own.told (told_by h reply)))) e now;
        }
    by_place false unlike = own_stays client h (event.Serve number place reply) own is

abbrev made_by : ℕ → Ask → List Event → Own
made_by number ask h = own_ask (made_ask number ask (suc (length h))) None

with_ask : (client number : ℕ) (ask : Ask) (h : List Event) (b : Bool) → eqb ask.from.client client ≡ b → All (IsOwn client (event.Ask number ask ∷ h)) (asks_of client h) → All (IsOwn client (event.Ask number ask ∷ h)) (cond b (made_by number ask h ∷ asks_of client h) (asks_of client h))
with_ask client number ask h true same earlier =
    All-cons (IsOwn client (event.Ask number ask ∷ h)) (made_by number ask h) (asks_of client h)
    (record { made = record { asked = asked_newest number ask h; by_client = (Decides-eqb ask.from.client client).0 same }; told = tt })
    earlier
with_ask client number ask h false unlike earlier = earlier

-- ---- all Asks of a client

pub asks_are_own : (client : ℕ) (h : List Event) → All (IsOwn client h) (asks_of client h)
asks_are_own client [] = All-nil (IsOwn client [])
asks_are_own client (event.Serve number place reply ∷ h) =
    All-map (IsOwn client (event.Serve number place reply ∷ h)) (served_at place (told_by h reply)) (asks_of client h)
    (All-weaker (IsOwn client h) (λ own. IsOwn client (event.Serve number place reply ∷ h) (served_at place (told_by h reply) own)) (own_served client number place reply h) (asks_of client h) (asks_are_own client h))
asks_are_own client (event.Ask number ask ∷ h) =
    with_ask client number ask h (eqb ask.from.client client) refl
    (All-weaker (IsOwn client h) (IsOwn client (event.Ask number ask ∷ h)) (own_stays client h (event.Ask number ask)) (asks_of client h) (asks_are_own client h))

-- ---- trips, and what waits

if_some-cons : {X : Type 0} (P : X → Type 0) (o : Option X) (xs : List X) → IfSome o P → All P xs → All P (cons_option o xs)
if_some-cons P None xs is are = are
if_some-cons P (Some x) xs is are = All-cons P x xs is are

All-filter_map : {X Y : Type 0} (P : Y → Type 0) (Q : X → Type 0) (f : X → Option Y) → ((x : X) → Q x → IfSome (f x) P) → (xs : List X) → All Q xs → All P (filter_map f xs)
All-filter_map P Q f gives [] are = All-nil P
All-filter_map P Q f gives (x ∷ xs) are =
    if_some-cons P (f x) (filter_map f xs) (gives x (All-head Q x xs are)) (All-filter_map P Q f gives xs (All-tail Q x xs are))

trip_is : (client : ℕ) (h : List Event) (made : Made) (told : Option Told) → IsMade client h made → IsToldAt h made.ask_place told → IfSome (trip_with made told) (IsTrip client h)
trip_is client h made None is at = tt
trip_is client h made (Some told) is at = record { asked = is.asked; served = at; by_client = is.by_client }

pub trips_are_shown : (client : ℕ) (h : List Event) → All (IsTrip client h) (trips_of client h)
trips_are_shown client h =
    All-filter_map (IsTrip client h) (IsOwn client h) trip_of (λ own is. trip_is client h own.made own.told is.made is.told) (asks_of client h) (asks_are_own client h)

waits_is : (client : ℕ) (h : List Event) (made : Made) (told : Option Told) → IsMade client h made → IfSome (unless_told made told) (IsMade client h)
waits_is client h made None is = is
waits_is client h made (Some told) is = tt

pub waiting_are_made : (client : ℕ) (h : List Event) → All (IsMade client h) (waiting_of client h)
waiting_are_made client h =
    All-filter_map (IsMade client h) (IsOwn client h) waiting_in (λ own is. waits_is client h own.made own.told is.made) (asks_of client h) (asks_are_own client h)

-- ---- what a Serve of another's Ask leaves

some_same : {X : Type 0} {x y : X} → Some x ≡ Some y → x ≡ y
some_same e = cc

unlike_place : (client place : ℕ) (posted : Posted) (h : List Event) (own : Own) → asked_at place h ≡ Some posted → posted.ask.from.client ≢ client → IsOwn client h own → own.made.ask_place ≢ place
unlike_place client place posted h own found another is same =
    let e : Some posted ≡ asked_at place h = sym found in
    let at : asked_at place h ≡ asked_at own.made.ask_place h = ap (λ p. asked_at p h) (sym same) in
    let both = some_same (e ∙ at ∙ is.made.asked) in
    another (ap (λ (p : Posted). p.ask.from.client) both ∙ is.made.by_client)

all_left : (client place : ℕ) (posted : Posted) (told : Told) (h : List Event) → asked_at place h ≡ Some posted → posted.ask.from.client ≢ client → (owns : List Own) → All (IsOwn client h) owns → map (served_at place told) owns ≡ owns
all_left client place posted told h found another [] are = refl
all_left client place posted told h found another (own ∷ owns) are =
    let head : eqb own.made.ask_place place ≡ false = other own.made.ask_place place (unlike_place client place posted h own found another (All-head (IsOwn client h) own owns are)) in
    let tail = all_left client place posted told h found another owns (All-tail (IsOwn client h) own owns are) in
    rw (head, tail) refl

pub serve_apart : (client number place : ℕ) (reply : Reply) (posted : Posted) (h : List Event) → asked_at place h ≡ Some posted → posted.ask.from.client ≢ client → asks_of client (event.Serve number place reply ∷ h) ≡ asks_of client h
serve_apart client number place reply posted h found another =
    all_left client place posted (told_by h reply) h found another (asks_of client h) (asks_are_own client h)

-- ---- an Ask changes no trips

trips_by : (client number : ℕ) (ask : Ask) (h : List Event) (b : Bool) → filter_map trip_of (cond b (made_by number ask h ∷ asks_of client h) (asks_of client h)) ≡ trips_of client h
trips_by client number ask h true = refl
trips_by client number ask h false = refl

pub trips_stay : (client number : ℕ) (ask : Ask) (h : List Event) → trips_of client (event.Ask number ask ∷ h) ≡ trips_of client h
trips_stay client number ask h = trips_by client number ask h (eqb ask.from.client client)

pub waits_newly : (client number : ℕ) (ask : Ask) (h : List Event) → ask.from.client ≡ client → waiting_of client (event.Ask number ask ∷ h) ≡ made_ask number ask (suc (length h)) ∷ waiting_of client h
waits_newly client number ask h same = rw (same, itself client) refl

-- ---- a Serve ends the wait of its Ask

abbrev not_at : ℕ → Made → Bool
not_at place made = not (eqb made.ask_place place)

-- one Ask, whether it is the one that is served, and whether it was told before
one_served : (place : ℕ) (later : Told) (made : Made) (told : Option Told) (b : Bool) (xs : List Made) → eqb made.ask_place place ≡ b →
    cons_option (waiting_in (cond b (own_ask made (Some (or_told told later))) (own_ask made told))) (filter (not_at place) xs)
    ≡ filter (not_at place) (cons_option (unless_told made told) xs)
one_served place later made None true xs same = rw same refl
one_served place later made (Some told) true xs same = refl
one_served place later made None false xs same = rw same refl
one_served place later made (Some told) false xs same = refl

all_served : (place : ℕ) (later : Told) (owns : List Own) → filter_map waiting_in (map (served_at place later) owns) ≡ filter (not_at place) (filter_map waiting_in owns)
all_served place later [] = refl
all_served place later (own ∷ owns) =
    rw (all_served place later owns) (one_served place later own.made own.told (eqb own.made.ask_place place) (filter_map waiting_in owns) refl)

pub waits_no_more : (client number place : ℕ) (reply : Reply) (h : List Event) → waiting_of client (event.Serve number place reply ∷ h) ≡ filter (λ (made : Made). not (made.ask_place == place)) (waiting_of client h)
waits_no_more client number place reply h = all_served place (told_by h reply) (asks_of client h)
