-- Each result of a history has a place of its own, if it has one.
use Rattle.std.proofs.Common.{◌≡◌, ◌≢◌, ℕ, zero, suc, ◌+◌, ◌≤◌, ◌<◌, Bool, true, false, cond, eqb, List, [], ◌∷◌, length, filter, slice_get, Option, None, Some, All, IfSome, refl, sym, ap, ◌∙◌, ⊎_elim, arith}
use Rattle.std.proofs.lemmas.Bool.{cases_eq, cases_lt}
use Rattle.inf_base.specs.declared.setup.ClientLine.{ClientLine}
use Rattle.inf_duty.specs.After.{client_after}
use Rattle.inf_duty.specs.Outcome.{Outcome, OutcomeFrom, is_place, stands_at}
use Rattle.inf_duty.specs.Places.{HaveOwnPlaces}
use Rattle.inf_duty.specs.World.{World}
use Rattle.inf_duty.specs.ClientState.{ClientState}
use Rattle.inf_message.specs.Sent.{has_place}
use Rattle.inf_message.specs.declared.ask.Ask.{Ask}
use Rattle.inf_message.specs.declared.call_result.CallResult.{CallResult}
use Rattle.inf_message.specs.declared.event.Event.{Event}
use Rattle.inf_message.specs.declared.event.Event.TheVariants as event
use Rattle.inf_message.specs.declared.reply.Reply.{Reply}
use Rattle.inf_message.specs.History.{Posted, asked_at, told_reply}
use Rattle.inf_message.proofs.HistoryLaws.{itself}
use Rattle.inf_duty.proofs.BegunKept.{if_both}
use Rattle.inf_laws_history.proofs.ClientSteps.{served_apart}
use Rattle.inf_laws_history.proofs.DrivenFacts.{waits_not}
use Rattle.inf_laws_history.proofs.HeldPlaces.{agrees_count, asked_holds, count_at, count_both, held_at, served_holds, served_holds_one, starting_holds}
use Rattle.inf_laws_history.proofs.Ordered.{none_waits}

-- ---- one client

-- how often a client holds a place, after a history
abbrev Held : World → ℕ → List Event → ℕ → ℕ
Held world place h client = held_at place (client_after world client h)

ask_holds : (place : ℕ) (world : World) (number : ℕ) (ask : Ask) (h : List Event) (c : ℕ) → Held world place (event.Ask number ask ∷ h) c ≤ Held world place h c
ask_holds place world number ask h c =
    if_both (λ (t : ClientState). held_at place t ≤ Held world place h c) (eqb ask.from.client c) _ _
    (asked_holds world.digest place (suc (length h)) ask (client_after world c h))
    (omega arith)

serve_holds : (place : ℕ) (world : World) (number ask_place : ℕ) (given : Reply) (h : List Event) → place ≢ suc (length h) → (c : ℕ)
    → Held world place (event.Serve number ask_place given ∷ h) c ≤ Held world place h c
serve_holds place world number ask_place given h apart c =
    served_holds world.digest place ask_place (told_reply (suc (length h)) given) (client_after world c h) apart

serve_leaves : (place : ℕ) (world : World) (number ask_place : ℕ) (given : Reply) (h : List Event) (c : ℕ) → has_place ask_place (client_after world c h).sent ≡ false
    → Held world place (event.Serve number ask_place given ∷ h) c ≡ Held world place h c
serve_leaves place world number ask_place given h c apart =
    ap (held_at place) (served_apart world.digest ask_place (told_reply (suc (length h)) given) (client_after world c h) apart)

-- no client holds a place that is still to come
none_later : (world : World) (client place : ℕ) (h : List Event) → length h < place → Held world place h client ≡ 0
none_later world client place [] past = starting_holds world client place (slice_get world.setup.clients client)
none_later world client place (event.Ask number ask ∷ h) past =
    omega (arith, ask_holds place world number ask h client, none_later world client place h (omega (arith, past)))
none_later world client place (event.Serve number ask_place given ∷ h) past =
    omega (arith, serve_holds place world number ask_place given h (omega (arith, past)) client, none_later world client place h (omega (arith, past)))

-- places count from 1
none_at_0 : (world : World) (client : ℕ) (h : List Event) → Held world 0 h client ≡ 0
none_at_0 world client [] = starting_holds world client 0 (slice_get world.setup.clients client)
none_at_0 world client (event.Ask number ask ∷ h) = omega (arith, ask_holds 0 world number ask h client, none_at_0 world client h)
none_at_0 world client (event.Serve number ask_place given ∷ h) =
    omega (arith, serve_holds 0 world number ask_place given h (omega arith) client, none_at_0 world client h)

-- ---- all clients from this one on

abbrev all_hold : World → ℕ → List Event → ℕ → List ClientLine → ℕ
all_hold world place h client [] = 0
all_hold world place h client (line ∷ lines) = Held world place h client + all_hold world place h (client + 1) lines

outcome_count : (place : ℕ) (world : World) (h : List Event) (client : ℕ) (lines : List ClientLine) (results : List CallResult) → OutcomeFrom world h client lines results
    → count_at place results ≤ all_hold world place h client lines
outcome_count place world h client [] results out = omega (arith, ap (count_at place) out)
outcome_count place world h client (line ∷ lines) results out =
    omega (
      arith,
      ap (count_at place) out.all,
      count_both place out.mine out.others,
      agrees_count world.digest place (client_after world client h) out.mine out.agrees,
      outcome_count place world h (client + 1) lines out.others out.later,
    )

all_less : (place : ℕ) (world : World) (now before : List Event) → ((c : ℕ) → Held world place now c ≤ Held world place before c) → (client : ℕ) (lines : List ClientLine)
    → all_hold world place now client lines ≤ all_hold world place before client lines
all_less place world now before each client [] = omega arith
all_less place world now before each client (line ∷ lines) = omega (arith, each client, all_less place world now before each (client + 1) lines)

all_none : (place : ℕ) (world : World) (h : List Event) (client : ℕ) (lines : List ClientLine) → ((c : ℕ) → client ≤ c → Held world place h c ≡ 0) → all_hold world place h client lines ≡ 0
all_none place world h client [] each = refl
all_none place world h client (line ∷ lines) each =
    omega (arith, each client (omega arith), all_none place world h (client + 1) lines (λ c past. each c (omega (arith, past))))

-- of all clients, only one holds the place, and it holds it once
one_holds : (place : ℕ) (world : World) (h : List Event) (owner : ℕ) → ((c : ℕ) → c ≢ owner → Held world place h c ≡ 0) → Held world place h owner ≤ 1 → (client : ℕ) (lines : List ClientLine) → all_hold world place h client lines ≤ 1
one_holds place world h owner apart one client [] = omega arith
one_holds place world h owner apart one client (line ∷ lines) =
    ⊎_elim
    (λ (same : client ≡ owner).
    let none : all_hold world place h (client + 1) lines ≡ 0 = all_none place world h (client + 1) lines (λ c past. apart c (omega (arith, same, past))) in
    omega (arith, none, one, ap (Held world place h) same))
    (λ (unlike : client ≢ owner). omega (arith, apart client unlike, one_holds place world h owner apart one (client + 1) lines))
    (cases_eq client owner)

-- ---- one event more

-- a Serve's place is held by the client that asked alone
served_once : (world : World) (number ask_place : ℕ) (given : Reply) (h : List Event) (found : Option Posted) → asked_at ask_place h ≡ found
    → all_hold world (suc (length h)) (event.Serve number ask_place given ∷ h) 0 world.setup.clients ≤ 1
served_once world number ask_place given h None none =
    let place : ℕ = suc (length h) in
    omega (
      arith,
      all_none place world (event.Serve number ask_place given ∷ h) 0 world.setup.clients
          (λ c past. serve_leaves place world number ask_place given h c (none_waits world c ask_place h none) ∙ none_later world c place h (omega arith)),
    )
served_once world number ask_place given h (Some posted) made =
    let place : ℕ = suc (length h) in
    let owner : ℕ = posted.ask.from.client in
    one_holds place world (event.Serve number ask_place given ∷ h) owner
    (λ c unlike.
    serve_leaves place world number ask_place given h c (waits_not world h c ask_place posted made (λ same. unlike (sym same)))
    ∙ none_later world c place h (omega arith))
    (served_holds_one world.digest place ask_place (told_reply place given) (client_after world owner h) (none_later world owner place h (omega arith)))
    0 world.setup.clients

one_each : (place : ℕ) (world : World) (h : List Event) → all_hold world place h 0 world.setup.clients ≤ 1
one_each place world [] =
    omega (arith, all_none place world [] 0 world.setup.clients (λ c past. starting_holds world c place (slice_get world.setup.clients c)))
one_each place world (event.Ask number ask ∷ h) =
    omega (arith, one_each place world h, all_less place world (event.Ask number ask ∷ h) h (ask_holds place world number ask h) 0 world.setup.clients)
one_each place world (event.Serve number ask_place given ∷ h) =
    ⊎_elim
    (λ (same : place ≡ suc (length h)).
    let e : List Event = event.Serve number ask_place given ∷ h in
    omega (
      arith,
      ap (λ p. all_hold world p e 0 world.setup.clients) same,
      served_once world number ask_place given h (asked_at ask_place h) refl,
    ))
    (λ (unlike : place ≢ suc (length h)).
    omega (arith, one_each place world h, all_less place world (event.Serve number ask_place given ∷ h) h (serve_holds place world number ask_place given h unlike) 0 world.setup.clients))
    (cases_eq place (suc (length h)))

-- ---- where no result stands

tail_none : (place : ℕ) (result : CallResult) (results : List CallResult) → count_at place (result ∷ results) ≡ 0 → count_at place results ≡ 0
tail_none place result results none = by_test (stands_at place result) none
  where
    by_test : (b : Bool) → length (cond b (result ∷ filter (stands_at place) results) (filter (stands_at place) results)) ≡ 0 → count_at place results ≡ 0
    by_test true full = absurd (omega (arith, full))
    by_test false rest = rest

head_none : (place : ℕ) (result : CallResult) (results : List CallResult) → count_at place (result ∷ results) ≡ 0 → is_place place result.place ≡ false
head_none place result results none = by_test (stands_at place result) none
  where
    by_test : (b : Bool) → length (cond b (result ∷ filter (stands_at place) results) (filter (stands_at place) results)) ≡ 0 → b ≡ false
    by_test true full = absurd (omega (arith, full))
    by_test false rest = refl

place_within : (events : ℕ) (at : Option ℕ) → is_place 0 at ≡ false → ((place : ℕ) → events < place → is_place place at ≡ false) → IfSome at (λ place. (1 ≤ place) × (place ≤ events))
place_within events None first later = tt
place_within events (Some zero) first later = absurd (let here = itself 0 in cc)
place_within events (Some (suc place)) first later =
    ⊎_elim
    (λ (past : events < suc place). absurd (let here = itself (suc place) in let never = later (suc place) past in cc))
    (λ (within : suc place ≤ events). (omega arith, within))
    (cases_lt events (suc place))

all_within : (events : ℕ) (results : List CallResult) → count_at 0 results ≡ 0 → ((place : ℕ) → events < place → count_at place results ≡ 0) → All (λ result. IfSome result.place (λ place. (1 ≤ place) × (place ≤ events))) results
all_within events [] first later k d inside = absurd (omega arith)
all_within events (result ∷ results) first later zero d inside =
    place_within events result.place (head_none 0 result results first) (λ place past. head_none place result results (later place past))
all_within events (result ∷ results) first later (suc k) d inside =
    all_within events results (tail_none 0 result results first) (λ place past. tail_none place result results (later place past)) k d (omega arith)

-- each result that agrees with a history has a place of its own, if it has one
pub results_have_own_places : (world : World) (h : List Event) (results : List CallResult) → Outcome world h results → HaveOwnPlaces (length h) results
results_have_own_places world h results out = record {
  within = all_within (length h) results
      (omega (arith, outcome_count 0 world h 0 world.setup.clients results out, all_none 0 world h 0 world.setup.clients (λ c past. none_at_0 world c h)))
      (λ place past. omega (arith, outcome_count place world h 0 world.setup.clients results out, all_none place world h 0 world.setup.clients (λ c from. none_later world c place h past)));
  own = λ place. omega (arith, one_each place world h, outcome_count place world h 0 world.setup.clients results out);
}
