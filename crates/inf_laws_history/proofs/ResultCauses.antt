-- What an answer that gave its call up rests on: a Serve that said so, which stands there whatever joins.
use Rattle.std.proofs.Common.{◌≡◌, ◌⊎◌, inl, inr, ℕ, suc, ◌≤◌, ◌<◌, Bool, true, false, cond, eqb, nat_lt, List, [], ◌∷◌, length, Option, None, Some, refl, sym, ap, subst, ◌∙◌, arith}
use Rattle.std.proofs.lemmas.Bool.Decides.{Decides-eqb, nat_tests}
use Rattle.inf_base.specs.declared.answer.Answer.{Answer}
use Rattle.inf_base.specs.declared.answer.Answer.TheVariants as answer
use Rattle.inf_base.specs.declared.caller.CallRef.{CallRef}
use Rattle.inf_base.specs.declared.triple.Triple.{Triple}
use Rattle.inf_duty.specs.World.{World}
use Rattle.inf_message.specs.declared.ending.Ending.TheVariants as ending
use Rattle.inf_duty.specs.ClientState.{ClientState, Stage, act, call_ref, compose, round, winds}
use Rattle.inf_message.specs.Heard.{heard, light}
use Rattle.inf_duty.specs.Turn.{heard_in}
use Rattle.inf_message.specs.Sent.{Sent}
use Rattle.inf_message.specs.declared.ending.Ending.{Ending}
use Rattle.inf_laws_history.specs.Causes.{before}
use Rattle.inf_laws_history.specs.Legal.{Legal, MayServe}
use Rattle.inf_laws_history.specs.Objects.{WasAskedIn}
use Rattle.inf_laws_history.proofs.AskedGroups.{asked_in_stays}
use Rattle.inf_message.specs.declared.call_result.CallResult.{CallResult}
use Rattle.inf_message.specs.declared.event.Event.{Event}
use Rattle.inf_message.specs.declared.event.Event.TheVariants as event
use Rattle.inf_message.specs.declared.reply.Reply.{Reply}
use Rattle.inf_message.specs.declared.reply.Reply.TheVariants as reply
use Rattle.inf_message.specs.declared.reply.Spot.{Spot}
use Rattle.inf_message.specs.declared.request.Request.TheVariants as request
use Rattle.inf_message.specs.History.{Posted, Told, asked_at, event_at, told_reply}
use Rattle.inf_resolve.specs.declared.known.Known.{Known}
use Rattle.inf_message.proofs.HistoryLaws.{asked_stays, asked_within, by_test, event_stays, event_within}

-- ---- earlier events

not_less : (a b : ℕ) → b ≤ a → nat_lt a b ≡ false
not_less a b within = grind (arith, nat_tests)

is_less : (a b : ℕ) → a < b → nat_lt a b ≡ true
is_less a b less = grind (arith, nat_tests)

pub before_stays : (place : ℕ) (e : Event) (h : List Event) → place ≤ suc (length h) → before place (e ∷ h) ≡ before place h
before_stays place e h within = ap (λ (b : Bool). cond b (e ∷ h) (before place h)) (not_less (suc (length h)) place within)

pub before_all : (place : ℕ) (h : List Event) → length h < place → before place h ≡ h
before_all place [] past = refl
before_all place (e ∷ h) past = ap (λ (b : Bool). cond b (e ∷ h) (before place h)) (is_less (suc (length h)) place past)

-- an Ask of earlier stands there still
pub asked_before : (place at : ℕ) (posted : Posted) (h : List Event) → asked_at at (before place h) ≡ Some posted → asked_at at h ≡ Some posted
asked_before place at posted [] found = found
asked_before place at posted (e ∷ h) found = by (nat_lt (suc (length h)) place) found (asked_before place at posted h)
  where
    by : (b : Bool) → asked_at at (cond b (e ∷ h) (before place h)) ≡ Some posted → (asked_at at (before place h) ≡ Some posted → asked_at at h ≡ Some posted)
        → asked_at at (e ∷ h) ≡ Some posted
    by true here later = here
    by false here later = let there = later here in asked_stays at e h (asked_within at posted h there).within ∙ there

-- a Serve of a legal history was one that its server might make after the events before it
pub serve_may : (world : World) (h : List Event) → Legal world h → (place number ask_place : ℕ) (given : Reply)
    → event_at place h ≡ Some (event.Serve number ask_place given)
    → Legal world (before place h) × MayServe world (before place h) number ask_place given
serve_may world [] legal place number ask_place given stands = absurd cc
serve_may world (event.Ask n ask ∷ h) legal place number ask_place given stands =
    by_test (eqb place (suc (length h))) stands (λ same here. absurd cc) (λ unlike behind.
    let within = (event_within place (event.Serve number ask_place given) h behind).within in
    subst (λ (earlier : List Event). Legal world earlier × MayServe world earlier number ask_place given)
    (sym (before_stays place (event.Ask n ask) h (omega (arith, within))))
    (serve_may world h legal.0 place number ask_place given behind))
serve_may world (event.Serve n p r ∷ h) legal place number ask_place given stands =
    by_test (eqb place (suc (length h))) stands
    (λ same here.
    let at : place ≡ suc (length h) = (Decides-eqb place (suc (length h))).0 same in
    let all : before place (event.Serve n p r ∷ h) ≡ h =
    before_stays place (event.Serve n p r) h (omega (arith, at)) ∙ before_all place h (omega (arith, at)) in
    let one : n ≡ number = cc in
    let two : p ≡ ask_place = cc in
    let three : r ≡ given = cc in
    subst (λ (earlier : List Event). Legal world earlier × MayServe world earlier number ask_place given) (sym all) (
      legal.0,
      subst (λ (x : Reply). MayServe world h number ask_place x) three
          (subst (λ x. MayServe world h number x r) two (subst (λ x. MayServe world h x p r) one legal.1)),
    ))
    (λ unlike behind.
    let within = (event_within place (event.Serve number ask_place given) h behind).within in
    subst (λ (earlier : List Event). Legal world earlier × MayServe world earlier number ask_place given)
    (sym (before_stays place (event.Serve n p r) h (omega (arith, within))))
    (serve_may world h legal.0 place number ask_place given behind))

-- ---- what a result rests on

-- what is kept of a reply is the reply, or Other
abbrev pub IsKeptOf : Reply → Reply → Type 0
IsKeptOf given kept = (kept ≡ given) ⊎ (kept ≡ reply.Other)

heard_keeps : (given : Reply) → IsKeptOf given (heard given)
heard_keeps (reply.Listing items) = inr refl
heard_keeps other_reply = inl refl

light_keeps : (given : Reply) → IsKeptOf given (light given)
light_keeps (reply.Found k access) = inr refl
light_keeps (reply.Clash kept) = inr refl
light_keeps (reply.Listing items) = inr refl
light_keeps other_reply = inl refl

pub stage_keeps : (stage : Stage) (given : Reply) → IsKeptOf given (heard_in stage given)
stage_keeps (round keys) given = heard_keeps given
stage_keeps compose given = light_keeps given
stage_keeps (act step) given = light_keeps given
stage_keeps (winds end ms later) given = light_keeps given

pub keeps_on : (given kept later : Reply) → IsKeptOf given kept → IsKeptOf kept later → IsKeptOf given later
keeps_on given kept later is (inr other) = inr other
keeps_on given kept later (inl same) (inl again) = inl (again ∙ same)
keeps_on given kept later (inr other) (inl again) = inr (again ∙ other)

-- what is kept as another reply than Other was given so
pub given_as : (given kept what : Reply) → IsKeptOf given kept → kept ≡ what → (what ≡ reply.Other → ⊥) → given ≡ what
given_as given kept what (inl same) is unlike = sym same ∙ is
given_as given kept what (inr other) is unlike = absurd (unlike (sym is ∙ other))

-- the call's Ask at a place was served so
pub record IsServedFor (h : List Event) (call : CallRef) (place : ℕ) (told : Told) : Type 0 where
  pub number : ℕ
  pub given : Reply
  pub stands : event_at told.serve_place h ≡ Some (event.Serve number place given)
  pub hears : IsKeptOf given told.reply
  pub posted : Posted
  pub asked : asked_at place (before told.serve_place h) ≡ Some posted
  pub own : posted.ask.from ≡ call

-- and it was a lookup of this key
pub record IsKnownFor (h : List Event) (call : CallRef) (known : Known) : Type 0 where
  pub ask_place : ℕ
  pub served : IsServedFor h call ask_place (told_reply known.place known.reply)
  pub looks : WasAskedIn h ask_place (request.Lookup known.key)

-- a Serve told the call that another one is in the way
pub record IsBusyFor (h : List Event) (call by : CallRef) (at : Option ℕ) : Type 0 where
  pub place : ℕ
  pub placed : at ≡ Some place
  pub number : ℕ
  pub ask_place : ℕ
  pub spot : Spot
  pub born : ℕ
  pub told : event_at place h ≡ Some (event.Serve number ask_place (reply.Busy by spot born))
  pub posted : Posted
  pub asked : asked_at ask_place (before place h) ≡ Some posted
  pub own : posted.ask.from ≡ call

-- a Serve told the call that a directory of another birth has the identifier
pub record IsClashFor (h : List Event) (call : CallRef) (own kept : Triple) (at : Option ℕ) : Type 0 where
  pub place : ℕ
  pub placed : at ≡ Some place
  pub number : ℕ
  pub ask_place : ℕ
  pub told : event_at place h ≡ Some (event.Serve number ask_place (reply.Clash kept))
  pub posted : Posted
  pub asked : asked_at ask_place (before place h) ≡ Some posted
  pub caller : posted.ask.from ≡ call
  pub makes : posted.ask.request ≡ request.Make own

abbrev pub IsCausedFor : List Event → CallRef → Answer → Option ℕ → Type 0
IsCausedFor h call (answer.Again by) at = IsBusyFor h call by at
IsCausedFor h call (answer.IdClash own kept) at = IsClashFor h call own kept at
IsCausedFor h call other_answer at = Unit {0}

abbrev pub AllCaused : List Event → List CallResult → Type 0
AllCaused h [] = Unit {0}
AllCaused h (r ∷ rs) = IsCausedFor h r.call r.answer r.place × AllCaused h rs

abbrev pub EndsCaused : List Event → CallRef → Ending → Type 0
EndsCaused h call (ending.Answers given at) = IsCausedFor h call given at
EndsCaused h call ending.Retries = Unit {0}

abbrev pub StageCaused : List Event → CallRef → Stage → Type 0
StageCaused h call (winds end ms later) = EndsCaused h call end
StageCaused h call other_stage = Unit {0}

abbrev pub IsServedIf : List Event → CallRef → ℕ → Option Told → Type 0
IsServedIf h call place None = Unit {0}
IsServedIf h call place (Some told) = IsServedFor h call place told

abbrev pub AreServed : List Event → CallRef → List Sent → Type 0
AreServed h call [] = Unit {0}
AreServed h call (x ∷ xs) = IsServedIf h call x.place x.told × AreServed h call xs

abbrev pub AreKnown : List Event → CallRef → List Known → Type 0
AreKnown h call [] = Unit {0}
AreKnown h call (k ∷ ks) = IsKnownFor h call k × AreKnown h call ks

-- a client's results, and the answer that its call comes to, rest on Serves; so does what its attempt was told
pub record IsCaused (h : List Event) (s : ClientState) : Type 0 where
  pub results : AllCaused h s.results
  pub stage : StageCaused h (call_ref s) s.stage
  pub known : AreKnown h (call_ref s) s.known
  pub sent : AreServed h (call_ref s) s.sent

-- ---- one event more

module _ (e : Event) (h : List Event) (call : CallRef) where
  served_stays : (place : ℕ) (told : Told) → IsServedFor h call place told → IsServedFor (e ∷ h) call place told
  served_stays place told is =
      let within = (event_within told.serve_place (event.Serve is.number place is.given) h is.stands).within in
      record {
        number = is.number;
        given = is.given;
        stands = event_stays told.serve_place e h within ∙ is.stands;
        hears = is.hears;
        posted = is.posted;
        asked = ap (asked_at place) (before_stays told.serve_place e h (omega (arith, within))) ∙ is.asked;
        own = is.own;
      }

  busy_stays : (by : CallRef) (at : Option ℕ) → IsBusyFor h call by at → IsBusyFor (e ∷ h) call by at
  busy_stays by at is =
      let within = (event_within is.place (event.Serve is.number is.ask_place (reply.Busy by is.spot is.born)) h is.told).within in
      record {
        place = is.place;
        placed = is.placed;
        number = is.number;
        ask_place = is.ask_place;
        spot = is.spot;
        born = is.born;
        told = event_stays is.place e h within ∙ is.told;
        posted = is.posted;
        asked = ap (asked_at is.ask_place) (before_stays is.place e h (omega (arith, within))) ∙ is.asked;
        own = is.own;
      }

  clash_stays : (own kept : Triple) (at : Option ℕ) → IsClashFor h call own kept at → IsClashFor (e ∷ h) call own kept at
  clash_stays own kept at is =
      let within = (event_within is.place (event.Serve is.number is.ask_place (reply.Clash kept)) h is.told).within in
      record {
        place = is.place;
        placed = is.placed;
        number = is.number;
        ask_place = is.ask_place;
        told = event_stays is.place e h within ∙ is.told;
        posted = is.posted;
        asked = ap (asked_at is.ask_place) (before_stays is.place e h (omega (arith, within))) ∙ is.asked;
        caller = is.caller;
        makes = is.makes;
      }

  cause_stays : (given : Answer) (at : Option ℕ) → IsCausedFor h call given at → IsCausedFor (e ∷ h) call given at
  cause_stays (answer.Again by) at is = busy_stays by at is
  cause_stays (answer.IdClash own kept) at is = clash_stays own kept at is
  cause_stays other_answer at is = tt

  ending_stays : (end : Ending) → EndsCaused h call end → EndsCaused (e ∷ h) call end
  ending_stays (ending.Answers given at) is = cause_stays given at is
  ending_stays ending.Retries is = tt

  stage_stays : (stage : Stage) → StageCaused h call stage → StageCaused (e ∷ h) call stage
  stage_stays (winds end ms later) is = ending_stays end is
  stage_stays other_stage is = tt

  if_stays : (place : ℕ) (told : Option Told) → IsServedIf h call place told → IsServedIf (e ∷ h) call place told
  if_stays place None is = tt
  if_stays place (Some told) is = served_stays place told is

  pub sent_stays : (sent : List Sent) → AreServed h call sent → AreServed (e ∷ h) call sent
  sent_stays [] is = tt
  sent_stays (x ∷ xs) is = (if_stays x.place x.told is.0, sent_stays xs is.1)

  pub known_stays : (known : List Known) → AreKnown h call known → AreKnown (e ∷ h) call known
  known_stays [] is = tt
  known_stays (k ∷ ks) is = (
    record {
      ask_place = is.0.ask_place;
      served = served_stays is.0.ask_place (told_reply k.place k.reply) is.0.served;
      looks = asked_in_stays h e is.0.ask_place (request.Lookup k.key) is.0.looks;
    },
    known_stays ks is.1,
  )

results_stay : (e : Event) (h : List Event) (results : List CallResult) → AllCaused h results → AllCaused (e ∷ h) results
results_stay e h [] all = tt
results_stay e h (r ∷ rs) all = (cause_stays e h r.call r.answer r.place all.0, results_stay e h rs all.1)

pub caused_stays : (e : Event) (h : List Event) (s : ClientState) → IsCaused h s → IsCaused (e ∷ h) s
caused_stays e h s is = record {
  results = results_stay e h s.results is.results;
  stage = stage_stays e h (call_ref s) s.stage is.stage;
  known = known_stays e h (call_ref s) s.known is.known;
  sent = sent_stays e h (call_ref s) s.sent is.sent;
}
