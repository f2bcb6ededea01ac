-- What a client knows in an attempt it was told in this attempt, and so are the answers to its present group.
use Rattle.std.proofs.Common.{◌≡◌, ℕ, suc, ◌==◌, ◌+◌, ◌≤◌, Bool, true, not, eqb, List, [], ◌∷◌, length, slice_get, Option, Some, None, All, IfSome, refl, sym, ap, ◌∙◌, subst, arith}
use Rattle.std.proofs.lemmas.List.Elements.{All-append, All-cons, All-head, All-map, All-nil, All-push, All-tail, All-weaker}
use Rattle.inf_base.specs.declared.answer.Answer.{Answer}
use Rattle.inf_base.specs.declared.answer.Answer.TheVariants as answer
use Rattle.inf_base.specs.declared.caller.CallRef.{CallRef}
use Rattle.inf_base.specs.declared.key.LookKey.{LookKey}
use Rattle.inf_base.specs.declared.setup.ClientLine.{ClientLine}
use Rattle.inf_duty.specs.After.{client_after}
use Rattle.inf_duty.specs.ClientState.{ClientState, Stage, act, begins_again, call_ref, compose, counted, ended, one_if, round, winds, wound}
use Rattle.inf_duty.specs.Duty.{asked, begun, given_up_in}
use Rattle.inf_duty.specs.Flow.{clean_up}
use Rattle.inf_duty.specs.Start.{starting}
use Rattle.inf_duty.specs.Turn.{learned, recorded, served, told_by, told_in, told_of, turn_at, turned}
use Rattle.inf_duty.specs.World.{World}
use Rattle.inf_duty.proofs.BegunKept.{IsKept, if_both, kept_begun}
use Rattle.inf_laws_history.specs.Causes.{IsInAttempt, before}
use Rattle.inf_laws_history.proofs.ClientSteps.{by_answer, recorded_in, who_after}
use Rattle.inf_laws_history.proofs.ResultCauses.{before_all, before_stays}
use Rattle.inf_laws_history.proofs.Turns.{kept_place}
use Rattle.inf_message.specs.Sent.{Sent, told_at}
use Rattle.inf_message.specs.declared.ask.Ask.{Ask}
use Rattle.inf_message.specs.declared.ending.Ending.{Ending}
use Rattle.inf_message.specs.declared.ending.Ending.TheVariants as ending
use Rattle.inf_message.specs.declared.event.Event.{Event}
use Rattle.inf_message.specs.declared.event.Event.TheVariants as event
use Rattle.inf_message.specs.declared.reply.Reply.{Reply}
use Rattle.inf_message.specs.declared.step.Message.{Message}
use Rattle.inf_message.specs.declared.turn.Turn.{Turn}
use Rattle.inf_message.specs.declared.turn.Turn.TheVariants as turn
use Rattle.inf_message.specs.History.{Told, or_told, told_reply}
use Rattle.inf_resolve.specs.declared.known.Known.{Known}

-- a Serve at this place found the client in this attempt; one that has begun has made an Ask
pub record IsOfAttempt (world : World) (client : ℕ) (h : List Event) (call : CallRef) (attempts : ℕ) (is_begun : Bool) (place : ℕ) : Type 0 where
  pub within : place ≤ length h
  pub found : IsInAttempt (client_after world client (before place h)) call attempts
  pub has_asked : is_begun ≡ true

of_attempt_stays : (world : World) (client : ℕ) (e : Event) (h : List Event) (call : CallRef) (attempts : ℕ) (is_begun : Bool) (place : ℕ)
    → IsOfAttempt world client h call attempts is_begun place → IsOfAttempt world client (e ∷ h) call attempts is_begun place
of_attempt_stays world client e h call attempts is_begun place is = record {
  within = omega (arith, is.within);
  found = subst (λ (earlier : List Event). IsInAttempt (client_after world client earlier) call attempts)
      (sym (before_stays place e h (omega (arith, is.within)))) is.found;
  has_asked = is.has_asked;
}

module _ (world : World) (client : ℕ) (h : List Event) where
  -- so the client was told
  abbrev Tells : ClientState → ℕ → Type 0
  Tells s place = IsOfAttempt world client h (call_ref s) s.counts.attempts s.counts.is_begun place

  abbrev TellsKnown : ClientState → Known → Type 0
  TellsKnown s k = Tells s k.place

  -- of an Ask of the present group
  abbrev IsAsked : ClientState → Sent → Type 0
  IsAsked s x = (s.counts.is_begun ≡ true) × IfSome x.told (λ told. Tells s told.serve_place)

  pub record IsToldNow (s : ClientState) : Type 0 where
    pub known : All (TellsKnown s) s.known
    pub sent : All (IsAsked s) s.sent

  -- ---- a group that is over

  ended_now : (given : Answer) (at : Option ℕ) (s : ClientState) → IsToldNow (ended given at s)
  ended_now given at s = record { known = All-nil (TellsKnown (ended given at s)); sent = All-nil (IsAsked (ended given at s)) }

  wound_now : (end : Ending) (more : List (List Message)) (s : ClientState) → All (TellsKnown s) s.known → IsToldNow (wound end more s)
  wound_now (ending.Answers given at) [] s known = ended_now given at s
  wound_now ending.Retries [] s known = record { known = All-nil (TellsKnown (begins_again s)); sent = All-nil (IsAsked (begins_again s)) }
  wound_now end (ms ∷ later) s known = record { known = known; sent = All-nil (IsAsked s) }

  turned_now : (t : Turn Stage) (s : ClientState) → All (TellsKnown s) s.known → IsToldNow (turned t s)
  turned_now (turn.GoesOn next) s known = record { known = known; sent = All-nil (IsAsked s) }
  turned_now (turn.WindsUp end more) s known = wound_now end more s known

  one_told : (s : ClientState) (k : LookKey) (told : Option Told) → IfSome told (λ t. Tells s t.serve_place) → All (TellsKnown s) (told_of k told)
  one_told s k None is = All-nil (TellsKnown s)
  one_told s k (Some told) is =
      All-cons (TellsKnown s) (record { key = k; reply = told.reply; place = told.serve_place }) [] is (All-nil (TellsKnown s))

  all_told : (s : ClientState) (keys : List LookKey) (sent : List Sent) → All (IsAsked s) sent → All (TellsKnown s) (told_by keys sent)
  all_told s [] sent are = All-nil (TellsKnown s)
  all_told s (k ∷ keys) [] are = All-nil (TellsKnown s)
  all_told s (k ∷ keys) (x ∷ xs) are =
      All-append (TellsKnown s) (told_of k x.told) (told_by keys xs)
      (one_told s k x.told (All-head (IsAsked s) x xs are).1)
      (all_told s keys xs (All-tail (IsAsked s) x xs are))

  learned_now : (stage : Stage) (s : ClientState) → IsToldNow s → All (TellsKnown s) (learned stage s).known
  learned_now (round keys) s is = All-append (TellsKnown s) s.known (told_by keys s.sent) is.known (all_told s keys s.sent is.sent)
  learned_now compose s is = is.known
  learned_now (act flow) s is = is.known
  learned_now (winds end ms later) s is = is.known

  over_now : (stage : Stage) (s : ClientState) → IsToldNow s → IsToldNow (turned (turn_at world.digest (learned stage s) stage) (learned stage s))
  over_now compose s is = turned_now (turn_at world.digest s compose) s is.known
  over_now (round keys) s is =
      turned_now (turn_at world.digest (learned (round keys) s) (round keys)) (learned (round keys) s) (learned_now (round keys) s is)
  over_now (act flow) s is = turned_now (turn_at world.digest s (act flow)) s is.known
  over_now (winds end ms later) s is = turned_now (turn_at world.digest s (winds end ms later)) s is.known

  -- ---- an Ask

  given_up_now : (s : ClientState) (stage : Stage) → IsToldNow s → IsToldNow (given_up_in s stage)
  given_up_now s (act flow) is = wound_now (ending.Answers answer.NoMemory None) (clean_up s.who flow) s is.known
  given_up_now s (winds end ms later) is = is
  given_up_now s compose is = ended_now answer.NoMemory None s
  given_up_now s (round keys) is = ended_now answer.NoMemory None s

  kept : IsKept world.digest IsToldNow
  kept = record {
    composing = λ s is. record { known = is.known; sent = is.sent };
    giving_up = λ s is. given_up_now s s.stage is;
  }

  -- an Ask more begins no new attempt where this one was told something
  same_attempt : (call : CallRef) (attempts : ℕ) (is_begun : Bool) (place : ℕ) → IsOfAttempt world client h call attempts is_begun place
      → IsOfAttempt world client h call (attempts + one_if (not is_begun)) true place
  same_attempt call attempts is_begun place is =
      let none : one_if (not is_begun) ≡ 0 = ap (λ b. one_if (not b)) is.has_asked in
      let same : attempts ≡ attempts + one_if (not is_begun) = omega (arith, none) in
      record { within = is.within; found = subst (IsInAttempt (client_after world client (before place h)) call) same is.found; has_asked = refl }

  told_still : (s : ClientState) (at : ℕ) (told : Option Told) → IfSome told (λ t. Tells s t.serve_place)
      → IfSome told (λ t. IsOfAttempt world client h (call_ref s) (counted at s).attempts (counted at s).is_begun t.serve_place)
  told_still s at None is = tt
  told_still s at (Some told) is = same_attempt (call_ref s) s.counts.attempts s.counts.is_begun told.serve_place is

  asked_now : (at : ℕ) (ask : Ask) (s : ClientState) → IsToldNow s → IsToldNow (asked world.digest at ask s)
  asked_now at ask s is =
      let t : ClientState = begun world.digest ask s.sent s in
      let now : IsToldNow t = kept_begun world.digest IsToldNow kept ask s.sent s is in
      let after : ClientState = asked world.digest at ask s in
      record {
        known = All-weaker (TellsKnown t) (TellsKnown after)
            (λ k tells. same_attempt (call_ref t) t.counts.attempts t.counts.is_begun k.place tells) t.known now.known;
        sent = All-push (IsAsked after) t.sent (record { place = at; told = None })
            (All-weaker (IsAsked t) (IsAsked after) (λ x is_asked. (refl, told_still t at x.told is_asked.1)) t.sent now.sent) (refl, tt);
      }

  starting_now : (line : Option ClientLine) → IsToldNow (starting world client line)
  starting_now None = record { known = All-nil (TellsKnown (starting world client None)); sent = All-nil (IsAsked (starting world client None)) }
  starting_now (Some line) =
      record { known = All-nil (TellsKnown (starting world client (Some line))); sent = All-nil (IsAsked (starting world client (Some line))) }

-- ---- a Serve

told_stays : (world : World) (client : ℕ) (e : Event) (h : List Event) (s : ClientState) (told : Option Told)
    → IfSome told (λ t. Tells world client h s t.serve_place) → IfSome told (λ t. Tells world client (e ∷ h) s t.serve_place)
told_stays world client e h s None is = tt
told_stays world client e h s (Some told) is =
    of_attempt_stays world client e h (call_ref s) s.counts.attempts s.counts.is_begun told.serve_place is

now_stays : (world : World) (client : ℕ) (e : Event) (h : List Event) (s : ClientState) → IsToldNow world client h s → IsToldNow world client (e ∷ h) s
now_stays world client e h s is = record {
  known = All-weaker (TellsKnown world client h s) (TellsKnown world client (e ∷ h) s)
      (λ k tells. of_attempt_stays world client e h (call_ref s) s.counts.attempts s.counts.is_begun k.place tells) s.known is.known;
  sent = All-weaker (IsAsked world client h s) (IsAsked world client (e ∷ h) s)
      (λ x is_asked. (is_asked.0, told_stays world client e h s x.told is_asked.1)) s.sent is.sent;
}

module _ (world : World) (client : ℕ) (number ask_place : ℕ) (given : Reply) (h : List Event) where
  abbrev now : List Event
  now = event.Serve number ask_place given ∷ h

  abbrev s : ClientState
  s = client_after world client h

  -- what the client keeps of the answer
  abbrev told : Told
  told = told_in s (told_reply (suc (length h)) given)

  newly_told : s.counts.is_begun ≡ true → Tells world client now s told.serve_place
  newly_told has_asked =
      let place : told.serve_place ≡ suc (length h) = kept_place s (told_reply (suc (length h)) given) in
      let all : before (suc (length h)) now ≡ h =
      before_stays (suc (length h)) (event.Serve number ask_place given) h (omega arith) ∙ before_all (suc (length h)) h (omega arith) in
      subst (Tells world client now s) (sym place)
      (record {
        within = omega arith;
        found = subst (λ (earlier : List Event). IsInAttempt (client_after world client earlier) (call_ref s) s.counts.attempts) (sym all)
            (record { is_call = refl; is_attempt = refl; is_begun = has_asked });
        has_asked = has_asked;
      })

  first_told : (old : Option Told) → s.counts.is_begun ≡ true → IfSome old (λ t. Tells world client now s t.serve_place)
      → Tells world client now s (or_told old told).serve_place
  first_told None has_asked is = newly_told has_asked
  first_told (Some earlier) has_asked is = is

  told_here : (x : Sent) → IsAsked world client now s x → IsAsked world client now s (told_at ask_place told x)
  told_here x is =
      if_both (IsAsked world client now s) (x.place == ask_place) (record x { told = Some (or_told x.told told) }) x
      (is.0, first_told x.told is.0 is.1) is

  recorded_now : IsToldNow world client now s → IsToldNow world client now (recorded ask_place told s)
  recorded_now is = record {
    known = is.known;
    sent = All-map (IsAsked world client now s) (told_at ask_place told) s.sent
        (All-weaker (IsAsked world client now s) (λ (x : Sent). IsAsked world client now s (told_at ask_place told x)) told_here s.sent is.sent);
  }

  served_now : IsToldNow world client now s → IsToldNow world client now (served world.digest ask_place (told_reply (suc (length h)) given) s)
  served_now is =
      by_answer world.digest (IsToldNow world client now) ask_place (told_reply (suc (length h)) given) s
      (λ apart. is)
      (λ here going. recorded_now is)
      (λ here over. over_now world client now s.stage (recorded ask_place told s) (recorded_now is))

told_now_after : (world : World) (client : ℕ) (h : List Event) → IsToldNow world client h (client_after world client h)
told_now_after world client [] = starting_now world client [] (slice_get world.setup.clients client)
told_now_after world client (event.Ask number ask ∷ h) =
    let is = now_stays world client (event.Ask number ask) h (client_after world client h) (told_now_after world client h) in
    if_both (IsToldNow world client (event.Ask number ask ∷ h)) (eqb ask.from.client client) _ _
    (asked_now world client (event.Ask number ask ∷ h) (suc (length h)) ask (client_after world client h) is) is
told_now_after world client (event.Serve number ask_place given ∷ h) =
    served_now world client number ask_place given h
    (now_stays world client (event.Serve number ask_place given) h (client_after world client h) (told_now_after world client h))

-- what a client knows once a round is over it was told in one attempt
pub known_in_attempt : (world : World) (client number ask_place : ℕ) (given : Reply) (h : List Event) (keys : List LookKey)
    → All (λ (k : Known). IsInAttempt (client_after world (call_ref (client_after world client h)).client (before k.place (event.Serve number ask_place given ∷ h)))
    (call_ref (client_after world client h)) (client_after world client h).counts.attempts)
    (learned (round keys) (recorded_in ask_place (told_reply (suc (length h)) given) (client_after world client h))).known
known_in_attempt world client number ask_place given h keys =
    let e : Event = event.Serve number ask_place given in
    let s : ClientState = client_after world client h in
    let now : ClientState = recorded_in ask_place (told_reply (suc (length h)) given) s in
    let own : client ≡ (call_ref s).client = sym (ap (λ who. who.client) (who_after world h client)) in
    let are = learned_now world client (e ∷ h) (round keys) now
    (recorded_now world client number ask_place given h (now_stays world client e h s (told_now_after world client h))) in
    All-weaker (TellsKnown world client (e ∷ h) now)
    (λ (k : Known). IsInAttempt (client_after world (call_ref s).client (before k.place (e ∷ h))) (call_ref s) s.counts.attempts)
    (λ k tells. subst (λ c. IsInAttempt (client_after world c (before k.place (e ∷ h))) (call_ref s) s.counts.attempts) own tells.found)
    (learned (round keys) now).known are
