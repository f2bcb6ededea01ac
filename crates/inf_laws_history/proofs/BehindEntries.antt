-- A lookup under a name leads to the answer Again only where the same attempt was told of the directory, of the birth that
-- the Busy reply names.
use Rattle.std.proofs.Common.{◌≡◌, inl, inr, ℕ, suc, ◌≤◌, true, List, [], ◌∷◌, length, Option, Some, IfSome, All, refl, sym, ap, subst, ◌∙◌, arith}
use Rattle.std.proofs.lemmas.List.Elements.{All-contains}
use Rattle.inf_base.specs.declared.answer.Answer.{Answer}
use Rattle.inf_base.specs.declared.answer.Answer.TheVariants as answer
use Rattle.inf_base.specs.declared.caller.CallRef.{CallRef}
use Rattle.inf_base.specs.declared.directory.DirRef.{DirRef}
use Rattle.inf_base.specs.declared.id.Id.{Id}
use Rattle.inf_base.specs.declared.key.LookKey.{LookKey}
use Rattle.inf_base.specs.declared.key.LookKey.TheVariants as look
use Rattle.inf_duty.specs.After.{client_after}
use Rattle.inf_duty.specs.Outcome.{Outcome}
use Rattle.inf_duty.specs.World.{World}
use Rattle.inf_flow_dir.specs.declared.dir_flow.DirFlow.TheVariants as dir_flow
use Rattle.inf_flow_file.specs.declared.file_flow.FileFlow.TheVariants as file_flow
use Rattle.inf_duty.specs.declared.flow.Flow.TheVariants as flow
use Rattle.inf_duty.specs.ClientState.{ClientState, Stage, act, call_ref, round}
use Rattle.inf_duty.proofs.FlowFacts.{act_by, message_of, messages_are}
use Rattle.inf_duty.specs.Group.{group}
use Rattle.inf_duty.specs.Turn.{learned, told_in}
use Rattle.inf_duty.specs.declared.flow.Flow.{Flow}
use Rattle.inf_message.specs.declared.step.Message.{Message}
use Rattle.inf_duty.specs.Flow.{after_act, after_reply}
use Rattle.inf_message.specs.Sent.{Sent, deciding, has_place}
use Rattle.inf_message.specs.Who.{Who}
use Rattle.inf_laws_client.specs.Asked.{AreAskedFor}
use Rattle.inf_laws_directory.specs.At.{At}
use Rattle.inf_laws_history.specs.Causes.{HasServe, IsBehindEntry, IsInAttempt, before}
use Rattle.inf_laws_history.specs.Legal.{Legal, MayServe}
use Rattle.inf_laws_history.specs.Objects.{WasAskedIn}
use Rattle.inf_laws_history.proofs.AskedGroups.{asks_group, group_stays}
use Rattle.inf_laws_history.proofs.AttemptFacts.{known_in_attempt}
use Rattle.inf_laws_history.proofs.ClientSteps.{recorded_in}
use Rattle.inf_laws_history.proofs.PlacedResults.{IsBrought, outcome_has}
use Rattle.inf_laws_history.proofs.ResultCauses.{AreKnown, AreServed, IsKeptOf, IsKnownFor, IsServedFor, IsServedIf, asked_before, before_stays, given_as, known_stays, sent_stays}
use Rattle.inf_laws_history.proofs.ToldResults.{all_recorded, asked_told, caused_after, kept_served, known_under, newly_served, round_learned}
use Rattle.inf_laws_history.proofs.Turns.{IsAt, TurnOf, after_act_at, weaker_turn}
use Rattle.inf_message.specs.declared.call_result.CallResult.{CallResult}
use Rattle.inf_message.specs.declared.event.Event.{Event}
use Rattle.inf_message.specs.declared.event.Event.TheVariants as event
use Rattle.inf_message.specs.declared.reply.Reply.{Reply}
use Rattle.inf_message.specs.declared.reply.Reply.TheVariants as reply
use Rattle.inf_message.specs.declared.reply.Spot.{Spot}
use Rattle.inf_message.specs.declared.request.Request.{Request}
use Rattle.inf_message.specs.declared.request.Request.TheVariants as request
use Rattle.inf_message.specs.History.{Posted, Told, asked_at, event_at, told_reply}
use Rattle.inf_message.proofs.HistoryLaws.{event_stays, event_within}
use Rattle.inf_resolve.specs.declared.known.Known.{Known}
use Rattle.inf_resolve.specs.Known.{told_under}
use Rattle.inf_resolve.proofs.KnownFacts.{told_is_known}
use Rattle.inf_resolve.specs.InTheWay.{IsBusyInside, IsInTheWay, IsToldBusy, IsToldDir}

-- ---- what lasts

serve_stays : (e : Event) (h : List Event) (at : At) (posted : Posted) (given : Reply) → HasServe h at posted given
    → HasServe (e ∷ h) at posted given
serve_stays e h at posted given is =
    let within = (event_within at.serve_place (event.Serve at.number at.ask_place given) h is.told).within in
    record {
      told = event_stays at.serve_place e h within ∙ is.told;
      asked = ap (asked_at at.ask_place) (before_stays at.serve_place e h (omega (arith, within))) ∙ is.asked;
    }

attempt_stays : (world : World) (e : Event) (h : List Event) (call : CallRef) (attempt place : ℕ) → place ≤ length h
    → IsInAttempt (client_after world call.client (before place h)) call attempt → IsInAttempt (client_after world call.client (before place (e ∷ h))) call attempt
attempt_stays world e h call attempt place within is =
    subst (λ (earlier : List Event). IsInAttempt (client_after world call.client earlier) call attempt) (sym (before_stays place e h (omega (arith, within)))) is

behind_stays : (world : World) (e : Event) (h : List Event) (call : CallRef) (place : ℕ) (id : Id) (born : ℕ) → place ≤ length h
    → IsBehindEntry world h call place id born → IsBehindEntry world (e ∷ h) call place id born
behind_stays world e h call place id born within is =
    let told_within =
    (event_within is.at.serve_place (event.Serve is.at.number is.at.ask_place (reply.Found is.key is.access)) h is.served.told).within in
    record {
      at = is.at;
      posted = is.posted;
      key = is.key;
      access = is.access;
      served = serve_stays e h is.at is.posted (reply.Found is.key is.access) is.served;
      own = is.own;
      same_id = is.same_id;
      same_born = is.same_born;
      attempt = is.attempt;
      told_in = attempt_stays world e h call is.attempt is.at.serve_place told_within is.told_in;
      counts_in = attempt_stays world e h call is.attempt place within is.counts_in;
    }

-- where a Serve at the place told a lookup under a name that a call is in the way, the same attempt was told of its directory
pub record Counts (world : World) (h : List Event) (call : CallRef) (given : Answer) (place : ℕ) : Type 0 where
  pub within : place ≤ length h
  pub counts : (number ask_place : ℕ) (by : CallRef) (at : Spot) (born : ℕ) (posted : Posted) (id : Id) (name : List ℕ)
      → event_at place h ≡ Some (event.Serve number ask_place (reply.Busy by at born)) → asked_at ask_place (before place h) ≡ Some posted
      → posted.ask.request ≡ request.Lookup (look.At id name) → IsBehindEntry world h call place id born

counts_stay : (world : World) (e : Event) (h : List Event) (call : CallRef) (given : Answer) (place : ℕ) → Counts world h call given place
    → Counts world (e ∷ h) call given place
counts_stay world e h call given place is = record {
  within = omega (arith, is.within);
  counts = λ number ask_place by at born posted id name told asked looks.
      behind_stays world e h call place id born is.within
      (is.counts number ask_place by at born posted id name (sym (event_stays place e h is.within) ∙ told)
      (sym (ap (asked_at ask_place) (before_stays place e h (omega (arith, is.within)))) ∙ asked) looks);
}

-- ---- one Serve

asked_once : (h : List Event) (place : ℕ) (one other : Request) → WasAskedIn h place one → WasAskedIn h place other → one ≡ other
asked_once h place one other was is =
    let same : was.posted ≡ is.posted = (let a = was.found in let b = is.found in cc) in
    sym was.is ∙ ap (λ (p : Posted). p.ask.request) same ∙ is.is

module _ (world : World) (h : List Event) (call : CallRef) where
  within_history : (place : ℕ) (told : Told) → IsServedFor h call place told → told.serve_place ≤ length h
  within_history place told it = (event_within told.serve_place (event.Serve it.number place it.given) h it.stands).within

  -- a Serve at the place is the one that told it
  record IsSame (ask_place place : ℕ) (given : Reply) (told : Told) (asked : Request) : Type 0 where
    hears : IsKeptOf given told.reply
    was : WasAskedIn h place asked

  same_serve : (place : ℕ) (told : Told) (number ask_place : ℕ) (given : Reply) (posted : Posted) (asked : Request) → IsServedFor h call place told
      → event_at told.serve_place h ≡ Some (event.Serve number ask_place given) → asked_at ask_place (before told.serve_place h) ≡ Some posted
      → posted.ask.request ≡ asked → IsSame ask_place place given told asked
  same_serve place told number ask_place given posted asked it stands found is =
      let one : event.Serve it.number place it.given ≡ event.Serve number ask_place given = (let there = it.stands in cc) in
      let places : ask_place ≡ place = cc in
      let replies : given ≡ it.given = cc in
      record {
        hears = subst (λ (r : Reply). IsKeptOf r told.reply) (sym replies) it.hears;
        was = record { posted = posted; found = ap (λ p. asked_at p h) (sym places) ∙ asked_before told.serve_place ask_place posted h found; is = is };
      }

  -- a Serve of what is no lookup under a name tells of none
  other_counts : (given : Answer) (place : ℕ) (told : Told) → IsServedFor h call place told
      → ((id : Id) (name : List ℕ) → WasAskedIn h place (request.Lookup (look.At id name)) → ⊥) → Counts world h call given told.serve_place
  other_counts given place told it never = record {
    within = within_history place told it;
    counts = λ number ask_place by at born posted id name stands asked looks.
        absurd
        (never id name (same_serve place told number ask_place (reply.Busy by at born) posted (request.Lookup (look.At id name)) it stands asked looks).was);
  }

  -- ---- what an attempt was told

  -- all of it was told in the attempt
  abbrev AreOf : ℕ → List Known → Type 0
  AreOf attempt known = All (λ (k : Known). IsInAttempt (client_after world call.client (before k.place h)) call attempt) known

  told_of_it : (attempt : ℕ) (known : List Known) (asked : LookKey) (told : Known) → AreOf attempt known → told_under asked known ≡ Some told
      → IsInAttempt (client_after world call.client (before told.place h)) call attempt
  told_of_it attempt known asked told are is =
      All-contains (λ (k : Known). IsInAttempt (client_after world call.client (before k.place h)) call attempt) known told are
      (told_is_known asked known told is).0

  -- a directory that was told stands in a reply to the call
  behind_told : (attempt : ℕ) (known : List Known) (dir : DirRef) (place : ℕ) (id : Id) (born : ℕ) → AreKnown h call known → AreOf attempt known
      → IsInAttempt (client_after world call.client (before place h)) call attempt → IsToldDir known dir → dir.id ≡ id → dir.born ≡ born
      → IsBehindEntry world h call place id born
  behind_told attempt known dir place id born are of_attempt counts is same_id same_born =
      let it = (known_under h call known is.asked is.told are is.is_known).0 in
      record {
        at = record { number = it.served.number; ask_place = it.ask_place; serve_place = is.told.place };
        posted = it.served.posted;
        key = is.key;
        access = is.access;
        served = record {
          told = it.served.stands
              ∙ ap (λ (r : Reply). Some (event.Serve it.served.number it.ask_place r))
              (given_as it.served.given is.told.reply (reply.Found is.key is.access) it.served.hears is.is_found (λ e. cc));
          asked = it.served.asked;
        };
        own = it.served.own;
        same_id = ap (λ (d : DirRef). d.id) is.same ∙ same_id;
        same_born = ap (λ (d : DirRef). d.born) is.same ∙ same_born;
        attempt = attempt;
        told_in = told_of_it attempt known is.asked is.told of_attempt is.is_known;
        counts_in = counts;
      }

  busy_counts : (given : Answer) (known : List Known) (asked : LookKey) (of_dir place : ℕ) (by : CallRef) → AreKnown h call known → (is : IsToldBusy known asked by of_dir place)
      → ((id : Id) (name : List ℕ) → look.At id name ≡ asked → IsBehindEntry world h call is.told.place id of_dir) → Counts world h call given place
  busy_counts given known asked of_dir place by are is behind =
      let found = known_under h call known asked is.told are is.is_known in
      let it : IsKnownFor h call is.told = found.0 in
      let told : Told = told_reply is.told.place is.told.reply in
      subst (Counts world h call given) is.is_place
      (record {
        within = within_history it.ask_place told it.served;
        counts = λ number ask_place other at born posted id name stands asks looks.
            (let same = same_serve it.ask_place told number ask_place (reply.Busy other at born) posted (request.Lookup (look.At id name)) it.served stands asks looks in
            let given_so : reply.Busy other at born ≡ reply.Busy by is.at of_dir =
            given_as (reply.Busy other at born) is.told.reply (reply.Busy by is.at of_dir) same.hears is.is_busy (λ e. cc) in
            let births : of_dir ≡ born = cc in
            let requests = asked_once h it.ask_place (request.Lookup (look.At id name)) (request.Lookup is.told.key) same.was it.looks in
            let keys : look.At id name ≡ is.told.key = cc in
            subst (IsBehindEntry world h call is.told.place id) births (behind id name (keys ∙ found.1)));
      })

  inside_counts : (attempt : ℕ) (given : Answer) (known : List Known) (by : CallRef) (place : ℕ) → AreKnown h call known → AreOf attempt known
      → IsBusyInside known by place → Counts world h call given place
  inside_counts attempt given known by place are of_attempt is =
      busy_counts given known (look.At is.dir.id is.name) is.dir.born place by are is.busy
      (λ id name same.
      (let ids : is.dir.id ≡ id = cc in
      behind_told attempt known is.dir is.busy.told.place id is.dir.born are of_attempt
      (told_of_it attempt known (look.At is.dir.id is.name) is.busy.told of_attempt is.busy.is_known) is.is_told ids refl))

  way_counts : (attempt : ℕ) (given : Answer) (known : List Known) (by : CallRef) (place : ℕ) → AreKnown h call known → AreOf attempt known
      → IsInTheWay known by place → Counts world h call given place
  way_counts attempt given known by place are of_attempt (inl top) = busy_counts given known look.Top top.born place by are top.busy (λ id name same. absurd cc)
  way_counts attempt given known by place are of_attempt (inr inside) = inside_counts attempt given known by place are of_attempt inside

-- ---- what was asked for

no_lookup : (who : Who) (step : Flow) (k : LookKey) → (message_of who step).request ≡ request.Lookup k → ⊥
no_lookup who (flow.File (file_flow.Finishes chain what)) k is = cc
no_lookup who (flow.Dir (dir_flow.Reserves chain name mode)) k is = cc
no_lookup who (flow.Dir (dir_flow.Makes chain name mode version id)) k is = cc
no_lookup who (flow.Dir (dir_flow.Links chain name mode version dir)) k is = cc
no_lookup who (flow.Dir (dir_flow.Seals chain)) k is = cc
no_lookup who (flow.Dir (dir_flow.Unlinks chain)) k is = cc

-- ---- in a legal history

module _ (world : World) (h : List Event) (legal : Legal world h) (number ask_place : ℕ) (given : Reply) (may : MayServe world h number ask_place given)
    (client : ℕ) where
  abbrev now : List Event
  now = event.Serve number ask_place given ∷ h

  abbrev s : ClientState
  s = client_after world client h

  abbrev told : Told
  told = told_reply (suc (length h)) given

  abbrev sent_now : List Sent
  sent_now = (recorded_in ask_place told s).sent

  are_served : has_place ask_place s.sent ≡ true → AreServed now (call_ref s) sent_now
  are_served here =
      all_recorded now (call_ref s) ask_place (told_in s told)
      (kept_served now (call_ref s) ask_place told s (newly_served world h legal number ask_place given may client here)) s.sent
      (sent_stays (event.Serve number ask_place given) h (call_ref s) s.sent (caused_after world h legal client).sent)

  asks_now : (stage : Stage) → s.stage ≡ stage → AreAskedFor (WasAskedIn now) (group s.who stage) sent_now
  asks_now stage is =
      asked_told (WasAskedIn now) ask_place (told_in s told) (group s.who stage) s.sent
      (subst (λ (t : Stage). AreAskedFor (WasAskedIn now) (group s.who t) s.sent) is
      (group_stays h (event.Serve number ask_place given) s (asks_group world h legal client)).asked)

  by_round : (keys : List LookKey) → s.stage ≡ round keys → has_place ask_place s.sent ≡ true → (by : CallRef) (place : ℕ)
      → IsInTheWay (learned (round keys) (recorded_in ask_place told s)).known by place → Counts world now (call_ref s) (answer.Again by) place
  by_round keys is here by place way =
      way_counts world now (call_ref s) s.counts.attempts (answer.Again by) (learned (round keys) (recorded_in ask_place told s)).known by place
      (round_learned now (call_ref s) s.who s.known keys sent_now
      (known_stays (event.Serve number ask_place given) h (call_ref s) s.known (caused_after world h legal client).known)
      (are_served here) (asks_now (round keys) is))
      (known_in_attempt world client number ask_place given h keys)
      way

  by_flow : (step : Flow) → s.stage ≡ act step → has_place ask_place s.sent ≡ true → TurnOf (Counts world now (call_ref s)) (after_act world.digest s.who step sent_now)
  by_flow step is here =
      act_by (TurnOf (Counts world now (call_ref s))) world.digest s.who step sent_now tt
      (λ x told found as_told.
      by sent_now (are_served here) (subst (λ (ms : List Message). AreAskedFor (WasAskedIn now) ms sent_now) (messages_are s.who step) (asks_now (act step) is)) x told found as_told)
    where
      told_counts : (y x : Sent) (told : Told) → IsServedIf now (call_ref s) y.place y.told → WasAskedIn now y.place (message_of s.who step).request → y ≡ x
          → x.told ≡ Some told → TurnOf (Counts world now (call_ref s)) (after_reply world.digest s.who step x.place told.serve_place told.reply)
      told_counts y x told it was same as_told =
          let served = subst (λ (known : Option Told). IsServedIf now (call_ref s) x.place known) as_told
          (subst (λ (z : Sent). IsServedIf now (call_ref s) z.place z.told) same it) in
          let asked_so = subst (λ (z : Sent). WasAskedIn now z.place (message_of s.who step).request) same was in
          weaker_turn (IsAt told.serve_place) (Counts world now (call_ref s))
          (λ answer at same_place. subst (Counts world now (call_ref s) answer) (sym same_place)
          (other_counts world now (call_ref s) answer x.place told served
          (λ id name other.
          no_lookup s.who step (look.At id name)
          (asked_once now x.place (message_of s.who step).request (request.Lookup (look.At id name)) asked_so other))))
          (after_reply world.digest s.who step x.place told.serve_place told.reply)
          (after_act_at world.digest s.who step x.place told.serve_place told.reply)

      by : (xs : List Sent) → AreServed now (call_ref s) xs → AreAskedFor (WasAskedIn now) (message_of s.who step ∷ []) xs → (x : Sent) (told : Told)
          → deciding xs ≡ Some x → x.told ≡ Some told
          → TurnOf (Counts world now (call_ref s)) (after_reply world.digest s.who step x.place told.serve_place told.reply)
      by [] are asks x told found as_told = absurd cc
      by (y ∷ []) are asks x told found as_told = let same : y ≡ x = cc in told_counts y x told are.0 asks.0 same as_told
      by (y ∷ z ∷ xs) are asks x told found as_told = absurd asks.1

counts_brought : (world : World) → IsBrought world (Counts world)
counts_brought world = record {
  stays = counts_stay world;
  by_round = λ h legal number ask_place given may client keys is here by place way. by_round world h legal number ask_place given may client keys is here by place way;
  by_flow = λ h legal number ask_place given may client step is here. by_flow world h legal number ask_place given may client step is here;
}

-- a lookup under a name that decided a call is of a directory that the same attempt was told of
pub behind_entries : (world : World) (h : List Event) → Legal world h → (results : List CallResult) → Outcome world h results
    → All (λ (r : CallResult). IfSome r.place (λ place. Counts world h r.call r.answer place)) results
behind_entries world h legal results out = outcome_has world (Counts world) (counts_brought world) h legal 0 world.setup.clients results out
