-- Each result of a client that was given up rests on a Serve that said so.
use Rattle.std.proofs.Common.{◌≡◌, inl, inr, ℕ, zero, suc, ◌+◌, Bool, true, false, eqb, if◌then◌else◌, List, [], ◌∷◌, ◌++◌, length, map, slice_get, Option, None, Some, refl, sym, ap, subst, ◌∙◌, ⊎_elim, arith}
use Rattle.inf_base.specs.declared.id.Id.{Id}
use Rattle.std.specs.Prelude.{All}
use Rattle.std.specs.List.{Contains}
use Rattle.std.proofs.lemmas.Bool.Decides.{Decides-eqb}
use Rattle.inf_base.specs.declared.answer.Answer.{Answer}
use Rattle.inf_base.specs.declared.answer.Answer.TheVariants as answer
use Rattle.inf_base.specs.declared.call.Call.{Call}
use Rattle.inf_base.specs.declared.caller.CallRef.{CallRef}
use Rattle.inf_base.specs.declared.key.LookKey.{LookKey}
use Rattle.inf_base.specs.declared.key.LookKey.TheVariants as look
use Rattle.inf_base.specs.declared.setup.ClientLine.{ClientLine}
use Rattle.inf_base.specs.declared.triple.Triple.{Triple}
use Rattle.inf_duty.specs.After.{client_after}
use Rattle.inf_duty.specs.Duty.{asked, begun, given_up_in}
use Rattle.inf_duty.specs.Outcome.{Agrees, Outcome, OutcomeFrom, all_given_up, come_to, results_of, so_far, unanswered}
use Rattle.inf_duty.specs.Start.{starting}
use Rattle.inf_duty.specs.World.{World}
use Rattle.inf_flow_dir.specs.declared.dir_flow.DirFlow.TheVariants as dir_flow
use Rattle.inf_message.specs.declared.ending.Ending.TheVariants as ending
use Rattle.inf_flow_file.specs.declared.file_flow.FileFlow.TheVariants as file_flow
use Rattle.inf_duty.specs.declared.flow.Flow.TheVariants as flow
use Rattle.inf_message.specs.declared.turn.Turn.TheVariants as turn
use Rattle.inf_duty.specs.ClientState.{ClientState, Stage, act, call_ref, compose, ended, result_of, round, winds, wound}
use Rattle.inf_duty.specs.Flow.{after_act, after_reply, clean_up, messages_of}
use Rattle.inf_duty.proofs.FlowFacts.{act_by, message_of, messages_are}
use Rattle.inf_duty.specs.Group.{composed_stage, group}
use Rattle.inf_duty.specs.Course.{next_course}
use Rattle.inf_duty.specs.Turn.{heard_in, is_lone, learned, round_turn, served, told_by, told_in, told_of, turn_at, turned}
use Rattle.inf_duty.specs.declared.flow.Flow.{Flow}
use Rattle.inf_message.specs.Sent.{Sent, deciding, has_place, is_wanting, told_at}
use Rattle.inf_message.specs.Turn.{fails, turn_as}
use Rattle.inf_message.specs.Who.{Who, birth_of}
use Rattle.inf_message.specs.declared.ending.Ending.{Ending}
use Rattle.inf_message.specs.declared.turn.Turn.{Turn}
use Rattle.inf_laws_client.specs.Asked.{AreAskedFor}
use Rattle.inf_laws_history.specs.Legal.{Legal, MayServe}
use Rattle.inf_laws_history.specs.Objects.{WasAskedIn}
use Rattle.inf_message.specs.declared.ask.Ask.{Ask}
use Rattle.inf_message.specs.declared.call_result.CallResult.{CallResult}
use Rattle.inf_message.specs.declared.event.Event.{Event}
use Rattle.inf_message.specs.declared.event.Event.TheVariants as event
use Rattle.inf_message.specs.declared.op.Op.TheVariants as op
use Rattle.inf_message.specs.declared.reply.Reply.{Reply}
use Rattle.inf_message.specs.declared.reply.Reply.TheVariants as reply
use Rattle.inf_message.specs.declared.reply.Spot.{Spot}
use Rattle.inf_message.specs.declared.request.Request.{Request}
use Rattle.inf_message.specs.declared.request.Request.TheVariants as request
use Rattle.inf_message.specs.declared.step.Message.{Message}
use Rattle.inf_message.specs.History.{Posted, Told, asked_at, or_told, told_reply}
use Rattle.inf_message.proofs.HistoryLaws.{itself}
use Rattle.inf_laws_history.proofs.AskedGroups.{asks_group, group_stays}
use Rattle.inf_duty.proofs.BegunKept.{IsKept, if_both, kept_all_given_up, kept_begun}
use Rattle.inf_laws_history.proofs.ClientSteps.{by_answer, recorded_in, waits_for_own}
use Rattle.inf_laws_history.proofs.PendingFacts.{pending_after}
use Rattle.inf_laws_history.proofs.ResultCauses.{AllCaused, AreKnown, AreServed, EndsCaused, IsBusyFor, IsCaused, IsCausedFor, IsClashFor, IsKnownFor, IsServedFor, IsServedIf, StageCaused, asked_before, before_all, before_stays, caused_stays, given_as, keeps_on, stage_keeps}
use Rattle.inf_laws_history.proofs.Turns.{by_next, by_round}
use Rattle.inf_resolve.specs.declared.known.Known.{Known}
use Rattle.inf_resolve.specs.InTheWay.{IsInTheWay, IsToldBusy}
use Rattle.inf_resolve.specs.Known.{told_under}
use Rattle.inf_resolve.proofs.KnownFacts.{same_key, told_is_known}

-- ---- what a client does

both_caused : (h : List Event) (first second : List CallResult) → AllCaused h first → AllCaused h second → AllCaused h (first ++ second)
both_caused h [] second one two = two
both_caused h (r ∷ first) second one two = (one.0, both_caused h first second one.1 two)

module _ (h : List Event) where
  ended_caused : (given : Answer) (at : Option ℕ) (s : ClientState) → AllCaused h s.results → IsCausedFor h (call_ref s) given at → IsCaused h (ended given at s)
  ended_caused given at s all new = record {
    results = both_caused h s.results (result_of given at s.counts.last s ∷ []) all (new, tt);
    stage = tt;
    known = tt;
    sent = tt;
  }

  wound_caused : (end : Ending) (more : List (List Message)) (s : ClientState) → AllCaused h s.results → AreKnown h (call_ref s) s.known → EndsCaused h (call_ref s) end
      → IsCaused h (wound end more s)
  wound_caused (ending.Answers given at) [] s all known new = ended_caused given at s all new
  wound_caused ending.Retries [] s all known new = record { results = all; stage = tt; known = tt; sent = tt }
  wound_caused end (ms ∷ later) s all known new = record { results = all; stage = new; known = known; sent = tt }

  given_up_caused : (stage : Stage) (s : ClientState) → IsCaused h s → IsCaused h (given_up_in s stage)
  given_up_caused (act step) s is = wound_caused (ending.Answers answer.NoMemory None) (clean_up s.who step) s is.results is.known tt
  given_up_caused (winds end ms later) s is = is
  given_up_caused compose s is = ended_caused answer.NoMemory None s is.results tt
  given_up_caused (round keys) s is = ended_caused answer.NoMemory None s is.results tt

  newly_sent : (call : CallRef) (place : ℕ) (sent : List Sent) → AreServed h call sent → AreServed h call (sent ++ record { place = place; told = None } ∷ [])
  newly_sent call place [] are = (tt, tt)
  newly_sent call place (x ∷ xs) are = (are.0, newly_sent call place xs are.1)

  -- ---- what comes of a group

  module _ (call : CallRef) where
    abbrev TurnCaused : Turn Stage → Type 0
    TurnCaused (turn.GoesOn next) = StageCaused h call next
    TurnCaused (turn.WindsUp end more) = EndsCaused h call end

    busy_for : (place : ℕ) (told : Told) (by : CallRef) (at : Spot) (born : ℕ) → IsServedFor h call place told → told.reply ≡ reply.Busy by at born
        → IsBusyFor h call by (Some told.serve_place)
    busy_for place told by at born is reads = record {
      place = told.serve_place;
      placed = refl;
      number = is.number;
      ask_place = place;
      spot = at;
      born = born;
      told = is.stands ∙ ap (λ (r : Reply). Some (event.Serve is.number place r)) (given_as is.given told.reply (reply.Busy by at born) is.hears reads (λ e. cc));
      posted = is.posted;
      asked = is.asked;
      own = is.own;
    }

    clash_for : (place : ℕ) (told : Told) (own kept : Triple) → IsServedFor h call place told → WasAskedIn h place (request.Make own)
        → told.reply ≡ reply.Clash kept → IsClashFor h call own kept (Some told.serve_place)
    clash_for place told own kept is was reads =
        let found = asked_before told.serve_place place is.posted h is.asked in
        let same : is.posted ≡ was.posted = let there = was.found in cc in
        record {
          place = told.serve_place;
          placed = refl;
          number = is.number;
          ask_place = place;
          told = is.stands ∙ ap (λ (r : Reply). Some (event.Serve is.number place r)) (given_as is.given told.reply (reply.Clash kept) is.hears reads (λ e. cc));
          posted = is.posted;
          asked = is.asked;
          caller = is.own;
          makes = ap (λ (p : Posted). p.ask.request) same ∙ was.is;
        }

    -- of a turn that goes on with a message of a flow
    abbrev FlowCaused : Turn Flow → Type 0
    FlowCaused (turn.GoesOn next) = Unit {0}
    FlowCaused (turn.WindsUp end more) = EndsCaused h call end

    as_act : (t : Turn Flow) → FlowCaused t → TurnCaused (turn_as act t)
    as_act (turn.GoesOn next) is = tt
    as_act (turn.WindsUp end more) is = is

    fails_caused : {F : Type 0} (wrap : F → Flow) (who : Who) (step : Flow) (place : ℕ) (told : Told) (given : Reply) → IsServedFor h call place told → told.reply ≡ given
        → FlowCaused (turn_as wrap (fails (clean_up who step) told.serve_place given))
    fails_caused wrap who step place told (reply.Busy by at born) is reads = busy_for place told by at born is reads
    fails_caused wrap who step place told (reply.Refused error) is reads = tt
    fails_caused wrap who step place told reply.NoMem is reads = tt
    fails_caused wrap who step place told any_reply is reads = tt

    -- ---- a round

    known_in : (known : List Known) (k : Known) → AreKnown h call known → Contains known k → IsKnownFor h call k
    known_in [] k are at = absurd (omega (arith, at.1))
    known_in (x ∷ xs) k are (zero, within, same) = subst (IsKnownFor h call) same are.0
    known_in (x ∷ xs) k are (suc n, within, same) = known_in xs k are.1 (n, omega (arith, within), same)

    -- what was told under a key was served so to an Ask of the call for this key
    pub known_under : (known : List Known) (asked : LookKey) (told : Known) → AreKnown h call known → told_under asked known ≡ Some told
        → IsKnownFor h call told × (told.key ≡ asked)
    known_under known asked told are is =
        let found = told_is_known asked known told is in
        (known_in known told are found.0, sym (same_key asked told.key found.1))

    known_busy : (known : List Known) (asked : LookKey) (by : CallRef) (born place : ℕ) → AreKnown h call known → IsToldBusy known asked by born place
        → IsBusyFor h call by (Some place)
    known_busy known asked by born place are is =
        let it = (known_under known asked is.told are is.is_known).0 in
        subst (λ p. IsBusyFor h call by (Some p)) is.is_place
        (busy_for it.ask_place (told_reply is.told.place is.told.reply) by is.at born it.served is.is_busy)

    way_caused : (known : List Known) (by : CallRef) (place : ℕ) → AreKnown h call known → IsInTheWay known by place → IsBusyFor h call by (Some place)
    way_caused known by place are (inl top) = known_busy known look.Top by top.born place are top.busy
    way_caused known by place are (inr inside) = known_busy known (look.At inside.dir.id inside.name) by inside.dir.born place are inside.busy

    round_caused : (digest : List ℕ → Id) (s : ClientState) → AreKnown h call s.known → TurnCaused (round_turn digest s)
    round_caused digest s are = by_round TurnCaused digest s tt tt tt (λ by place way. way_caused s.known by place are way)

    -- what a round is told is known for its keys from then on
    one_learned : (place : ℕ) (told : Told) (k : LookKey) → IsServedFor h call place told → WasAskedIn h place (request.Lookup k)
        → IsKnownFor h call (record { key = k; reply = told.reply; place = told.serve_place })
    one_learned place told k is was = record { ask_place = place; served = is; looks = was }

    both_known : (first second : List Known) → AreKnown h call first → AreKnown h call second → AreKnown h call (first ++ second)
    both_known [] second one two = two
    both_known (k ∷ ks) second one two = (one.0, both_known ks second one.1 two)

    told_learned : (place : ℕ) (told : Option Told) (k : LookKey) → IsServedIf h call place told → WasAskedIn h place (request.Lookup k)
        → AreKnown h call (told_of k told)
    told_learned place None k is was = tt
    told_learned place (Some told) k is was = (one_learned place told k is was, tt)

    all_learned : (who : Who) (keys : List LookKey) (sent : List Sent) → AreServed h call sent → AreAskedFor (WasAskedIn h) (group who (round keys)) sent
        → AreKnown h call (told_by keys sent)
    all_learned who [] sent are asks = tt
    all_learned who (k ∷ keys) [] are asks = tt
    all_learned who (k ∷ keys) (x ∷ xs) are asks =
        both_known (told_of k x.told) (told_by keys xs) (told_learned x.place x.told k are.0 asks.0) (all_learned who keys xs are.1 asks.1)

    pub round_learned : (who : Who) (known : List Known) (keys : List LookKey) (sent : List Sent) → AreKnown h call known → AreServed h call sent
        → AreAskedFor (WasAskedIn h) (group who (round keys)) sent → AreKnown h call (known ++ told_by keys sent)
    round_learned who known keys sent before are asks = both_known known (told_by keys sent) before (all_learned who keys sent are asks)

  turned_caused : (t : Turn Stage) (s : ClientState) → AllCaused h s.results → AreKnown h (call_ref s) s.known → TurnCaused (call_ref s) t → IsCaused h (turned t s)
  turned_caused (turn.GoesOn next) s all known is = record { results = all; stage = is; known = known; sent = tt }
  turned_caused (turn.WindsUp end more) s all known is = wound_caused end more s all known is

module _ (digest : List ℕ → Id) (h : List Event) where
  composed_caused : (stage : Stage) (s : ClientState) → StageCaused h (call_ref s) stage → StageCaused h (call_ref s) (composed_stage digest s stage)
  composed_caused compose s is =
      by_next (StageCaused h (call_ref s)) digest s.who s.known (next_course s.left) tt (λ keys. tt) (λ course old new leads. tt)
  composed_caused (round keys) s is = tt
  composed_caused (act step) s is = tt
  composed_caused (winds end ms later) s is = is

  keeps_causes : IsKept digest (IsCaused h)
  keeps_causes = record {
    composing = λ s is. record { results = is.results; stage = composed_caused s.stage s is.stage; known = is.known; sent = is.sent };
    giving_up = λ s is. given_up_caused h s.stage s is;
  }

  asked_caused : (place : ℕ) (ask : Ask) (s : ClientState) → IsCaused h s → IsCaused h (asked digest place ask s)
  asked_caused place ask s is =
      let now = kept_begun digest (IsCaused h) keeps_causes ask s.sent s is in
      let t : ClientState = begun digest ask s.sent s in
      record { results = now.results; stage = now.stage; known = now.known; sent = newly_sent h (call_ref t) place t.sent now.sent }

  module _ (call : CallRef) where
    after_act_caused : (who : Who) (step : Flow) (place : ℕ) (told : Told) (given : Reply) → IsServedFor h call place told
        → WasAskedIn h place (message_of who step).request → told.reply ≡ given → FlowCaused h call (after_reply digest who step place told.serve_place given)
    after_act_caused who (flow.File (file_flow.Finishes chain (op.Create name mode))) place told reply.Fine is was reads = tt
    after_act_caused who (flow.File (file_flow.Finishes chain (op.Stat name))) place told (reply.Stat kind meta) is was reads = tt
    after_act_caused who (flow.Dir (dir_flow.Reserves chain name mode)) place told (reply.Reserved version) is was reads = tt
    after_act_caused who (flow.Dir (dir_flow.Makes chain name mode version id)) place told reply.Fine is was reads = tt
    after_act_caused who (flow.Dir (dir_flow.Makes chain name mode version id)) place told (reply.Clash kept) is was reads =
        clash_for h call place told (birth_of who chain name version) kept is was reads
    after_act_caused who (flow.Dir (dir_flow.Links chain name mode version dir)) place told reply.Fine is was reads = tt
    after_act_caused who (flow.Dir (dir_flow.Seals chain)) place told reply.Fine is was reads = tt
    after_act_caused who (flow.Dir (dir_flow.Unlinks chain)) place told reply.Fine is was reads = tt
    after_act_caused who (flow.File step) place told given is was reads = fails_caused h call flow.File who (flow.File step) place told given is reads
    after_act_caused who (flow.Dir step) place told given is was reads = fails_caused h call flow.Dir who (flow.Dir step) place told given is reads

    -- a step has one Ask
    act_caused : (who : Who) (step : Flow) (sent : List Sent) → AreServed h call sent → AreAskedFor (WasAskedIn h) (messages_of who step) sent
        → FlowCaused h call (after_act digest who step sent)
    act_caused who step sent are asks =
        act_by (FlowCaused h call) digest who step sent tt
        (λ x told found as_told.
        by sent are (subst (λ (ms : List Message). AreAskedFor (WasAskedIn h) ms sent) (messages_are who step) asks) x told found as_told)
      where
        one : (y x : Sent) (told : Told) → IsServedIf h call y.place y.told → WasAskedIn h y.place (message_of who step).request → y ≡ x → x.told ≡ Some told
            → FlowCaused h call (after_reply digest who step x.place told.serve_place told.reply)
        one y x told is was same as_told =
            after_act_caused who step x.place told told.reply
            (subst (λ (known : Option Told). IsServedIf h call x.place known) as_told (subst (λ (z : Sent). IsServedIf h call z.place z.told) same is))
            (subst (λ (z : Sent). WasAskedIn h z.place (message_of who step).request) same was) refl

        by : (xs : List Sent) → AreServed h call xs → AreAskedFor (WasAskedIn h) (message_of who step ∷ []) xs → (x : Sent) (told : Told) → deciding xs ≡ Some x
            → x.told ≡ Some told → FlowCaused h call (after_reply digest who step x.place told.serve_place told.reply)
        by [] are asks x told found as_told = absurd cc
        by (y ∷ []) are asks x told found as_told = let same : y ≡ x = cc in one y x told are.0 asks.0 same as_told
        by (y ∷ z ∷ xs) are asks x told found as_told = absurd asks.1

  -- the turn, once what was told is learned
  over_caused : (stage : Stage) (s : ClientState) → AllCaused h s.results → StageCaused h (call_ref s) stage → AreKnown h (call_ref s) s.known
      → AreServed h (call_ref s) s.sent → AreAskedFor (WasAskedIn h) (group s.who stage) s.sent
      → IsCaused h (turned (turn_at digest (learned stage s) stage) (learned stage s))
  over_caused compose s all is known are asks = turned_caused h (turn_at digest s compose) s all known tt
  over_caused (round keys) s all is known are asks =
      let t : ClientState = learned (round keys) s in
      let now = round_learned h (call_ref s) s.who s.known keys s.sent known are asks in
      turned_caused h (turn_at digest t (round keys)) t all now (round_caused h (call_ref s) digest t now)
  over_caused (act step) s all is known are asks =
      turned_caused h (turn_at digest s (act step)) s all known
      (as_act h (call_ref s) (after_act digest s.who step s.sent) (act_caused (call_ref s) s.who step s.sent are asks))
  over_caused (winds end ms later) s all is known are asks = turned_caused h (turn_at digest s (winds end ms later)) s all known is

-- ---- an answer more

pub asked_told : (A : ℕ → Request → Type 0) (place : ℕ) (told : Told) (ms : List Message) (sent : List Sent) → AreAskedFor A ms sent
    → AreAskedFor A ms (map (told_at place told) sent)
asked_told A place told ms [] asks = tt
asked_told A place told [] (x ∷ xs) asks = absurd asks
asked_told A place told (m ∷ ms) (x ∷ xs) asks =
    (if_both (λ (y : Sent). A y.place m.request) (eqb x.place place) _ x asks.0 asks.0, asked_told A place told ms xs asks.1)

module _ (h : List Event) (call : CallRef) (ask_place : ℕ) (told : Told) (now : IsServedFor h call ask_place told) where
  first_answer : (place : ℕ) (old : Option Told) → place ≡ ask_place → IsServedIf h call place old → IsServedIf h call place (Some (or_told old told))
  first_answer place None same is = subst (λ p. IsServedFor h call p told) (sym same) now
  first_answer place (Some earlier) same is = is

  one_recorded : (place : ℕ) (old : Option Told) (b : Bool) → eqb place ask_place ≡ b → IsServedIf h call place old
      → (λ (x : Sent). IsServedIf h call x.place x.told) (if b then record { place = place; told = Some (or_told old told) } else record { place = place; told = old })
  one_recorded place old true same is = first_answer place old ((Decides-eqb place ask_place).0 same) is
  one_recorded place old false apart is = is

  pub all_recorded : (sent : List Sent) → AreServed h call sent → AreServed h call (map (told_at ask_place told) sent)
  all_recorded [] are = tt
  all_recorded (x ∷ xs) are = (one_recorded x.place x.told (eqb x.place ask_place) refl are.0, all_recorded xs are.1)

-- a Serve told what is kept of its answer
pub kept_served : (h : List Event) (call : CallRef) (place : ℕ) (told : Told) (s : ClientState) → IsServedFor h call place told
    → IsServedFor h call place (told_in s told)
kept_served h call place told s is =
    if_both (IsServedFor h call place) (is_lone s) told (record told { reply = heard_in s.stage told.reply }) is
    (record {
      number = is.number;
      given = is.given;
      stands = is.stands;
      hears = keeps_on is.given told.reply (heard_in s.stage told.reply) is.hears (stage_keeps s.stage told.reply);
      posted = is.posted;
      asked = is.asked;
      own = is.own;
    })

served_caused : (digest : List ℕ → Id) (h : List Event) (ask_place : ℕ) (told : Told) (s : ClientState) → IsCaused h s → AreAskedFor (WasAskedIn h) (group s.who s.stage) s.sent
    → (has_place ask_place s.sent ≡ true → IsServedFor h (call_ref s) ask_place told) → IsCaused h (served digest ask_place told s)
served_caused digest h ask_place told s is asks now =
    by_answer digest (IsCaused h) ask_place told s
    (λ apart. is)
    (λ here going. record { results = is.results; stage = is.stage; known = is.known; sent = sent_now here })
    (λ here over.
    over_caused digest h s.stage (recorded_in ask_place told s) is.results is.stage is.known (sent_now here)
    (asked_told (WasAskedIn h) ask_place (told_in s told) (group s.who s.stage) s.sent asks))
  where
    sent_now : has_place ask_place s.sent ≡ true → AreServed h (call_ref s) (recorded_in ask_place told s).sent
    sent_now here = all_recorded h (call_ref s) ask_place (told_in s told) (kept_served h (call_ref s) ask_place told s (now here)) s.sent is.sent

starting_caused : (world : World) (client : ℕ) (line : Option ClientLine) → IsCaused [] (starting world client line)
starting_caused world client None = record { results = tt; stage = tt; known = tt; sent = tt }
starting_caused world client (Some line) = record { results = tt; stage = tt; known = tt; sent = tt }

module _ (world : World) (h : List Event) (legal : Legal world h) (number ask_place : ℕ) (given : Reply) (may : MayServe world h number ask_place given)
    (client : ℕ) where
  abbrev now : List Event
  now = event.Serve number ask_place given ∷ h

  pub newly_served : has_place ask_place (client_after world client h).sent ≡ true
      → IsServedFor now (call_ref (client_after world client h)) ask_place (told_reply (suc (length h)) given)
  newly_served here =
      let own = waits_for_own world client ask_place h here in
      let waits = pending_after world h legal ask_place may.posted may.made may.waits in
      let same : own.posted ≡ may.posted = let one = own.asked in let two = may.made in cc in
      let by_client : may.posted.ask.from.client ≡ client = ap (λ (p : Posted). p.ask.from.client) (sym same) ∙ own.by_client in
      record {
        number = number;
        given = given;
        stands = let newest = itself (suc (length h)) in rw newest refl;
        hears = inl refl;
        posted = may.posted;
        asked = ap (asked_at ask_place) (before_stays (suc (length h)) (event.Serve number ask_place given) h (omega arith) ∙ before_all (suc (length h)) h (omega arith)) ∙ may.made;
        own = waits.from ∙ ap (λ c. call_ref (client_after world c h)) by_client;
      }

pub caused_after : (world : World) (h : List Event) → Legal world h → (client : ℕ) → IsCaused h (client_after world client h)
caused_after world [] legal client = starting_caused world client (slice_get world.setup.clients client)
caused_after world (event.Ask number ask ∷ h) legal client =
    let is = caused_stays (event.Ask number ask) h (client_after world client h) (caused_after world h legal.0 client) in
    if_both (IsCaused (event.Ask number ask ∷ h)) (eqb ask.from.client client) _ _
    (asked_caused world.digest (event.Ask number ask ∷ h) (suc (length h)) ask (client_after world client h) is) is
caused_after world (event.Serve number ask_place given ∷ h) legal client =
    let e : Event = event.Serve number ask_place given in
    let s : ClientState = client_after world client h in
    served_caused world.digest (e ∷ h) ask_place (told_reply (suc (length h)) given) s
    (caused_stays e h s (caused_after world h legal.0 client))
    (group_stays h e s (asks_group world h legal.0 client)).asked
    (newly_served world h legal.0 number ask_place given legal.1 client)

-- ---- all results

so_far_caused : (h : List Event) (stage : Stage) (s : ClientState) → StageCaused h (call_ref s) stage
    → IsCausedFor h (so_far stage s).call (so_far stage s).answer (so_far stage s).place
so_far_caused h (winds (ending.Answers given at) m ms) s is = is
so_far_caused h (winds ending.Retries m ms) s is = tt
so_far_caused h compose s is = tt
so_far_caused h (round keys) s is = by (is_wanting s.sent)
  where
    by : (b : Bool) → IsCausedFor h (call_ref s) (come_to b) None
    by true = tt
    by false = tt
so_far_caused h (act step) s is = tt

unanswered_caused : (h : List Event) (calls : List Call) (s : ClientState) → StageCaused h (call_ref s) s.stage → AllCaused h (unanswered calls s)
unanswered_caused h [] s is = tt
unanswered_caused h (call ∷ calls) s is =
    (so_far_caused h s.stage s is, unanswered_caused h calls (ended answer.Unanswered None s) tt)

shown_caused : (h : List Event) (s : ClientState) → IsCaused h s → AllCaused h (results_of s)
shown_caused h s is = both_caused h s.results (unanswered s.left s) is.results (unanswered_caused h s.left s is.stage)

agrees_caused : (digest : List ℕ → Id) (h : List Event) (s : ClientState) (mine : List CallResult) → IsCaused h s → Agrees s mine → AllCaused h mine
agrees_caused digest h s mine is agrees =
    ⊎_elim
    (λ same. subst (AllCaused h) (sym same) (shown_caused h s is))
    (λ (gave : (s.sent ≡ []) × (mine ≡ results_of (all_given_up s.left s))).
    subst (AllCaused h) (sym gave.1) (shown_caused h (all_given_up s.left s) (kept_all_given_up digest (IsCaused h) (keeps_causes digest h) s.left s is)))
    agrees

outcome_caused : (world : World) (h : List Event) → Legal world h → (client : ℕ) (lines : List ClientLine) (results : List CallResult)
    → OutcomeFrom world h client lines results → AllCaused h results
outcome_caused world h legal client [] results out = subst (AllCaused h) (sym out) tt
outcome_caused world h legal client (line ∷ lines) results out =
    subst (AllCaused h) (sym out.all)
    (both_caused h out.mine out.others
    (agrees_caused world.digest h (client_after world client h) out.mine (caused_after world h legal client) out.agrees)
    (outcome_caused world h legal (client + 1) lines out.others out.later))

each_caused : (h : List Event) (P : CallResult → Type 0) → ((r : CallResult) → IsCausedFor h r.call r.answer r.place → P r)
    → (results : List CallResult) → AllCaused h results → All P results
each_caused h P of [] all k d inside = absurd (omega arith)
each_caused h P of (r ∷ rs) all zero d inside = of r all.0
each_caused h P of (r ∷ rs) all (suc k) d inside = each_caused h P of rs all.1 k d (omega arith)

-- what holds of each result that rests on a Serve holds of all results that agree with the history
pub results_rest : (world : World) (h : List Event) (results : List CallResult) → Legal world h → Outcome world h results → (P : CallResult → Type 0)
    → ((r : CallResult) → IsCausedFor h r.call r.answer r.place → P r) → All P results
results_rest world h results legal out P of = each_caused h P of results (outcome_caused world h legal 0 world.setup.clients results out)
