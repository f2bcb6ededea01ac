-- What each group of a legal history that comes to an answer with a place brings, each result with a place has.
use Rattle.std.proofs.Common.{◌≡◌, ℕ, suc, ◌+◌, true, eqb, List, [], ◌∷◌, length, slice_get, Option, None, Some, IfSome, All, refl, sym, subst, ⊎_elim}
use Rattle.std.proofs.lemmas.List.Elements.{All-append, All-cons, All-nil, All-push, All-weaker}
use Rattle.inf_base.specs.declared.answer.Answer.{Answer}
use Rattle.inf_base.specs.declared.answer.Answer.TheVariants as answer
use Rattle.inf_base.specs.declared.call.Call.{Call}
use Rattle.inf_base.specs.declared.caller.CallRef.{CallRef}
use Rattle.inf_base.specs.declared.key.LookKey.{LookKey}
use Rattle.inf_base.specs.declared.setup.ClientLine.{ClientLine}
use Rattle.inf_duty.specs.After.{client_after}
use Rattle.inf_duty.specs.Duty.{asked, given_up_in}
use Rattle.inf_duty.specs.Outcome.{Agrees, OutcomeFrom, all_given_up, results_of, so_far, unanswered}
use Rattle.inf_duty.specs.Start.{starting}
use Rattle.inf_duty.specs.World.{World}
use Rattle.inf_duty.proofs.BegunKept.{IsKept, if_both, kept_all_given_up, kept_begun}
use Rattle.inf_message.specs.declared.ending.Ending.TheVariants as ending
use Rattle.inf_message.specs.declared.turn.Turn.TheVariants as turn
use Rattle.inf_duty.specs.ClientState.{ClientState, Stage, act, call_ref, compose, ended, result_of, round, winds, wound}
use Rattle.inf_duty.specs.Flow.{after_act, clean_up}
use Rattle.inf_duty.specs.Group.{composed_stage}
use Rattle.inf_duty.specs.Course.{next_course}
use Rattle.inf_duty.specs.Turn.{learned, served, turn_at, turned}
use Rattle.inf_duty.specs.declared.flow.Flow.{Flow}
use Rattle.inf_message.specs.Sent.{has_place}
use Rattle.inf_message.specs.Turn.{turn_as}
use Rattle.inf_message.specs.declared.ending.Ending.{Ending}
use Rattle.inf_message.specs.declared.turn.Turn.{Turn}
use Rattle.inf_laws_history.specs.Legal.{Legal, MayServe}
use Rattle.inf_laws_history.proofs.ClientSteps.{by_answer, recorded_in}
use Rattle.inf_laws_history.proofs.Turns.{TurnOf, by_next, by_round}
use Rattle.inf_resolve.specs.InTheWay.{IsInTheWay}
use Rattle.inf_message.specs.declared.call_result.CallResult.{CallResult}
use Rattle.inf_message.specs.declared.event.Event.{Event}
use Rattle.inf_message.specs.declared.event.Event.TheVariants as event
use Rattle.inf_message.specs.declared.reply.Reply.{Reply}
use Rattle.inf_message.specs.declared.step.Message.{Message}
use Rattle.inf_message.specs.History.{Told, told_reply}

-- what may be said of a call's answer and its place, after a history
abbrev pub Of : Type 1
Of = List Event → CallRef → Answer → ℕ → Type 0

abbrev IfPlaced : Of → List Event → CallRef → Answer → Option ℕ → Type 0
IfPlaced P h call given at = IfSome at (λ place. P h call given place)

abbrev pub ResultHas : Of → List Event → CallResult → Type 0
ResultHas P h result = IfPlaced P h result.call result.answer result.place

abbrev EndingHas : Of → List Event → CallRef → Ending → Type 0
EndingHas P h call (ending.Answers given at) = IfPlaced P h call given at
EndingHas P h call ending.Retries = Unit {0}

abbrev StageHas : Of → List Event → CallRef → Stage → Type 0
StageHas P h call (winds end ms later) = EndingHas P h call end
StageHas P h call other_stage = Unit {0}

abbrev TurnHas : Of → List Event → CallRef → Turn Stage → Type 0
TurnHas P h call (turn.GoesOn next) = StageHas P h call next
TurnHas P h call (turn.WindsUp end more) = EndingHas P h call end

-- it lasts, and each group that is over brings it
pub record IsBrought (world : World) (P : Of) : Type 0 where
  pub stays : (e : Event) (h : List Event) (call : CallRef) (given : Answer) (place : ℕ) → P h call given place → P (e ∷ h) call given place
  pub by_round : (h : List Event) → Legal world h → (number ask_place : ℕ) (given : Reply) → MayServe world h number ask_place given → (client : ℕ) (keys : List LookKey)
      → (client_after world client h).stage ≡ round keys → has_place ask_place (client_after world client h).sent ≡ true
      → (by : CallRef) (place : ℕ)
      → IsInTheWay (learned (round keys) (recorded_in ask_place (told_reply (suc (length h)) given) (client_after world client h))).known by place
      → P (event.Serve number ask_place given ∷ h) (call_ref (client_after world client h)) (answer.Again by) place
  pub by_flow : (h : List Event) → Legal world h → (number ask_place : ℕ) (given : Reply) → MayServe world h number ask_place given → (client : ℕ) (flow : Flow)
      → (client_after world client h).stage ≡ act flow → has_place ask_place (client_after world client h).sent ≡ true
      → TurnOf (P (event.Serve number ask_place given ∷ h) (call_ref (client_after world client h)))
      (after_act world.digest (client_after world client h).who flow (recorded_in ask_place (told_reply (suc (length h)) given) (client_after world client h)).sent)

module _ (world : World) (P : Of) (brought : IsBrought world P) where
  record AllHave (h : List Event) (s : ClientState) : Type 0 where
    results : All (ResultHas P h) s.results
    stage : StageHas P h (call_ref s) s.stage

  placed_stays : (e : Event) (h : List Event) (call : CallRef) (given : Answer) (at : Option ℕ) → IfPlaced P h call given at → IfPlaced P (e ∷ h) call given at
  placed_stays e h call given None is = tt
  placed_stays e h call given (Some place) is = brought.stays e h call given place is

  stage_stays : (e : Event) (h : List Event) (call : CallRef) (stage : Stage) → StageHas P h call stage → StageHas P (e ∷ h) call stage
  stage_stays e h call (winds (ending.Answers given at) m ms) is = placed_stays e h call given at is
  stage_stays e h call (winds ending.Retries m ms) is = tt
  stage_stays e h call compose is = tt
  stage_stays e h call (round keys) is = tt
  stage_stays e h call (act flow) is = tt

  have_stay : (e : Event) (h : List Event) (s : ClientState) → AllHave h s → AllHave (e ∷ h) s
  have_stay e h s have = record {
    results = All-weaker (ResultHas P h) (ResultHas P (e ∷ h)) (λ r is. placed_stays e h r.call r.answer r.place is) s.results have.results;
    stage = stage_stays e h (call_ref s) s.stage have.stage;
  }

  module _ (h : List Event) where
    ended_have : (given : Answer) (at : Option ℕ) (s : ClientState) → IfPlaced P h (call_ref s) given at → All (ResultHas P h) s.results → AllHave h (ended given at s)
    ended_have given at s is before =
        record { results = All-push (ResultHas P h) s.results (result_of given at s.counts.last s) before is; stage = tt }

    wound_have : (end : Ending) (more : List (List Message)) (s : ClientState) → EndingHas P h (call_ref s) end → All (ResultHas P h) s.results → AllHave h (wound end more s)
    wound_have (ending.Answers given at) [] s is before = ended_have given at s is before
    wound_have ending.Retries [] s is before = record { results = before; stage = tt }
    wound_have end (ms ∷ later) s is before = record { results = before; stage = is }

    turned_have : (t : Turn Stage) (s : ClientState) → TurnHas P h (call_ref s) t → All (ResultHas P h) s.results → AllHave h (turned t s)
    turned_have (turn.GoesOn next) s is before = record { results = before; stage = is }
    turned_have (turn.WindsUp end more) s is before = wound_have end more s is before

    given_up_have : (s : ClientState) (stage : Stage) → AllHave h s → AllHave h (given_up_in s stage)
    given_up_have s (act flow) before = wound_have (ending.Answers answer.NoMemory None) (clean_up s.who flow) s tt before.results
    given_up_have s (winds end ms later) before = before
    given_up_have s compose before = ended_have answer.NoMemory None s tt before.results
    given_up_have s (round keys) before = ended_have answer.NoMemory None s tt before.results

    composed_has : (s : ClientState) (stage : Stage) → StageHas P h (call_ref s) stage → StageHas P h (call_ref s) (composed_stage world.digest s stage)
    composed_has s compose is =
        by_next (StageHas P h (call_ref s)) world.digest s.who s.known (next_course s.left) tt (λ keys. tt) (λ course old new leads. tt)
    composed_has s (round keys) is = is
    composed_has s (act flow) is = is
    composed_has s (winds end ms later) is = is

    kept : IsKept world.digest (AllHave h)
    kept = record {
      composing = λ s before. record { results = before.results; stage = composed_has s s.stage before.stage };
      giving_up = λ s before. given_up_have s s.stage before;
    }

    -- ---- a Serve

    turn_has : (call : CallRef) (t : Turn Flow) → TurnOf (P h call) t → TurnHas P h call (turn_as act t)
    turn_has call (turn.GoesOn step) is = tt
    turn_has call (turn.WindsUp (ending.Answers given (Some place)) more) is = is
    turn_has call (turn.WindsUp other_ending more) is = tt

  module _ (h : List Event) (legal : Legal world h) (number ask_place : ℕ) (given : Reply) (may : MayServe world h number ask_place given) (client : ℕ) where
    abbrev now : List Event
    now = event.Serve number ask_place given ∷ h

    abbrev s : ClientState
    s = client_after world client h

    abbrev told : Told
    told = told_reply (suc (length h)) given

    abbrev told_now : ClientState
    told_now = recorded_in ask_place told s

    by_stage : has_place ask_place s.sent ≡ true → (stage : Stage) → s.stage ≡ stage → StageHas P now (call_ref s) stage
        → TurnHas P now (call_ref s) (turn_at world.digest (learned stage told_now) stage)
    by_stage here compose is has = tt
    by_stage here (round keys) is has =
        by_round (TurnHas P now (call_ref s)) world.digest (learned (round keys) told_now) tt tt tt
        (brought.by_round h legal number ask_place given may client keys is here)
    by_stage here (act flow) is has = turn_has now (call_ref s) _ (brought.by_flow h legal number ask_place given may client flow is here)
    by_stage here (winds end ms later) is has = has

    over_has : (stage : Stage) → TurnHas P now (call_ref s) (turn_at world.digest (learned stage told_now) stage) → All (ResultHas P now) s.results
        → AllHave now (turned (turn_at world.digest (learned stage told_now) stage) (learned stage told_now))
    over_has compose has before = turned_have now (turn_at world.digest told_now compose) told_now has before
    over_has (round keys) has before =
        turned_have now (turn_at world.digest (learned (round keys) told_now) (round keys)) (learned (round keys) told_now) has before
    over_has (act flow) has before = turned_have now (turn_at world.digest told_now (act flow)) told_now has before
    over_has (winds end ms later) has before = turned_have now (turn_at world.digest told_now (winds end ms later)) told_now has before

    served_has : AllHave now s → AllHave now (served world.digest ask_place told s)
    served_has before =
        by_answer world.digest (AllHave now) ask_place told s
        (λ apart. before)
        (λ here going. record { results = before.results; stage = before.stage })
        (λ here over. over_has s.stage (by_stage here s.stage refl before.stage) before.results)

  starting_have : (client : ℕ) (line : Option ClientLine) → AllHave [] (starting world client line)
  starting_have client None = record { results = All-nil (ResultHas P []); stage = tt }
  starting_have client (Some line) = record { results = All-nil (ResultHas P []); stage = tt }

  have_after : (h : List Event) → Legal world h → (client : ℕ) → AllHave h (client_after world client h)
  have_after [] legal client = starting_have client (slice_get world.setup.clients client)
  have_after (event.Ask number ask ∷ h) legal client =
      let s : ClientState = client_after world client h in
      let before = have_stay (event.Ask number ask) h s (have_after h legal.0 client) in
      let now = kept_begun world.digest (AllHave (event.Ask number ask ∷ h)) (kept (event.Ask number ask ∷ h)) ask s.sent s before in
      if_both (AllHave (event.Ask number ask ∷ h)) (eqb ask.from.client client) (asked world.digest (suc (length h)) ask s) s
      (record { results = now.results; stage = now.stage }) before
  have_after (event.Serve number ask_place given ∷ h) legal client =
      served_has h legal.0 number ask_place given legal.1 client
      (have_stay (event.Serve number ask_place given) h (client_after world client h) (have_after h legal.0 client))

  -- ---- all results

  module _ (h : List Event) where
    so_far_has : (stage : Stage) (s : ClientState) → StageHas P h (call_ref s) stage → ResultHas P h (so_far stage s)
    so_far_has (winds (ending.Answers given at) m ms) s is = is
    so_far_has (winds ending.Retries m ms) s is = tt
    so_far_has compose s is = tt
    so_far_has (round keys) s is = tt
    so_far_has (act flow) s is = tt

    left_have : (calls : List Call) (s : ClientState) → StageHas P h (call_ref s) s.stage → All (ResultHas P h) (unanswered calls s)
    left_have [] s is = All-nil (ResultHas P h)
    left_have (call ∷ calls) s is =
        All-cons (ResultHas P h) (so_far s.stage s) (unanswered calls (ended answer.Unanswered None s)) (so_far_has s.stage s is)
        (left_have calls (ended answer.Unanswered None s) tt)

    results_have : (s : ClientState) → AllHave h s → All (ResultHas P h) (results_of s)
    results_have s have = All-append (ResultHas P h) s.results (unanswered s.left s) have.results (left_have s.left s have.stage)

    agreeing_have : (s : ClientState) (mine : List CallResult) → AllHave h s → Agrees s mine → All (ResultHas P h) mine
    agreeing_have s mine have agrees =
        ⊎_elim
        (λ (same : mine ≡ results_of s). subst (All (ResultHas P h)) (sym same) (results_have s have))
        (λ (gave : (s.sent ≡ []) × (mine ≡ results_of (all_given_up s.left s))).
        subst (All (ResultHas P h)) (sym gave.1) (results_have (all_given_up s.left s) (kept_all_given_up world.digest (AllHave h) (kept h) s.left s have)))
        agrees

    -- each result with a place has it
    pub outcome_has : Legal world h → (client : ℕ) (lines : List ClientLine) (results : List CallResult) → OutcomeFrom world h client lines results → All (ResultHas P h) results
    outcome_has legal client [] results out = subst (All (ResultHas P h)) (sym out) (All-nil (ResultHas P h))
    outcome_has legal client (line ∷ lines) results out =
        subst (All (ResultHas P h)) (sym out.all)
        (All-append (ResultHas P h) out.mine out.others
        (agreeing_have (client_after world client h) out.mine (have_after h legal client) out.agrees)
        (outcome_has legal (client + 1) lines out.others out.later))
