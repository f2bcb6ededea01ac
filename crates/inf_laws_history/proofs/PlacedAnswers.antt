-- What holds of each answer that a group may come to, with its place, holds of all results that agree with a history.
use Rattle.std.proofs.Common.{◌≡◌, ℕ, suc, ◌+◌, Bool, true, false, eqb, List, [], ◌∷◌, length, slice_get, Option, None, Some, All, sym, subst, ⊎_elim}
use Rattle.std.proofs.lemmas.List.Elements.{All-append, All-cons, All-nil, All-push}
use Rattle.inf_base.specs.declared.id.Id.{Id}
use Rattle.inf_base.specs.declared.answer.Answer.{Answer}
use Rattle.inf_base.specs.declared.answer.Answer.TheVariants as answer
use Rattle.inf_base.specs.declared.call.Call.{Call}
use Rattle.inf_base.specs.declared.caller.CallRef.{CallRef}
use Rattle.inf_base.specs.declared.errno.Errno.{Errno}
use Rattle.inf_base.specs.declared.file.FileMeta.{FileMeta}
use Rattle.inf_base.specs.declared.item.Kind.{Kind}
use Rattle.inf_base.specs.declared.setup.ClientLine.{ClientLine}
use Rattle.inf_base.specs.declared.triple.Triple.{Triple}
use Rattle.inf_duty.specs.After.{client_after}
use Rattle.inf_duty.specs.Duty.{asked, given_up_in}
use Rattle.inf_duty.specs.Outcome.{Agrees, OutcomeFrom, all_given_up, come_to, results_of, so_far, unanswered}
use Rattle.inf_duty.specs.Start.{starting}
use Rattle.inf_duty.specs.World.{World}
use Rattle.inf_duty.proofs.BegunKept.{IsKept, if_both, kept_all_given_up, kept_begun}
use Rattle.inf_flow_dir.specs.declared.dir_flow.DirFlow.TheVariants as dir_flow
use Rattle.inf_message.specs.declared.ending.Ending.TheVariants as ending
use Rattle.inf_flow_file.specs.declared.file_flow.FileFlow.TheVariants as file_flow
use Rattle.inf_duty.specs.declared.flow.Flow.TheVariants as flow
use Rattle.inf_message.specs.declared.turn.Turn.TheVariants as turn
use Rattle.inf_duty.specs.ClientState.{ClientState, Stage, act, compose, ended, result_of, round, winds, wound}
use Rattle.inf_duty.specs.Flow.{after_act, after_reply, clean_up}
use Rattle.inf_duty.proofs.FlowFacts.{act_by}
use Rattle.inf_duty.specs.Group.{composed_stage}
use Rattle.inf_duty.specs.Course.{next_course}
use Rattle.inf_duty.specs.Turn.{learned, round_turn, served, turn_at, turned}
use Rattle.inf_duty.specs.declared.flow.Flow.{Flow}
use Rattle.inf_message.specs.Sent.{Sent, is_wanting}
use Rattle.inf_message.specs.Turn.{fails, turn_as}
use Rattle.inf_message.specs.Who.{Who, birth_of}
use Rattle.inf_message.specs.declared.ending.Ending.{Ending}
use Rattle.inf_message.specs.declared.turn.Turn.{Turn}
use Rattle.inf_laws_history.proofs.ClientSteps.{by_answer, recorded_in}
use Rattle.inf_laws_history.proofs.Turns.{by_next, by_round}
use Rattle.inf_message.specs.declared.call_result.CallResult.{CallResult}
use Rattle.inf_message.specs.declared.event.Event.{Event}
use Rattle.inf_message.specs.declared.event.Event.TheVariants as event
use Rattle.inf_message.specs.declared.op.Op.TheVariants as op
use Rattle.inf_message.specs.declared.reply.Reply.{Reply}
use Rattle.inf_message.specs.declared.reply.Reply.TheVariants as reply
use Rattle.inf_message.specs.declared.step.Message.{Message}
use Rattle.inf_message.specs.History.{Told, told_reply}

-- an answer, and the place that it comes with, if any
abbrev pub Of : Type 1
Of = Answer → Option ℕ → Type 0

-- so are the answers of calls: those that a reply brings have its place, and want of memory has none
pub record IsOfServes (P : Of) : Type 0 where
  pub done : (place : ℕ) → P answer.Done (Some place)
  pub stat : (kind : Kind) (meta : FileMeta) (place : ℕ) → P (answer.Stat kind meta) (Some place)
  pub refused : (error : Errno) (place : ℕ) → P (answer.Refused error) (Some place)
  pub again : (by : CallRef) (place : ℕ) → P (answer.Again by) (Some place)
  pub clash : (own kept : Triple) (place : ℕ) → P (answer.IdClash own kept) (Some place)
  pub wanting : P answer.NoMemory None

abbrev pub EndingIs : Of → Ending → Type 0
EndingIs P (ending.Answers given at) = P given at
EndingIs P ending.Retries = Unit {0}

abbrev pub StageIs : Of → Stage → Type 0
StageIs P (winds end ms later) = EndingIs P end
StageIs P other_stage = Unit {0}

abbrev FlowIs : Of → Turn Flow → Type 0
FlowIs P (turn.GoesOn next) = Unit {0}
FlowIs P (turn.WindsUp end more) = EndingIs P end

abbrev TurnIs : Of → Turn Stage → Type 0
TurnIs P (turn.GoesOn next) = StageIs P next
TurnIs P (turn.WindsUp end more) = EndingIs P end

abbrev pub ResultIs : Of → CallResult → Type 0
ResultIs P result = P result.answer result.place

module _ (P : Of) (of : IsOfServes P) where
  -- ---- after a message of a flow

  fails_is : {F : Type 0} (wrap : F → Flow) (who : Who) (step : Flow) (place : ℕ) (given : Reply) → FlowIs P (turn_as wrap (fails (clean_up who step) place given))
  fails_is wrap who step place (reply.Busy by at born) = of.again by place
  fails_is wrap who step place (reply.Refused error) = of.refused error place
  fails_is wrap who step place reply.NoMem = of.wanting
  fails_is wrap who step place any_reply = tt

  act_is : (digest : List ℕ → Id) (who : Who) (step : Flow) (asked place : ℕ) (given : Reply) → FlowIs P (after_reply digest who step asked place given)
  act_is digest who (flow.File (file_flow.Finishes chain (op.Create name mode))) asked place reply.Fine = of.done place
  act_is digest who (flow.File (file_flow.Finishes chain (op.Stat name))) asked place (reply.Stat kind meta) = of.stat kind meta place
  act_is digest who (flow.Dir (dir_flow.Reserves chain name mode)) asked place (reply.Reserved version) = tt
  act_is digest who (flow.Dir (dir_flow.Makes chain name mode version id)) asked place reply.Fine = tt
  act_is digest who (flow.Dir (dir_flow.Makes chain name mode version id)) asked place (reply.Clash kept) =
      of.clash (birth_of who chain name version) kept place
  act_is digest who (flow.Dir (dir_flow.Links chain name mode version dir)) asked place reply.Fine = of.done place
  act_is digest who (flow.Dir (dir_flow.Seals chain)) asked place reply.Fine = tt
  act_is digest who (flow.Dir (dir_flow.Unlinks chain)) asked place reply.Fine = of.done place
  act_is digest who (flow.File step) asked place given = fails_is flow.File who (flow.File step) place given
  act_is digest who (flow.Dir step) asked place given = fails_is flow.Dir who (flow.Dir step) place given

  flow_is : (digest : List ℕ → Id) (who : Who) (step : Flow) (sent : List Sent) → FlowIs P (after_act digest who step sent)
  flow_is digest who step sent =
      act_by (FlowIs P) digest who step sent tt
      (λ x told found as_told. act_is digest who step x.place told.serve_place told.reply)

  -- ---- after a group

  as_act : (t : Turn Flow) → FlowIs P t → TurnIs P (turn_as act t)
  as_act (turn.GoesOn next) is = tt
  as_act (turn.WindsUp end more) is = is

  round_is : (digest : List ℕ → Id) (s : ClientState) → TurnIs P (round_turn digest s)
  round_is digest s = by_round (TurnIs P) digest s tt tt of.wanting (λ by place way. of.again by place)

  turn_is : (digest : List ℕ → Id) (s : ClientState) (stage : Stage) → StageIs P stage → TurnIs P (turn_at digest s stage)
  turn_is digest s compose is = tt
  turn_is digest s (round keys) is = round_is digest s
  turn_is digest s (act step) is = as_act (after_act digest s.who step s.sent) (flow_is digest s.who step s.sent)
  turn_is digest s (winds end ms later) is = is

  -- ---- a client

  pub record AllAre (s : ClientState) : Type 0 where
    pub results : All (ResultIs P) s.results
    pub stage : StageIs P s.stage

  ended_are : (given : Answer) (at : Option ℕ) (s : ClientState) → P given at → All (ResultIs P) s.results → AllAre (ended given at s)
  ended_are given at s is before =
      record { results = All-push (ResultIs P) s.results (result_of given at s.counts.last s) before is; stage = tt }

  wound_are : (end : Ending) (more : List (List Message)) (s : ClientState) → EndingIs P end → All (ResultIs P) s.results → AllAre (wound end more s)
  wound_are (ending.Answers given at) [] s is before = ended_are given at s is before
  wound_are ending.Retries [] s is before = record { results = before; stage = tt }
  wound_are end (ms ∷ later) s is before = record { results = before; stage = is }

  turned_are : (t : Turn Stage) (s : ClientState) → TurnIs P t → All (ResultIs P) s.results → AllAre (turned t s)
  turned_are (turn.GoesOn next) s is before = record { results = before; stage = is }
  turned_are (turn.WindsUp end more) s is before = wound_are end more s is before

  over_are : (digest : List ℕ → Id) (s : ClientState) (stage : Stage) → StageIs P stage → All (ResultIs P) s.results
      → AllAre (turned (turn_at digest (learned stage s) stage) (learned stage s))
  over_are digest s compose is before = turned_are (turn_at digest s compose) s tt before
  over_are digest s (round keys) is before =
      let t : ClientState = learned (round keys) s in turned_are (turn_at digest t (round keys)) t (turn_is digest t (round keys) tt) before
  over_are digest s (act step) is before = turned_are (turn_at digest s (act step)) s (turn_is digest s (act step) tt) before
  over_are digest s (winds end ms later) is before = turned_are (turn_at digest s (winds end ms later)) s is before

  given_up_are : (s : ClientState) (stage : Stage) → AllAre s → AllAre (given_up_in s stage)
  given_up_are s (act step) before = wound_are (ending.Answers answer.NoMemory None) (clean_up s.who step) s of.wanting before.results
  given_up_are s (winds end ms later) before = before
  given_up_are s compose before = ended_are answer.NoMemory None s of.wanting before.results
  given_up_are s (round keys) before = ended_are answer.NoMemory None s of.wanting before.results

  composed_is : (digest : List ℕ → Id) (s : ClientState) (stage : Stage) → StageIs P stage → StageIs P (composed_stage digest s stage)
  composed_is digest s compose is = by_next (StageIs P) digest s.who s.known (next_course s.left) tt (λ keys. tt) (λ course old new leads. tt)
  composed_is digest s (round keys) is = is
  composed_is digest s (act step) is = is
  composed_is digest s (winds end ms later) is = is

  kept : (digest : List ℕ → Id) → IsKept digest AllAre
  kept digest = record {
    composing = λ s before. record { results = before.results; stage = composed_is digest s s.stage before.stage };
    giving_up = λ s before. given_up_are s s.stage before;
  }

  served_are : (digest : List ℕ → Id) (ask_place : ℕ) (told : Told) (s : ClientState) → AllAre s → AllAre (served digest ask_place told s)
  served_are digest ask_place told s before =
      by_answer digest AllAre ask_place told s
      (λ apart. before)
      (λ here going. record { results = before.results; stage = before.stage })
      (λ here over. over_are digest (recorded_in ask_place told s) s.stage before.stage before.results)

  starting_are : (world : World) (client : ℕ) (line : Option ClientLine) → AllAre (starting world client line)
  starting_are world client None = record { results = All-nil (ResultIs P); stage = tt }
  starting_are world client (Some line) = record { results = All-nil (ResultIs P); stage = tt }

  pub answers_after : (world : World) (client : ℕ) (h : List Event) → AllAre (client_after world client h)
  answers_after world client [] = starting_are world client (slice_get world.setup.clients client)
  answers_after world client (event.Ask number ask ∷ h) =
      let s : ClientState = client_after world client h in
      let now = kept_begun world.digest AllAre (kept world.digest) ask s.sent s (answers_after world client h) in
      if_both AllAre (eqb ask.from.client client) (asked world.digest (suc (length h)) ask s) s
      (record { results = now.results; stage = now.stage }) (answers_after world client h)
  answers_after world client (event.Serve number ask_place given ∷ h) =
      served_are world.digest ask_place (told_reply (suc (length h)) given) (client_after world client h) (answers_after world client h)

  pub all_given_up_are : (digest : List ℕ → Id) (s : ClientState) → AllAre s → AllAre (all_given_up s.left s)
  all_given_up_are digest s are = kept_all_given_up digest AllAre (kept digest) s.left s are

  -- ---- all results

  module _ (open_yet : P answer.Unanswered None) where
    so_far_is : (stage : Stage) (s : ClientState) → StageIs P stage → ResultIs P (so_far stage s)
    so_far_is (winds (ending.Answers given at) m ms) s is = is
    so_far_is (winds ending.Retries m ms) s is = open_yet
    so_far_is compose s is = open_yet
    so_far_is (round keys) s is = come_is (is_wanting s.sent)
      where
        come_is : (b : Bool) → P (come_to b) None
        come_is true = of.wanting
        come_is false = open_yet
    so_far_is (act step) s is = open_yet

    left_are : (calls : List Call) (s : ClientState) → StageIs P s.stage → All (ResultIs P) (unanswered calls s)
    left_are [] s is = All-nil (ResultIs P)
    left_are (call ∷ calls) s is =
        All-cons (ResultIs P) (so_far s.stage s) (unanswered calls (ended answer.Unanswered None s)) (so_far_is s.stage s is)
        (left_are calls (ended answer.Unanswered None s) tt)

    results_are : (s : ClientState) → AllAre s → All (ResultIs P) (results_of s)
    results_are s are = All-append (ResultIs P) s.results (unanswered s.left s) are.results (left_are s.left s are.stage)

    agreeing_are : (digest : List ℕ → Id) (s : ClientState) (mine : List CallResult) → AllAre s → Agrees s mine → All (ResultIs P) mine
    agreeing_are digest s mine are agrees =
        ⊎_elim
        (λ (same : mine ≡ results_of s). subst (All (ResultIs P)) (sym same) (results_are s are))
        (λ (gave : (s.sent ≡ []) × (mine ≡ results_of (all_given_up s.left s))).
        subst (All (ResultIs P)) (sym gave.1) (results_are (all_given_up s.left s) (all_given_up_are digest s are)))
        agrees

    -- the answers of all results, with their places
    pub outcome_are : (world : World) (h : List Event) (client : ℕ) (lines : List ClientLine) (results : List CallResult)
        → OutcomeFrom world h client lines results → All (ResultIs P) results
    outcome_are world h client [] results out = subst (All (ResultIs P)) (sym out) (All-nil (ResultIs P))
    outcome_are world h client (line ∷ lines) results out =
        subst (All (ResultIs P)) (sym out.all)
        (All-append (ResultIs P) out.mine out.others
        (agreeing_are world.digest (client_after world client h) out.mine (answers_after world client h) out.agrees)
        (outcome_are world h (client + 1) lines out.others out.later))
