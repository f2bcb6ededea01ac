-- What each step of a flow keeps true, clients that go by it keep.
use Rattle.std.proofs.Common.{◌≡◌, ℕ, Bool, true, false, if◌then◌else◌, List, [], ◌∷◌, Option, Some, None, refl, sym, subst}
use Rattle.inf_base.specs.declared.answer.Answer.TheVariants as answer
use Rattle.inf_base.specs.declared.call.Call.{Call}
use Rattle.inf_base.specs.declared.id.Id.{Id}
use Rattle.inf_message.specs.declared.ending.Ending.{Ending}
use Rattle.inf_message.specs.declared.ending.Ending.TheVariants as ending
use Rattle.inf_message.specs.declared.op.Op.TheVariants as op
use Rattle.inf_message.specs.declared.reply.Reply.{Reply}
use Rattle.inf_message.specs.declared.reply.Reply.TheVariants as reply
use Rattle.inf_message.specs.declared.step.Message.{Message}
use Rattle.inf_message.specs.declared.turn.Turn.{Turn}
use Rattle.inf_message.specs.declared.turn.Turn.TheVariants as turn
use Rattle.inf_message.specs.History.{Told}
use Rattle.inf_message.specs.Sent.{Sent, deciding, is_wanting}
use Rattle.inf_message.specs.Turn.{after_deciding, after_told, fails, turn_as}
use Rattle.inf_message.specs.Who.{Who}
use Rattle.inf_flow_dir.specs.declared.dir_flow.DirFlow.{DirFlow}
use Rattle.inf_flow_dir.specs.DirFlow.{after as after_dir, clean_up as dir_clean_up}
use Rattle.inf_flow_file.specs.declared.file_flow.FileFlow.{FileFlow}
use Rattle.inf_flow_file.specs.declared.file_flow.FileFlow.TheVariants as file_flow
use Rattle.inf_flow_file.specs.FileFlow.{after as after_file, after_reply as file_reply}
use Rattle.inf_resolve.specs.declared.known.Known.{Known}
use Rattle.inf_duty.specs.declared.flow.Flow.{Flow}
use Rattle.inf_duty.specs.declared.flow.Flow.TheVariants as flow
use Rattle.inf_duty.specs.ClientState.{ClientState, Stage, act, compose, round, winds, wound}
use Rattle.inf_duty.specs.Duty.{given_up, given_up_in}
use Rattle.inf_duty.specs.Flow.{after_act, clean_up}
use Rattle.inf_duty.specs.Group.{composed, composed_stage}
use Rattle.inf_duty.specs.declared.course.Course.{Course}
use Rattle.inf_duty.specs.Course.{next_course}
use Rattle.inf_duty.specs.Turn.{known_turn, learned, round_turn, settled, turn_at, turn_by, turned}
use Rattle.inf_resolve.specs.declared.resolved.Resolved.{Resolved}
use Rattle.inf_resolve.specs.declared.resolved.Resolved.TheVariants as comes
use Rattle.inf_resolve.specs.Resolved.{resolved}
use Rattle.inf_duty.specs.Keeps.{ClientFits, ClientKeeps, FlowKeeps, StageFits, TurnFits}

-- ---- a flow, by its turns

-- what comes of the answers to a step fits, whatever they are, and so does what cleans up behind it
module _ (F : Type 0) (after : F → List Sent → Turn F) (clean : F → List (List Message)) (Fits : F → Type 0)
    (WindsWell : List (List Message) → Type 0) where
  pub keeps_turns : ((step : F) (sent : List Sent) → Fits step → TurnFits F Fits WindsWell (after step sent))
      → ((step : F) → Fits step → WindsWell (clean step)) → FlowKeeps F after clean Fits WindsWell
  keeps_turns turns cleans = record {
    goes_on = λ step next sent fits is.
        subst (λ (t : Turn F). TurnFits F Fits WindsWell t) is (turns step sent fits);
    winds = λ step sent end more fits is.
        subst (λ (t : Turn F). TurnFits F Fits WindsWell t) is (turns step sent fits);
    cleans = cleans;
  }

  module _ (keeps : FlowKeeps F after clean Fits WindsWell) where
    turn_is : (step : F) (sent : List Sent) (t : Turn F) → Fits step → after step sent ≡ t
        → TurnFits F Fits WindsWell t
    turn_is step sent (turn.GoesOn next) fits is = keeps.goes_on step next sent fits is
    turn_is step sent (turn.WindsUp end more) fits is = keeps.winds step sent end more fits is

    pub turn_fits : (step : F) (sent : List Sent) → Fits step → TurnFits F Fits WindsWell (after step sent)
    turn_fits step sent fits = turn_is step sent (after step sent) fits refl

-- the same where one reply decides a step: what comes of each reply fits, and the attempt begins again without one
module _ (F : Type 0) (after : F → List Sent → Turn F) (by_reply : F → ℕ → ℕ → Reply → Turn F)
    (clean : F → List (List Message)) (Fits : F → Type 0) (WindsWell : List (List Message) → Type 0) where
  told_fits : (step : F) (asked : ℕ) (told : Option Told) → WindsWell []
      → ((place : ℕ) (given : Reply) → TurnFits F Fits WindsWell (by_reply step asked place given))
      → TurnFits F Fits WindsWell (after_told (by_reply step) asked told)
  told_fits step asked None none turns = none
  told_fits step asked (Some told) none turns = turns told.serve_place told.reply

  decided_fits : (step : F) (found : Option Sent) → WindsWell []
      → ((asked place : ℕ) (given : Reply) → TurnFits F Fits WindsWell (by_reply step asked place given))
      → TurnFits F Fits WindsWell (after_deciding (by_reply step) found)
  decided_fits step None none turns = none
  decided_fits step (Some x) none turns = told_fits step x.place x.told none (turns x.place)

  pub keeps_by : ((step : F) (sent : List Sent) → after step sent ≡ after_deciding (by_reply step) (deciding sent))
      → WindsWell []
      → ((step : F) (asked place : ℕ) (given : Reply) → Fits step
      → TurnFits F Fits WindsWell (by_reply step asked place given))
      → ((step : F) → Fits step → WindsWell (clean step)) → FlowKeeps F after clean Fits WindsWell
  keeps_by is none turns cleans =
      keeps_turns F after clean Fits WindsWell
      (λ step sent fits.
      subst (λ (t : Turn F). TurnFits F Fits WindsWell t) (sym (is step sent))
      (decided_fits step (deciding sent) none (λ asked place given. turns step asked place given fits)))
      cleans

module _ (WindsWell : List (List Message) → Type 0) where
  -- where a message does not succeed, what follows is the clean-up
  pub fails_fits : (F : Type 0) (Fits : F → Type 0) (more : List (List Message)) (place : ℕ) (given : Reply) → WindsWell more
      → TurnFits F Fits WindsWell (fails more place given)
  fails_fits F Fits more place (reply.Busy by at born) well = well
  fails_fits F Fits more place (reply.Refused error) well = well
  fails_fits F Fits more place reply.NoMem well = well
  fails_fits F Fits more place any_reply well = well

  file_turns : (Fits : FileFlow → Type 0) (step : FileFlow) (asked place : ℕ) (given : Reply) → WindsWell []
      → TurnFits FileFlow Fits WindsWell (file_reply step asked place given)
  file_turns Fits (file_flow.Finishes chain (op.Create name mode)) asked place reply.Fine none = none
  file_turns Fits (file_flow.Finishes chain (op.Stat name)) asked place (reply.Stat kind meta) none = none
  file_turns Fits step asked place given none = fails_fits FileFlow Fits [] place given none

  -- a call that one message decides goes on with none, and leaves nothing to clean up
  file_keeps : (Fits : FileFlow → Type 0) → WindsWell []
      → FlowKeeps FileFlow after_file (λ step. []) Fits WindsWell
  file_keeps Fits none =
      keeps_by FileFlow after_file file_reply (λ step. []) Fits WindsWell (λ step sent. refl) none
      (λ step asked place given fits. file_turns Fits step asked place given none) (λ step fits. none)

  as_fits : (F G : Type 0) (wrap : F → G) (Fits : G → Type 0) (t : Turn F)
      → TurnFits F (λ (step : F). Fits (wrap step)) WindsWell t → TurnFits G Fits WindsWell (turn_as wrap t)
  as_fits F G wrap Fits (turn.GoesOn next) fits = fits
  as_fits F G wrap Fits (turn.WindsUp end more) fits = fits

  module _ (digest : List ℕ → Id) (who : Who) (Fits : Flow → Type 0) (none : WindsWell [])
      (dirs : FlowKeeps DirFlow (after_dir digest who) (dir_clean_up who) (λ (step : DirFlow). Fits (flow.Dir step))
      WindsWell) where
    either_turns : (step : Flow) (sent : List Sent) → Fits step
        → TurnFits Flow Fits WindsWell (after_act digest who step sent)
    either_turns (flow.File step) sent fits =
        let FileFits = λ (s : FileFlow). Fits (flow.File s) in
        as_fits FileFlow Flow flow.File Fits (after_file step sent)
        (turn_fits FileFlow after_file (λ s. []) FileFits WindsWell (file_keeps FileFits none) step sent fits)
    either_turns (flow.Dir step) sent fits =
        as_fits DirFlow Flow flow.Dir Fits (after_dir digest who step sent)
        (turn_fits DirFlow (after_dir digest who) (dir_clean_up who) (λ (s : DirFlow). Fits (flow.Dir s)) WindsWell dirs
        step sent fits)

    either_cleans : (step : Flow) → Fits step → WindsWell (clean_up who step)
    either_cleans (flow.File step) fits = none
    either_cleans (flow.Dir step) fits = dirs.cleans step fits

    -- the flow of a call is one of the two kinds
    pub either_keeps : FlowKeeps Flow (after_act digest who) (clean_up who) Fits WindsWell
    either_keeps =
        keeps_turns Flow (after_act digest who) (clean_up who) Fits WindsWell either_turns either_cleans

-- ---- what comes of a round

-- nothing goes on behind a round but what is settled next, and nothing is left to wind up
module _ (P : Turn Stage → Type 0) (goes : P (turn.GoesOn compose))
    (winds_up : (end : Ending) → P (turn.WindsUp end [])) where
  turn_by_comes : (r : Resolved) → P (turn_by r)
  turn_by_comes (comes.IsBusy by place) = winds_up (ending.Answers (answer.Again by) (Some place))
  turn_by_comes comes.Lacks = winds_up ending.Retries
  turn_by_comes (comes.Asks keys) = goes
  turn_by_comes (comes.Leads old new) = goes

  known_comes : (digest : List ℕ → Id) (s : ClientState) (found : Option Course)
      → P (known_turn digest s.who s.known found)
  known_comes digest s None = winds_up ending.Retries
  known_comes digest s (Some course) = turn_by_comes (resolved digest s.who.root course.looked s.known)

  wanting_comes : (digest : List ℕ → Id) (s : ClientState) (b : Bool)
      → P (if b then turn.WindsUp (ending.Answers answer.NoMemory None) []
      else known_turn digest s.who s.known (next_course s.left))
  wanting_comes digest s true = winds_up (ending.Answers answer.NoMemory None)
  wanting_comes digest s false = known_comes digest s (next_course s.left)

  pub round_comes : (digest : List ℕ → Id) (s : ClientState) → P (round_turn digest s)
  round_comes digest s = wanting_comes digest s (is_wanting s.sent)

-- ---- clients

module _ (Fits : Who → List Call → Flow → Type 0) (WindsWell : Who → List (List Message) → Type 0) where
  -- a stage fits the client that stands there
  abbrev FitsIn : ClientState → Stage → Type 0
  FitsIn s stage = StageFits (Fits s.who s.left) (WindsWell s.who) stage

  wound_fits : (end : Ending) (more : List (List Message)) (s : ClientState) → WindsWell s.who more
      → ClientFits Fits WindsWell (wound end more s)
  wound_fits (ending.Answers given place) [] s well = tt
  wound_fits ending.Retries [] s well = tt
  wound_fits end (ms ∷ later) s well = well

  given_up_at : ((who : Who) (calls : List Call) (step : Flow) → Fits who calls step → WindsWell who (clean_up who step))
      → (s : ClientState) (stage : Stage) → ClientFits Fits WindsWell s → FitsIn s stage
      → ClientFits Fits WindsWell (given_up_in s stage)
  given_up_at cleans s (act step) now fits =
      wound_fits (ending.Answers answer.NoMemory None) (clean_up s.who step) s (cleans s.who s.left step fits)
  given_up_at cleans s (winds end ms later) now fits = now
  given_up_at cleans s compose now fits = tt
  given_up_at cleans s (round keys) now fits = tt

  -- a call is given up by what cleans up alone: no identifier is made then
  pub given_up_fits : ((who : Who) (calls : List Call) (step : Flow) → Fits who calls step
      → WindsWell who (clean_up who step))
      → (s : ClientState) → ClientFits Fits WindsWell s → ClientFits Fits WindsWell (given_up s)
  given_up_fits cleans s fits = given_up_at cleans s s.stage fits fits

module _ (digest : List ℕ → Id) (Knows : List Known → Type 0) (Fits : Who → List Call → Flow → Type 0)
    (WindsWell : Who → List (List Message) → Type 0) (keeps : ClientKeeps digest Knows Fits WindsWell) where
  abbrev IsFit : ClientState → Type 0
  IsFit s = ClientFits Fits WindsWell s

  abbrev TurnsIn : ClientState → Turn Stage → Type 0
  TurnsIn s t = TurnFits Stage (FitsIn Fits WindsWell s) (WindsWell s.who) t

  turned_fits : (t : Turn Stage) (s : ClientState) → TurnsIn s t → IsFit (turned t s)
  turned_fits (turn.GoesOn next) s fits = fits
  turned_fits (turn.WindsUp end more) s fits = wound_fits Fits WindsWell end more s fits

  composed_at : (s : ClientState) (stage : Stage) → Knows s.known → FitsIn Fits WindsWell s stage
      → FitsIn Fits WindsWell s (composed_stage digest s stage)
  composed_at s compose knows fits = keeps.begins s.who s.left s.known knows
  composed_at s (round keys) knows fits = tt
  composed_at s (act step) knows fits = fits
  composed_at s (winds end ms later) knows fits = fits

  pub composed_fits : (s : ClientState) → Knows s.known → IsFit s → IsFit (composed digest s)
  composed_fits s knows fits = composed_at s s.stage knows fits

  act_goes : (s : ClientState) (t : Turn Flow) → TurnFits Flow (Fits s.who s.left) (WindsWell s.who) t
      → TurnsIn s (turn_as act t)
  act_goes s (turn.GoesOn next) fits = fits
  act_goes s (turn.WindsUp end more) fits = fits

  act_fits : (who : Who) (calls : List Call) (step : Flow) (sent : List Sent) → Fits who calls step
      → TurnFits Flow (Fits who calls) (WindsWell who) (after_act digest who step sent)
  act_fits who calls step sent fits =
      turn_fits Flow (after_act digest who) (clean_up who) (Fits who calls) (WindsWell who) (keeps.flows who calls) step
      sent fits

  stage_turns : (s : ClientState) (stage : Stage) → FitsIn Fits WindsWell s stage
      → TurnsIn s (turn_at digest s stage)
  stage_turns s compose fits = keeps.none s.who
  stage_turns s (round keys) fits = round_comes (TurnsIn s) tt (λ end. keeps.none s.who) digest s
  stage_turns s (act step) fits =
      act_goes s (after_act digest s.who step s.sent) (act_fits s.who s.left step s.sent fits)
  stage_turns s (winds end ms later) fits = keeps.later s.who ms later fits

  learned_fits : (s : ClientState) (stage : Stage) → FitsIn Fits WindsWell s stage
      → FitsIn Fits WindsWell (learned stage s) stage
  learned_fits s (round keys) fits = tt
  learned_fits s compose fits = tt
  learned_fits s (act step) fits = fits
  learned_fits s (winds end ms later) fits = fits

  pub settled_fits : (b : Bool) (s : ClientState) → IsFit s → IsFit (settled digest b s)
  settled_fits true s fits =
      let later = learned s.stage s in
      turned_fits (turn_at digest later s.stage) later (stage_turns later s.stage (learned_fits s s.stage fits))
  settled_fits false s fits = fits
