-- What a client's call has in hand, from its first Ask on.
use Rattle.std.proofs.Common.{◌≡◌, ◌≢◌, ℕ, ◌+◌, ◌==◌, Bool, true, false, if◌then◌else◌, ◌||◌, ◌&&◌, not, List, [], ◌∷◌, length, slice_get, Option, Some, None, refl, sym, ap, ◌∙◌, subst}
use Rattle.inf_base.specs.declared.id.Id.{Id}
use Rattle.std.specs.List.{list_all}
use Rattle.std.proofs.lemmas.Bool.{both_ways}
use Rattle.std.proofs.lemmas.Bool.Decides.{Decides-eqb}
use Rattle.inf_base.specs.declared.answer.Answer.TheVariants as answer
use Rattle.inf_base.specs.declared.call.Call.{Call}
use Rattle.inf_base.specs.declared.caller.Caller.{Caller}
use Rattle.inf_base.specs.declared.caller.CallRef.{CallRef}
use Rattle.inf_base.specs.declared.entry.Entry.{Entry}
use Rattle.inf_base.specs.declared.key.LookKey.{LookKey}
use Rattle.inf_duty.specs.Duty.{begun, given_up_in}
use Rattle.inf_duty.proofs.BegunKept.{IsKept, if_both, kept_begun}
use Rattle.inf_message.specs.declared.ending.Ending.TheVariants as ending
use Rattle.inf_message.specs.declared.turn.Turn.TheVariants as turn
use Rattle.inf_duty.specs.ClientState.{ClientState, Stage, act, call_ref, compose, finished, idle as idle_client, is_round, placed, round, winds, wound}
use Rattle.inf_duty.specs.Flow.{clean_up}
use Rattle.inf_duty.specs.declared.flow.Flow.{Flow}
use Rattle.inf_duty.proofs.FlowFacts.{after_decided, message_of, one_message}
use Rattle.inf_duty.specs.Group.{composed_stage, group}
use Rattle.inf_duty.specs.Course.{next_course}
use Rattle.inf_duty.specs.Messages.{has_one_message}
use Rattle.inf_duty.specs.Turn.{after_group, after_record, heard_in, is_complete, later_place, learned, recorded, round_turn, served, settled, told_in, turn_at, turned}
use Rattle.inf_message.specs.Sent.{Sent, has_place, is_told}
use Rattle.inf_message.specs.Turn.{turn_as}
use Rattle.inf_message.specs.Who.{Who}
use Rattle.inf_message.specs.declared.ending.Ending.{Ending}
use Rattle.inf_message.specs.declared.turn.Turn.{Turn}
use Rattle.inf_laws_client.specs.Asked.{AreAskedFor, AsksItsGroup}
use Rattle.inf_laws_client.specs.Told.{KnowsOnly, StandsOn}
use Rattle.inf_laws_directory.specs.At.{At}
use Rattle.inf_laws_directory.specs.Fits.{next_phase}
use Rattle.inf_laws_directory.specs.Objects.{Service}
use Rattle.inf_laws_directory.specs.Owes.{MayWriteAt}
use Rattle.inf_laws_directory.specs.Phases.{Phase, Phases, idle, with_phase}
use Rattle.inf_laws_directory.proofs.CallFacts.{phase_apart, phase_here, same_phases}
use Rattle.inf_laws_history.specs.Pending.{Waits}
use Rattle.inf_laws_history.specs.Phases.{HasPhase, Lifts, StageMay}
use Rattle.inf_laws_history.proofs.GroupMessages.{IsAlone, lift_alone, look_in, one_lift, step_alone}
use Rattle.inf_laws_history.proofs.PhaseTurns.{MayGoOn, TurnHas, act_has, clean_up_lifts, lifted_by, next_opens, round_has}
use Rattle.inf_message.specs.declared.step.Message.{Message}
use Rattle.inf_message.specs.declared.ask.Ask.{Ask}
use Rattle.inf_message.specs.declared.reply.Reply.{Reply}
use Rattle.inf_message.specs.declared.reply.Reply.TheVariants as reply
use Rattle.inf_message.specs.declared.request.Request.{Request}
use Rattle.inf_message.specs.declared.request.Request.TheVariants as request
use Rattle.inf_message.specs.History.{Told, told_reply}
use Rattle.inf_server.specs.Chains.{before_last}

abbrev pub call_of : ClientState → ℕ → CallRef
call_of s number = record { client = s.who.client; number = number }

-- the client's calls but the one under way have nothing in hand
abbrev pub OthersIdle : Phases → ClientState → Type 0
OthersIdle phases s = (number : ℕ) → number ≢ s.number → phases (call_of s number) ≡ idle

pub record InHand (digest : List ℕ → Id) (phases : Phases) (s : ClientState) : Type 0 where
  pub phase : HasPhase digest s.who s.stage (phases (call_ref s))
  pub others : OthersIdle phases s
  pub may : StageMay s.who.caller s.stage

abbrev pub IsCleanUp : Stage → Type 0
IsCleanUp (winds end ms later) = Unit {0}
IsCleanUp other_stage = ⊥

-- what is asked of a reply to the client's Ask
pub record Answering (s : ClientState) (ask : Ask) (given : Reply) : Type 0 where
  pub cleans : IsCleanUp s.stage → given ≡ reply.Fine
  pub reserves : (chain : List Entry) (name : List ℕ) (version : ℕ) → ask.request ≡ request.Reserve chain name → given ≡ reply.Reserved version
      → MayWriteAt ask.caller chain
  pub seals : (chain : List Entry) → ask.request ≡ request.Seal chain → given ≡ reply.Fine → MayWriteAt ask.caller (before_last chain)

-- ---- the calls of a client

all_idle : (phases : Phases) (s : ClientState) → phases (call_ref s) ≡ idle → OthersIdle phases s → (number : ℕ) → phases (call_of s number) ≡ idle
all_idle phases s here others number = by (number == s.number) refl
  where
    by : (b : Bool) → (number == s.number) ≡ b → phases (call_of s number) ≡ idle
    by true same = subst (λ (n : ℕ). phases (call_of s n) ≡ idle) (sym ((Decides-eqb number s.number).0 same)) here
    by false unlike = others number (λ same. both_ways _ unlike ((Decides-eqb number s.number).1 same))

pub idle_in_hand : (digest : List ℕ → Id) (phases : Phases) (who : Who) (calls : List Call)
    → ((number : ℕ) → phases (record { client = who.client; number = number }) ≡ idle) → InHand digest phases (idle_client who calls)
idle_in_hand digest phases who calls all = record { phase = all 1; others = λ number apart. all number; may = tt }

finished_in_hand : (digest : List ℕ → Id) (phases : Phases) (end : Ending) (s : ClientState) → ((number : ℕ) → phases (call_of s number) ≡ idle) → InHand digest phases (finished end s)
finished_in_hand digest phases (ending.Answers given place) s all = record { phase = all (s.number + 1); others = λ number apart. all number; may = tt }
finished_in_hand digest phases ending.Retries s all = record { phase = all s.number; others = λ number apart. all number; may = tt }

wound_in_hand : (digest : List ℕ → Id) (phases : Phases) (end : Ending) (more : List (List Message)) (s : ClientState) → Lifts s.who.servers (phases (call_ref s)) more
    → OthersIdle phases s → InHand digest phases (wound end more s)
wound_in_hand digest phases end [] s lifts others = finished_in_hand digest phases end s (all_idle phases s lifts others)
wound_in_hand digest phases end (ms ∷ later) s lifts others = record { phase = lifts; others = others; may = tt }

learns_nothing : (s : ClientState) (stage : Stage) → has_one_message s.who stage ≡ true → learned stage s ≡ s
learns_nothing s compose one = refl
learns_nothing s (round keys) one = absurd cc
learns_nothing s (act flow) one = refl
learns_nothing s (winds end ms later) one = refl

turned_in_hand : (digest : List ℕ → Id) (phases : Phases) (t : Turn Stage) (s : ClientState) → TurnHas digest s.who (phases (call_ref s)) t → OthersIdle phases s → InHand digest phases (turned t s)
turned_in_hand digest phases (turn.GoesOn next) s has others = record { phase = has.0; others = others; may = has.1 }
turned_in_hand digest phases (turn.WindsUp end more) s has others = wound_in_hand digest phases end more s has others

-- ---- before a group

composed_in_hand : (digest : List ℕ → Id) (phases : Phases) (s : ClientState) (stage : Stage) → HasPhase digest s.who stage (phases (call_ref s)) → OthersIdle phases s
    → StageMay s.who.caller stage → InHand digest phases (record s { stage = composed_stage digest s stage })
composed_in_hand digest phases s compose here others may =
    let opens = next_opens digest s.who (phases (call_ref s)) here s.known (next_course s.left) in
    record { phase = opens.0; others = others; may = opens.1 }
composed_in_hand digest phases s (round keys) here others may = record { phase = here; others = others; may = may }
composed_in_hand digest phases s (act flow) here others may = record { phase = here; others = others; may = may }
composed_in_hand digest phases s (winds end ms later) here others may = record { phase = here; others = others; may = may }

given_up_at : (digest : List ℕ → Id) (phases : Phases) (s : ClientState) (stage : Stage) → HasPhase digest s.who stage (phases (call_ref s)) → InHand digest phases s
    → InHand digest phases (given_up_in s stage)
given_up_at digest phases s (act flow) here hand =
    wound_in_hand digest phases (ending.Answers answer.NoMemory None) (clean_up s.who flow) s (clean_up_lifts s.who flow (phases (call_ref s)) here.0) hand.others
given_up_at digest phases s (winds end ms later) here hand = hand
given_up_at digest phases s compose here hand = finished_in_hand digest phases (ending.Answers answer.NoMemory None) s (all_idle phases s here hand.others)
given_up_at digest phases s (round keys) here hand = finished_in_hand digest phases (ending.Answers answer.NoMemory None) s (all_idle phases s here hand.others)

in_hand_kept : (digest : List ℕ → Id) (phases : Phases) → IsKept digest (InHand digest phases)
in_hand_kept digest phases = record {
  composing = λ s hand. composed_in_hand digest phases s s.stage hand.phase hand.others hand.may;
  giving_up = λ s hand. given_up_at digest phases s s.stage hand.phase hand;
}

pub begun_in_hand : (digest : List ℕ → Id) (phases : Phases) (ask : Ask) (s : ClientState) → InHand digest phases s → InHand digest phases (begun digest ask s.sent s)
begun_in_hand digest phases ask s hand = kept_begun digest (InHand digest phases) (in_hand_kept digest phases) ask s.sent s hand

pub placed_in_hand : (digest : List ℕ → Id) (phases : Phases) (place : ℕ) (s : ClientState) → InHand digest phases s → InHand digest phases (placed place s)
placed_in_hand digest phases place s hand = record { phase = hand.phase; others = hand.others; may = hand.may }

-- ---- once an Ask was served

-- another client's calls have in hand what they had
pub apart_in_hand : (digest : List ℕ → Id) (by : CallRef) (phase : Phase) (phases : Phases) (s : ClientState) → by.client ≢ s.who.client → InHand digest phases s
    → InHand digest (with_phase by phase phases) s
apart_in_hand digest by phase phases s apart hand =
    let other : (number : ℕ) → with_phase by phase phases (call_of s number) ≡ phases (call_of s number) =
    λ number. phase_apart by phase phases (call_of s number) (λ same. apart (sym (ap (λ (c : CallRef). c.client) same))) in
    record {
      phase = subst (λ (p : Phase). HasPhase digest s.who s.stage p) (sym (other s.number)) hand.phase;
      others = λ number unlike. other number ∙ hand.others number unlike;
      may = hand.may;
    }

others_stay : (phases : Phases) (s : ClientState) (phase : Phase) → OthersIdle phases s → OthersIdle (with_phase (call_ref s) phase phases) s
others_stay phases s phase others number unlike =
    phase_apart (call_ref s) phase phases (call_of s number) (λ same. unlike (ap (λ (c : CallRef). c.number) same)) ∙ others number unlike

-- the client at this stage of its call, with these Asks
abbrev pub staged : ClientState → Stage → List Sent → ClientState
staged s stage sent = record s { stage = stage; sent = sent }

abbrev pub one_ask : ℕ → Option Told → List Sent
one_ask place told = record { place = place; told = told } ∷ []

-- the client whose one Ask was answered
abbrev pub answered : ℕ → Told → Stage → ClientState → ClientState
answered place told stage s =
    record s { stage = stage; sent = one_ask place (Some told); counts = record s.counts { last = later_place s.counts.last told.serve_place } }

lone_told : (b : Bool) (stage : Stage) (told : Told) → b ≡ true
    → (if b then told else record told { reply = heard_in stage told.reply }) ≡ told
lone_told true stage told is = refl
lone_told false stage told is = absurd cc

-- a group of one message that is no round
one_message_is : (who : Who) (stage : Stage) → is_round stage ≡ false → length (group who stage) ≡ 1 → has_one_message who stage ≡ true
one_message_is who stage no_round one = ap (λ b. not b && (length (group who stage) == 1)) no_round ∙ ap (λ n. n == 1) one

one_message_size : (who : Who) (stage : Stage) (b : Bool) → (b && (length (group who stage) == 1)) ≡ true → length (group who stage) ≡ 1
one_message_size who stage true one = (Decides-eqb (length (group who stage)) 1).0 one
one_message_size who stage false one = absurd cc

-- a group of one message is over with its answer, which is kept as it was replied
pub served_one : (digest : List ℕ → Id) (P : ClientState → Type 0) (s : ClientState) (stage : Stage) (place : ℕ) (told : Told)
    → has_one_message s.who stage ≡ true
    → P (after_group digest (answered place told stage s)) → P (served digest place told (staged s stage (one_ask place None)))
served_one digest P s stage place told lone now =
    let before : ClientState = staged s stage (one_ask place None) in
    subst (λ (t : Told). P (if has_place place before.sent then after_record digest (recorded place t before) else before))
    (sym (lone_told (has_one_message s.who stage && (length before.sent == 1)) stage told (ap (λ b. b && true) lone)))
    (by (place == place) ((Decides-eqb place place).1 refl))
  where
    by : (b : Bool) → b ≡ true
        → P (if b || false then after_record digest (record s {
          stage = stage;
          sent = (if b then record { place = place; told = Some told } else record { place = place; told = None }) ∷ [];
          counts = record s.counts { last = later_place s.counts.last told.serve_place };
        }) else staged s stage (one_ask place None))
    by true same = subst (λ (n : ℕ). P (settled digest ((1 == n) && list_all is_told (one_ask place (Some told))) (answered place told stage s))) (sym (one_message_size s.who stage (not (is_round stage)) lone)) now
    by false same = absurd cc

one_in_hand : (digest : List ℕ → Id) (phases : Phases) (s : ClientState) (stage : Stage) (place : ℕ) (told : Told) (phase : Phase)
    → has_one_message s.who stage ≡ true → TurnHas digest s.who phase (turn_at digest (answered place told stage s) stage) → OthersIdle phases s
    → InHand digest (with_phase (call_ref s) phase phases) (served digest place told (staged s stage (one_ask place None)))
one_in_hand digest phases s stage place told phase lone has others =
    let now = with_phase (call_ref s) phase phases in
    let t = turn_at digest (answered place told stage s) stage in
    served_one digest (λ (c : ClientState). InHand digest now c) s stage place told lone
    (subst (λ (c : ClientState). InHand digest now (turned (turn_at digest c stage) c)) (sym (learns_nothing (answered place told stage s) stage lone))
    (turned_in_hand digest now t (answered place told stage s)
    (subst (λ (p : Phase). TurnHas digest s.who p t) (sym (phase_here (call_ref s) phase phases)) has) (others_stay phases s phase others)))

-- a round, and what follows it, has nothing in hand
round_ends : (digest : List ℕ → Id) (phases : Phases) (b : Bool) (s : ClientState) (keys : List LookKey)
    (sent : List Sent) → phases (call_ref s) ≡ idle → OthersIdle phases s
    → InHand digest phases (settled digest b (staged s (round keys) sent))
round_ends digest phases true s keys sent none others =
    let now : ClientState = learned (round keys) (staged s (round keys) sent) in
    turned_in_hand digest phases (round_turn digest now) now (round_has digest now (phases (call_ref s)) none) others
round_ends digest phases false s keys sent none others = record { phase = none; others = others; may = tt }

round_in_hand : (digest : List ℕ → Id) (phases : Phases) (s : ClientState) (keys : List LookKey) (sent : List Sent) (place : ℕ) (told : Told) → phases (call_ref s) ≡ idle
    → OthersIdle phases s → InHand digest phases (served digest place told (staged s (round keys) sent))
round_in_hand digest phases s keys sent place told none others =
    let before : ClientState = staged s (round keys) sent in
    let now : ClientState = recorded place (told_in before told) before in
    if_both (InHand digest phases) (has_place place sent) (after_record digest now) before
    (round_ends digest phases (is_complete now) now keys now.sent none others)
    (record { phase = none; others = others; may = tt })

module _ (service : Service) (A : ℕ → Request → Type 0) (T : Entry → Type 0) (s : ClientState) (index : ℕ)
    (at : At) (asked : Request) (given : Reply) (phases : Phases) where
  abbrev after : Request → Phases
  after r = with_phase (call_ref s) (next_phase service at (phases (call_ref s)) r given) phases

  abbrev Comes : Stage → List Sent → Request → Type 0
  Comes stage sent r =
      InHand service.digest (after r)
      (served service.digest at.ask_place (told_reply at.serve_place given) (staged s stage sent))

  come : (m : Message) (stage : Stage) (sent : List Sent) → IsAlone m sent at.ask_place at.number asked
      → Comes stage (one_ask at.ask_place None) m.request
      → Comes stage sent asked
  come m stage sent is one =
      subst (λ (r : Request). Comes stage sent r) (ap (λ (x : Message). x.request) is.message)
      (subst (λ (xs : List Sent). Comes stage xs m.request) (sym is.sent_alone) one)

  stage_in_hand : (stage : Stage) (sent : List Sent) → HasPhase service.digest s.who stage (phases (call_ref s)) → OthersIdle phases s
      → StageMay s.who.caller stage → StandsOn T stage → AreAskedFor A (group s.who stage) sent
      → slice_get sent index ≡ Some (record { place = at.ask_place; told = None })
      → slice_get (group s.who stage) index ≡ Some (record { number = at.number; request = asked })
      → MayGoOn s.who.caller asked given
      → (IsCleanUp stage → given ≡ reply.Fine) → Comes stage sent asked
  stage_in_hand compose sent phase others may stands asks there is goes cleans = absurd cc
  stage_in_hand (round keys) sent phase others may stands asks there is goes cleans =
      let look = look_in s.who keys index at.number asked is in
      subst (λ (r : Request). Comes (round keys) sent r) (sym look.is)
      (subst (λ (ps : Phases). InHand service.digest ps
      (served service.digest at.ask_place (told_reply at.serve_place given) (staged s (round keys) sent)))
      (sym (same_phases (call_ref s) phases))
      (round_in_hand service.digest phases s keys sent at.ask_place (told_reply at.serve_place given) phase others))
  stage_in_hand (act flow) sent phase others may stands asks there is goes cleans =
      let m = message_of s.who flow in
      let one = step_alone A s.who flow sent index at.ask_place at.number asked there is asks in
      let same : asked ≡ m.request = sym (ap (λ (x : Message). x.request) one.message) in
      let next = next_phase service at (phases (call_ref s)) m.request given in
      let told = told_reply at.serve_place given in
      come m (act flow) sent one
      (one_in_hand service.digest phases s (act flow) at.ask_place told next
      (one_message_is s.who (act flow) refl (one_message s.who flow))
      (subst (λ (t : Turn Flow). TurnHas service.digest s.who next (turn_as act t))
      (sym (after_decided service.digest s.who flow (one_ask at.ask_place (Some told)) (record { place = at.ask_place; told = Some told }) told refl refl))
      (act_has service s.who at (phases (call_ref s)) flow given phase.0 phase.1 may stands.links_up
      (subst (λ (r : Request). MayGoOn s.who.caller r given) same goes))) others)
  stage_in_hand (winds end ms later) sent phase others may stands asks there is goes cleans =
      let one = one_lift s.who.servers (phases (call_ref s)) ms later phase in
      let lifts = ap (next_phase service at (phases (call_ref s)) one.message.request) (cleans tt)
      ∙ lifted_by service at s.who.servers (phases (call_ref s)) one.message one.lifts in
      come one.message (winds end ms later) sent
      (lift_alone A s.who.servers (phases (call_ref s)) ms later one sent index at.ask_place at.number asked there is asks)
      (one_in_hand service.digest phases s (winds end ms later) at.ask_place (told_reply at.serve_place given)
      (next_phase service at (phases (call_ref s)) one.message.request given)
      (one_message_is s.who (winds end ms later) refl (ap length one.is))
      (subst (λ (p : Phase). Lifts s.who.servers p later) (sym lifts) one.rest) others)

pub served_in_hand : (service : Service) (A : ℕ → Request → Type 0) (T : Entry → Type 0) (s : ClientState)
    (at : At) (ask : Ask) (given : Reply) (phases : Phases)
    → s.who.servers ≡ service.servers
    → InHand service.digest phases s → AsksItsGroup A s → KnowsOnly T s → Waits s at.ask_place at.number ask
    → Answering s ask given
    → InHand service.digest (with_phase ask.from (next_phase service at (phases ask.from) ask.request given) phases)
    (served service.digest at.ask_place (told_reply at.serve_place given) s)
served_in_hand service A T s at ask given phases servers hand asks knows waits answering =
    let may : MayGoOn s.who.caller ask.request given =
    subst (λ (caller : Caller). MayGoOn caller ask.request given) waits.caller (record { reserves = answering.reserves; seals = answering.seals }) in
    subst (λ (by : CallRef). InHand service.digest
    (with_phase by (next_phase service at (phases by) ask.request given) phases)
    (served service.digest at.ask_place (told_reply at.serve_place given) s))
    (sym waits.from)
    (stage_in_hand service A T s waits.index at ask.request given phases s.stage s.sent hand.phase hand.others
    hand.may knows.stands asks.asked waits.sent waits.message may answering.cleans)
