-- What a Serve decides for the client that waits for it.
use Rattle.std.proofs.Common.{◌≡◌, ℕ, ◌==◌, ◌&&◌, ◌||◌, Bool, true, false, if◌then◌else◌, List, [], ◌∷◌, Some, None, refl, sym, ap, ◌∙◌, subst}
use Rattle.inf_base.specs.declared.call.Call.{Call}
use Rattle.inf_base.specs.declared.caller.Caller.{Caller}
use Rattle.inf_base.specs.declared.id.Id.{Id}
use Rattle.inf_duty.specs.ClientState.{ClientState, Stage, act, compose, round, winds}
use Rattle.inf_duty.proofs.FlowFacts.{after_is, message_of, one_message}
use Rattle.inf_duty.specs.Flow.{after_reply}
use Rattle.inf_message.specs.declared.turn.Turn.{Turn}
use Rattle.inf_message.specs.Turn.{turn_as}
use Rattle.inf_duty.specs.Group.{group}
use Rattle.inf_duty.specs.Turn.{is_complete, learned, recorded, told_in}
use Rattle.inf_duty.specs.declared.flow.Flow.{Flow}
use Rattle.inf_message.specs.Heard.{light}
use Rattle.inf_message.specs.Sent.{Sent, has_place, told_at}
use Rattle.inf_laws_client.specs.Asked.{AreAskedFor, AsksItsGroup}
use Rattle.inf_laws_directory.specs.Owes.{Goes, Moment, Owes}
use Rattle.inf_laws_directory.specs.Phases.{Phase, has_made, has_reserved, has_sealed, has_unlinked, idle}
use Rattle.inf_laws_history.specs.Decisions.{decided_at_stage, decided_by_turn, decided_for, decided_if, decided_when}
use Rattle.inf_laws_history.specs.Pending.{Waits}
use Rattle.inf_laws_history.specs.Phases.{HasPhase, IsLiftedBy}
use Rattle.inf_laws_history.proofs.GroupMessages.{lift_message, look_in, step_alone}
use Rattle.inf_laws_history.proofs.DecisionFacts.{Comes, act_comes, comes_on, round_undecided}
use Rattle.inf_message.specs.declared.ask.Ask.{Ask}
use Rattle.inf_message.specs.declared.reply.Reply.{Reply}
use Rattle.inf_message.specs.declared.reply.Reply.TheVariants as reply
use Rattle.inf_message.specs.declared.request.Request.{Request}
use Rattle.inf_message.specs.declared.request.Request.TheVariants as request
use Rattle.inf_message.specs.declared.step.Message.{Message}
use Rattle.inf_message.specs.History.{Told, told_reply}
use Rattle.inf_message.proofs.HistoryLaws.{itself}
use Rattle.inf_tree.specs.Replay.{Decided}

-- ---- requests that decide nothing

-- lookups and clean-ups
abbrev IsQuiet : Request → Type 0
IsQuiet (request.Lookup k) = Unit {0}
IsQuiet (request.Cancel dir) = Unit {0}
IsQuiet (request.Drop dir) = Unit {0}
IsQuiet (request.Unseal dir) = Unit {0}
IsQuiet (request.Forget parent dir) = Unit {0}
IsQuiet other_request = ⊥

quiet_goes : (m : Moment) (caller : Caller) (asked : Call) (what : Request) (given : Reply) → IsQuiet what → Owes m caller asked what given → Goes m
quiet_goes m caller asked (request.Lookup k) (reply.Refused error) quiet owes = owes.1
quiet_goes m caller asked (request.Lookup k) other_reply quiet owes = owes
quiet_goes m caller asked (request.Cancel dir) (reply.Refused error) quiet owes = owes.1
quiet_goes m caller asked (request.Cancel dir) other_reply quiet owes = owes
quiet_goes m caller asked (request.Drop dir) (reply.Refused error) quiet owes = owes.1
quiet_goes m caller asked (request.Drop dir) other_reply quiet owes = owes
quiet_goes m caller asked (request.Unseal dir) (reply.Refused error) quiet owes = owes.1
quiet_goes m caller asked (request.Unseal dir) other_reply quiet owes = owes
quiet_goes m caller asked (request.Forget parent dir) (reply.Refused error) quiet owes = owes.1
quiet_goes m caller asked (request.Forget parent dir) other_reply quiet owes = owes
quiet_goes m caller asked other_request given quiet owes = absurd quiet

lift_quiet : (servers : ℕ) (phase : Phase) (m : Message) → IsLiftedBy servers phase m → IsQuiet m.request
lift_quiet servers idle m lifts = subst (λ (n : Message). IsQuiet n.request) (sym lifts.is) tt
lift_quiet servers (has_reserved parent name birth) m lifts = subst (λ (n : Message). IsQuiet n.request) (sym lifts) tt
lift_quiet servers (has_made parent name birth made) m lifts = subst (λ (n : Message). IsQuiet n.request) (sym lifts) tt
lift_quiet servers (has_sealed parent name target) m lifts = subst (λ (n : Message). IsQuiet n.request) (sym lifts) tt
lift_quiet servers (has_unlinked target) m lifts = subst (λ (n : Message). IsQuiet n.request) (sym lifts) tt

-- ---- the moment of a Serve, by the stage that the client is in

if_none : (digest : List ℕ → Id) (b : Bool) (s : ClientState) → decided_at_stage digest s s.stage ≡ [] → decided_if digest b s ≡ []
if_none digest true s none = none
if_none digest false s none = refl

when_none : (digest : List ℕ → Id) (b : Bool) (place : ℕ) (told : Told) (s : ClientState)
    → decided_at_stage digest (recorded place (told_in s told) s) s.stage ≡ [] → decided_when digest b place told s ≡ []
when_none digest true place told s none =
    let now : ClientState = recorded place (told_in s told) s in if_none digest (is_complete now) now none
when_none digest false place told s none = refl

abbrev waiting : ℕ → Sent
waiting place = record { place = place; told = None }

module _ (digest : List ℕ → Id) (A : ℕ → Request → Type 0) (m : Moment) (s : ClientState) (asked : Call) (calls : List Call) (left : s.left ≡ asked ∷ calls)
    (place number serve_place : ℕ) (ask : Ask) (given : Reply) (owes : Owes m s.who.caller asked ask.request given) where
  abbrev in_stage : Stage → List Sent → ClientState
  in_stage stage sent = record s { stage = stage; sent = sent }

  abbrev told : Told
  told = told_reply serve_place given

  quiet_comes : (t : ClientState) → decided_at_stage digest (recorded place (told_in t told) t) t.stage ≡ []
      → IsQuiet ask.request → Comes m (decided_for digest place told t)
  quiet_comes t none quiet =
      subst (λ (ds : List Decided). Comes m ds) (sym (when_none digest (has_place place t.sent) place told t none))
      (comes_on m (quiet_goes m s.who.caller asked ask.request given quiet owes))

  -- the client once the only Ask of its group is so
  abbrev with_only : Flow → Sent → ClientState
  with_only flow x = record (recorded place told (in_stage (act flow) [])) { sent = x ∷ [] }

  abbrev decides_with : Flow → Sent → List Decided
  decides_with flow x = decided_if digest (is_complete (with_only flow x)) (with_only flow x)

  abbrev only : Flow → ClientState
  only flow = in_stage (act flow) (waiting place ∷ [])

  -- the answer to the only Ask is taken as it comes
  as_told : (flow : Flow) → told_in (only flow) told ≡ told
  as_told flow =
      ap (λ (n : ℕ). if (true && (n == 1)) && true then told else record told { reply = light told.reply }) (one_message s.who flow)

  acting : (flow : Flow) → message_of s.who flow ≡ record { number = number; request = ask.request }
      → Comes m (decided_for digest place told (in_stage (act flow) (waiting place ∷ [])))
  acting flow is =
      let x : Sent = record { place = place; told = Some told } in
      let is_told : told_at place told (waiting place) ≡ x = ap (λ (b : Bool). if b then x else waiting place) (itself place) in
      let decides : decided_for digest place told (in_stage (act flow) (waiting place ∷ [])) ≡ decides_with flow x =
      ap (λ (b : Bool). decided_when digest (b || false) place told (only flow)) (itself place)
      ∙ ap (λ (t : Told). decided_if digest (is_complete (recorded place t (only flow))) (recorded place t (only flow))) (as_told flow)
      ∙ ap (decides_with flow) is_told in
      let by_reply : decides_with flow x
      ≡ decided_by_turn (with_only flow x) (turn_as act (after_reply digest s.who flow place told.serve_place told.reply)) =
      ap (λ (n : ℕ). decided_if digest ((1 == n) && true) (with_only flow x)) (one_message s.who flow)
      ∙ ap (λ (t : Turn Flow). decided_by_turn (with_only flow x) (turn_as act t)) (after_is digest s.who flow (x ∷ [])) in
      subst (λ (ds : List Decided). Comes m ds) (sym (decides ∙ by_reply))
      (act_comes digest m (with_only flow x) asked calls left flow place serve_place given
      (subst (λ (message : Message). Owes m s.who.caller asked message.request given) (sym is) owes))

  by_stage : (stage : Stage) (sent : List Sent) (phase : Phase) → Waits (in_stage stage sent) place number ask → AreAskedFor A (group s.who stage) sent
      → HasPhase digest s.who stage phase → Comes m (decided_for digest place told (in_stage stage sent))
  by_stage compose sent phase waits asks has = let none = waits.message in absurd cc
  by_stage (round keys) sent phase waits asks has =
      let found = look_in s.who keys waits.index number ask.request waits.message in
      let before : ClientState = in_stage (round keys) sent in
      let now : ClientState = recorded place (told_in before told) before in
      quiet_comes before (round_undecided digest now (learned (round keys) now))
      (subst (λ (r : Request). IsQuiet r) (sym found.is) tt)
  by_stage (act flow) sent phase waits asks has =
      let lone = step_alone A s.who flow sent waits.index place number ask.request waits.sent waits.message asks in
      subst (λ (xs : List Sent). Comes m (decided_for digest place told (in_stage (act flow) xs))) (sym lone.sent_alone) (acting flow lone.message)
  by_stage (winds ending ms later) sent phase waits asks has =
      quiet_comes (in_stage (winds ending ms later) sent) refl
      (lift_quiet s.who.servers phase (record { number = number; request = ask.request })
      (lift_message s.who.servers phase ms later waits.index number ask.request has waits.message))

  -- what is owed for the request is what comes of what the client's call decides
  pub serve_comes : (phase : Phase) → Waits s place number ask → AsksItsGroup A s → HasPhase digest s.who s.stage phase → Comes m (decided_for digest place told s)
  serve_comes phase waits asks has = by_stage s.stage s.sent phase waits asks.asked has
