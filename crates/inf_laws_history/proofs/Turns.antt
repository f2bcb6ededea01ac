-- What comes of a group, by cases; and the place of the answer that it comes to, if it comes to one.
use Rattle.std.proofs.Common.{◌≡◌, inl, inr, ℕ, zero, suc, ◌==◌, Bool, true, false, eqb, List, [], ◌∷◌, Option, None, Some, refl, sym, ap, ◌∙◌, arith, subst}
use Rattle.inf_base.specs.declared.id.Id.{Id}
use Rattle.std.specs.List.{Contains, list_any}
use Rattle.std.proofs.lemmas.Bool.{or_left, or_right}
use Rattle.inf_base.specs.declared.answer.Answer.{Answer}
use Rattle.inf_base.specs.declared.answer.Answer.TheVariants as answer
use Rattle.inf_base.specs.declared.caller.CallRef.{CallRef}
use Rattle.inf_base.specs.declared.key.LookKey.{LookKey}
use Rattle.inf_base.specs.declared.key.LookKey.TheVariants as look
use Rattle.inf_flow_dir.specs.declared.dir_flow.DirFlow.TheVariants as dir_flow
use Rattle.inf_message.specs.declared.ending.Ending.TheVariants as ending
use Rattle.inf_flow_file.specs.declared.file_flow.FileFlow.TheVariants as file_flow
use Rattle.inf_duty.specs.declared.flow.Flow.TheVariants as flow
use Rattle.inf_message.specs.declared.turn.Turn.TheVariants as turn
use Rattle.inf_duty.specs.ClientState.{ClientState, Stage, act, compose, round, winds}
use Rattle.inf_duty.specs.Flow.{after_act, after_reply, clean_up}
use Rattle.inf_duty.proofs.FlowFacts.{act_by, deciding_in}
use Rattle.inf_duty.specs.declared.course.Course.{Course}
use Rattle.inf_duty.specs.Course.{flow_at, next_course}
use Rattle.inf_duty.specs.Group.{next_stage, stage_by}
use Rattle.inf_duty.specs.Turn.{is_lone, known_turn, round_turn, told_in, turn_by}
use Rattle.inf_duty.specs.declared.flow.Flow.{Flow}
use Rattle.inf_duty.proofs.BegunKept.{if_both}
use Rattle.inf_message.specs.Sent.{Sent, deciding, is_wanting}
use Rattle.inf_message.specs.Turn.{again, ends, fails, turn_as}
use Rattle.inf_message.specs.Who.{Who}
use Rattle.inf_message.specs.declared.turn.Turn.{Turn}
use Rattle.inf_message.specs.declared.op.Op.TheVariants as op
use Rattle.inf_message.specs.declared.reply.Reply.{Reply}
use Rattle.inf_message.specs.declared.reply.Reply.TheVariants as reply
use Rattle.inf_message.specs.History.{Told}
use Rattle.inf_message.proofs.HistoryLaws.{itself}
use Rattle.inf_resolve.specs.declared.known.Known.{Known}
use Rattle.inf_resolve.specs.declared.resolved.Resolved.{Resolved}
use Rattle.inf_resolve.specs.declared.resolved.Resolved.TheVariants as comes
use Rattle.inf_resolve.specs.declared.walked.Walked.{Walked}
use Rattle.inf_resolve.specs.InTheWay.{IsInTheWay, IsToldBusy}
use Rattle.inf_resolve.specs.Resolved.{resolved}
use Rattle.inf_resolve.proofs.InTheWayFacts.{change_was_told}
use Rattle.inf_resolve.proofs.KnownFacts.{told_is_known}

-- where a flow's message ends with an answer and a place, this holds of them
abbrev pub TurnOf : (Answer → ℕ → Type 0) → Turn Flow → Type 0
TurnOf A (turn.GoesOn step) = Unit {0}
TurnOf A (turn.WindsUp (ending.Answers given (Some place)) more) = A given place
TurnOf A (turn.WindsUp other_ending more) = Unit {0}

pub weaker_turn : (A B : Answer → ℕ → Type 0) → ((given : Answer) (place : ℕ) → A given place → B given place) → (t : Turn Flow) → TurnOf A t → TurnOf B t
weaker_turn A B weaker (turn.GoesOn step) is = tt
weaker_turn A B weaker (turn.WindsUp (ending.Answers given (Some place)) more) is = weaker given place is
weaker_turn A B weaker (turn.WindsUp other_ending more) is = tt

-- nothing is wound up in it
abbrev pub IsOnward : Stage → Type 0
IsOnward (winds end ms later) = ⊥
IsOnward other_stage = Unit {0}

-- the same of any group; one that goes on winds nothing up
abbrev pub StageTurnOf : (Answer → ℕ → Type 0) → Turn Stage → Type 0
StageTurnOf A (turn.GoesOn next) = IsOnward next
StageTurnOf A (turn.WindsUp (ending.Answers given (Some place)) more) = A given place
StageTurnOf A (turn.WindsUp other_ending more) = Unit {0}

pub turn_as_act : (A : Answer → ℕ → Type 0) (t : Turn Flow) → TurnOf A t → StageTurnOf A (turn_as act t)
turn_as_act A (turn.GoesOn step) is = tt
turn_as_act A (turn.WindsUp (ending.Answers given (Some place)) more) is = is
turn_as_act A (turn.WindsUp other_ending more) is = tt

-- the place of what is kept of an answer is the answer's
pub kept_place : (s : ClientState) (told : Told) → (told_in s told).serve_place ≡ told.serve_place
kept_place s told = if_both (λ (t : Told). t.serve_place ≡ told.serve_place) (is_lone s) told _ refl refl

-- ---- what is asked for next

-- nothing yet, a round, or the flow where the names that are known lead
pub by_next : (P : Stage → Type 0) (digest : List ℕ → Id) (who : Who) (known : List Known) (found : Option Course) → P compose
    → ((keys : List LookKey) → P (round keys))
    → ((course : Course) (old new : Walked) → resolved digest who.root course.looked known ≡ comes.Leads old new
    → P (act (flow_at course.deed old.chain old.left)))
    → P (next_stage digest who known found)
by_next P digest who known None nothing looks acts = nothing
by_next P digest who known (Some course) nothing looks acts = by (resolved digest who.root course.looked known) refl
  where
    by : (r : Resolved) → resolved digest who.root course.looked known ≡ r → P (stage_by course.deed r)
    by (comes.Asks keys) is = looks keys
    by (comes.Leads old new) is = acts course old new is
    by (comes.IsBusy who_is place) is = nothing
    by comes.Lacks is = nothing

-- ---- after a round

-- what comes of a round: want of memory, a new attempt, a change in the way that was told; or it goes on
pub by_round : (P : Turn Stage → Type 0) (digest : List ℕ → Id) (s : ClientState) → P (turn.GoesOn compose) → P again
    → P (turn.WindsUp (ending.Answers answer.NoMemory None) [])
    → ((by : CallRef) (place : ℕ) → IsInTheWay s.known by place → P (ends (answer.Again by) place)) → P (round_turn digest s)
by_round P digest s on anew wanting busy =
    if_both P (is_wanting s.sent) (turn.WindsUp (ending.Answers answer.NoMemory None) []) (known_turn digest s.who s.known (next_course s.left)) wanting
    (by_course (next_course s.left))
  where
    by_course : (found : Option Course) → P (known_turn digest s.who s.known found)
    by_course None = anew
    by_course (Some course) = by_known (resolved digest s.who.root course.looked s.known) refl
      where
        by_known : (r : Resolved) → resolved digest s.who.root course.looked s.known ≡ r → P (turn_by r)
        by_known (comes.Asks keys) is = on
        by_known (comes.Leads old new) is = on
        by_known (comes.IsBusy by place) is = busy by place (change_was_told digest s.who.root course.looked s.known by place is)
        by_known comes.Lacks is = anew

-- ---- after a message of a flow

abbrev pub IsAt : ℕ → Answer → ℕ → Type 0
IsAt place given other = other ≡ place

fails_at : {F : Type 0} (wrap : F → Flow) (who : Who) (step : Flow) (place : ℕ) (given : Reply) → TurnOf (IsAt place) (turn_as wrap (fails (clean_up who step) place given))
fails_at wrap who step place (reply.Busy by at born) = refl
fails_at wrap who step place (reply.Refused error) = refl
fails_at wrap who step place reply.NoMem = tt
fails_at wrap who step place any_reply = tt

pub after_act_at : (digest : List ℕ → Id) (who : Who) (step : Flow) (asked place : ℕ) (given : Reply) → TurnOf (IsAt place) (after_reply digest who step asked place given)
after_act_at digest who (flow.File (file_flow.Finishes chain (op.Create name mode))) asked place reply.Fine = refl
after_act_at digest who (flow.File (file_flow.Finishes chain (op.Stat name))) asked place (reply.Stat kind meta) = refl
after_act_at digest who (flow.Dir (dir_flow.Reserves chain name mode)) asked place (reply.Reserved version) = tt
after_act_at digest who (flow.Dir (dir_flow.Makes chain name mode version id)) asked place reply.Fine = tt
after_act_at digest who (flow.Dir (dir_flow.Makes chain name mode version id)) asked place (reply.Clash kept) =
    refl
after_act_at digest who (flow.Dir (dir_flow.Links chain name mode version dir)) asked place reply.Fine = refl
after_act_at digest who (flow.Dir (dir_flow.Seals chain)) asked place reply.Fine = tt
after_act_at digest who (flow.Dir (dir_flow.Unlinks chain)) asked place reply.Fine = refl
after_act_at digest who (flow.File step) asked place given = fails_at flow.File who (flow.File step) place given
after_act_at digest who (flow.Dir step) asked place given = fails_at flow.Dir who (flow.Dir step) place given

abbrev told_by : Option Sent → Option Told
told_by None = None
told_by (Some x) = x.told

-- the answer that decides a step
abbrev pub deciding_told : List Sent → Option Told
deciding_told sent = told_by (deciding sent)

-- what comes of a step has the place of the Serve that decides it
pub act_turn_at : (digest : List ℕ → Id) (who : Who) (step : Flow) (sent : List Sent) (told : Told) → deciding_told sent ≡ Some told
    → TurnOf (IsAt told.serve_place) (after_act digest who step sent)
act_turn_at digest who step sent told is =
    act_by (TurnOf (IsAt told.serve_place)) digest who step sent tt
    (λ x decides found as_told.
    let same : decides ≡ told = told_same decides (sym (ap told_by found ∙ as_told) ∙ is) in
    subst (λ (t : Told). TurnOf (IsAt told.serve_place) (after_reply digest who step x.place t.serve_place t.reply)) (sym same)
    (after_act_at digest who step x.place told.serve_place told.reply))
  where
    told_same : (decides : Told) → Some decides ≡ Some told → decides ≡ told
    told_same decides is = cc

-- ---- the places that a client was told

abbrev pub serve_is : ℕ → Option Told → Bool
serve_is place None = false
serve_is place (Some told) = place == told.serve_place

-- an Ask of the group was served at this place
abbrev pub told_there : ℕ → List Sent → Bool
told_there place sent = list_any (λ (x : Sent). serve_is place x.told) sent

-- an Ask of an earlier round was
abbrev pub known_there : ℕ → List Known → Bool
known_there place known = list_any (λ (k : Known). place == k.place) known

abbrev pub IsThere : List Sent → Answer → ℕ → Type 0
IsThere sent given place = told_there place sent ≡ true

pub act_turn_there : (digest : List ℕ → Id) (who : Who) (step : Flow) (sent : List Sent) → TurnOf (IsThere sent) (after_act digest who step sent)
act_turn_there digest who step sent =
    act_by (TurnOf (IsThere sent)) digest who step sent tt
    (λ x told found as_told.
    weaker_turn (IsAt told.serve_place) (IsThere sent)
    (λ given at same.
    deciding_in (λ (y : Sent). serve_is at y.told) sent x found
    (ap (serve_is at) as_told ∙ subst (λ p. eqb p told.serve_place ≡ true) (sym same) (itself told.serve_place)))
    (after_reply digest who step x.place told.serve_place told.reply)
    (after_act_at digest who step x.place told.serve_place told.reply))

-- a change in the way was told at its place
known_at : (known : List Known) (told : Known) → Contains known told → known_there told.place known ≡ true
known_at [] told at = absurd (omega (arith, at.1))
known_at (k ∷ ks) told (zero, within, same) =
    or_left (told.place == k.place) (known_there told.place ks) (subst (λ (x : Known). (told.place == x.place) ≡ true) (sym same) (itself told.place))
known_at (k ∷ ks) told (suc n, within, same) = or_right (told.place == k.place) (known_there told.place ks) (known_at ks told (n, omega (arith, within), same))

busy_at : (known : List Known) (asked : LookKey) (by : CallRef) (born place : ℕ) → IsToldBusy known asked by born place → known_there place known ≡ true
busy_at known asked by born place is =
    subst (λ p. known_there p known ≡ true) is.is_place (known_at known is.told (told_is_known asked known is.told is.is_known).0)

pub way_there : (known : List Known) (by : CallRef) (place : ℕ) → IsInTheWay known by place → known_there place known ≡ true
way_there known by place (inl top) = busy_at known look.Top by top.born place top.busy
way_there known by place (inr inside) = busy_at known (look.At inside.dir.id inside.name) by inside.dir.born place inside.busy
