-- Which answers the turns of a client bring.
use Rattle.std.proofs.Common.{◌≡◌, ℕ, Bool, true, false, if◌then◌else◌, List, [], ◌∷◌, Option, Some, None, refl, sym, ap, subst}
use Rattle.inf_base.specs.declared.id.Id.{Id}
use Rattle.inf_base.specs.declared.answer.Answer.{Answer}
use Rattle.inf_base.specs.declared.answer.Answer.TheVariants as answer
use Rattle.inf_base.specs.declared.caller.CallRef.{CallRef}
use Rattle.inf_base.specs.declared.errno.Errno.{Errno}
use Rattle.inf_base.specs.declared.file.FileMeta.{FileMeta}
use Rattle.inf_base.specs.declared.item.Kind.{Kind}
use Rattle.inf_base.specs.declared.triple.Triple.{Triple}
use Rattle.inf_flow_dir.specs.declared.dir_flow.DirFlow.TheVariants as dir_flow
use Rattle.inf_message.specs.declared.ending.Ending.TheVariants as ending
use Rattle.inf_flow_file.specs.declared.file_flow.FileFlow.TheVariants as file_flow
use Rattle.inf_duty.specs.declared.flow.Flow.TheVariants as flow
use Rattle.inf_message.specs.declared.turn.Turn.TheVariants as turn
use Rattle.inf_duty.specs.ClientState.{ClientState, Stage, act, compose, round, winds}
use Rattle.inf_duty.specs.Flow.{after_act, after_reply, clean_up}
use Rattle.inf_duty.specs.Group.{composed_stage, next_stage, stage_by}
use Rattle.inf_duty.specs.declared.course.Course.{Course}
use Rattle.inf_duty.specs.declared.course.Deed.{Deed}
use Rattle.inf_duty.specs.Course.{next_course}
use Rattle.inf_duty.specs.Turn.{known_turn, round_turn, turn_at, turn_by}
use Rattle.inf_duty.proofs.FlowFacts.{after_is}
use Rattle.inf_duty.specs.declared.flow.Flow.{Flow}
use Rattle.inf_message.specs.Sent.{Sent, deciding, deciding_of, is_fine, is_wanting, wants_memory}
use Rattle.inf_message.specs.Turn.{after_deciding, after_told, fails, turn_as}
use Rattle.inf_message.specs.Who.{Who, birth_of}
use Rattle.inf_message.specs.declared.ending.Ending.{Ending}
use Rattle.inf_message.specs.declared.turn.Turn.{Turn}
use Rattle.inf_message.specs.declared.op.Op.TheVariants as op
use Rattle.inf_message.specs.declared.reply.Reply.{Reply}
use Rattle.inf_message.specs.declared.reply.Reply.TheVariants as reply
use Rattle.inf_message.specs.History.{Told}
use Rattle.inf_resolve.specs.declared.known.Known.{Known}
use Rattle.inf_resolve.specs.declared.resolved.Resolved.{Resolved}
use Rattle.inf_resolve.specs.declared.resolved.Resolved.TheVariants as comes
use Rattle.inf_resolve.specs.Resolved.{resolved}
use Rattle.inf_sched.proofs.BuiltFacts.{true_before, true_behind}

-- ---- what the answer is that a call winds up with

abbrev pub EndingHas : (Answer → Type 0) → Ending → Type 0
EndingHas P (ending.Answers given place) = P given
EndingHas P ending.Retries = Unit {0}

abbrev pub StageHas : (Answer → Type 0) → Stage → Type 0
StageHas P (winds end ms later) = EndingHas P end
StageHas P other_stage = Unit {0}

abbrev pub TurnHas : (Answer → Type 0) → Turn Stage → Type 0
TurnHas P (turn.GoesOn next) = StageHas P next
TurnHas P (turn.WindsUp end more) = EndingHas P end

abbrev FlowHas : (Answer → Type 0) → Turn Flow → Type 0
FlowHas P t = TurnHas P (turn_as act t)

by_has : (P : Answer → Type 0) (what : Deed) (found : Resolved) → StageHas P (stage_by what found)
by_has P what (comes.Asks keys) = tt
by_has P what (comes.Leads old new) = tt
by_has P what (comes.IsBusy by place) = tt
by_has P what comes.Lacks = tt

next_has : (digest : List ℕ → Id) (P : Answer → Type 0) (who : Who) (known : List Known) (course : Option Course)
    → StageHas P (next_stage digest who known course)
next_has digest P who known None = tt
next_has digest P who known (Some course) = by_has P course.deed (resolved digest who.root course.looked known)

-- settling what is asked for changes nothing of it
pub composed_has : (digest : List ℕ → Id) (P : Answer → Type 0) (s : ClientState) (stage : Stage) → StageHas P stage → StageHas P (composed_stage digest s stage)
composed_has digest P s compose has = next_has digest P s.who s.known (next_course s.left)
composed_has digest P s (round keys) has = has
composed_has digest P s (act step) has = has
composed_has digest P s (winds end ms later) has = has

-- so are the answers that a server's reply may bring, but for want of memory
pub record IsOfReplies (P : Answer → Type 0) : Type 0 where
  pub done : P answer.Done
  pub stat : (kind : Kind) (meta : FileMeta) → P (answer.Stat kind meta)
  pub refused : (error : Errno) → P (answer.Refused error)
  pub again : (by : CallRef) → P (answer.Again by)
  pub clash : (own kept : Triple) → P (answer.IdClash own kept)

-- ---- where the Ask that decides a group was told of want of memory, the group was

says_so : (told : Told) → told.reply ≡ reply.NoMem → wants_memory (Some told) ≡ true
says_so told is =
    ap (λ (given : Reply). wants_memory (Some (record { serve_place = told.serve_place; reply = given }))) is

abbrev wants_of : Option Sent → Bool
wants_of None = false
wants_of (Some x) = wants_memory x.told

one_wants : (b : Bool) (x y : Sent) (ys : List Sent)
    → (wants_memory (deciding_of y ys).told ≡ true → is_wanting (y ∷ ys) ≡ true)
    → wants_memory (if b then deciding_of y ys else x).told ≡ true → is_wanting (x ∷ y ∷ ys) ≡ true
one_wants true x y ys later is = true_behind (wants_memory x.told) (is_wanting (y ∷ ys)) (later is)
one_wants false x y ys later is = true_before (wants_memory x.told) (is_wanting (y ∷ ys)) is

deciding_wants : (x : Sent) (xs : List Sent) → wants_memory (deciding_of x xs).told ≡ true → is_wanting (x ∷ xs) ≡ true
deciding_wants x [] is = true_before (wants_memory x.told) false is
deciding_wants x (y ∷ ys) is = one_wants (is_fine x.told) x y ys (deciding_wants y ys) is

decided_wants : (sent : List Sent) → wants_of (deciding sent) ≡ true → is_wanting sent ≡ true
decided_wants [] is = absurd (cc)
decided_wants (x ∷ xs) is = deciding_wants x xs is

module _ (digest : List ℕ → Id) (P : Answer → Type 0) (of : IsOfReplies P) where
  -- ---- after a message of a flow

  fails_has : {F : Type 0} (wrap : F → Flow) (who : Who) (step : Flow) (place : ℕ) (given : Reply) → (given ≡ reply.NoMem → P answer.NoMemory) → FlowHas P (turn_as wrap (fails (clean_up who step) place given))
  fails_has wrap who step place (reply.Busy by at born) wanting = of.again by
  fails_has wrap who step place (reply.Refused error) wanting = of.refused error
  fails_has wrap who step place reply.NoMem wanting = wanting refl
  fails_has wrap who step place any_reply wanting = tt

  act_has : (who : Who) (step : Flow) (asked place : ℕ) (given : Reply) → (given ≡ reply.NoMem → P answer.NoMemory)
      → FlowHas P (after_reply digest who step asked place given)
  act_has who (flow.File (file_flow.Finishes chain (op.Create name mode))) asked place reply.Fine wanting = of.done
  act_has who (flow.File (file_flow.Finishes chain (op.Stat name))) asked place (reply.Stat kind meta) wanting = of.stat kind meta
  act_has who (flow.Dir (dir_flow.Reserves chain name mode)) asked place (reply.Reserved version) wanting = tt
  act_has who (flow.Dir (dir_flow.Makes chain name mode version id)) asked place reply.Fine wanting = tt
  act_has who (flow.Dir (dir_flow.Makes chain name mode version id)) asked place (reply.Clash kept) wanting =
      of.clash (birth_of who chain name version) kept
  act_has who (flow.Dir (dir_flow.Links chain name mode version dir)) asked place reply.Fine wanting = of.done
  act_has who (flow.Dir (dir_flow.Seals chain)) asked place reply.Fine wanting = tt
  act_has who (flow.Dir (dir_flow.Unlinks chain)) asked place reply.Fine wanting = of.done
  act_has who (flow.File step) asked place given wanting = fails_has flow.File who (flow.File step) place given wanting
  act_has who (flow.Dir step) asked place given wanting = fails_has flow.Dir who (flow.Dir step) place given wanting

  -- ---- after a round

  verdict_has : (found : Resolved) → TurnHas P (turn_by found)
  verdict_has (comes.Asks keys) = tt
  verdict_has (comes.Leads old new) = tt
  verdict_has (comes.IsBusy by place) = of.again by
  verdict_has comes.Lacks = tt

  known_has : (who : Who) (known : List Known) (course : Option Course) → TurnHas P (known_turn digest who known course)
  known_has who known None = tt
  known_has who known (Some course) = verdict_has (resolved digest who.root course.looked known)

  turn_if : (b : Bool) (first second : Turn Stage) → (b ≡ true → TurnHas P first) → TurnHas P second → TurnHas P (if b then first else second)
  turn_if true first second one other = one refl
  turn_if false first second one other = other

  round_has : (s : ClientState) → (is_wanting s.sent ≡ true → P answer.NoMemory) → TurnHas P (round_turn digest s)
  round_has s wanting =
      turn_if (is_wanting s.sent) (turn.WindsUp (ending.Answers answer.NoMemory None) [])
      (known_turn digest s.who s.known (next_course s.left)) wanting
      (known_has s.who s.known (next_course s.left))

  -- ---- after any group

  told_has : (who : Who) (step : Flow) (place : ℕ) (told : Option Told) → (wants_memory told ≡ true → P answer.NoMemory)
      → FlowHas P (after_told (after_reply digest who step) place told)
  told_has who step place None wanting = tt
  told_has who step place (Some told) wanting =
      act_has who step place told.serve_place told.reply (λ is. wanting (says_so told is))

  decided_has : (who : Who) (step : Flow) (found : Option Sent) → (wants_of found ≡ true → P answer.NoMemory)
      → FlowHas P (after_deciding (after_reply digest who step) found)
  decided_has who step None wanting = tt
  decided_has who step (Some x) wanting = told_has who step x.place x.told wanting

  flow_has : (who : Who) (step : Flow) (sent : List Sent) → (is_wanting sent ≡ true → P answer.NoMemory)
      → FlowHas P (after_act digest who step sent)
  flow_has who step sent wanting =
      subst (λ (t : Turn Flow). FlowHas P t) (sym (after_is digest who step sent))
      (decided_has who step (deciding sent) (λ is. wanting (decided_wants sent is)))

  pub turn_has : (s : ClientState) (stage : Stage) → StageHas P stage → (is_wanting s.sent ≡ true → P answer.NoMemory) → TurnHas P (turn_at digest s stage)
  turn_has s compose has wanting = tt
  turn_has s (round keys) has wanting = round_has s wanting
  turn_has s (act step) has wanting = flow_has s.who step s.sent wanting
  turn_has s (winds end ms later) has wanting = has
