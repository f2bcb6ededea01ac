-- A client acts, in any history, only for a call that has a course: one of the kinds that go by flows, with a path that is
-- in order.
use Rattle.std.proofs.Common.{suc, ap, ◌≡◌, ℕ, ◌==◌, Bool, true, List, [], ◌∷◌, length, slice_get, Option, Some, None, is_some, refl}
use Rattle.inf_base.specs.declared.call.Call.{Call}
use Rattle.inf_base.specs.declared.id.Id.{Id}
use Rattle.inf_base.specs.declared.setup.ClientLine.{ClientLine}
use Rattle.inf_message.specs.declared.ask.Ask.{Ask}
use Rattle.inf_message.specs.declared.event.Event.{Event}
use Rattle.inf_message.specs.declared.event.Event.TheVariants as event
use Rattle.inf_message.specs.History.{Told, told_reply}
use Rattle.inf_message.specs.declared.turn.Turn.TheVariants as turn
use Rattle.inf_duty.specs.ClientState.{ClientState, Stage}
use Rattle.inf_duty.specs.Flow.{after_act, clean_up}
use Rattle.inf_duty.specs.Group.{composed, next_stage, stage_by}
use Rattle.inf_duty.specs.declared.course.Course.{Course}
use Rattle.inf_duty.specs.declared.course.Deed.{Deed}
use Rattle.inf_duty.specs.Course.{next_course}
use Rattle.inf_duty.specs.Turn.{after_record, is_complete, recorded, served, settled, told_in}
use Rattle.inf_message.specs.Sent.{Sent, has_place}
use Rattle.inf_message.specs.Who.{Who}
use Rattle.inf_message.specs.declared.turn.Turn.{Turn}
use Rattle.inf_duty.specs.After.{client_after}
use Rattle.inf_duty.specs.Duty.{begun, given_up}
use Rattle.inf_duty.specs.Start.{starting}
use Rattle.inf_duty.specs.World.{World}
use Rattle.inf_duty.proofs.BegunKept.{if_both, kept_begun}
use Rattle.inf_duty.specs.declared.flow.Flow.{Flow}
use Rattle.inf_duty.specs.Keeps.{AnySteps, ClientKeeps, StageFits, TurnFits}
use Rattle.inf_duty.proofs.KeepsFacts.{composed_fits, given_up_fits, keeps_turns, settled_fits}
use Rattle.inf_resolve.specs.declared.known.Known.{Known}
use Rattle.inf_resolve.specs.declared.resolved.Resolved.{Resolved}
use Rattle.inf_resolve.specs.declared.resolved.Resolved.TheVariants as comes
use Rattle.inf_resolve.specs.Resolved.{resolved}

-- where a flow is at work, the call has a course
abbrev FlowHasCourse : List Call → Flow → Type 0
FlowHasCourse calls step = is_some (next_course calls) ≡ true

abbrev pub StageHasCourse : List Call → Stage → Type 0
StageHasCourse calls stage = StageFits (FlowHasCourse calls) AnySteps stage

pub record HasCourse (s : ClientState) : Type 0 where
  pub course : StageHasCourse s.left s.stage

-- nothing is asked of what an attempt knows
abbrev KnowsAny : List Known → Type 0
KnowsAny known = Unit {0}

stage_course : (calls : List Call) (what : Deed) (r : Resolved) → is_some (next_course calls) ≡ true
    → StageHasCourse calls (stage_by what r)
stage_course calls what (comes.Asks keys) is = tt
stage_course calls what (comes.Leads old new) is = is
stage_course calls what (comes.IsBusy by place) is = tt
stage_course calls what comes.Lacks is = tt

next_stage_course : (digest : List ℕ → Id) (who : Who) (known : List Known) (calls : List Call)
    (found : Option Course) → next_course calls ≡ found → StageHasCourse calls (next_stage digest who known found)
next_stage_course digest who known calls None is = tt
next_stage_course digest who known calls (Some course) is =
    stage_course calls course.deed (resolved digest who.root course.looked known) (ap is_some is)

turn_course : (calls : List Call) (t : Turn Flow) → is_some (next_course calls) ≡ true
    → TurnFits Flow (FlowHasCourse calls) AnySteps t
turn_course calls (turn.GoesOn next) is = is
turn_course calls (turn.WindsUp end more) is = tt

courses_keep : (digest : List ℕ → Id) → ClientKeeps digest KnowsAny (λ who. FlowHasCourse) (λ who. AnySteps)
courses_keep digest = record {
  begins = λ who calls known any. next_stage_course digest who known calls (next_course calls) refl;
  flows = λ who calls.
      keeps_turns Flow (after_act digest who) (clean_up who) (FlowHasCourse calls) AnySteps
      (λ step sent has. turn_course calls (after_act digest who step sent) has) (λ step has. tt);
  none = λ who. tt;
  later = λ who ms later well. tt;
}

composed_course : (digest : List ℕ → Id) (s : ClientState) → HasCourse s → HasCourse (composed digest s)
composed_course digest s has =
    record { course = composed_fits digest KnowsAny (λ who. FlowHasCourse) (λ who. AnySteps) (courses_keep digest) s tt has.course }

given_up_course : (s : ClientState) → HasCourse s → HasCourse (given_up s)
given_up_course s has =
    record { course = given_up_fits (λ who. FlowHasCourse) (λ who. AnySteps) (λ who calls step fits. tt) s has.course }

begun_course : (digest : List ℕ → Id) (ask : Ask) (sent : List Sent) (s : ClientState) → HasCourse s → HasCourse (begun digest ask sent s)
begun_course digest ask sent s has = kept_begun digest HasCourse (record { composing = composed_course digest; giving_up = given_up_course }) ask sent s has

settled_course : (digest : List ℕ → Id) (b : Bool) (s : ClientState) → HasCourse s → HasCourse (settled digest b s)
settled_course digest b s has =
    record { course = settled_fits digest KnowsAny (λ who. FlowHasCourse) (λ who. AnySteps) (courses_keep digest) b s has.course }

served_course : (digest : List ℕ → Id) (place : ℕ) (told : Told) (s : ClientState) → HasCourse s → HasCourse (served digest place told s)
served_course digest place told s has =
    let now : ClientState = recorded place (told_in s told) s in
    if_both HasCourse (has_place place s.sent) (after_record digest now) s
    (settled_course digest (is_complete now) now (record { course = has.course })) has

starting_course : (world : World) (client : ℕ) (line : Option ClientLine) → HasCourse (starting world client line)
starting_course world client None = record { course = tt }
starting_course world client (Some line) = record { course = tt }

pub has_course : (world : World) (client : ℕ) (h : List Event) → HasCourse (client_after world client h)
has_course world client [] = starting_course world client (slice_get world.setup.clients client)
has_course world client (event.Ask number ask ∷ h) =
    let before = has_course world client h in
    if_both HasCourse (ask.from.client == client) _ _ (record { course = (begun_course world.digest ask (client_after world client h).sent (client_after world client h) before).course }) before
has_course world client (event.Serve number ask_place given ∷ h) =
    served_course world.digest ask_place (told_reply (suc (length h)) given) (client_after world client h) (has_course world client h)
