-- A call that has something in hand was under way, by its result.
use Rattle.std.proofs.Common.{◌≡◌, ◌≢◌, inl, inr, ℕ, ◌<◌, ◌≤◌, true, false, List, length, Option, Some, None, is_some, IfSome, refl, sym, ap, subst, arith}
use Rattle.std.proofs.lemmas.Option.{slice_get_within}
use Rattle.inf_base.specs.declared.id.Id.{Id}
use Rattle.inf_base.specs.declared.call.Call.{Call}
use Rattle.inf_base.specs.declared.caller.CallRef.{CallRef}
use Rattle.inf_duty.specs.After.{client_after}
use Rattle.inf_duty.specs.Messages.{are_none}
use Rattle.inf_duty.specs.Outcome.{Outcome, is_free}
use Rattle.inf_duty.specs.World.{World}
use Rattle.inf_flow_dir.specs.declared.dir_flow.DirFlow.TheVariants as dir_flow
use Rattle.inf_flow_file.specs.declared.file_flow.FileFlow.TheVariants as file_flow
use Rattle.inf_duty.specs.declared.flow.Flow.TheVariants as flow
use Rattle.inf_duty.specs.ClientState.{ClientState, Stage, act, call_ref, compose, round, winds}
use Rattle.inf_duty.specs.Flow.{clean_up}
use Rattle.inf_duty.specs.declared.flow.Flow.{Flow}
use Rattle.inf_message.specs.Who.{Who}
use Rattle.inf_laws_directory.specs.Phases.{Phase, idle}
use Rattle.inf_laws_history.specs.Causes.{before}
use Rattle.inf_laws_history.specs.Kept.{Kept}
use Rattle.inf_laws_history.specs.Phases.{FlowHas, HasPhase}
use Rattle.inf_laws_history.specs.Counted.{IsOfScript}
use Rattle.inf_laws_history.specs.UnderWay.{WasUnderWay}
use Rattle.inf_laws_history.proofs.AgainCauses.{under_way}
use Rattle.inf_laws_history.proofs.Begun.{IsInFlow, begun_after}
use Rattle.inf_laws_history.proofs.Numbered.{IsNumbered, IsUnder, is_of_script, numbered_after, total_of}
use Rattle.inf_laws_history.proofs.StepFacts.{client_is}
use Rattle.inf_message.specs.declared.call_result.CallResult.{CallResult}
use Rattle.inf_message.specs.declared.event.Event.{Event}
use Rattle.inf_message.specs.declared.event.Event.TheVariants as event
use Rattle.inf_message.specs.declared.reply.Reply.{Reply}
use Rattle.inf_message.specs.History.{Posted, asked_at, event_at}
use Rattle.inf_message.proofs.HistoryLaws.{event_within}
use Rattle.inf_laws_history.proofs.UnderWayFacts.{BeganBefore, IsMet, before_shorter, met_after, outcome_has}

-- ---- a call that has something in hand

flow_holds : (who : Who) (step : Flow) (phase : Phase) → FlowHas who step phase → phase ≢ idle → are_none (clean_up who step) ≡ false
flow_holds who (flow.File (file_flow.Finishes chain what)) phase has acts = absurd (acts has)
flow_holds who (flow.Dir (dir_flow.Reserves chain name mode)) phase has acts = absurd (acts has)
flow_holds who (flow.Dir (dir_flow.Makes chain name mode version id)) phase has acts = refl
flow_holds who (flow.Dir (dir_flow.Links chain name mode version dir)) phase has acts = refl
flow_holds who (flow.Dir (dir_flow.Seals chain)) phase has acts = absurd (acts has)
flow_holds who (flow.Dir (dir_flow.Unlinks chain)) phase has acts = refl

holds_at : (digest : List ℕ → Id) (who : Who) (stage : Stage) (phase : Phase) → HasPhase digest who stage phase → phase ≢ idle → is_free who stage ≡ false
holds_at digest who compose phase has acts = absurd (acts has)
holds_at digest who (round keys) phase has acts = absurd (acts has)
holds_at digest who (act step) phase has acts = flow_holds who step phase has.0 acts
holds_at digest who (winds ending ms later) phase has acts = refl

flows_at : (who : Who) (stage : Stage) → is_free who stage ≡ false → IsInFlow stage
flows_at who compose holds = absurd cc
flows_at who (round keys) holds = absurd cc
flows_at who (act step) holds = tt
flows_at who (winds ending ms later) holds = tt

under_in : (left : List Call) (stage : Stage) → IsInFlow stage → IsUnder left stage → 0 < length left
under_in left compose flows under = absurd flows
under_in left (round keys) flows under = absurd flows
under_in left (act step) flows under = under
under_in left (winds ending ms later) flows under = under

began_within : (first : Option ℕ) (most place : ℕ) → IfSome first (λ at. at ≤ most) → is_some first ≡ true → most < place → (at : ℕ) × (first ≡ Some at) × (at < place)
began_within None most place within some less = absurd cc
began_within (Some first) most place within some less = (first, refl, omega (arith, within, less))

module _ (world : World) (h : List Event) (kept : Kept world h) (by : CallRef) (acts : kept.phases by ≢ idle) (place : ℕ) (less : length h < place) where
  abbrev s : ClientState
  s = client_after world by.client h

  number_is : by.number ≡ s.number
  number_is = under_way world h kept by acts

  ref_is : call_ref s ≡ by
  ref_is =
      let number : ℕ = s.number in
      subst (λ n. record { client = s.who.client; number = n } ≡ by) number_is
      (ap (λ c. record { client = c; number = by.number }) (client_is world h by.client))

  holds : is_free s.who s.stage ≡ false
  holds = holds_at world.digest s.who s.stage (kept.phases (call_ref s)) (kept.clients by.client).phase (subst (λ (c : CallRef). kept.phases c ≢ idle) (sym ref_is) acts)

  numbered : IsNumbered by.client (total_of world by.client) s
  numbered = numbered_after world by.client h

  left : 0 < length s.left
  left = under_in s.left s.stage (flows_at s.who s.stage holds) numbered.under

  began : BeganBefore place s.counts
  began =
      let begun_it = begun_after world by.client h in
      let first = began_within s.counts.first (length h) place begun_it.within (begun_it.flows (flows_at s.who s.stage holds)) less in
      record { first = first.0; is = first.1; less = first.2 }

  is_met : IsMet by place (client_after world by.client h)
  is_met = inr (record { is = ref_is; left = left; began = began; holds = inl holds })

  acts_of_script : IsOfScript world by
  acts_of_script = is_of_script world by (omega (arith, number_is, numbered.counted)) (omega (arith, number_is, numbered.all, left))

-- a call that has something in hand just before a place, at which another client is answered, was under way there
pub was_under_way : (world : World) (h : List Event) (results : List CallResult) → Outcome world h results → (place number ask_place : ℕ) (given : Reply) (posted : Posted) (by : CallRef)
    → event_at place h ≡ Some (event.Serve number ask_place given) → asked_at ask_place (before place h) ≡ Some posted → posted.ask.from.client ≢ by.client
    → (kept : Kept world (before place h)) → kept.phases by ≢ idle → WasUnderWay world results place by
was_under_way world h results out place number ask_place given posted by at asked_it unlike kept acts =
    let counted = (event_within place (event.Serve number ask_place given) h at).counted in
    let less = before_shorter place h counted in
    let script = acts_of_script world (before place h) kept by acts place less in
    let met = met_after world by place number ask_place given posted unlike h counted at asked_it (is_met world (before place h) kept by acts place less) in
    let within = slice_get_within world.setup.clients by.client script.line script.client in
    let has = outcome_has world.digest by place world h by.client 0 world.setup.clients results out (omega arith) (omega (arith, within)) met in
    record { of_script = script; result = has.result; told = has.inside; own = has.own; around = has.around }
