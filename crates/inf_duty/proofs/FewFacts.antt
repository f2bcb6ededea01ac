-- Each step that winds a call up has a message at most for each server.
use Rattle.std.proofs.Common.{ℕ, ◌≤◌, List, [], ◌∷◌, length, Some, refl, subst, arith}
use Rattle.inf_base.specs.declared.id.Id.{Id}
use Rattle.inf_message.specs.declared.reply.Reply.{Reply}
use Rattle.inf_message.specs.declared.reply.Reply.TheVariants as reply
use Rattle.inf_message.specs.declared.request.Request.TheVariants as request
use Rattle.inf_message.specs.declared.step.Message.{Message}
use Rattle.inf_message.specs.declared.turn.Turn.{Turn}
use Rattle.inf_message.specs.declared.turn.Turn.TheVariants as turn
use Rattle.inf_message.specs.Chain.{last_dir, last_entry, way_to}
use Rattle.inf_message.specs.CleanUp.{one_by_one}
use Rattle.inf_message.specs.Sent.{Sent}
use Rattle.inf_message.specs.Who.{Who, last_id, lift}
use Rattle.inf_flow_dir.specs.declared.dir_flow.DirFlow.{DirFlow}
use Rattle.inf_flow_dir.specs.declared.dir_flow.DirFlow.TheVariants as dir_flow
use Rattle.inf_flow_dir.specs.DirFlow.{after as after_dir, after_reply as dir_reply, clean_up as dir_clean_up, row_of}
use Rattle.inf_duty.specs.declared.flow.Flow.{Flow}
use Rattle.inf_duty.specs.declared.flow.Flow.TheVariants as flow
use Rattle.inf_duty.specs.declared.standing.Standing.{Standing}
use Rattle.inf_duty.specs.declared.standing.Standing.TheVariants as standing
use Rattle.inf_duty.specs.Flow.{after_act, after_reply, clean_up}
use Rattle.inf_duty.specs.Group.{group}
use Rattle.inf_duty.specs.Kept.{AreFew, AsksFit, StepsFit, WindsFew}
use Rattle.inf_duty.specs.Standing.{stage_of}
use Rattle.inf_duty.specs.Keeps.{FlowKeeps, TurnFits}
use Rattle.inf_duty.proofs.FlowFacts.{after_is, one_message}
use Rattle.inf_duty.proofs.KeepsFacts.{either_keeps, fails_fits, keeps_by, turn_fits}
use Rattle.std.proofs.lemmas.List.{length-map}
use Rattle.inf_message.specs.Who.{lookup_of}

single_few : (servers : ℕ) (ms : List Message) → 1 ≤ servers → AreFew servers (one_by_one ms)
single_few servers [] some = tt
single_few servers (m ∷ ms) some = (omega (arith, some), single_few servers ms some)

dir_clean_few : (who : Who) (step : DirFlow) → 1 ≤ who.servers → AreFew who.servers (dir_clean_up who step)
dir_clean_few who (dir_flow.Reserves chain name mode) some = tt
dir_clean_few who (dir_flow.Makes chain name mode version id) some =
    single_few who.servers (lift who (last_dir chain) request.Cancel ∷ []) some
dir_clean_few who (dir_flow.Links chain name mode version made) some =
    single_few who.servers (lift who made request.Drop ∷ lift who (last_dir chain) request.Cancel ∷ []) some
dir_clean_few who (dir_flow.Seals chain) some = tt
dir_clean_few who (dir_flow.Unlinks chain) some =
    single_few who.servers (lift who (last_dir chain) request.Unseal ∷ []) some

module _ (digest : List ℕ → Id) (who : Who) (some : 1 ≤ who.servers) where
  dir_turns : (step : DirFlow) (ask_place place : ℕ) (given : Reply)
      → TurnFits DirFlow (λ (s : DirFlow). Unit {0}) (AreFew who.servers) (dir_reply digest who step ask_place place given)
  dir_turns (dir_flow.Reserves chain name mode) ask_place place (reply.Reserved version) = tt
  dir_turns (dir_flow.Makes chain name mode version id) ask_place place reply.Fine = tt
  dir_turns (dir_flow.Makes chain name mode version id) ask_place place (reply.Clash kept) =
      dir_clean_few who (dir_flow.Makes chain name mode version id) some
  dir_turns (dir_flow.Links chain name mode version made) ask_place place reply.Fine = tt
  dir_turns (dir_flow.Seals chain) ask_place place reply.Fine = tt
  dir_turns (dir_flow.Unlinks chain) ask_place place reply.Fine =
      single_few who.servers
      (lift who (last_dir chain) request.Drop ∷ row_of who (last_id who (way_to chain)) (last_entry chain)) some
  dir_turns step ask_place place given =
      fails_fits (AreFew who.servers) DirFlow (λ (s : DirFlow). Unit {0}) (dir_clean_up who step) place given
      (dir_clean_few who step some)

  flows_are_few : FlowKeeps Flow (after_act digest who) (clean_up who) (λ (s : Flow). Unit {0}) (AreFew who.servers)
  flows_are_few =
      either_keeps (AreFew who.servers) digest who (λ (s : Flow). Unit {0}) tt
      (keeps_by DirFlow (after_dir digest who) (dir_reply digest who) (dir_clean_up who) (λ (s : DirFlow). Unit {0})
      (AreFew who.servers) (λ step sent. refl) tt (λ step ask_place place given any. dir_turns step ask_place place given)
      (λ step any. dir_clean_few who step some))

few_by : (servers : ℕ) (t : Turn Flow) → TurnFits Flow (λ (s : Flow). Unit {0}) (AreFew servers) t → WindsFew servers t
few_by servers (turn.GoesOn next) fits = tt
few_by servers (turn.WindsUp end more) fits = fits

-- what cleans up behind a step
pub clean_few : (who : Who) (step : Flow) → 1 ≤ who.servers → AreFew who.servers (clean_up who step)
clean_few who (flow.File step) some = tt
clean_few who (flow.Dir step) some = dir_clean_few who step some

-- what follows a step
pub act_few : (digest : List ℕ → Id) (who : Who) (step : Flow) (sent : List Sent) → 1 ≤ who.servers
    → WindsFew who.servers (after_act digest who step sent)
act_few digest who step sent some =
    few_by who.servers (after_act digest who step sent)
    (turn_fits Flow (after_act digest who) (clean_up who) (λ (s : Flow). Unit {0}) (AreFew who.servers)
    (flows_are_few digest who some) step sent tt)

-- the same by the one reply to it
pub reply_few : (digest : List ℕ → Id) (who : Who) (step : Flow) (ask_place place : ℕ) (given : Reply) → 1 ≤ who.servers
    → WindsFew who.servers (after_reply digest who step ask_place place given)
reply_few digest who step ask_place place given some =
    let sent : List Sent =
    record { place = ask_place; told = Some (record { serve_place = place; reply = given }) } ∷ [] in
    subst (λ (t : Turn Flow). WindsFew who.servers t) (after_is digest who step sent) (act_few digest who step sent some)

-- the Asks of a group find room
pub group_fits : (who : Who) (stands : Standing) (capacity : ℕ) → 1 ≤ who.servers → StepsFit who.servers stands
    → who.servers ≤ capacity → AsksFit stands capacity → length (group who (stage_of stands)) ≤ capacity
group_fits who standing.Compose capacity some steps servers asks = omega arith
group_fits who (standing.Round keys) capacity some steps servers asks =
    omega (arith, asks, length-map keys (lookup_of who))
group_fits who (standing.Act step) capacity some steps servers asks =
    omega (arith, some, servers, one_message who step)
group_fits who (standing.Winds end first rest) capacity some steps servers asks =
    omega (arith, servers, steps.0)
