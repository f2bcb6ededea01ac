-- What a client's Ask fits, where clean-ups are sent, and what servers reply to it.
use Rattle.std.proofs.Common.{◌≡◌, ℕ, List, slice_get, Option, Some, None, refl, sym, subst}
use Rattle.inf_base.specs.declared.caller.CallRef.{CallRef}
use Rattle.inf_base.specs.declared.entry.Entry.{Entry}
use Rattle.inf_base.specs.declared.id.Id.{Id}
use Rattle.inf_base.specs.Identity.{server_of}
use Rattle.inf_flow_dir.specs.declared.dir_flow.DirFlow.TheVariants as dir_flow
use Rattle.inf_flow_file.specs.declared.file_flow.FileFlow.TheVariants as file_flow
use Rattle.inf_duty.specs.declared.flow.Flow.TheVariants as flow
use Rattle.inf_duty.specs.ClientState.{ClientState, Stage, act, call_ref, compose, round, winds}
use Rattle.inf_duty.proofs.FlowFacts.{message_of}
use Rattle.inf_duty.specs.Group.{group}
use Rattle.inf_duty.specs.declared.flow.Flow.{Flow}
use Rattle.inf_message.specs.Chain.{dir_in}
use Rattle.inf_message.specs.Who.{Who}
use Rattle.inf_laws_client.specs.Told.{KnowsOnly, LinksUp, StandsOn, chain_of}
use Rattle.inf_laws_directory.specs.At.{At}
use Rattle.inf_laws_directory.specs.Fits.{EndsIn, Fits}
use Rattle.inf_laws_directory.specs.Objects.{Service, site_in}
use Rattle.inf_laws_directory.specs.Phases.{Phase, Phases, has_made, has_reserved, has_sealed, has_unlinked, idle}
use Rattle.inf_laws_directory.proofs.ServedReplies.{cancel_fine, drop_fine, forget_fine, reserved_may_write, sealed_may_write, unseal_fine}
use Rattle.inf_laws_history.specs.Pending.{Waits}
use Rattle.inf_laws_history.specs.Phases.{FlowHas, FlowMay, HasPhase, IsLiftedBy, StageMay}
use Rattle.inf_laws_history.proofs.GroupMessages.{lift_message, look_in, step_message}
use Rattle.inf_laws_history.proofs.PhaseFacts.{Answering, InHand, IsCleanUp}
use Rattle.inf_laws_history.proofs.PhaseTurns.{ends_under}
use Rattle.inf_message.specs.declared.ask.Ask.{Ask}
use Rattle.inf_message.specs.declared.reply.Reply.{Reply}
use Rattle.inf_message.specs.declared.reply.Reply.TheVariants as reply
use Rattle.inf_message.specs.declared.request.Request.{Request}
use Rattle.inf_message.specs.declared.request.Request.TheVariants as request
use Rattle.inf_message.specs.declared.step.Message.{Message}
use Rattle.inf_server.specs.Chains.{before_last, last_of}
use Rattle.inf_server.specs.Machine.{Serves}
use Rattle.inf_server.specs.State.{State}

-- ---- what is asked fits what is in hand

ends_in : (found : Option Entry) (last : Entry) → found ≡ Some last → EndsIn found (dir_in found)
ends_in None last is = absurd cc
ends_in (Some entry) last is = refl

flow_fits : (at : At) (who : Who) (step : Flow) (phase : Phase) → FlowHas who step phase → FlowMay who.caller step
    → LinksUp (chain_of step)
    → Fits at phase (message_of who step).request
flow_fits at who (flow.File (file_flow.Finishes chain asked)) phase has may up =
    subst (λ (p : Phase). Fits at p (request.Finish chain asked)) (sym has) tt
flow_fits at who (flow.Dir (dir_flow.Reserves chain name mode)) phase has may up =
    subst (λ (p : Phase). Fits at p (request.Reserve chain name)) (sym has) tt
flow_fits at who (flow.Dir (dir_flow.Makes chain name mode version id)) phase has may up =
    subst (λ (p : Phase). Fits at p (message_of who (flow.Dir (dir_flow.Makes chain name mode version id))).request) (sym has) refl
flow_fits at who (flow.Dir (dir_flow.Links chain name mode version dir)) phase has may up =
    subst (λ (p : Phase). Fits at p (message_of who (flow.Dir (dir_flow.Links chain name mode version dir))).request) (sym has)
    (ends_in (last_of chain) may.last may.ends, refl, refl)
flow_fits at who (flow.Dir (dir_flow.Seals chain)) phase has may up = subst (λ (p : Phase). Fits at p (request.Seal chain)) (sym has) tt
flow_fits at who (flow.Dir (dir_flow.Unlinks chain)) phase has may up =
    let under = ends_under chain may.last up may.ends in
    subst (λ (p : Phase). Fits at p (request.Unlink chain)) (sym has.is)
    (ends_in (last_of (before_last chain)) may.last may.ends, ends_in (last_of chain) under.target under.is)

lifted_fits : (at : At) (servers : ℕ) (phase : Phase) (m : Message) → IsLiftedBy servers phase m
    → Fits at phase m.request
lifted_fits at servers idle m is = subst (λ (x : Message). Fits at idle x.request) (sym is.is) tt
lifted_fits at servers (has_reserved parent name birth) m is =
    subst (λ (x : Message). Fits at (has_reserved parent name birth) x.request) (sym is) refl
lifted_fits at servers (has_made parent name birth made) m is =
    subst (λ (x : Message). Fits at (has_made parent name birth made) x.request) (sym is) refl
lifted_fits at servers (has_sealed parent name target) m is =
    subst (λ (x : Message). Fits at (has_sealed parent name target) x.request) (sym is) refl
lifted_fits at servers (has_unlinked target) m is =
    subst (λ (x : Message). Fits at (has_unlinked target) x.request) (sym is) refl

stage_fits : (digest : List ℕ → Id) (T : Entry → Type 0) (who : Who) (stage : Stage) (index : ℕ) (at : At)
    (asked : Request) (phase : Phase) → HasPhase digest who stage phase
    → StageMay who.caller stage → StandsOn T stage
    → slice_get (group who stage) index ≡ Some (record { number = at.number; request = asked })
    → Fits at phase asked
stage_fits digest T who compose index at asked phase has may stands is = absurd cc
stage_fits digest T who (round keys) index at asked phase has may stands is =
    let look = look_in who keys index at.number asked is in
    subst (λ (r : Request). Fits at phase r) (sym look.is)
    (subst (λ (p : Phase). Fits at p (request.Lookup look.k)) (sym has) tt)
stage_fits digest T who (act step) index at asked phase has may stands is =
    subst (λ (x : Message). Fits at phase x.request) (step_message who step index at.number asked is)
    (flow_fits at who step phase has.0 may stands.links_up)
stage_fits digest T who (winds ending ms later) index at asked phase has may stands is =
    lifted_fits at who.servers phase (record { number = at.number; request = asked })
    (lift_message who.servers phase ms later index at.number asked has is)

pub fits_phase : (digest : List ℕ → Id) (T : Entry → Type 0) (s : ClientState) (at : At) (ask : Ask)
    (phases : Phases)
    → HasPhase digest s.who s.stage (phases (call_ref s)) → StageMay s.who.caller s.stage → KnowsOnly T s
    → Waits s at.ask_place at.number ask
    → Fits at (phases ask.from) ask.request
fits_phase digest T s at ask phases phase may knows waits =
    subst (λ (by : CallRef). Fits at (phases by) ask.request) (sym waits.from)
    (stage_fits digest T s.who s.stage waits.index at ask.request (phases (call_ref s)) phase may knows.stands
    waits.message)

-- what a client asks fits what its call has in hand
pub fits : (digest : List ℕ → Id) (T : Entry → Type 0) (s : ClientState) (at : At) (ask : Ask) (phases : Phases)
    → InHand digest phases s → KnowsOnly T s → Waits s at.ask_place at.number ask
    → Fits at (phases ask.from) ask.request
fits digest T s at ask phases hand knows waits = fits_phase digest T s at ask phases hand.phase hand.may knows waits

-- ---- clean-ups are done

-- a clean-up is sent to the server that does it
abbrev pub IsSentHome : ℕ → ℕ → Request → Type 0
IsSentHome servers number (request.Cancel dir) = number ≡ server_of dir.id servers
IsSentHome servers number (request.Drop dir) = number ≡ server_of dir.id servers
IsSentHome servers number (request.Unseal dir) = number ≡ server_of dir.id servers
IsSentHome servers number (request.Forget parent dir) = number ≡ server_of parent servers
IsSentHome servers number other_request = ⊥

lifted_home : (servers : ℕ) (phase : Phase) (m : Message) → IsLiftedBy servers phase m → IsSentHome servers m.number m.request
lifted_home servers idle m is = subst (λ (x : Message). IsSentHome servers x.number x.request) (sym is.is) refl
lifted_home servers (has_reserved parent name birth) m is = subst (λ (x : Message). IsSentHome servers x.number x.request) (sym is) refl
lifted_home servers (has_made parent name birth made) m is = subst (λ (x : Message). IsSentHome servers x.number x.request) (sym is) refl
lifted_home servers (has_sealed parent name target) m is = subst (λ (x : Message). IsSentHome servers x.number x.request) (sym is) refl
lifted_home servers (has_unlinked target) m is = subst (λ (x : Message). IsSentHome servers x.number x.request) (sym is) refl

stage_home : (digest : List ℕ → Id) (who : Who) (stage : Stage) (index number : ℕ) (asked : Request) (phase : Phase) → HasPhase digest who stage phase → IsCleanUp stage
    → slice_get (group who stage) index ≡ Some (record { number = number; request = asked }) → IsSentHome who.servers number asked
stage_home digest who compose index number asked phase has cleans is = absurd cleans
stage_home digest who (round keys) index number asked phase has cleans is = absurd cleans
stage_home digest who (act step) index number asked phase has cleans is = absurd cleans
stage_home digest who (winds ending ms later) index number asked phase has cleans is =
    lifted_home who.servers phase (record { number = number; request = asked })
    (lift_message who.servers phase ms later index number asked has is)

pub sent_home : (digest : List ℕ → Id) (s : ClientState) (place number : ℕ) (ask : Ask) (phases : Phases)
    → HasPhase digest s.who s.stage (phases (call_ref s)) → Waits s place number ask → IsCleanUp s.stage → IsSentHome s.who.servers number ask.request
sent_home digest s place number ask phases phase waits cleans =
    stage_home digest s.who s.stage waits.index number ask.request (phases (call_ref s)) phase cleans waits.message

pub right_server : (digest : List ℕ → Id) (s : ClientState) (place number : ℕ) (ask : Ask) (phases : Phases)
    → InHand digest phases s → Waits s place number ask → IsCleanUp s.stage → IsSentHome s.who.servers number ask.request
right_server digest s place number ask phases hand waits cleans = sent_home digest s place number ask phases hand.phase waits cleans

module _ (service : Service) (number place : ℕ) (ask : Ask) (given : Reply) (old new : State) where
  done_home : (asked : Request) → Serves (site_in service number) old place ask given new → ask.request ≡ asked → IsSentHome service.servers number asked
      → given ≡ reply.Fine
  done_home (request.Cancel dir) serves is here = cancel_fine service number old place ask given new serves dir is here
  done_home (request.Drop dir) serves is here = drop_fine service number old place ask given new serves dir is here
  done_home (request.Unseal dir) serves is here = unseal_fine service number old place ask given new serves dir is here
  done_home (request.Forget parent dir) serves is here = forget_fine service number old place ask given new serves parent dir is here
  done_home other_request serves is here = absurd here

pub clean_up_done : (service : Service) (s : ClientState) (place number : ℕ) (ask : Ask) (given : Reply) (phases : Phases) (old new : State)
    → s.who.servers ≡ service.servers → HasPhase service.digest s.who s.stage (phases (call_ref s)) → Waits s place number ask
    → Serves (site_in service number) old place ask given new → IsCleanUp s.stage → given ≡ reply.Fine
clean_up_done service s place number ask given phases old new servers phase waits serves cleans =
    done_home service number place ask given old new ask.request serves refl
    (subst (λ (n : ℕ). IsSentHome n number ask.request) servers (sent_home service.digest s place number ask phases phase waits cleans))

-- ---- what servers reply

-- the replies of servers are such
pub is_answering : (service : Service) (s : ClientState) (place number : ℕ) (ask : Ask) (given : Reply) (phases : Phases) (old new : State)
    → s.who.servers ≡ service.servers → InHand service.digest phases s → Waits s place number ask
    → Serves (site_in service number) old place ask given new → Answering s ask given
is_answering service s place number ask given phases old new servers hand waits serves =
    let site = site_in service number in
    record {
      cleans = λ cleans. clean_up_done service s place number ask given phases old new servers hand.phase waits serves cleans;
      reserves = λ chain name version asked is. reserved_may_write site old place ask given new serves chain name version asked is;
      seals = λ chain asked is. sealed_may_write site old place ask given new serves chain asked is;
    }
