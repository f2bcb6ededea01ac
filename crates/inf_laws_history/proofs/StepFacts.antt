-- What a step of a history has to keep for each client, and what one Serve does to the servers' states.
use Rattle.std.proofs.Common.{◌≡◌, ◌≢◌, ℕ, suc, ◌<◌, Bool, true, false, if◌then◌else◌, eqb, List, [], ◌∷◌, ◌++◌, length, Some, refl, sym, ap, ◌∙◌, subst, arith}
use Rattle.std.proofs.lemmas.Bool.Decides.{Decides-eqb}
use Rattle.inf_base.specs.declared.access.Access.{Access}
use Rattle.inf_base.specs.declared.call.Call.{Call}
use Rattle.inf_base.specs.declared.caller.CallRef.{CallRef}
use Rattle.inf_duty.specs.After.{client_after}
use Rattle.inf_duty.specs.World.{World}
use Rattle.inf_message.specs.Who.{Who}
use Rattle.inf_laws_client.specs.Asked.{AsksItsGroup}
use Rattle.inf_laws_client.specs.Paths.{KeepsToPath}
use Rattle.inf_laws_client.specs.Told.{KnowsOnly}
use Rattle.inf_laws_directory.specs.At.{At}
use Rattle.inf_laws_directory.specs.Fits.{Fits, next_phase}
use Rattle.inf_laws_directory.specs.Objects.{Objects, Service, site_in, with_state}
use Rattle.inf_laws_directory.specs.Owes.{Aims, Moment, Owes}
use Rattle.inf_laws_directory.specs.Phases.{Phases, idle, with_phase}
use Rattle.inf_laws_directory.specs.Standing.{IsStanding}
use Rattle.inf_laws_directory.specs.Told.{IsUnborn}
use Rattle.inf_laws_history.specs.Kept.{IsKept, IsTrue, Kept}
use Rattle.inf_laws_history.specs.Legal.{server_after}
use Rattle.inf_laws_history.specs.Objects.{WasAskedIn}
use Rattle.inf_laws_history.specs.Sites.{site_of}
use Rattle.inf_laws_history.proofs.ClientSteps.{who_after}
use Rattle.inf_laws_history.proofs.PhaseFacts.{InHand}
use Rattle.inf_message.specs.declared.ask.Ask.{Ask}
use Rattle.inf_message.specs.declared.event.Event.{Event}
use Rattle.inf_message.specs.declared.event.Event.TheVariants as event
use Rattle.inf_message.specs.declared.reply.Reply.{Reply}
use Rattle.inf_message.specs.declared.reply.Reply.TheVariants as reply
use Rattle.inf_message.specs.History.{Posted, asked_at}
use Rattle.inf_message.proofs.HistoryLaws.{serves_apart, serves_own}
use Rattle.inf_server.specs.Machine.{Serves, after_reply, machine, state_after}
use Rattle.inf_server.specs.Response.{Response}
use Rattle.inf_server.specs.State.{Site, State}
use Rattle.inf_tree.specs.Apply.{apply}
use Rattle.inf_tree.specs.Replay.{Decided, Replays, replayed, tree_after}
use Rattle.inf_tree.specs.Tree.{Node}

-- ---- one replay after another

pub replays_both : (tree : Node) (first later : List Decided) → Replays tree first → Replays (replayed tree first) later → Replays tree (first ++ later)
replays_both tree [] later one two = two
replays_both tree (d ∷ first) later one two = (one.0, replays_both (tree_after d.answer tree (apply tree d.caller d.call)) first later one.1 two)

pub replayed_both : (tree : Node) (first later : List Decided) → replayed tree (first ++ later) ≡ replayed (replayed tree first) later
replayed_both tree [] later = refl
replayed_both tree (d ∷ first) later = replayed_both (tree_after d.answer tree (apply tree d.caller d.call)) first later

-- ---- the call under way

pub record HasNext (calls : List Call) : Type 0 where
  pub asked : Call
  pub more : List Call
  pub is : calls ≡ asked ∷ more

pub has_next : (calls : List Call) → 0 < length calls → HasNext calls
has_next [] some = absurd (omega (arith, some))
has_next (asked ∷ more) some = record { asked = asked; more = more; is = refl }

-- ---- what the law of one Serve says

-- the Serve that joins these events next
abbrev pub next_serve : List Event → ℕ → ℕ → At
next_serve h number ask_place = record { number = number; ask_place = ask_place; serve_place = suc (length h) }

abbrev pub moment_of : Service → At → Objects → Access → Node → Phases → Ask → Reply → State → Moment
moment_of service at objects root tree phases ask given new = record {
  service = service;
  at = at;
  old = objects;
  new = with_state at.number new objects;
  root = root;
  tree = tree;
  before = phases;
  after = with_phase ask.from (next_phase service at (phases ask.from) ask.request given) phases;
}

abbrev pub ServedStands : Type 0
ServedStands = (service : Service) (objects : Objects) (at : At) (root : Access) (tree : Node) (phases : Phases)
    (ask : Ask) (asked : Call) (given : Reply) (new : State) → IsStanding service objects root tree phases
    → Fits at (phases ask.from) ask.request
    → Aims service objects root phases ask.caller asked ask.request → IsUnborn service objects at.ask_place
    → Serves (site_in service at.number) (objects at.number) at.ask_place ask given new
    → Owes (moment_of service at objects root tree phases ask given new) ask.caller asked ask.request given

-- ---- the servers' states

-- the state after a Serve is the one that it leads to
pub state_goes_on : (site : Site) (old : State) (place : ℕ) (ask : Ask) (given : Reply) (new : State) → Serves site old place ask given new
    → after_reply given old (machine site old place ask) ≡ new
state_goes_on site old place ask reply.NoMem new serves = sym serves.1
state_goes_on site old place ask given new serves = ap (λ (r : Response). r.state) (sym serves)

module _ (world : World) (h : List Event) (objects : Objects) (states : (server : ℕ) → objects server ≡ server_after world server h)
    (number place : ℕ) (given : Reply) (posted : Posted) (made : asked_at place h ≡ Some posted) (new : State)
    (serves : Serves (site_of world number) (server_after world number h) place posted.ask given new) where
  state_here : server_after world number (event.Serve number place given ∷ h) ≡ new
  state_here =
      ap (state_after (site_of world number)) (serves_own number place given posted h made)
      ∙ state_goes_on (site_of world number) (server_after world number h) place posted.ask given new serves

  by_server : (server : ℕ) (b : Bool) → eqb server number ≡ b
      → (if b then new else objects server) ≡ server_after world server (event.Serve number place given ∷ h)
  by_server server true is =
      subst (λ (n : ℕ). new ≡ server_after world n (event.Serve number place given ∷ h)) (sym ((Decides-eqb server number).0 is)) (sym state_here)
  by_server server false is =
      states server
      ∙ ap (state_after (site_of world server))
      (sym (serves_apart number server place given h (λ same. not_same ((Decides-eqb server number).1 (sym same)))))
    where
      not_same : eqb server number ≡ true → ⊥
      not_same same = cc

  pub states_served : (server : ℕ) → with_state number new objects server ≡ server_after world server (event.Serve number place given ∷ h)
  states_served server = by_server server (eqb server number) refl

-- ---- clients

pub client_is : (world : World) (h : List Event) (client : ℕ) → (client_after world client h).who.client ≡ client
client_is world h client = ap (λ (who : Who). who.client) (who_after world h client)

abbrev pub OthersHaveNothing : World → List Event → Phases → Type 0
OthersHaveNothing world h phases = (call : CallRef) → call.number ≢ (client_after world call.client h).number → phases call ≡ idle

abbrev numbered : ℕ → ℕ → CallRef
numbered client number = record { client = client; number = number }

pub in_hands : (world : World) (h : List Event) (kept : Kept world h) (client : ℕ) → InHand world.digest kept.phases (client_after world client h)
in_hands world h kept client =
    let own = kept.clients client in
    record {
      phase = own.phase;
      others = λ number apart.
          subst (λ (c : ℕ). kept.phases (numbered c number) ≡ idle) (sym (client_is world h client)) (kept.others (numbered client number) apart);
      may = own.may;
    }

pub others_have : (world : World) (h : List Event) (phases : Phases) → ((client : ℕ) → InHand world.digest phases (client_after world client h))
    → OthersHaveNothing world h phases
others_have world h phases hands call apart =
    subst (λ (c : ℕ). phases (numbered c call.number) ≡ idle) (client_is world h call.client) ((hands call.client).others call.number apart)

pub is_kept : (world : World) (h : List Event) (objects : Objects) (root : Access) (phases : Phases) (client : ℕ)
    → KnowsOnly (IsTrue world h objects root phases) (client_after world client h) → KeepsToPath (client_after world client h)
    → AsksItsGroup (WasAskedIn h) (client_after world client h) → InHand world.digest phases (client_after world client h)
    → IsKept world h objects root phases client (client_after world client h)
is_kept world h objects root phases client knows path asks hand = record {
  who = who_after world h client;
  knows = knows;
  path = path;
  asks = asks;
  phase = hand.phase;
  may = hand.may;
}
