-- An Ask keeps what every legal history keeps.
use Rattle.std.proofs.Common.{◌≡◌, ℕ, suc, Bool, true, false, cond, eqb, List, ◌∷◌, length, refl, subst, arith}
use Rattle.std.proofs.lemmas.Bool.Decides.{Decides-eqb}
use Rattle.inf_base.specs.declared.entry.Entry.{Entry}
use Rattle.inf_duty.specs.After.{client_after}
use Rattle.inf_duty.specs.Duty.{Duty, asked, begun}
use Rattle.inf_duty.specs.World.{World}
use Rattle.inf_duty.specs.ClientState.{ClientState}
use Rattle.inf_laws_client.specs.Paths.{KeepsToPath}
use Rattle.inf_laws_client.specs.Told.{KnowsOnly}
use Rattle.inf_laws_client.proofs.KnowsFacts.{begun_knows, placed_knows, weaker_knows}
use Rattle.inf_laws_client.proofs.PathClients.{begun_keeps, placed_keeps}
use Rattle.inf_laws_history.specs.Kept.{IsTrue, Kept}
use Rattle.inf_laws_history.specs.Legal.{MayAsk}
use Rattle.inf_laws_history.proofs.AskedGroups.{asks_group_ask}
use Rattle.inf_laws_history.proofs.BirthFacts.{born_more}
use Rattle.inf_laws_history.proofs.PendingFacts.{pending_ask}
use Rattle.inf_laws_history.proofs.PhaseFacts.{InHand, begun_in_hand, placed_in_hand}
use Rattle.inf_laws_history.proofs.StepFacts.{in_hands, is_kept, others_have}
use Rattle.inf_message.specs.declared.ask.Ask.{Ask}
use Rattle.inf_message.specs.declared.event.Event.{Event}
use Rattle.inf_message.specs.declared.event.Event.TheVariants as event

module _ (world : World) (h : List Event) (number : ℕ) (ask : Ask) (kept : Kept world h) (may : MayAsk world h number ask) where
  abbrev now : List Event
  now = event.Ask number ask ∷ h

  abbrev TrueNow : Entry → Type 0
  TrueNow = IsTrue world now kept.objects kept.root kept.phases

  stays_true : (entry : Entry) → IsTrue world h kept.objects kept.root kept.phases entry → TrueNow entry
  stays_true entry is = record {
    told = is.told;
    born = born_more (event.Ask number ask) h entry.access.born is.born;
    stamped = omega (arith, is.stamped);
  }

  -- a client, but for what it asks
  record Goes (s : ClientState) : Type 0 where
    knows : KnowsOnly TrueNow s
    path : KeepsToPath s
    hand : InHand world.digest kept.phases s

  goes_asked : (s : ClientState) → Duty world.digest s number ask → Goes s → Goes (asked world.digest (suc (length h)) ask s)
  goes_asked s duty goes = record {
    knows = placed_knows TrueNow (suc (length h)) number ask (begun world.digest ask s.sent s) (begun_knows world.digest TrueNow ask s goes.knows) duty;
    path = placed_keeps (suc (length h)) number ask (begun world.digest ask s.sent s) (begun_keeps world.digest ask s goes.path) duty;
    hand = placed_in_hand world.digest kept.phases (suc (length h)) (begun world.digest ask s.sent s) (begun_in_hand world.digest kept.phases ask s goes.hand);
  }

  goes_before : (client : ℕ) → Goes (client_after world client h)
  goes_before client = record {
    knows = weaker_knows (IsTrue world h kept.objects kept.root kept.phases) TrueNow stays_true (client_after world client h) (kept.clients client).knows;
    path = (kept.clients client).path;
    hand = in_hands world h kept client;
  }

  goes_now : (client : ℕ) → Goes (client_after world client now)
  goes_now client = by (eqb ask.from.client client) refl
    where
      by : (b : Bool) → eqb ask.from.client client ≡ b
          → Goes (cond b (asked world.digest (suc (length h)) ask (client_after world client h)) (client_after world client h))
      by true same =
          goes_asked (client_after world client h)
          (subst (λ (c : ℕ). Duty world.digest (client_after world c h) number ask) ((Decides-eqb ask.from.client client).0 same) may.duty) (goes_before client)
      by false apart = goes_before client

  pub kept_ask : Kept world (event.Ask number ask ∷ h)
  kept_ask = record {
    objects = kept.objects;
    states = kept.states;
    tree = kept.tree;
    phases = kept.phases;
    standing = kept.standing;
    root = kept.root;
    root_stands = kept.root_stands;
    born = λ dir there. born_more (event.Ask number ask) h dir.born (kept.born dir there);
    replayed = kept.replayed;
    replays = kept.replays;
    clients = λ client.
        is_kept world now kept.objects kept.root kept.phases client (goes_now client).knows (goes_now client).path
        (asks_group_ask world h number ask may (λ c. (kept.clients c).asks) client) (goes_now client).hand;
    others = others_have world now kept.phases (λ client. (goes_now client).hand);
    pending = pending_ask world h number ask may kept.pending;
  }
