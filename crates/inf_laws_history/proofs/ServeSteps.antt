-- A Serve keeps what every legal history keeps.
use Rattle.std.proofs.Common.{inl, ◌≡◌, ℕ, suc, Bool, true, false, eqb, List, ◌∷◌, ◌++◌, length, Option, refl, sym, ap, ◌∙◌, subst, arith}
use Rattle.std.proofs.lemmas.Bool.Decides.{Decides-eqb}
use Rattle.inf_base.specs.declared.access.Access.{Access}
use Rattle.inf_base.specs.declared.caller.Caller.{Caller}
use Rattle.inf_base.specs.declared.directory.DirRef.{DirRef}
use Rattle.inf_base.specs.declared.entry.Entry.{Entry}
use Rattle.inf_base.specs.declared.key.Key.{Key}
use Rattle.inf_base.specs.declared.key.Key.TheVariants as key
use Rattle.inf_base.specs.declared.key.LookKey.{LookKey}
use Rattle.inf_base.specs.declared.key.LookKey.TheVariants as look
use Rattle.inf_base.specs.Same.{dir_of}
use Rattle.inf_duty.specs.After.{client_after}
use Rattle.inf_duty.specs.World.{World}
use Rattle.inf_duty.specs.ClientState.{ClientState, call_ref}
use Rattle.inf_message.specs.Who.{Who}
use Rattle.inf_laws_client.specs.Asked.{AnswersAsked}
use Rattle.inf_laws_client.specs.Paths.{KeepsToPath}
use Rattle.inf_laws_client.specs.Told.{AnswersLookup, IsToldFor, KnowsOnly, TellsOnly, name_of}
use Rattle.inf_laws_client.proofs.AskedFacts.{answers_lookup}
use Rattle.inf_laws_client.proofs.KnowsFacts.{served_knows, weaker_knows}
use Rattle.inf_laws_client.proofs.PathClients.{served_keeps}
use Rattle.inf_laws_directory.specs.At.{At}
use Rattle.inf_laws_directory.specs.Fits.{next_phase}
use Rattle.inf_laws_directory.specs.Objects.{Objects, Service, site_in, with_state}
use Rattle.inf_laws_directory.specs.Owes.{Moment, Owes}
use Rattle.inf_laws_directory.specs.Phases.{Phases, with_phase}
use Rattle.inf_laws_directory.specs.Told.{IsTold, IsToldAs}
use Rattle.inf_laws_directory.proofs.Lookups.{IsThere, there_is_told}
use Rattle.inf_laws_directory.proofs.ServedReplies.{found_there, found_under}
use Rattle.inf_laws_directory.proofs.TopStays.{no_other, root_kept}
use Rattle.inf_laws_history.specs.Decisions.{decided_at, decided_for, decided_in}
use Rattle.inf_laws_history.specs.Kept.{IsTrue, Kept}
use Rattle.inf_laws_history.specs.Legal.{MayServe}
use Rattle.inf_laws_history.specs.Objects.{IsBorn, WasAskedIn, service_of}
use Rattle.inf_laws_history.specs.Pending.{Waits}
use Rattle.inf_laws_history.specs.Sites.{site_of}
use Rattle.inf_laws_history.proofs.AimFacts.{aims}
use Rattle.inf_laws_history.proofs.AskedGroups.{asks_group_serve}
use Rattle.inf_laws_history.proofs.BirthFacts.{born_more, born_served, not_born, unborn}
use Rattle.inf_laws_history.proofs.ClientSteps.{who_after}
use Rattle.inf_laws_history.proofs.CourseFacts.{has_course}
use Rattle.inf_laws_history.proofs.DecisionFacts.{Comes}
use Rattle.inf_laws_history.proofs.DrivenFacts.{others_stay}
use Rattle.inf_laws_history.proofs.PendingFacts.{pending_serve}
use Rattle.inf_laws_history.proofs.PhaseFacts.{InHand, apart_in_hand, served_in_hand}
use Rattle.inf_laws_history.proofs.PhaseFits.{fits, is_answering}
use Rattle.inf_laws_history.proofs.ServeFacts.{serve_comes}
use Rattle.inf_laws_history.proofs.StepFacts.{HasNext, ServedStands, client_is, has_next, in_hands, is_kept, moment_of, next_serve, others_have, replayed_both, replays_both, states_served}
use Rattle.inf_message.specs.declared.ask.Ask.{Ask}
use Rattle.inf_message.specs.declared.event.Event.{Event}
use Rattle.inf_message.specs.declared.event.Event.TheVariants as event
use Rattle.inf_message.specs.declared.reply.Reply.{Reply}
use Rattle.inf_message.specs.declared.reply.Reply.TheVariants as reply
use Rattle.inf_message.specs.declared.request.Request.{Request}
use Rattle.inf_message.specs.declared.request.Request.TheVariants as request
use Rattle.inf_message.specs.History.{Posted, Told, told_reply}
use Rattle.inf_message.proofs.HistoryLaws.{asked_within}
use Rattle.inf_resolve.specs.Known.{told_entry}
use Rattle.inf_server.specs.Machine.{Serves}
use Rattle.inf_server.specs.State.{State}
use Rattle.inf_tree.specs.Replay.{Decided, Replays, replayed}
use Rattle.inf_tree.specs.Tree.{Node, opening_tree}

-- what a client hears of an access object was told
tells_if_found : (T : Entry → Type 0) (place : ℕ) (given : Reply)
    → ((k : Key) (access : Access) → given ≡ reply.Found k access → T (told_entry k access place)) → TellsOnly T place given
tells_if_found T place (reply.Found k access) found = found k access refl
tells_if_found T place other_reply found = tt

-- and what it hears for a lookup is of what that asked for
told_for : (sought : LookKey) (given : Reply) → ((k : Key) (access : Access) → given ≡ reply.Found k access → IsToldFor sought (reply.Found k access))
    → IsToldFor sought given
told_for sought (reply.Found k access) found = found k access refl
told_for look.Top other_reply found = tt
told_for (look.At id name) other_reply found = tt

module _ (stands : ServedStands) (world : World) (h : List Event) (number place : ℕ) (given : Reply) (kept : Kept world h) (may : MayServe world h number place given) where
  abbrev now : List Event
  now = event.Serve number place given ∷ h

  abbrev at : At
  at = next_serve h number place

  abbrev service : Service
  service = service_of world

  abbrev ask : Ask
  ask = may.posted.ask

  abbrev told : Told
  told = told_reply (suc (length h)) given

  abbrev asker : ClientState
  asker = client_after world ask.from.client h

  abbrev objects : Objects
  objects = with_state number may.after kept.objects

  abbrev phases : Phases
  phases = with_phase ask.from (next_phase service at (kept.phases ask.from) ask.request given) kept.phases

  -- ---- what the Ask rests on

  replies : Serves (site_in service number) (kept.objects number) place ask given may.after
  replies = subst (λ (state : State). Serves (site_of world number) state place ask given may.after) (sym (kept.states number)) may.reply

  waits : Waits asker place number ask
  waits = subst (λ (n : ℕ). Waits asker place n ask) may.to (kept.pending place may.posted may.made may.waits)

  counted : place ≡ 0 → ⊥
  counted none = let within = asked_within place may.posted h may.made in absurd (omega (arith, within.counted, none))

  next : HasNext asker.left
  next = has_next asker.left waits.under_way

  knows_told : KnowsOnly (IsTold service kept.objects kept.root kept.phases) asker
  knows_told =
      weaker_knows (IsTrue world h kept.objects kept.root kept.phases)
      (IsTold service kept.objects kept.root kept.phases) (λ entry is. is.told) asker (kept.clients ask.from.client).knows

  hand : InHand world.digest kept.phases asker
  hand = in_hands world h kept ask.from.client

  abbrev moment : Moment
  moment = moment_of service at kept.objects kept.root kept.tree kept.phases ask given may.after

  owed : Owes moment ask.caller next.asked ask.request given
  owed =
      stands service kept.objects at kept.root kept.tree kept.phases ask next.asked given may.after kept.standing
      (fits world.digest (IsTold service kept.objects kept.root kept.phases) asker at ask kept.phases hand
      knows_told waits)
      (aims service kept.objects kept.root kept.phases asker next.asked next.more (kept.phases (call_ref asker)) place number ask next.is knows_told
      (kept.clients ask.from.client).path (has_course world ask.from.client h) hand.phase hand.may waits)
      (unborn world h kept.objects place may.waits counted kept.born kept.root kept.phases kept.standing.owned) replies

  comes : Comes moment (decided_for world.digest place told asker)
  comes =
      serve_comes world.digest (WasAskedIn h) moment asker next.asked next.more next.is place number (suc (length h)) ask given
      (subst (λ (c : Caller). Owes moment c next.asked ask.request given) waits.caller owed)
      (kept.phases (call_ref asker)) waits (kept.clients ask.from.client).asks hand.phase

  -- ---- what clients know

  abbrev TrueNow : Entry → Type 0
  TrueNow = IsTrue world now objects kept.root phases

  older : (born : ℕ) → IsBorn h born → born ≡ place → ⊥
  older born is same = not_born h born place may.waits counted is same

  still_told : (k : Key) (access : Access) → IsBorn h access.born → IsToldAs service kept.objects kept.root kept.phases k access
      → IsToldAs service objects kept.root phases k access
  still_told k access born told_so = comes.told k access (older access.born born) told_so

  stays_true : (entry : Entry) → IsTrue world h kept.objects kept.root kept.phases entry → TrueNow entry
  stays_true entry is = record {
    told = still_told entry.key entry.access is.born is.told;
    born = born_more (event.Serve number place given) h entry.access.born is.born;
    stamped = omega (arith, is.stamped);
  }

  there_born : (k : Key) (access : Access) → IsThere service kept.objects kept.root k access → IsBorn h access.born
  there_born key.Top access there = inl (ap (λ (a : Access). a.born) there ∙ ap (λ (d : DirRef). d.born) kept.root_stands.of_root)
  there_born (key.At dir name) access there = kept.born (dir_of access) (kept.standing.owned.linked_kept dir name access there)

  found_true : (k : Key) (access : Access) → given ≡ reply.Found k access → TrueNow (told_entry k access (suc (length h)))
  found_true k access found =
      let there = found_there service kept.objects number place kept.root ask k access may.after
      (no_other service kept.objects kept.root kept.root_stands)
      (subst (λ (r : Reply). Serves (site_in service number) (kept.objects number) place ask r may.after) found replies) in
      record {
        told = still_told k access (there_born k access there)
            (there_is_told service kept.objects kept.root kept.phases k access there);
        born = born_more (event.Serve number place given) h access.born (there_born k access there);
        stamped = omega arith;
      }

  same_request : (asked : Request) → WasAskedIn h place asked → ask.request ≡ asked
  same_request asked was =
      let made = may.made in
      let found = was.found in
      let same : may.posted ≡ was.posted = cc in
      ap (λ (p : Posted). p.ask.request) same ∙ was.is

  found_for : (sought : LookKey) → ask.request ≡ request.Lookup sought → (k : Key) (access : Access) → given ≡ reply.Found k access
      → IsToldFor sought (reply.Found k access)
  found_for look.Top asked k access found = found_under (site_in service number) (kept.objects number) place ask given may.after replies look.Top k access asked found
  found_for (look.At id name) asked k access found =
      let under = found_under (site_in service number) (kept.objects number) place ask given may.after replies (look.At id name) k access asked found in
      ap name_of under.is_key

  answers : AnswersAsked (WasAskedIn h) place given
  answers sought was = told_for sought given (found_for sought (same_request (request.Lookup sought) was))

  looks : (client : ℕ) → AnswersLookup (client_after world client h).stage (client_after world client h).sent place given
  looks client = answers_lookup (WasAskedIn h) place given (client_after world client h) (kept.clients client).asks answers

  knows_now : (client : ℕ) → KnowsOnly TrueNow (client_after world client now)
  knows_now client =
      served_knows world.digest TrueNow place told (client_after world client h)
      (weaker_knows (IsTrue world h kept.objects kept.root kept.phases) TrueNow stays_true (client_after world client h) (kept.clients client).knows)
      (tells_if_found TrueNow (suc (length h)) given found_true) (looks client)

  path_now : (client : ℕ) → KeepsToPath (client_after world client now)
  path_now client = served_keeps world.digest place told (client_after world client h) (kept.clients client).path (looks client)

  -- ---- what calls have in hand

  asker_hand : InHand world.digest phases (client_after world ask.from.client now)
  asker_hand =
      let who = who_after world h ask.from.client in
      served_in_hand service (WasAskedIn h) (IsTold service kept.objects kept.root kept.phases) asker at ask
      given kept.phases (ap (λ (w : Who). w.servers) who) hand (kept.clients ask.from.client).asks knows_told waits
      (is_answering service asker place number ask given kept.phases (kept.objects number) may.after (ap (λ (w : Who). w.servers) who) hand waits replies)

  other_hand : (client : ℕ) → (ask.from.client ≡ client → ⊥) → InHand world.digest phases (client_after world client now)
  other_hand client apart =
      subst (λ (s : ClientState). InHand world.digest phases s) (sym (others_stay world h client number place given may.posted may.made apart))
      (apart_in_hand world.digest ask.from (next_phase service at (kept.phases ask.from) ask.request given) kept.phases
      (client_after world client h)
      (λ same. apart (same ∙ client_is world h client)) (in_hands world h kept client))

  hand_now : (client : ℕ) → InHand world.digest phases (client_after world client now)
  hand_now client = by (eqb ask.from.client client) refl
    where
      by : (b : Bool) → eqb ask.from.client client ≡ b → InHand world.digest phases (client_after world client now)
      by true same = subst (λ (c : ℕ). InHand world.digest phases (client_after world c now)) ((Decides-eqb ask.from.client client).0 same) asker_hand
      by false apart = other_hand client (λ same. let is = (Decides-eqb ask.from.client client).1 same in absurd cc)

  -- ---- the calls that are decided

  all_decided : decided_in world now ≡ decided_in world h ++ decided_for world.digest place told asker
  all_decided = ap (λ (found : Option Posted). decided_in world h ++ decided_at world h place told found) may.made

  pub kept_serve : Kept world (event.Serve number place given ∷ h)
  kept_serve =
      let came = comes in
      let before : List Decided = decided_in world h in
      let later : List Decided = decided_for world.digest place told asker in
      record {
        objects = objects;
        root = kept.root;
        states = states_served world h kept.objects kept.states number place given may.posted may.made may.after may.reply;
        tree = came.tree;
        phases = phases;
        standing = came.standing;
        root_stands = root_kept service kept.objects kept.root number place ask given may.after kept.root_stands replies;
        born = born_served world h kept.objects number place ask given may.after (kept.standing.owned.order number) replies kept.born;
        replayed =
            ap (replayed opening_tree) all_decided ∙ replayed_both opening_tree before later
            ∙ ap (λ (tree : Node). replayed tree later) kept.replayed ∙ came.leaves;
        replays =
            subst (λ (ds : List Decided). Replays opening_tree ds) (sym all_decided)
            (replays_both opening_tree before later kept.replays
            (subst (λ (tree : Node). Replays tree later) (sym kept.replayed) came.replays));
        clients = λ client.
            is_kept world now objects kept.root phases client (knows_now client) (path_now client)
            (asks_group_serve world h number place given (λ c. (kept.clients c).asks) client) (hand_now client);
        others = others_have world now phases hand_now;
        pending = pending_serve world h number place given kept.pending;
      }
