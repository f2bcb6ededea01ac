-- What comes of letting a client ask, by what its step told.
use Rattle.std.proofs.Common.{◌≡◌, ℕ, suc, ◌+◌, ◌≤◌, ◌<◌, ◌^◌, Bool, true, false, cond, not, ◌&&◌, List, [], ◌∷◌, ◌++◌, length, reverse, slice_get, None, Some, All, refl, sym, ap, subst, ◌∙◌, arith, inl, inr}
use Rattle.inf_base.specs.declared.id.Id.{Id}
use Rattle.std.proofs.lemmas.Bool.Decides.{Decides-eqb}
use Rattle.std.proofs.lemmas.List.Elements.{All-head, All-nil, All-push, All-tail, All-weaker}
use mathlib.Core.List.{reverse-cons}
use Rattle.inf_duty.specs.ClientState.{ClientState, placed}
use Rattle.inf_duty.specs.Outcome.{all_given_up}
use Rattle.inf_sched.specs.Scene.{planned}
use Rattle.inf_duty.specs.ClientStep.{is_ask}
use Rattle.inf_duty.specs.Duty.{Duty, asked, begun, next_step}
use Rattle.inf_laws_history.specs.Legal.{Legal, MayAsk}
use Rattle.inf_laws_history.proofs.DrivenFacts.{messages_within}
use Rattle.inf_laws_history.proofs.StepFacts.{client_is}
use Rattle.inf_duty.specs.After.{client_after}
use Rattle.inf_duty.specs.World.{World}
use Rattle.inf_duty.specs.declared.client_step.ClientStep.TheVariants as step
use Rattle.inf_message.specs.declared.ask.Ask.{Ask}
use Rattle.inf_message.specs.declared.event.Event.{Event}
use Rattle.inf_message.specs.declared.event.Event.TheVariants as event
use Rattle.inf_message.specs.History.{Own, asks_of, made_ask, own_ask, posted_ask}
use Rattle.inf_message.specs.Shown.{IsOwn}
use Rattle.inf_message.proofs.ClientLaws.{asks_are_own}
use Rattle.inf_message.proofs.HistoryLaws.{asked_within}
use Rattle.inf_client.specs.AskLog.{IsLater, asked_log}
use Rattle.inf_client.specs.Client.{Client, AsksNext, asks_left, Rests, Steps, client_with, wants_to_ask}
use Rattle.inf_sched.specs.Run.{Asked, Did, IsClient, IsGivenUp, IsStateOf, asks_shown, rested}
use Rattle.inf_sched.specs.Waiting.{posting}

-- ---- a client that asks

here_state : (s : ClientState) (a : Client) → IsClient s a → a.gone ≡ false → a.state ≡ s
here_state s a is here = by a.gone here is
  where
    by : (g : Bool) → g ≡ false → IsStateOf g s a.state → a.state ≡ s
    by true no_more same = absurd (cc)
    by false no_more same = same

own_client : (world : World) (client : ℕ) (h : List Event) (a : Client) (ask : Ask) → a.state ≡ client_after world client h
    → ask.from.client ≡ a.state.who.client → ask.from.client ≡ client
own_client world client h a ask same own = own ∙ ap (λ (s : ClientState). s.who.client) same ∙ client_is world h client

-- the ask that a step tells may be made
pub may_ask : (world : World) (client number : ℕ) (h : List Event) (ask : Ask) (a b : Client) → client < length world.setup.clients
    → IsClient (client_after world client h) a → AsksNext world.digest number ask a b → MayAsk world h number ask
may_ask world client number h ask a b there is next =
    let same : a.state ≡ client_after world client h = here_state (client_after world client h) a is next.here in
    let own : ask.from.client ≡ client = own_client world client h a ask same next.own in
    record {
      client = subst (λ c. c < length world.setup.clients) (sym own) there;
      duty = subst (λ c. Duty world.digest (client_after world c h) number ask) (sym own)
          (subst (λ (s : ClientState). Duty world.digest s number ask) same next.duty);
    }

-- ---- its Asks so far stand at earlier places

all_back : {X : Type 0} (P : X → Type 0) (xs : List X) → All P xs → All P (reverse xs)
all_back P [] all = All-nil P
all_back P (x ∷ xs) all =
    subst (All P) (sym (reverse-cons x xs)) (All-push P (reverse xs) x (all_back P xs (All-tail P x xs all)) (All-head P x xs all))

asks_within : (client : ℕ) (h : List Event) → All (λ (own : Own). own.made.ask_place < suc (length h)) (asks_of client h)
asks_within client h =
    All-weaker (IsOwn client h) (λ (own : Own). own.made.ask_place < suc (length h))
    (λ own is. let place = asked_within own.made.ask_place _ h is.made.asked in omega (arith, place.within))
    (asks_of client h) (asks_are_own client h)

pub ready_later : (digest : List ℕ → Id) (client number place : ℕ) (h : List Event) (ask : Ask) (a b : Client) → a.log.asks ≡ asks_shown client h → AsksNext digest number ask a b
    → place ≡ suc (length h) → IsLater place b.log.asks
ready_later digest client number place h ask a b shown next newest =
    subst (λ p. IsLater p b.log.asks) (sym newest)
    (subst (IsLater (suc (length h))) (sym (next.asks ∙ shown))
    (all_back (λ (own : Own). own.made.ask_place < suc (length h)) (asks_of client h) (asks_within client h)))

-- ---- what it is then

module _ (world : World) (client number : ℕ) (h : List Event) (ask : Ask) (a b : Client) (is : IsClient (client_after world client h) a) (next : AsksNext world.digest number ask a b) where
  begins : b.state ≡ begun world.digest ask (client_after world client h).sent (client_after world client h)
  begins = next.state ∙ ap (λ (t : ClientState). begun world.digest ask t.sent t) (here_state (client_after world client h) a is next.here)

  follows : client_after world client (event.Ask number ask ∷ h) ≡ placed (suc (length h)) b.state
  follows =
      let s : ClientState = client_after world client h in
      let own : ask.from.client ≡ client = own_client world client h a ask (here_state s a is next.here) next.own in
      ap (λ t. cond t (asked world.digest (suc (length h)) ask s) s) ((Decides-eqb ask.from.client client).1 own) ∙ ap (placed (suc (length h))) (sym begins)

  pub ready_room : (place : ℕ) → place ≡ suc (length h) → place < 2 ^ 64 → b.state.counts.messages + 1 < 2 ^ 64
  ready_room place newest fits =
      let few : (client_after world client (event.Ask number ask ∷ h)).counts.messages ≤ suc (length h) = messages_within world (event.Ask number ask ∷ h) client in
      let count : (client_after world client (event.Ask number ask ∷ h)).counts.messages ≡ b.state.counts.messages + 1 = ap (λ (t : ClientState). t.counts.messages) follows in
      omega (arith, few, count, newest, fits)

-- the ask as the history shares it
pub first_made : (digest : List ℕ → Id) (number : ℕ) (ask made : Ask) (a b : Client) → AsksNext digest number ask a b → made ≡ ask
    → slice_get (asks_left b.state) 0 ≡ Some (posted_ask number made)
first_made digest number ask made a b next same = next.first ∙ sym (ap (λ (x : Ask). Some (posted_ask number x)) same)

pub asked_did : (world : World) (client number place : ℕ) (h after : List Event) (ask made : Ask) (a b c : Client) → client < length world.setup.clients → Legal world after
    → IsClient (client_after world client h) a → AsksNext world.digest number ask a b → place ≡ suc (length h)
    → made ≡ ask → after ≡ event.Ask number ask ∷ h
    → c ≡ client_with (placed place b.state) false (asked_log place (posted_ask number made) b.log) false
    → Asked world client (posting place number client) h after a c
asked_did world client number place h after ask made a b c there legal is next newest shared joins placing =
    let same : a.state ≡ client_after world client h = here_state (client_after world client h) a is next.here in
    let is_after : placed place b.state ≡ client_after world client after =
    ap (λ p. placed p b.state) newest ∙ sym (ap (client_after world client) joins ∙ follows world client number h ask a b is next) in
    record {
      number = number;
      ask = ask;
      here = next.here;
      own = own_client world client h a ask same next.own;
      may = may_ask world client number h ask a b there is next;
      joins = joins;
      posted = ap (λ p. posting p number client) newest;
      still_here = ap (λ (x : Client). x.gone) placing;
      asks = ap (λ (x : Client). x.log.asks) placing ∙ ap (λ (x : Ask). b.log.asks ++ own_ask (made_ask number x place) None ∷ []) shared
          ∙ ap (λ owns. owns ++ own_ask (made_ask number ask place) None ∷ []) next.asks
          ∙ ap (λ p. a.log.asks ++ own_ask (made_ask number ask p) None ∷ []) newest;
      idle = ap (λ (x : Client). x.handed) placing;
      is_client = subst (λ x. IsClient (client_after world client after) x) (sym placing) is_after;
      legal = legal;
    }

-- ---- one that rests

gave_up_here : (digest : List ℕ → Id) (a : Client) → wants_to_ask digest a ≡ true → a.gone ≡ false
gave_up_here digest a asking = by a.gone asking
  where
    by : (g : Bool) → (not g && is_ask (next_step (planned digest a.state))) ≡ true → g ≡ false
    by true none = absurd (cc)
    by false some = refl

pub rested_did : (world : World) (client : ℕ) (h : List Event) (a b : Client)
    → IsClient (client_after world client h) a → Rests world.digest a b → Did world client (rested a.gone b.gone) h h a b
rested_did world client h a b is (inl resting) =
    let same : b ≡ a = resting.same in
    subst (λ (x : Client). Did world client (rested a.gone x.gone) h h a x) (sym same) (by a.gone)
  where
    by : (g : Bool) → Did world client (rested g g) h h a a
    by true = record { idle = resting.idle; same = refl; is_client = refl }
    by false = record { idle = resting.idle; same = refl; is_client = refl }
rested_did world client h a b is (inr giving) =
    let s : ClientState = client_after world client h in
    let here : a.gone ≡ false = gave_up_here world.digest a giving.asking in
    let same : a.state ≡ s = here_state s a is here in
    let given : IsGivenUp s b.state = record {
      between = ap (λ (t : ClientState). t.sent) (sym same) ∙ giving.between;
      all = giving.state ∙ ap (λ (t : ClientState). all_given_up t.left t) same;
    } in
    subst (λ g. Did world client (rested g b.gone) h h a b) (sym here)
    (subst (λ g. Did world client (rested false g) h h a b) (sym giving.gone)
    (record {
      here = here;
      asking = giving.asking;
      between = giving.between;
      free = giving.free;
      same = refl;
      gone = giving.gone;
      asks = giving.asks;
      idle = giving.handed;
      is_client = subst (λ g. IsStateOf g s b.state) (sym giving.gone) given;
    }))

pub waiting_rests : (digest : List ℕ → Id) (a b : Client) → Steps digest a step.Waiting b → Rests digest a b
waiting_rests digest a b how = how.0

pub finished_rests : (digest : List ℕ → Id) (a b : Client) → Steps digest a step.Finished b → Rests digest a b
finished_rests digest a b how = how.0
