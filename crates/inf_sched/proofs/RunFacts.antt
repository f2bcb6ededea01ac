-- What a run keeps as its clients ask and its servers serve.
use Rattle.std.proofs.Common.{◌≡◌, ◌≢◌, ℕ, zero, suc, ◌+◌, Bool, true, false, cond, not, ◌&&◌, List, [], ◌∷◌, ◌++◌, length, map, reverse, slice_get, slice_set, None, Some, refl, sym, ap, ap₂, subst, ◌∙◌, inl, inr}
use Rattle.std.proofs.lemmas.Bool.Decides.{Decides-eqb}
use Rattle.std.specs.Option.{option_map}
use Rattle.std.proofs.lemmas.List.{length-set, map-append, map-set}
use mathlib.Core.List.{reverse-cons}
use Rattle.std.proofs.lemmas.Option.{slice_get-map, slice_get_within}
use Rattle.inf_base.specs.declared.id.Id.{Id}
use Rattle.inf_duty.specs.ClientState.{ClientState}
use Rattle.inf_core.specs.Core.{world_in}
use Rattle.inf_duty.specs.Duty.{asked, next_step}
use Rattle.inf_laws_history.specs.Legal.{Legal}
use Rattle.inf_duty.specs.After.{client_after}
use Rattle.inf_duty.specs.Outcome.{may_pass}
use Rattle.inf_duty.specs.World.{World}
use Rattle.inf_laws_history.proofs.DrivenFacts.{others_stay}
use Rattle.inf_message.specs.declared.ask.Ask.{Ask}
use Rattle.inf_message.specs.declared.event.Event.{Event}
use Rattle.inf_message.specs.declared.event.Event.TheVariants as event
use Rattle.inf_message.specs.History.{Own, asks_of, made_ask, own_ask, posted_ask, served_at, told_reply}
use Rattle.inf_message.proofs.ClientLaws.{asks_apart, serve_apart}
use Rattle.inf_client.specs.Client.{Client, wants_to_ask}
use Rattle.inf_sched.specs.Moves.{HasNoAsk}
use Rattle.inf_sched.specs.Scene.{Asks, MakesServe, Scene, can_ask, is_ask, is_gone, is_set, planned}
use Rattle.inf_sched.specs.Run.{AreClients, AreQueues, Asked, HasGivenUp, HasRested, HasServed, IsClient, IsKept, IsStateOf, Playing, asks_shown, gone_of, playing, scene_of}
use Rattle.inf_sched.specs.declared.run.Parts.{Parts}
use Rattle.inf_sched.specs.Waiting.{IsFrontLeft, IsWaiting, Posting, is_by, is_to, posting}
use Rattle.inf_sched.proofs.RunQueues.{asked_queues, front_queues, served_queues, set_each, unlike_test}

-- ---- all clients

other_asks : (world : World) (h : List Event) (number client : ℕ) (ask : Ask) → client ≢ ask.from.client
    → client_after world client (event.Ask number ask ∷ h) ≡ client_after world client h
other_asks world h number client ask unlike =
    ap (λ b. cond b (asked world.digest (suc (length h)) ask (client_after world client h)) (client_after world client h))
    (unlike_test ask.from.client client (λ same. unlike (sym same)))

-- the Asks of a client by its events
asks_newly : (client number : ℕ) (ask : Ask) (h : List Event) → ask.from.client ≡ client
    → asks_shown client (event.Ask number ask ∷ h) ≡ asks_shown client h ++ own_ask (made_ask number ask (suc (length h))) None ∷ []
asks_newly client number ask h own =
    let new : Own = own_ask (made_ask number ask (suc (length h))) None in
    ap reverse (ap (λ b. cond b (new ∷ asks_of client h) (asks_of client h)) ((Decides-eqb ask.from.client client).1 own)) ∙ reverse-cons new (asks_of client h)

map_back : (f : Own → Own) (owns : List Own) → map f (reverse owns) ≡ reverse (map f owns)
map_back f [] = refl
map_back f (own ∷ owns) =
    ap (map f) (reverse-cons own owns)
    ∙ map-append f (reverse owns) (own ∷ [])
    ∙ ap (λ front. front ++ f own ∷ []) (map_back f owns)
    ∙ sym (reverse-cons (f own) (map f owns))

asked_clients : (world : World) (h after : List Event) (client : ℕ) (p : Posting) (clients : List Client) (a b : Client)
    → AreClients world h clients → slice_get clients client ≡ Some a → Asked world client p h after a b → AreClients world after (slice_set clients client b)
asked_clients world h after client p clients a b are at did = record {
  count = length-set clients client b ∙ are.count;
  each = set_each (λ k x. IsClient (client_after world k after) x) clients client b (slice_get_within clients client a at) did.is_client
      (λ k x unlike at_k.
      subst (λ s. IsClient s x)
      (sym (ap (client_after world k) did.joins ∙ other_asks world h did.number k did.ask (λ same. unlike (same ∙ did.own))))
      (are.each k x at_k));
  asks = set_each (λ k x. x.log.asks ≡ asks_shown k after) clients client b (slice_get_within clients client a at)
      (did.asks ∙ ap (λ owns. owns ++ own_ask (made_ask did.number did.ask (suc (length h))) None ∷ []) (are.asks client a at)
      ∙ sym (ap (asks_shown client) did.joins ∙ asks_newly client did.number did.ask h did.own))
      (λ k x unlike at_k.
      are.asks k x at_k
      ∙ sym (ap (asks_shown k) did.joins ∙ ap reverse (asks_apart k did.number did.ask h (λ same. unlike (sym same ∙ did.own)))));
  idle = set_each (λ k x. x.handed ≡ false) clients client b (slice_get_within clients client a at) did.idle (λ k x unlike at_k. are.idle k x at_k);
}

gave_up_clients : (world : World) (h after : List Event) (client : ℕ) (clients : List Client) (a b : Client)
    → AreClients world h clients → slice_get clients client ≡ Some a → HasGivenUp world client h after a b → AreClients world h (slice_set clients client b)
gave_up_clients world h after client clients a b are at did = record {
  count = length-set clients client b ∙ are.count;
  each = set_each (λ k x. IsClient (client_after world k h) x) clients client b (slice_get_within clients client a at) did.is_client
      (λ k x unlike at_k. are.each k x at_k);
  asks = set_each (λ k x. x.log.asks ≡ asks_shown k h) clients client b (slice_get_within clients client a at)
      (did.asks ∙ are.asks client a at)
      (λ k x unlike at_k. are.asks k x at_k);
  idle = set_each (λ k x. x.handed ≡ false) clients client b (slice_get_within clients client a at) did.idle (λ k x unlike at_k. are.idle k x at_k);
}

served_clients : (world : World) (h after : List Event) (p : Posting) (clients : List Client) (a b : Client) → Legal world h → IsWaiting h p
    → AreClients world h clients → slice_get clients p.client ≡ Some a → HasServed world p h after a b → AreClients world after (slice_set clients p.client b)
served_clients world h after p clients a b legal waits are at did = record {
  count = length-set clients p.client b ∙ are.count;
  each = set_each (λ k x. IsClient (client_after world k after) x) clients p.client b (slice_get_within clients p.client a at) did.is_client
      (λ k x unlike at_k.
      subst (λ s. IsClient s x)
      (sym (ap (client_after world k) did.joins
      ∙ others_stay world h k p.number p.place did.given (posted_ask p.number waits.ask) waits.asked (λ same. unlike (sym same ∙ waits.own))))
      (are.each k x at_k));
  asks = set_each (λ k x. x.log.asks ≡ asks_shown k after) clients p.client b (slice_get_within clients p.client a at)
      (did.asks ∙ ap (map (served_at p.place (told_reply (suc (length h)) did.given))) (are.asks p.client a at)
      ∙ map_back (served_at p.place (told_reply (suc (length h)) did.given)) (asks_of p.client h)
      ∙ sym (ap (asks_shown p.client) did.joins))
      (λ k x unlike at_k.
      are.asks k x at_k
      ∙ sym (ap (asks_shown k) did.joins
      ∙ ap reverse (serve_apart k p.number p.place did.given (posted_ask p.number waits.ask) h waits.asked (λ same. unlike (sym same ∙ waits.own)))));
  idle = set_each (λ k x. x.handed ≡ false) clients p.client b (slice_get_within clients p.client a at) (did.same_handed ∙ are.idle p.client a at)
      (λ k x unlike at_k. are.idle k x at_k);
}

-- ---- the run

pub kept_asked : (world : World) (h after : List Event) (client : ℕ) (p : Posting) (clients : List Client) (to by : List (List Posting)) (a b : Client) (q r : List Posting)
    → IsKept world h clients to by → slice_get clients client ≡ Some a → Asked world client p h after a b
    → slice_get to p.number ≡ Some q → slice_get by client ≡ Some r
    → IsKept world after (slice_set clients client b) (slice_set to p.number (q ++ p ∷ [])) (slice_set by client (r ++ p ∷ []))
kept_asked world h after client p clients to by a b q r kept at did at_to at_by =
    let is : p ≡ posting (suc (length h)) did.number did.ask.from.client = did.posted ∙ ap (posting (suc (length h)) did.number) (sym did.own) in
    let number : p.number ≡ did.number = ap (λ (x : Posting). x.number) is in
    let by_own : client ≡ did.ask.from.client = sym did.own in
    record {
      some_servers = kept.some_servers;
      legal = did.legal;
      clients = asked_clients world h after client p clients a b kept.clients at did;
      servers =
          subst (λ g. AreQueues is_to g (world.setup.servers + 1) (slice_set to p.number (q ++ p ∷ []))) (sym did.joins)
          (subst (λ x. AreQueues is_to (event.Ask did.number did.ask ∷ h) (world.setup.servers + 1) (slice_set to p.number (q ++ x ∷ []))) (sym is)
          (asked_queues is_to h (world.setup.servers + 1) p.number did.number did.ask to q kept.servers at_to
          ((Decides-eqb did.number p.number).1 (sym number))
          (λ k unlike. unlike_test did.number k (λ same. unlike (sym same ∙ sym number)))));
      askers =
          subst (λ g. AreQueues is_by g (length world.setup.clients) (slice_set by client (r ++ p ∷ []))) (sym did.joins)
          (subst (λ x. AreQueues is_by (event.Ask did.number did.ask ∷ h) (length world.setup.clients) (slice_set by client (r ++ x ∷ []))) (sym is)
          (asked_queues is_by h (length world.setup.clients) client did.number did.ask by r kept.askers at_by
          ((Decides-eqb did.ask.from.client client).1 did.own)
          (λ k unlike. unlike_test did.ask.from.client k (λ same. unlike (sym same ∙ did.own)))));
    }

pub kept_gave_up : (world : World) (h after : List Event) (client : ℕ) (clients : List Client) (to by : List (List Posting)) (a b : Client)
    → IsKept world h clients to by → slice_get clients client ≡ Some a → HasGivenUp world client h after a b
    → IsKept world after (slice_set clients client b) to by
kept_gave_up world h after client clients to by a b kept at did =
    subst (λ g. IsKept world g (slice_set clients client b) to by) (sym did.same)
    (record { some_servers = kept.some_servers; legal = kept.legal; clients = gave_up_clients world h after client clients a b kept.clients at did; servers = kept.servers; askers = kept.askers })

pub kept_served : (world : World) (h after : List Event) (p : Posting) (clients : List Client) (to by : List (List Posting)) (a b : Client)
    → IsKept world h clients to by → IsWaiting h p → slice_get clients p.client ≡ Some a → HasServed world p h after a b
    → IsKept world after (slice_set clients p.client b) to by
kept_served world h after p clients to by a b kept waits at did = record {
  some_servers = kept.some_servers;
  legal = did.legal;
  clients = served_clients world h after p clients a b kept.legal waits kept.clients at did;
  servers = subst (λ g. AreQueues is_to g (world.setup.servers + 1) to) (sym did.joins) (served_queues is_to h (world.setup.servers + 1) p.number p.place did.given to kept.servers);
  askers = subst (λ g. AreQueues is_by g (length world.setup.clients) by) (sym did.joins) (served_queues is_by h (length world.setup.clients) p.number p.place did.given by kept.askers);
}

pub kept_front_to : (world : World) (h : List Event) (number : ℕ) (clients : List Client) (to by : List (List Posting)) (q rest : List Posting)
    → IsKept world h clients to by → slice_get to number ≡ Some q → IsFrontLeft h q rest → IsKept world h clients (slice_set to number rest) by
kept_front_to world h number clients to by q rest kept at left = record {
  some_servers = kept.some_servers;
  legal = kept.legal;
  clients = kept.clients;
  servers = front_queues is_to h (world.setup.servers + 1) number to q rest kept.servers at left;
  askers = kept.askers;
}

pub kept_front_by : (world : World) (h : List Event) (client : ℕ) (clients : List Client) (to by : List (List Posting)) (q rest : List Posting)
    → IsKept world h clients to by → slice_get by client ≡ Some q → IsFrontLeft h q rest → IsKept world h clients to (slice_set by client rest)
kept_front_by world h client clients to by q rest kept at left = record {
  some_servers = kept.some_servers;
  legal = kept.legal;
  clients = kept.clients;
  servers = kept.servers;
  askers = front_queues is_by h (length world.setup.clients) client by q rest kept.askers at left;
}

-- ---- scenes

abbrev pub scene : List Event → List Client → Scene
scene h clients = record { history = h; gone = gone_of clients }

gone_same : (clients : List Client) (i : ℕ) (a b : Client) → slice_get clients i ≡ Some a → b.gone ≡ a.gone → gone_of (slice_set clients i b) ≡ gone_of clients
gone_same [] i a b at same = absurd (cc)
gone_same (x ∷ clients) zero a b at same = let this : x ≡ a = cc in ap (λ g. g ∷ gone_of clients) (same ∙ ap (λ (y : Client). y.gone) (sym this))
gone_same (x ∷ clients) (suc i) a b at same = ap (λ gs. x.gone ∷ gs) (gone_same clients i a b at same)

set_same : {X : Type 0} (xs : List X) (i : ℕ) (x : X) → slice_get xs i ≡ Some x → slice_set xs i x ≡ xs
set_same [] i x at = absurd (cc)
set_same (y ∷ xs) zero x at = let this : y ≡ x = cc in ap (λ z. z ∷ xs) (sym this)
set_same (y ∷ xs) (suc i) x at = ap (λ zs. y ∷ zs) (set_same xs i x at)

pub gone_at : (h : List Event) (clients : List Client) (client : ℕ) (a : Client) → slice_get clients client ≡ Some a → is_gone (scene h clients) client ≡ a.gone
gone_at h clients client a at = ap is_set (slice_get-map (λ (x : Client). x.gone) clients client ∙ ap (option_map (λ (x : Client). x.gone)) at)

pub state_here : (s : ClientState) (a : Client) → IsClient s a → a.gone ≡ false → a.state ≡ s
state_here s a is here = by a.gone here is
  where
    by : (g : Bool) → g ≡ false → IsStateOf g s a.state → a.state ≡ s
    by true no_more same = absurd (cc)
    by false no_more same = same

wants_same : (world : World) (h : List Event) (clients : List Client) (client : ℕ) (a : Client) → slice_get clients client ≡ Some a
    → IsClient (client_after world client h) a → can_ask world (scene h clients) client ≡ wants_to_ask world.digest a
wants_same world h clients client a at is = ap (λ g. not g && is_ask (next_step (planned world.digest (client_after world client h)))) (gone_at h clients client a at) ∙ by a.gone refl
  where
    by : (g : Bool) → a.gone ≡ g → (not g && is_ask (next_step (planned world.digest (client_after world client h)))) ≡ (not a.gone && is_ask (next_step (planned world.digest a.state)))
    by true gone = rw gone refl
    by false here = rw (state_here (client_after world client h) a is here, here) refl

pub makes_ask : (world : World) (h after : List Event) (client : ℕ) (p : Posting) (clients : List Client) (a b : Client) → slice_get clients client ≡ Some a
    → Asked world client p h after a b → Asks world client (record { history = h; gone = gone_of clients }) (record { history = after; gone = gone_of (slice_set clients client b) })
makes_ask world h after client p clients a b at did = inl (record {
  number = did.number;
  ask = did.ask;
  here = gone_at h clients client a at ∙ did.here;
  own = did.own;
  may = did.may;
  joins = ap₂ (λ g gs. record { history = g; gone = gs }) did.joins (gone_same clients client a b at (did.still_here ∙ sym did.here));
})

pub gives_up : (world : World) (h after : List Event) (client : ℕ) (clients : List Client) (a b : Client) → slice_get clients client ≡ Some a → IsClient (client_after world client h) a
    → HasGivenUp world client h after a b → Asks world client (record { history = h; gone = gone_of clients }) (record { history = after; gone = gone_of (slice_set clients client b) })
gives_up world h after client clients a b at is did = inr (record {
  can = wants_same world h clients client a at is ∙ did.asking;
  between = ap (λ (s : ClientState). s.sent) (sym (state_here (client_after world client h) a is did.here)) ∙ did.between;
  free = ap may_pass (sym (state_here (client_after world client h) a is did.here)) ∙ did.free;
  gone = ap₂ (λ g gs. record { history = g; gone = gs }) did.same
      (map-set (λ (x : Client). x.gone) clients client b ∙ ap (λ g. slice_set (gone_of clients) client g) did.gone);
})

pub has_no_ask : (world : World) (h after : List Event) (client : ℕ) (clients : List Client) (a b : Client) → slice_get clients client ≡ Some a → IsClient (client_after world client h) a
    → HasRested world h after a b → HasNoAsk world client (record { history = h; gone = gone_of clients })
has_no_ask world h after client clients a b at is did = record { idle = wants_same world h clients client a at is ∙ did.idle }

pub rests_same : (world : World) (h after : List Event) (client : ℕ) (clients : List Client) (a b : Client) → slice_get clients client ≡ Some a
    → HasRested world h after a b → record { history = after; gone = gone_of (slice_set clients client b) } ≡ scene h clients
rests_same world h after client clients a b at did =
    ap₂ (λ g gs. record { history = g; gone = gs }) did.same (gone_same clients client a b at (ap (λ (x : Client). x.gone) did.is_client))

pub kept_rested : (world : World) (h after : List Event) (client : ℕ) (clients : List Client) (to by : List (List Posting)) (a b : Client)
    → IsKept world h clients to by → slice_get clients client ≡ Some a → HasRested world h after a b
    → IsKept world after (slice_set clients client b) to by
kept_rested world h after client clients to by a b kept at did =
    subst (λ g. IsKept world g (slice_set clients client b) to by) (sym did.same)
    (subst (λ xs. IsKept world h xs to by) (sym (ap (slice_set clients client) did.is_client ∙ set_same clients client a at)) kept)

pub makes_serve : (world : World) (h after : List Event) (p : Posting) (clients : List Client) (a b : Client) → slice_get clients p.client ≡ Some a
    → HasServed world p h after a b
    → MakesServe world p.number p.place (record { history = h; gone = gone_of clients }) (record { history = after; gone = gone_of (slice_set clients p.client b) })
makes_serve world h after p clients a b at did = record {
  given = did.given;
  may = did.may;
  joins = ap₂ (λ g gs. record { history = g; gone = gs }) did.joins (gone_same clients p.client a b at did.same_gone);
}

pub kept_pushed : (world : World) (h after : List Event) (client : ℕ) (p : Posting) (clients : List Client) (to by : List (List Posting)) (a b : Client) (q r s t : List Posting)
    → IsKept world h clients to by → slice_get clients client ≡ Some a → Asked world client p h after a b
    → slice_get to p.number ≡ Some q → slice_get by client ≡ Some r → s ≡ q ++ p ∷ [] → t ≡ r ++ p ∷ []
    → IsKept world after (slice_set clients client b) (slice_set to p.number s) (slice_set by client t)
kept_pushed world h after client p clients to by a b q r s t kept at did at_to at_by pushed pushed_by =
    subst (λ x. IsKept world after (slice_set clients client b) (slice_set to p.number x) (slice_set by client t)) (sym pushed)
    (subst (λ x. IsKept world after (slice_set clients client b) (slice_set to p.number (q ++ p ∷ [])) (slice_set by client x)) (sym pushed_by)
    (kept_asked world h after client p clients to by a b q r kept at did at_to at_by))

-- ---- parts, and the value of the box that they stand in

-- what the value of the box keeps, the parts keep
pub kept_behind : {R : Type 0} (digest_of : R → List ℕ → Id) (inner boxed : Parts R) → inner ≡ boxed
    → IsKept (world_in digest_of boxed.core) boxed.core.history boxed.clients.items boxed.to_server.items boxed.by_client.items
    → IsKept (world_in digest_of inner.core) inner.core.history inner.clients.items inner.to_server.items inner.by_client.items
kept_behind digest_of inner boxed same kept =
    subst (λ (p : Parts _). IsKept (world_in digest_of p.core) p.core.history p.clients.items p.to_server.items p.by_client.items) (sym same) kept

-- the run that the value of the box is, the parts are
pub seen_behind : {R : Type 0} (inner boxed : Parts R) (run : Playing R) → inner ≡ boxed
    → playing boxed.core (gone_of boxed.clients.items) ≡ run → playing inner.core (gone_of inner.clients.items) ≡ run
seen_behind inner boxed run same seen = ap (λ (p : Parts _). playing p.core (gone_of p.clients.items)) same ∙ seen

-- ---- the same in the words of a run

pub kept_in : (v w : World) (h : List Event) (clients : List Client) (to by : List (List Posting)) → v ≡ w → IsKept w h clients to by → IsKept v h clients to by
kept_in v w h clients to by same kept = subst (λ x. IsKept x h clients to by) (sym same) kept

pub asks_in : {R : Type 0} (digest_of : R → List ℕ → Id) (client : ℕ) (u v : Playing R) (new : Scene) → u ≡ v
    → Asks (world_in digest_of u.core) client (scene_of u) new → Asks (world_in digest_of v.core) client (scene_of v) new
asks_in digest_of client u v new same made = subst (λ x. Asks (world_in digest_of x.core) client (scene_of x) new) same made

pub rests_in : {R : Type 0} (digest_of : R → List ℕ → Id) (client : ℕ) (u v : Playing R) (new : Scene) → u ≡ v
    → HasNoAsk (world_in digest_of u.core) client (scene_of u) → new ≡ scene_of u → HasNoAsk (world_in digest_of v.core) client (scene_of v) × (new ≡ scene_of v)
rests_in digest_of client u v new is idle same = subst (λ x. HasNoAsk (world_in digest_of x.core) client (scene_of x) × (new ≡ scene_of x)) is (idle, same)

pub serves_in : {R : Type 0} (digest_of : R → List ℕ → Id) (number place : ℕ) (u v : Playing R) (new : Scene) → u ≡ v
    → MakesServe (world_in digest_of u.core) number place (scene_of u) new → MakesServe (world_in digest_of v.core) number place (scene_of v) new
serves_in digest_of number place u v new same made = subst (λ x. MakesServe (world_in digest_of x.core) number place (scene_of x) new) same made

pub waits_in : {R : Type 0} (p : Posting) (u v : Playing R) → u ≡ v → IsWaiting v.core.history p → IsWaiting u.core.history p
waits_in p u v same waits = subst (λ x. IsWaiting x.core.history p) (sym same) waits
