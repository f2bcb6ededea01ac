-- How a run begins, and what its calls come to in the end.
use Rattle.std.proofs.Common.{◌≡◌, ℕ, zero, suc, ◌+◌, ◌<◌, ◌≤◌, Bool, true, false, nat_lt, ◌||◌, List, [], ◌∷◌, ◌++◌, length, map, slice_get, Some, refl, sym, ap, ap₂, subst, ◌∙◌, arith, rules, length-append}
use Rattle.std.specs.List.{flat_map}
use Rattle.std.proofs.lemmas.List.{map-append}
use Rattle.std.proofs.lemmas.List.Elements.{All-nil}
use Rattle.std.proofs.lemmas.Option.{slice_get_within}
use Rattle.inf_base.specs.declared.setup.ClientLine.{ClientLine}
use Rattle.inf_duty.specs.ClientState.{ClientState}
use Rattle.inf_duty.specs.Start.{start}
use Rattle.inf_duty.specs.After.{client_after}
use Rattle.inf_duty.specs.Outcome.{results_of}
use Rattle.inf_duty.specs.World.{World}
use Rattle.inf_laws_history.proofs.ByIndex.{got_before, got_pushed}
use Rattle.inf_message.specs.declared.event.Event.{Event}
use Rattle.inf_client.specs.AskLog.{no_asks}
use Rattle.inf_client.specs.Client.{Client, client_with}
use Rattle.inf_sched.specs.Order.{came_to, results_from}
use Rattle.inf_sched.specs.Run.{AreClients, AreEmpty, AreOpening, AreQueues, IsClient, IsKept, IsStateOf, gone_of, results_of_client, unset}
use Rattle.inf_sched.specs.Scene.{has_ended, is_gone, number_in, calls_left, opening}
use Rattle.inf_sched.specs.Waiting.{IsQueue, IsWithin, Posting, is_by, is_to}
use Rattle.inf_sched.proofs.RunFacts.{gone_at, scene, state_here}

-- ---- the beginning

unset_more : (many : ℕ) → unset many ++ false ∷ [] ≡ unset (suc many)
unset_more zero = refl
unset_more (suc many) = ap (λ bs. false ∷ bs) (unset_more many)

push_each : {X : Type 0} (P : ℕ → X → Type 0) (xs : List X) (y : X) → ((k : ℕ) (x : X) → slice_get xs k ≡ Some x → P k x) → P (length xs) y
    → (k : ℕ) (x : X) → slice_get (xs ++ y ∷ []) k ≡ Some x → P k x
push_each P xs y old new k x at = by (nat_lt k (length xs)) refl
  where
    within : k < length (xs ++ y ∷ [])
    within = slice_get_within (xs ++ y ∷ []) k x at

    by : (b : Bool) → nat_lt k (length xs) ≡ b → P k x
    by true below = let so : k < length xs = grind (arith, rules) in old k x (sym (got_before xs y k so) ∙ at)
    by false above =
        let here : k ≡ length xs = let n : k < length (xs ++ y ∷ []) = within in grind (arith, rules, length-append) in
        let got : Some y ≡ Some x = sym (got_pushed xs y) ∙ subst (λ i. slice_get (xs ++ y ∷ []) i ≡ Some x) here at in
        let same : y ≡ x = cc in
        subst (λ i. P i x) (sym here) (subst (λ z. P (length xs) z) same new)

pub opening_none : (world : World) → AreOpening world 0 []
opening_none world = record { count = refl; each = λ client a at. absurd (cc); gone = refl }

pub opening_more : (world : World) (many : ℕ) (clients all : List Client) (next : Client) → AreOpening world many clients → next ≡ client_with (start world many) false no_asks false
    → all ≡ clients ++ next ∷ [] → AreOpening world (many + 1) all
opening_more world many clients all next are is pushed =
    subst (λ xs. AreOpening world (many + 1) xs) (sym pushed) (record {
      count = omega (arith, length-append clients (next ∷ []), are.count);
      each = push_each (λ k x. x ≡ client_with (start world k) false no_asks false) clients next are.each (is ∙ ap (λ n. client_with (start world n) false no_asks false) (sym are.count));
      gone = map-append (λ (a : Client). a.gone) clients (next ∷ [])
          ∙ ap₂ (λ gs (a : Client). gs ++ a.gone ∷ []) are.gone is ∙ unset_more many ∙ (let e : suc many ≡ many + 1 = omega arith in ap unset e);
    })

pub empty_none : AreEmpty 0 []
empty_none = record { count = refl; each = λ index queue at. absurd (cc) }

pub empty_more : (many : ℕ) (queues all : List (List Posting)) (next : List Posting) → AreEmpty many queues → next ≡ [] → all ≡ queues ++ next ∷ [] → AreEmpty (many + 1) all
empty_more many queues all next are is pushed =
    subst (λ xs. AreEmpty (many + 1) xs) (sym pushed) (record {
      count = omega (arith, length-append queues (next ∷ []), are.count);
      each = push_each (λ k q. q ≡ []) queues next are.each is;
    })

empty_queues : (fits : ℕ → Posting → Bool) (many : ℕ) (queues : List (List Posting)) → AreEmpty many queues → AreQueues fits [] many queues
empty_queues fits many queues are = record {
  count = are.count;
  each = λ index queue at. subst (λ q. IsQueue (fits index) [] q) (sym (are.each index queue at)) (record { finds = λ also. refl; within = All-nil (IsWithin []) });
}

pub kept_opening : (world : World) (h : List Event) (clients : List Client) (to by : List (List Posting)) → 1 ≤ world.setup.servers → h ≡ [] → AreOpening world (length world.setup.clients) clients
    → AreEmpty (world.setup.servers + 1) to → AreEmpty (length world.setup.clients) by → IsKept world h clients to by
kept_opening world h clients to by some none are queues askers =
    subst (λ g. IsKept world g clients to by) (sym none) (record {
      some_servers = some;
      legal = tt;
      clients = record {
        count = are.count;
        each = λ client a at. subst (λ x. IsClient (start world client) x) (sym (are.each client a at)) refl;
        asks = λ client a at. ap (λ (x : Client). x.log.asks) (are.each client a at);
        idle = λ client a at. ap (λ (x : Client). x.handed) (are.each client a at);
      };
      servers = empty_queues is_to (world.setup.servers + 1) to queues;
      askers = empty_queues is_by (length world.setup.clients) by askers;
    })

unset_lines : (lines : List ClientLine) → unset (length lines) ≡ map (λ (line : ClientLine). false) lines
unset_lines [] = refl
unset_lines (line ∷ lines) = ap (λ bs. false ∷ bs) (unset_lines lines)

pub opening_scene : (world : World) (h : List Event) (clients : List Client) → h ≡ [] → AreOpening world (length world.setup.clients) clients → record { history = h; gone = gone_of clients } ≡ opening world
opening_scene world h clients none are = ap₂ (λ g gs. record { history = g; gone = gs }) none (are.gone ∙ unset_lines world.setup.clients)

-- ---- a client by its number

pub ended_same : (world : World) (h : List Event) (clients : List Client) (client number : ℕ) (a : Client) → slice_get clients client ≡ Some a
    → IsClient (client_after world client h) a
    → (a.gone || nat_lt number a.state.number) ≡ has_ended world client number (record { history = h; gone = gone_of clients })
ended_same world h clients client number a at is =
    by a.gone refl ∙ ap (λ g. g || nat_lt number (client_after world client h).number) (sym (gone_at h clients client a at))
  where
    by : (g : Bool) → a.gone ≡ g → (a.gone || nat_lt number a.state.number) ≡ (a.gone || nat_lt number (client_after world client h).number)
    by true gone = rw gone refl
    by false here = ap (λ (s : ClientState). a.gone || nat_lt number s.number) (state_here (client_after world client h) a is here)

pub gone_same_as : (h : List Event) (clients : List Client) (client : ℕ) (a : Client) → slice_get clients client ≡ Some a → a.gone ≡ is_gone (record { history = h; gone = gone_of clients }) client
gone_same_as h clients client a at = sym (gone_at h clients client a at)

here_at : (h : List Event) (clients : List Client) (client : ℕ) (a : Client) → slice_get clients client ≡ Some a → is_gone (scene h clients) client ≡ false → a.gone ≡ false
here_at h clients client a at here = sym (gone_at h clients client a at) ∙ here

pub number_same : (world : World) (h : List Event) (clients : List Client) (client : ℕ) (a : Client) → slice_get clients client ≡ Some a
    → IsClient (client_after world client h) a → is_gone (record { history = h; gone = gone_of clients }) client ≡ false
    → a.state.number ≡ number_in world (record { history = h; gone = gone_of clients }) client
number_same world h clients client a at is here =
    ap (λ (s : ClientState). s.number) (state_here (client_after world client h) a is (here_at h clients client a at here))

pub left_same : (world : World) (h : List Event) (clients : List Client) (client : ℕ) (a : Client) → slice_get clients client ≡ Some a
    → IsClient (client_after world client h) a → is_gone (record { history = h; gone = gone_of clients }) client ≡ false
    → length a.state.left ≡ calls_left world (record { history = h; gone = gone_of clients }) client
left_same world h clients client a at is here =
    ap (λ (s : ClientState). length s.left) (state_here (client_after world client h) a is (here_at h clients client a at here))

-- ---- the end

came_same : (s : ClientState) (a : Client) → IsClient s a → results_of_client a ≡ came_to a.gone s
came_same s a is = by a.gone is
  where
    by : (g : Bool) → IsStateOf g s a.state → results_of a.state ≡ came_to g s
    by true given = ap results_of given.all
    by false same = ap results_of same

-- the clients from this one on
pub record AreFrom (world : World) (h : List Event) (whole : List Client) (client : ℕ) (clients : List Client) (lines : List ClientLine) : Type 0 where
  pub count : length clients ≡ length lines
  pub there : (k : ℕ) → slice_get clients k ≡ slice_get whole (client + k)
  pub each : (k : ℕ) (a : Client) → slice_get whole k ≡ Some a → IsClient (client_after world k h) a

results_from_same : (world : World) (h : List Event) (whole : List Client) (client : ℕ) (clients : List Client) (lines : List ClientLine) → AreFrom world h whole client clients lines
    → flat_map results_of_client clients ≡ results_from world (scene h whole) client lines
results_from_same world h whole client [] [] are = refl
results_from_same world h whole client [] (line ∷ lines) are = absurd (omega (arith, are.count))
results_from_same world h whole client (a ∷ clients) [] are = absurd (omega (arith, are.count))
results_from_same world h whole client (a ∷ clients) (line ∷ lines) are =
    let at : slice_get whole client ≡ Some a = (let e : client ≡ client + 0 = omega arith in ap (slice_get whole) e) ∙ sym (are.there 0) in
    let first : results_of_client a ≡ came_to (is_gone (scene h whole) client) (client_after world client h) =
    came_same (client_after world client h) a (are.each client a at) ∙ ap (λ g. came_to g (client_after world client h)) (sym (gone_at h whole client a at)) in
    ap₂ (λ xs ys. xs ++ ys) first (results_from_same world h whole (client + 1) clients lines (record {
      count = omega (arith, are.count);
      there = λ k. are.there (suc k) ∙ (let e : client + suc k ≡ client + 1 + k = omega arith in ap (slice_get whole) e);
      each = are.each;
    }))

pub results_same : (world : World) (h : List Event) (clients : List Client) → AreClients world h clients
    → flat_map results_of_client clients ≡ results_from world (record { history = h; gone = gone_of clients }) 0 world.setup.clients
results_same world h clients are =
    results_from_same world h clients 0 clients world.setup.clients (record { count = are.count; there = λ k. (let e : k ≡ 0 + k = omega arith in ap (slice_get clients) e); each = are.each })
