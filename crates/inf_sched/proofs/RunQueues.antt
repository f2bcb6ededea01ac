-- What the queues of a run keep as Asks join and are served, and what is found in them.
use Rattle.std.proofs.Common.{◌≡◌, ◌≢◌, ℕ, suc, ◌≤◌, ◌<◌, Bool, true, false, cond, eqb, not, ◌&&◌, ◌||◌, List, [], ◌∷◌, ◌++◌, length, slice_get, slice_set, Option, None, Some, IfSome, All, get_or, refl, sym, ap, ap₂, subst, ◌∙◌, arith}
use Rattle.std.proofs.lemmas.Bool.Decides.{Decides-eqb}
use Rattle.std.specs.List.{find}
use Rattle.std.specs.Option.{option_or}
use Rattle.std.proofs.lemmas.List.{length-set}
use Rattle.std.proofs.lemmas.List.Elements.{All-head, All-nil, All-push, All-tail, All-weaker}
use Rattle.std.proofs.lemmas.List.Folds.{find-append}
use Rattle.std.proofs.lemmas.Option.{slice_get-get_or, slice_get_within}
use Rattle.inf_core.proofs.Posted.{posted_known}
use Rattle.inf_laws_history.specs.Legal.{Legal}
use Rattle.inf_duty.specs.World.{World}
use Rattle.inf_laws_history.proofs.ByIndex.{got_apart, got_set}
use Rattle.inf_message.specs.declared.ask.Ask.{Ask}
use Rattle.inf_message.specs.declared.event.Event.{Event}
use Rattle.inf_message.specs.declared.event.Event.TheVariants as event
use Rattle.inf_message.specs.declared.reply.Reply.{Reply}
use Rattle.inf_message.specs.History.{Posted, asked_at, is_served, posted_ask}
use Rattle.inf_message.proofs.HistoryLaws.{asked_newest, asked_stays, asked_within}
use Rattle.inf_client.specs.Client.{Client}
use Rattle.inf_sched.specs.Run.{AreQueues, Asked}
use Rattle.inf_sched.specs.Waiting.{IsFrontLeft, IsQueue, IsWaiting, IsWithin, Posting, is_by, is_for, is_open, is_to, oldest, posting, postings}

-- ---- a queue

pub find_same : (f g : Posting → Bool) (ps : List Posting) → ((p : Posting) → f p ≡ g p) → find f ps ≡ find g ps
find_same f g [] same = refl
find_same f g (p ∷ ps) same = ap₂ (λ b rest. cond b (Some p) rest) (same p) (find_same f g ps same)

later_within : (e : Event) (h : List Event) (ps : List Posting) → All (IsWithin h) ps → All (IsWithin (e ∷ h)) ps
later_within e h ps within =
    All-weaker (IsWithin h) (IsWithin (e ∷ h)) (λ p is. record { counted = is.counted; within = let so : p.place ≤ length h = is.within in omega arith }) ps within

or_none : {A : Type 0} (o : Option A) → option_or o None ≡ o
or_none None = refl
or_none (Some x) = refl

find_one : (test : Posting → Bool) (p : Posting) (b : Bool) → test p ≡ b → find test (p ∷ []) ≡ cond b (Some p) None
find_one test p b is = rw is refl

and_false : (b : Bool) → (b && false) ≡ false
and_false true = refl
and_false false = refl

-- an Ask that does not fit leaves the queue
ask_skips : (fits : Posting → Bool) (h : List Event) (number : ℕ) (ask : Ask) (queue : List Posting) → IsQueue fits h queue
    → fits (posting (suc (length h)) number ask.from.client) ≡ false → IsQueue fits (event.Ask number ask ∷ h) queue
ask_skips fits h number ask queue is other = record { finds = λ also. finds also; within = later_within (event.Ask number ask) h queue is.within }
  where
    new : Posting
    new = posting (suc (length h)) number ask.from.client

    finds : (also : Posting → Bool) → find (λ p. also p && is_open h p) queue ≡ find (λ p. also p && (fits p && is_open h p)) (postings h ++ new ∷ [])
    finds also =
        is.finds also
        ∙ sym (or_none (find (λ p. also p && (fits p && is_open h p)) (postings h)))
        ∙ ap (option_or (find (λ p. also p && (fits p && is_open h p)) (postings h)))
        (sym (find_one (λ p. also p && (fits p && is_open h p)) new false (ap (λ b. also new && (b && is_open h new)) other ∙ and_false (also new))))
        ∙ sym (find-append (λ p. also p && (fits p && is_open h p)) (postings h) (new ∷ []))

-- one that fits joins it
ask_joins : (fits : Posting → Bool) (h : List Event) (number : ℕ) (ask : Ask) (queue : List Posting) → IsQueue fits h queue
    → fits (posting (suc (length h)) number ask.from.client) ≡ true
    → IsQueue fits (event.Ask number ask ∷ h) (queue ++ posting (suc (length h)) number ask.from.client ∷ [])
ask_joins fits h number ask queue is fit = record {
  finds = λ also. finds also;
  within = All-push (IsWithin (event.Ask number ask ∷ h)) queue new (later_within (event.Ask number ask) h queue is.within) (record { counted = omega arith; within = omega arith });
}
  where
    new : Posting
    new = posting (suc (length h)) number ask.from.client

    finds : (also : Posting → Bool) → find (λ p. also p && is_open h p) (queue ++ new ∷ []) ≡ find (λ p. also p && (fits p && is_open h p)) (postings h ++ new ∷ [])
    finds also =
        find-append (λ p. also p && is_open h p) queue (new ∷ [])
        ∙ ap₂ option_or (is.finds also)
        (find_one (λ p. also p && is_open h p) new (also new && is_open h new) refl
        ∙ sym (find_one (λ p. also p && (fits p && is_open h p)) new (also new && is_open h new) (ap (λ b. also new && (b && is_open h new)) fit)))
        ∙ sym (find-append (λ p. also p && (fits p && is_open h p)) (postings h) (new ∷ []))

shut : (a o s : Bool) → (a && not (s || o)) ≡ ((a && not s) && not o)
shut true o true = refl
shut true o false = refl
shut false o s = refl

shut_fitting : (a f o s : Bool) → (a && (f && not (s || o))) ≡ ((a && not s) && (f && not o))
shut_fitting true true o true = refl
shut_fitting true true o false = refl
shut_fitting true false o true = refl
shut_fitting true false o false = refl
shut_fitting false f o s = refl

-- the queues stay as Asks are served
serve_keeps : (fits : Posting → Bool) (h : List Event) (number place : ℕ) (given : Reply) (queue : List Posting) → IsQueue fits h queue
    → IsQueue fits (event.Serve number place given ∷ h) queue
serve_keeps fits h number place given queue is = record {
  finds = λ also.
      find_same _ (λ p. (also p && not (eqb place p.place)) && is_open h p) queue (λ p. shut (also p) (is_served p.place h) (eqb place p.place))
      ∙ is.finds (λ p. also p && not (eqb place p.place))
      ∙ find_same (λ p. (also p && not (eqb place p.place)) && (fits p && is_open h p)) _ (postings h)
      (λ p. sym (shut_fitting (also p) (fits p) (is_served p.place h) (eqb place p.place)));
  within = later_within (event.Serve number place given) h queue is.within;
}

front_keeps : (fits : Posting → Bool) (h : List Event) (queue rest : List Posting) → IsQueue fits h queue → IsFrontLeft h queue rest → IsQueue fits h rest
front_keeps fits h queue rest is left = record { finds = λ also. left.finds also ∙ is.finds also; within = left.within }

-- ---- all queues

pub unlike_test : (a b : ℕ) → a ≢ b → eqb a b ≡ false
unlike_test a b unlike = by (eqb a b) refl
  where
    by : (t : Bool) → eqb a b ≡ t → t ≡ false
    by true same = absurd (unlike ((Decides-eqb a b).0 same))
    by false same = refl

pub set_each : {X : Type 0} (P : ℕ → X → Type 0) (xs : List X) (index : ℕ) (y : X) → index < length xs → P index y
    → ((k : ℕ) (x : X) → k ≢ index → slice_get xs k ≡ Some x → P k x)
    → (k : ℕ) (x : X) → slice_get (slice_set xs index y) k ≡ Some x → P k x
set_each P xs index y there new old k x at = by (eqb k index) refl
  where
    by : (b : Bool) → eqb k index ≡ b → P k x
    by true same =
        let here : k ≡ index = (Decides-eqb k index).0 same in
        let got : Some y ≡ Some x = sym (got_set xs index y there) ∙ subst (λ i. slice_get (slice_set xs index y) i ≡ Some x) here at in
        let is : y ≡ x = cc in
        subst (λ i. P i x) (sym here) (subst (λ z. P index z) is new)
    by false unlike =
        let apart : k ≢ index = λ same. absurd (differs k index same unlike) in
        old k x apart (sym (got_apart xs index k y apart) ∙ at)
      where
        differs : (a b : ℕ) → a ≡ b → eqb a b ≡ false → ⊥
        differs a b same no_more = let yes_more : eqb a b ≡ true = (Decides-eqb a b).1 same in absurd (cc)

pub asked_queues : (fits : ℕ → Posting → Bool) (h : List Event) (many index number : ℕ) (ask : Ask) (queues : List (List Posting)) (queue : List Posting)
    → AreQueues fits h many queues → slice_get queues index ≡ Some queue
    → fits index (posting (suc (length h)) number ask.from.client) ≡ true
    → ((k : ℕ) → k ≢ index → fits k (posting (suc (length h)) number ask.from.client) ≡ false)
    → AreQueues fits (event.Ask number ask ∷ h) many (slice_set queues index (queue ++ posting (suc (length h)) number ask.from.client ∷ []))
asked_queues fits h many index number ask queues queue are at fit others = record {
  count = length-set queues index (queue ++ posting (suc (length h)) number ask.from.client ∷ []) ∙ are.count;
  each = set_each (λ k q. IsQueue (fits k) (event.Ask number ask ∷ h) q) queues index (queue ++ posting (suc (length h)) number ask.from.client ∷ [])
      (slice_get_within queues index queue at)
      (ask_joins (fits index) h number ask queue (are.each index queue at) fit)
      (λ k q unlike at_k. ask_skips (fits k) h number ask q (are.each k q at_k) (others k unlike));
}

pub served_queues : (fits : ℕ → Posting → Bool) (h : List Event) (many number place : ℕ) (given : Reply) (queues : List (List Posting))
    → AreQueues fits h many queues → AreQueues fits (event.Serve number place given ∷ h) many queues
served_queues fits h many number place given queues are = record {
  count = are.count;
  each = λ k q at. serve_keeps (fits k) h number place given q (are.each k q at);
}

pub front_queues : (fits : ℕ → Posting → Bool) (h : List Event) (many index : ℕ) (queues : List (List Posting)) (queue rest : List Posting)
    → AreQueues fits h many queues → slice_get queues index ≡ Some queue → IsFrontLeft h queue rest → AreQueues fits h many (slice_set queues index rest)
front_queues fits h many index queues queue rest are at left = record {
  count = length-set queues index rest ∙ are.count;
  each = set_each (λ k q. IsQueue (fits k) h q) queues index rest (slice_get_within queues index queue at)
      (front_keeps (fits index) h queue rest (are.each index queue at) left)
      (λ k q unlike at_k. are.each k q at_k);
}

-- ---- what is found

record IsPostedBy (h : List Event) (p : Posting) : Type 0 where
  ask : Ask
  made : asked_at p.place h ≡ Some (posted_ask p.number ask)
  own : ask.from.client ≡ p.client

stays_posted : (e : Event) (h : List Event) (p : Posting) → IsPostedBy h p → IsPostedBy (e ∷ h) p
stays_posted e h p is = record {
  ask = is.ask;
  made = asked_stays p.place e h (asked_within p.place (posted_ask p.number is.ask) h is.made).within ∙ is.made;
  own = is.own;
}

are_posted : (h : List Event) → All (IsPostedBy h) (postings h)
are_posted [] = All-nil (IsPostedBy [])
are_posted (event.Ask number ask ∷ h) =
    All-push (IsPostedBy (event.Ask number ask ∷ h)) (postings h) (posting (suc (length h)) number ask.from.client)
    (All-weaker (IsPostedBy h) (IsPostedBy (event.Ask number ask ∷ h)) (λ p. stays_posted (event.Ask number ask) h p) (postings h) (are_posted h))
    (record { ask = ask; made = asked_newest number ask h; own = refl })
are_posted (event.Serve number at given ∷ h) =
    All-weaker (IsPostedBy h) (IsPostedBy (event.Serve number at given ∷ h)) (λ p. stays_posted (event.Serve number at given) h p) (postings h) (are_posted h)

record IsFound (P : Posting → Type 0) (test : Posting → Bool) (p : Posting) : Type 0 where
  holds : P p
  passes : test p ≡ true

found : (P : Posting → Type 0) (test : Posting → Bool) (ps : List Posting) (p : Posting) → All P ps → find test ps ≡ Some p → IsFound P test p
found P test [] p all is = absurd (cc)
found P test (q ∷ ps) p all is = by (λ e. found P test ps p (All-tail P q ps all) e) (test q) refl is
  where
    by : (find test ps ≡ Some p → IsFound P test p) → (b : Bool) → test q ≡ b → cond b (Some q) (find test ps) ≡ Some p → IsFound P test p
    by later true passes e = let same : q ≡ p = cc in subst (IsFound P test) same (record { holds = All-head P q ps all; passes = passes })
    by later false passes e = later e

open_of : (a b : Bool) → (a && not b) ≡ true → b ≡ false
open_of true true e = absurd (cc)
open_of true false e = refl
open_of false b e = absurd (cc)

-- the oldest waiting Ask waits
pub waiting_found : (fits : Posting → Bool) (h : List Event) (p : Posting) → oldest fits h ≡ Some p → IsWaiting h p
waiting_found fits h p is =
    let it : IsFound (IsPostedBy h) (λ q. fits q && is_open h q) p = found (IsPostedBy h) (λ q. fits q && is_open h q) (postings h) p (are_posted h) is in
    record { ask = it.holds.ask; asked = it.holds.made; own = it.holds.own; open_yet = open_of (fits p) (is_served p.place h) it.passes }

asked_client : (world : World) (place : ℕ) (posted : Posted) (h : List Event) → Legal world h → asked_at place h ≡ Some posted → posted.ask.from.client < length world.setup.clients
asked_client world place posted [] legal is = absurd (cc)
asked_client world place posted (event.Serve number at given ∷ h) legal is = asked_client world place posted h legal.0 is
asked_client world place posted (event.Ask number ask ∷ h) legal is =
    by (λ there. asked_client world place posted h legal.0 there) (eqb place (suc (length h))) is
  where
    by : (asked_at place h ≡ Some posted → posted.ask.from.client < length world.setup.clients) → (b : Bool)
        → cond b (Some (posted_ask number ask)) (asked_at place h) ≡ Some posted → posted.ask.from.client < length world.setup.clients
    by before true here = let this : posted_ask number ask ≡ posted = cc in subst (λ (q : Posted). q.ask.from.client < length world.setup.clients) this legal.1.client
    by before false there = before there

pub waiting_client : (world : World) (h : List Event) (p : Posting) → Legal world h → IsWaiting h p → p.client < length world.setup.clients
waiting_client world h p legal waits =
    subst (λ c. c < length world.setup.clients) waits.own (asked_client world p.place (posted_ask p.number waits.ask) h legal waits.asked)

pub asked_server : (world : World) (h after : List Event) (client : ℕ) (p : Posting) (a b : Client) → 1 ≤ world.setup.servers → Asked world client p h after a b → p.number < world.setup.servers
asked_server world h after client p a b some did =
    let number : did.number ≡ p.number = ap (λ (x : Posting). x.number) (sym did.posted) in
    subst (λ n. n < world.setup.servers) number
    ((posted_known world (suc (length h)) (posted_ask did.number did.ask) after did.legal
    (ap (asked_at (suc (length h))) did.joins ∙ asked_newest did.number did.ask h)).there some)

pub oldest_to_is : (h : List Event) (number : ℕ) (queue : List Posting) → IsQueue (is_to number) h queue → find (is_open h) queue ≡ oldest (is_to number) h
oldest_to_is h number queue is = is.finds (λ p. true)

pub oldest_by_is : (h : List Event) (client : ℕ) (queue : List Posting) → IsQueue (is_by client) h queue → find (is_open h) queue ≡ oldest (is_by client) h
oldest_by_is h client queue is = is.finds (λ p. true)

both : (a b c : Bool) → (a && (b && c)) ≡ ((a && b) && c)
both true b c = refl
both false b c = refl

pub oldest_of_is : (h : List Event) (number client : ℕ) (queue : List Posting) → IsQueue (is_by client) h queue
    → find (λ p. is_to number p && is_open h p) queue ≡ oldest (is_for number (Some client)) h
oldest_of_is h number client queue is =
    is.finds (is_to number) ∙ find_same _ _ (postings h) (λ p. both (is_to number p) (is_by client p) (is_open h p))

pub got_there : {X : Type 0} (xs : List X) (i : ℕ) (got : X) → got ≡ get_or xs i got → i < length xs → slice_get xs i ≡ Some got
got_there xs i got is within = slice_get-get_or xs i got within ∙ ap Some (sym is)

pub if_waiting : (fits : Posting → Bool) (h : List Event) (o : Option Posting) → o ≡ oldest fits h → IfSome o (λ p. IsWaiting h p)
if_waiting fits h None is = tt
if_waiting fits h (Some p) is = waiting_found fits h p (sym is)
