-- What a step of a client does, case by case, and what is kept true of it.
use Rattle.std.proofs.Common.{◌≡◌, ◌≢◌, ℕ, zero, suc, ◌+◌, ◌-◌, ◌<◌, ◌≤◌, Bool, true, false, List, [], ◌∷◌, ◌++◌, length, map, drop, slice_get, Option, Some, None, refl, sym, ap, subst, ◌∙◌, inl, inr, arith, length-append}
use Rattle.std.proofs.lemmas.List.{drop-drop, length-drop}
use Rattle.std.proofs.lemmas.Option.{slice_get_within}
use Rattle.inf_base.specs.declared.id.Id.{Id}
use Rattle.inf_base.specs.declared.call.Call.{Call}
use Rattle.inf_base.specs.declared.setup.ClientLine.{ClientLine}
use Rattle.inf_client.specs.AskLog.{AskLog, asked_log, no_asks}
use Rattle.inf_client.specs.Client.{Client, AsksNext, IsAtRest, Rests, Steps, client_with, asks_left, group_asks, ready_in}
use Rattle.inf_client.specs.Group.{IsKept, IsReadied, in_outbox, posted_of}
use Rattle.inf_client.specs.Planned.{planned, planned_from}
use Rattle.inf_client.specs.Room.{room_between, room_in, room_within}
use Rattle.inf_client.proofs.GroupFacts.{asks_length, from_is, posted_at, sends}
use Rattle.inf_duty.specs.ClientStep.{IsQuiet, is_ask, next_as}
use Rattle.inf_duty.specs.Duty.{asks, begun, has_ask, next_in, next_of, next_step}
use Rattle.inf_duty.specs.Messages.{is_winding, post_of}
use Rattle.inf_duty.specs.Outcome.{all_given_up, may_pass}
use Rattle.inf_duty.specs.Start.{start, starting}
use Rattle.inf_duty.specs.World.{World}
use Rattle.inf_duty.specs.declared.client_step.ClientStep.{ClientStep}
use Rattle.inf_duty.specs.declared.client_step.ClientStep.TheVariants as step
use Rattle.inf_duty.specs.ClientState.{ClientState, call_ref, placed}
use Rattle.inf_duty.specs.Group.{composed, group}
use Rattle.inf_message.specs.Sent.{Sent}
use Rattle.inf_message.specs.declared.ask.Ask.{Ask}
use Rattle.inf_message.specs.declared.step.Message.{Message}
use Rattle.inf_message.specs.History.{Posted, posted_ask}

planned_between : (digest : List ℕ → Id) (sent : List Sent) (s : ClientState) → sent ≡ [] → planned_from digest sent s ≡ composed digest s
planned_between digest [] s between = refl
planned_between digest (x ∷ sent) s between = absurd (cc)

planned_inside : (digest : List ℕ → Id) (sent : List Sent) (s : ClientState) → sent ≢ [] → planned_from digest sent s ≡ s
planned_inside digest [] s inside = absurd (inside refl)
planned_inside digest (x ∷ sent) s inside = refl

rests : (digest : List ℕ → Id) (old new : Client) (told : ClientStep) → Rests digest old new → IsQuiet told → next_step (planned digest new.state) ≡ next_as told → Steps digest old told new
rests digest old new (step.Ask number ask) how quiet next = absurd quiet
rests digest old new step.Waiting how quiet next = (how, next)
rests digest old new step.Finished how quiet next = (how, next)

no_ask : (told : ClientStep) → IsQuiet told → is_ask (next_as told) ≡ false
no_ask (step.Ask number ask) quiet = absurd quiet
no_ask step.Waiting quiet = refl
no_ask step.Finished quiet = refl

pub rests_gone : (digest : List ℕ → Id) (state : ClientState) (log : AskLog) (told : ClientStep) → state.sent ≡ [] → IsQuiet told → next_step (composed digest state) ≡ next_as told
    → Steps digest (client_with state true log false) told (client_with state true log false)
rests_gone digest state log told between quiet next =
    rests digest (client_with state true log false) (client_with state true log false) told (inl (record { idle = refl; same = refl })) quiet
    (ap next_step (planned_between digest state.sent state between) ∙ next)

idle : (digest : List ℕ → Id) (state : ClientState) (log : AskLog) (told : ClientStep) → IsQuiet told → next_step (planned digest state) ≡ next_as told
    → Steps digest (client_with state false log false) told (client_with state false log false)
idle digest state log told quiet next =
    rests digest (client_with state false log false) (client_with state false log false) told
    (inl (record { idle = ap is_ask next ∙ no_ask told quiet; same = refl })) quiet next

pub rests_inside : (digest : List ℕ → Id) (state : ClientState) (log : AskLog) (told : ClientStep) → state.sent ≢ [] → IsQuiet told → next_step state ≡ next_as told
    → Steps digest (client_with state false log false) told (client_with state false log false)
rests_inside digest state log told inside quiet next =
    idle digest state log told quiet (ap next_step (planned_inside digest state.sent state inside) ∙ next)

pub rests_askless : (digest : List ℕ → Id) (state : ClientState) (log : AskLog) (told : ClientStep) → state.sent ≡ [] → IsQuiet told → next_step (composed digest state) ≡ next_as told
    → Steps digest (client_with state false log false) told (client_with state false log false)
rests_askless digest state log told between quiet next =
    idle digest state log told quiet (ap next_step (planned_between digest state.sent state between) ∙ next)

pub rests_given_up : (digest : List ℕ → Id) (state now : ClientState) (log new : AskLog) (told : ClientStep) → state.sent ≡ [] → is_ask (next_step (composed digest state)) ≡ true
    → may_pass state ≡ true → now ≡ all_given_up state.left state → now.sent ≡ [] → new ≡ log → IsQuiet told → next_step (composed digest now) ≡ next_as told
    → Steps digest (client_with state false log false) told (client_with now true new false)
rests_given_up digest state now log new told between asking free all stays same quiet next =
    rests digest (client_with state false log false) (client_with now true new false) told
    (inr (record {
      asking = ap (λ s. is_ask (next_step s)) (planned_between digest state.sent state between) ∙ asking;
      between = between;
      free = free;
      state = all;
      gone = refl;
      asks = ap (λ (l : AskLog). l.asks) same;
      handed = refl;
    })) quiet
    (ap next_step (planned_between digest now.sent now stays) ∙ next)

-- ---- before the first call

pub kept_start : (world : World) (client : ℕ) (s : ClientState) (log : AskLog) (outbox : List (ℕ × Ask)) → s ≡ start world client → log ≡ no_asks
    → outbox ≡ [] → IsKept s false log false outbox
kept_start world client s log outbox begins none empty =
    subst (λ (t : ClientState). IsKept t false log false outbox) (sym begins)
    (subst (λ (l : AskLog). IsKept (start world client) false l false outbox) (sym none)
    (subst (λ (posts : List (ℕ × Ask)). IsKept (start world client) false no_asks false posts) (sym empty)
    (by (slice_get world.setup.clients client))))
  where
    by : (line : Option ClientLine) → IsKept (starting world client line) false no_asks false []
    by None = record {
      at_rest = tt;
      first = λ handed. absurd (cc);
      here = λ handed. absurd (cc);
      calls = λ some. absurd (omega arith);
      posts = refl;
      room = omega arith;
    }
    by (Some line) = record {
      at_rest = tt;
      first = λ handed. absurd (cc);
      here = λ handed. absurd (cc);
      calls = λ some. absurd (omega arith);
      posts = refl;
      room = omega arith;
    }

-- ---- the asks that are left

-- an ask that is left, by its message
record LeftAt {A B : Type 0} (f : A → B) (xs : List A) (n : ℕ) (first : B) : Type 0 where
  pub x : A
  pub at : slice_get xs n ≡ Some x
  pub is : f x ≡ first

left_at : {A B : Type 0} (f : A → B) (xs : List A) (n : ℕ) (first : B) (others : List B) → drop n (map f xs) ≡ first ∷ others → LeftAt f xs n first
left_at f [] zero first others is = absurd (cc)
left_at f [] (suc n) first others is = absurd (cc)
left_at f (x ∷ xs) zero first others is = record { x = x; at = refl; is = cc }
left_at f (x ∷ xs) (suc n) first others is =
    let later = left_at f xs n first others is in
    record { x = later.x; at = later.at; is = later.is }

inside_ready : (sent : List Sent) (s : ClientState) (first : Posted) (others : List Posted) → ready_in false sent s ≡ first ∷ others
    → (sent ≢ []) × (ready_in false sent s ≡ asks_left s)
inside_ready [] s first others is = absurd (cc)
inside_ready (x ∷ sent) s first others is = ((λ none. absurd (cc)), refl)

pub inside_room : (sent : List Sent) (s : ClientState) → sent ≢ [] → room_in false sent s ≡ room_within s.stage
inside_room [] s inside = absurd (inside refl)
inside_room (x ∷ sent) s inside = refl

pub ready_inside : (sent : List Sent) (s : ClientState) → sent ≢ [] → ready_in false sent s ≡ asks_left s
ready_inside [] s inside = absurd (inside refl)
ready_inside (x ∷ sent) s inside = refl

begun_inside : (digest : List ℕ → Id) (ask : Ask) (sent : List Sent) (s : ClientState) → sent ≢ [] → begun digest ask sent s ≡ s
begun_inside digest ask [] s inside = absurd (inside refl)
begun_inside digest ask (x ∷ sent) s inside = refl

next_at : (s : ClientState) (left : List Call) (message : Message) → 0 < length left → slice_get (group s.who s.stage) (length s.sent) ≡ Some message
    → next_in s left ≡ next_of s (Some message)
next_at s [] message some at = absurd (omega arith)
next_at s (call ∷ left) message some at = ap (next_of s) at

left_some : (s : ClientState) (left : List Call) (number : ℕ) (ask : Ask) → next_in s left ≡ asks number ask → 0 < length left
left_some s [] number ask is = absurd (cc)
left_some s (call ∷ left) number ask is = omega arith

-- the next ask of a group that is under way
module _ (s : ClientState) (log : AskLog) (outbox others : List (ℕ × Ask)) (number : ℕ) (ask : Ask) (kept : IsKept s false log false outbox)
    (inside : s.sent ≢ []) (next : next_step s ≡ asks number ask) (first : slice_get (asks_left s) 0 ≡ Some (posted_ask number ask)) where
  all_left : ready_in false s.sent s ≡ asks_left s
  all_left = ready_inside s.sent s inside

  asks_within : (digest : List ℕ → Id) → AsksNext digest number ask (client_with s false log false) (client_with s false log true)
  asks_within digest = record {
    here = refl;
    duty = ap next_step (begun_inside digest ask s.sent s inside) ∙ next;
    own = ap (λ from. from.client) (from_is s number ask next);
    state = sym (begun_inside digest ask s.sent s inside);
    still_here = refl;
    asks = refl;
    first = first;
    handed = refl;
  }

  kept_within : map posted_of others ≡ in_outbox (is_winding s.stage) true (asks_left s) → IsKept s false log true others
  kept_within posts =
      let sent = sends s number ask next in
      record {
        at_rest = tt;
        first = λ handed. slice_get_within (group s.who s.stage) (length s.sent) sent.message sent.at;
        here = λ handed. refl;
        calls = λ some. kept.calls (subst (λ (ready : List Posted). 0 < length ready) (sym all_left) some);
        posts = posts;
        room =
            subst (λ (ready : List Posted). length ready + room_within s.stage ≤ log.room) all_left
            (subst (λ (room : ℕ). length (ready_in false s.sent s) + room ≤ log.room) (inside_room s.sent s inside) kept.room);
      }

-- what is kept to be handed out winds no call up
boxed : (winding : Bool) (ready : List Posted) (first : Posted) (others : List Posted) → in_outbox winding false ready ≡ first ∷ others
    → (winding ≡ false) × (ready ≡ first ∷ others)
boxed true ready first others is = absurd (cc)
boxed false ready first others is = (refl, is)

-- the first ask of the outbox is the next one
module _ (s : ClientState) (log : AskLog) (outbox others : List (ℕ × Ask)) (number : ℕ) (ask : Ask) (kept : IsKept s false log false outbox)
    (first : outbox ≡ (number, ask) ∷ others) where
  popped : (is_winding s.stage ≡ false) × (ready_in false s.sent s ≡ posted_ask number ask ∷ map posted_of others)
  popped = boxed (is_winding s.stage) (ready_in false s.sent s) (posted_ask number ask) (map posted_of others) (sym kept.posts ∙ ap (map posted_of) first)

  inside : (s.sent ≢ []) × (ready_in false s.sent s ≡ asks_left s)
  inside = inside_ready s.sent s (posted_ask number ask) (map posted_of others) popped.1

  left : asks_left s ≡ posted_ask number ask ∷ map posted_of others
  left = sym inside.1 ∙ popped.1

  message_left : LeftAt (λ (m : Message). posted_ask m.number (record { from = call_ref s; caller = s.who.caller; request = m.request }))
      (group s.who s.stage) (length s.sent) (posted_ask number ask)
  message_left = left_at _ (group s.who s.stage) (length s.sent) (posted_ask number ask) (map posted_of others) left

  next_inside : next_step s ≡ asks number ask
  next_inside =
      next_at s s.left message_left.x (kept.calls (subst (λ (ready : List Posted). 0 < length ready) (sym popped.1) (omega arith))) message_left.at
      ∙ ap (λ (p : Posted). asks p.number p.ask) message_left.is

  pub asks_inside : (digest : List ℕ → Id) → AsksNext digest number ask (client_with s false log false) (client_with s false log true)
  asks_inside digest =
      asks_within s log outbox others number ask kept inside.0 next_inside (ap (λ (ready : List Posted). slice_get ready 0) left) digest

  pub kept_inside : IsKept s false log true others
  kept_inside =
      kept_within s log outbox others number ask kept inside.0 next_inside (ap (λ (ready : List Posted). slice_get ready 0) left)
      (sym (ap (drop 1) left) ∙ ap (λ winding. in_outbox winding true (asks_left s)) (sym popped.0))

first_left : {A : Type 0} (n : ℕ) (xs : List A) → slice_get (drop n xs) 0 ≡ slice_get xs n
first_left zero xs = refl
first_left (suc n) [] = refl
first_left (suc n) (x ∷ xs) = first_left n xs

-- so is the ask in a step that winds the call up which is made again
module _ (s : ClientState) (log : AskLog) (outbox : List (ℕ × Ask)) (number : ℕ) (ask : Ask) (kept : IsKept s false log false outbox)
    (inside : s.sent ≢ []) (at : slice_get (map (post_of s) (group s.who s.stage)) (length s.sent) ≡ Some (number, ask))
    (next : next_step s ≡ asks number ask) where
  first_ready : slice_get (asks_left s) 0 ≡ Some (posted_ask number ask)
  first_ready = first_left (length s.sent) (group_asks s) ∙ posted_at s (length s.sent) number ask at

  pub asks_winding : (digest : List ℕ → Id) → AsksNext digest number ask (client_with s false log false) (client_with s false log true)
  asks_winding digest = asks_within s log outbox outbox number ask kept inside next first_ready digest

  pub kept_winding : is_winding s.stage ≡ true → IsKept s false log true outbox
  kept_winding winding =
      kept_within s log outbox outbox number ask kept inside next first_ready
      (kept.posts ∙ ap (λ w. in_outbox w false (ready_in false s.sent s)) winding ∙ sym (ap (λ w. in_outbox w true (asks_left s)) winding))

pub full : (s : ClientState) (gone : Bool) (log : AskLog) (outbox : List (ℕ × Ask)) → IsKept s gone log false outbox → outbox ≡ [] → s.sent ≢ []
    → is_winding s.stage ≡ false → length (group s.who s.stage) ≤ length s.sent
full s gone log outbox kept none inside going =
    let empty : ready_in false s.sent s ≡ [] = sym (kept.posts ∙ ap (λ w. in_outbox w false (ready_in false s.sent s)) going) ∙ ap (map posted_of) none in
    let all : asks_left s ≡ [] = sym (ready_inside s.sent s inside) ∙ empty in
    let left : length (group_asks s) - length s.sent ≡ 0 = sym (length-drop (length s.sent) (group_asks s)) ∙ ap length all in
    let many = asks_length s in
    omega arith

pub between_in : (sent : List Sent) (s : ClientState) → sent ≡ [] → ready_in false sent s ≡ []
between_in [] s between = refl
between_in (x ∷ sent) s between = absurd (cc)

pub room_ready : (s : ClientState) (gone : Bool) (log : AskLog) (outbox : List (ℕ × Ask)) → IsKept s gone log false outbox → s.sent ≡ []
    → room_between s.who s.stage ≤ log.room
room_ready s gone log outbox kept between =
    let fits : 0 + room_between s.who s.stage ≤ log.room =
    subst (λ (sent : List Sent). length (ready_in false sent s) + room_in false sent s ≤ log.room) between kept.room in
    omega (arith, fits)

-- ---- a new group

module _ (s now : ClientState) (number : ℕ) (ask : Ask) (others : List (ℕ × Ask)) (log new : AskLog) (readied : IsReadied number ask others now log new) where
  all_first : asks_left now ≡ group_asks now
  all_first = ap (λ (sent : List Sent). drop (length sent) (group_asks now)) readied.between

  pub asks_first : (digest : List ℕ → Id) → now ≡ begun digest ask s.sent s → ask.from.client ≡ s.who.client → AsksNext digest number ask (client_with s false log false) (client_with now false new true)
  asks_first digest is own = record {
    here = refl;
    duty = ap next_step (sym is) ∙ readied.next;
    own = own;
    state = is;
    still_here = refl;
    asks = readied.asks_same;
    first = ap (λ (ready : List Posted). slice_get ready 0) all_first ∙ readied.first;
    handed = refl;
  }

  pub kept_first : IsKept now false new true others
  kept_first = record {
    at_rest = tt;
    first = λ handed.
        let some = slice_get_within (group_asks now) 0 (posted_ask number ask) readied.first in
        let same = asks_length now in
        let none : length now.sent ≡ 0 = ap length readied.between in
        omega arith;
    here = λ handed. refl;
    calls = λ some. left_some now now.left number ask readied.next;
    posts = readied.posts ∙ sym (ap (in_outbox (is_winding now.stage) true) all_first);
    room = subst (λ (ready : List Posted). length ready + room_within now.stage ≤ new.room) (sym all_first) readied.room;
  }

-- where nothing is ready, nothing is to be handed out
pub none_boxed : (winding handed : Bool) → in_outbox winding handed [] ≡ []
none_boxed true handed = refl
none_boxed false true = refl
none_boxed false false = refl

pub kept_gone : (s now : ClientState) (log new : AskLog) (outbox : List (ℕ × Ask)) → IsKept s false log false outbox → outbox ≡ [] → s.sent ≡ []
    → now.sent ≡ [] → has_ask now ≡ false → new ≡ log → room_between now.who now.stage ≤ new.room → IsKept now true new false outbox
kept_gone s now log new outbox kept none before between unbuilt same room =
    let empty = between_in now.sent now between in
    record {
      at_rest = (between, unbuilt);
      first = λ handed. absurd (cc);
      here = λ handed. absurd (cc);
      calls = λ some. (let count : length (ready_in false now.sent now) ≡ 0 = ap length empty in absurd (omega arith));
      posts =
          ap (map posted_of) none ∙ sym (none_boxed (is_winding now.stage) false)
          ∙ sym (ap (in_outbox (is_winding now.stage) false) empty);
      room =
          let fits : 0 + room_between now.who now.stage ≤ new.room = omega (arith, room) in
          subst (λ (sent : List Sent). length (ready_in false sent now) + room_in false sent now ≤ new.room) (sym between) fits;
    }

-- ---- an Ask

record Begins (ready : List Posted) : Type 0 where
  pub first : Posted
  pub others : List Posted
  pub is : ready ≡ first ∷ others

begins : (ready : List Posted) → 0 < length ready → Begins ready
begins [] some = absurd (omega arith)
begins (first ∷ others) some = record { first = first; others = others; is = refl }

some_ready : (s : ClientState) (gone : Bool) (log : AskLog) (outbox : List (ℕ × Ask)) → IsKept s gone log true outbox → 0 < length (asks_left s)
some_ready s gone log outbox kept =
    let there : length s.sent < length (group s.who s.stage) = kept.first refl in
    let many = asks_length s in
    let left : length (asks_left s) ≡ length (group_asks s) - length s.sent = length-drop (length s.sent) (group_asks s) in
    omega arith

-- there is room for the ask that was handed out
pub room_some : (s : ClientState) (gone : Bool) (log : AskLog) (outbox : List (ℕ × Ask)) → IsKept s gone log true outbox → 0 < log.room
room_some s gone log outbox kept =
    let some = some_ready s gone log outbox kept in
    let fits : length (asks_left s) + room_within s.stage ≤ log.room = kept.room in
    omega (arith, some, fits)

pushed_inside : (sent : List Sent) (x : Sent) → (sent ++ x ∷ []) ≢ []
pushed_inside [] x = λ none. absurd (cc)
pushed_inside (y ∷ sent) x = λ none. absurd (cc)

past_first : (winding : Bool) (first : Posted) (others : List Posted)
    → in_outbox winding true (first ∷ others) ≡ in_outbox winding false others
past_first true first others = refl
past_first false first others = refl

pub kept_asked : (place : ℕ) (posted : Posted) (s : ClientState) (gone : Bool) (log : AskLog) (outbox : List (ℕ × Ask)) → IsKept s gone log true outbox
    → IsKept (placed place s) gone (asked_log place posted log) false outbox
kept_asked place posted s gone log outbox kept =
    let some = begins (asks_left s) (some_ready s gone log outbox kept) in
    let inside : (placed place s).sent ≢ [] = pushed_inside s.sent _ in
    let count : length (placed place s).sent ≡ length s.sent + 1 = length-append s.sent _ in
    let left_after : ready_in false (placed place s).sent (placed place s) ≡ some.others =
    ready_inside (placed place s).sent (placed place s) inside
    ∙ ap (λ (n : ℕ). drop n (group_asks s)) count ∙ sym (drop-drop 1 (length s.sent) (group_asks s)) ∙ ap (drop 1) some.is in
    let fits : suc (length some.others) + room_within s.stage ≤ log.room =
    subst (λ (ready : List Posted). length ready + room_within s.stage ≤ log.room) some.is kept.room in
    record {
      at_rest = subst (IsAtRest (placed place s)) (sym (kept.here refl)) tt;
      first = λ handed. absurd (cc);
      here = λ handed. absurd (cc);
      calls = λ more. kept.calls (some_ready s gone log outbox kept);
      posts =
          kept.posts ∙ ap (in_outbox (is_winding s.stage) true) some.is ∙ past_first (is_winding s.stage) some.first some.others
          ∙ sym (ap (in_outbox (is_winding s.stage) false) left_after);
      room =
          subst (λ (ready : List Posted). length ready + room_in false (placed place s).sent (placed place s) ≤ log.room - 1) (sym left_after)
          (subst (λ (room : ℕ). length some.others + room ≤ log.room - 1) (sym (inside_room (placed place s).sent (placed place s) inside))
          (omega (arith, fits)));
    }
