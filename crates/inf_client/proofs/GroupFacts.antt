-- The asks of a group as they are handed out.
use Rattle.std.proofs.Common.{◌≡◌, ℕ, suc, ◌+◌, ◌<◌, ◌≤◌, true, false, List, [], ◌∷◌, length, map, drop, slice_get, Option, Some, None, Result, Ok, Err, OnErr, is_some, option_map, refl, sym, ap, subst, ◌∙◌, arith}
use Rattle.std.proofs.lemmas.List.{length-map}
use Rattle.std.proofs.lemmas.Option.{slice_get-map}
use Rattle.inf_base.specs.declared.call.Call.{Call}
use Rattle.inf_client.specs.AskLog.{AskLog, with_room}
use Rattle.inf_client.specs.Client.{group_asks}
use Rattle.inf_client.specs.Group.{IsReadied, in_outbox, posted_of}
use Rattle.inf_client.specs.Room.{room_between, room_within}
use Rattle.inf_duty.specs.ClientStep.{is_ask}
use Rattle.inf_duty.specs.Duty.{Next, asks, has_ask, has_message, is_over, next_in, next_of, next_step, waits}
use Rattle.inf_duty.specs.Messages.{is_winding, post_of}
use Rattle.inf_duty.specs.ClientState.{ClientState, Stage, act, call_ref, compose, round, winds}
use Rattle.inf_duty.proofs.BegunFacts.{both}
use Rattle.inf_duty.specs.Group.{group}
use Rattle.inf_duty.specs.Course.{next_course}
use Rattle.inf_message.specs.Who.{Who}
use Rattle.inf_message.specs.declared.ask.Ask.{Ask}
use Rattle.inf_message.specs.declared.step.Message.{Message}
use Rattle.inf_message.specs.History.{posted_ask}

-- ---- an ask by its message

pub record Sends (s : ClientState) (number : ℕ) (ask : Ask) : Type 0 where
  pub message : Message
  pub at : slice_get (group s.who s.stage) (length s.sent) ≡ Some message
  pub post : post_of s message ≡ (number, ask)

abbrev post_in : Next → ℕ × Ask → ℕ × Ask
post_in (asks number ask) other_post = (number, ask)
post_in waits other_post = other_post
post_in is_over other_post = other_post

sends_of : (s : ClientState) (o : Option Message) (number : ℕ) (ask : Ask) → slice_get (group s.who s.stage) (length s.sent) ≡ o
    → next_of s o ≡ asks number ask → Sends s number ask
sends_of s None number ask at is = absurd (cc)
sends_of s (Some message) number ask at is = record {
  message = message;
  at = at;
  post = ap (λ next. post_in next (number, ask)) is;
}

sends_in : (s : ClientState) (left : List Call) (number : ℕ) (ask : Ask) → next_in s left ≡ asks number ask → Sends s number ask
sends_in s [] number ask is = absurd (cc)
sends_in s (call ∷ calls) number ask is = sends_of s (slice_get (group s.who s.stage) (length s.sent)) number ask refl is

pub sends : (s : ClientState) (number : ℕ) (ask : Ask) → next_step s ≡ asks number ask → Sends s number ask
sends s number ask is = sends_in s s.left number ask is

pub from_is : (s : ClientState) (number : ℕ) (ask : Ask) → next_step s ≡ asks number ask → ask.from ≡ call_ref s
from_is s number ask is = sym (ap (λ (post : ℕ × Ask). post.1.from) (sends s number ask is).post)

pub request_is : (s : ClientState) (number : ℕ) (ask : Ask) (sent : Sends s number ask) → ask.request ≡ sent.message.request
request_is s number ask sent = sym (ap (λ (post : ℕ × Ask). post.1.request) sent.post)

posts_of : (s : ClientState) (messages : List Message) → map posted_of (map (post_of s) messages)
    ≡ map (λ (m : Message). posted_ask m.number (record { from = call_ref s; caller = s.who.caller; request = m.request })) messages
posts_of s [] = refl
posts_of s (m ∷ messages) = ap (λ later. posted_of (post_of s m) ∷ later) (posts_of s messages)

first_in : (s : ClientState) (left : List Call) (messages : List Message) (number : ℕ) (ask : Ask) (others : List (ℕ × Ask)) (index : ℕ)
    → group s.who s.stage ≡ messages → length s.sent ≡ index → index ≡ 0
    → is_ask (next_in s left) ≡ true → map (post_of s) messages ≡ (number, ask) ∷ others → next_in s left ≡ asks number ask
first_in s [] messages number ask others index all at first asking is = absurd (cc)
first_in s (call ∷ calls) [] number ask others index all at first asking is = absurd (cc)
first_in s (call ∷ calls) (m ∷ messages) number ask others index all at first asking is =
    let post : post_of s m ≡ (number, ask) = cc in
    let got : slice_get (group s.who s.stage) (length s.sent) ≡ Some m = rw (all, at ∙ first) refl in
    ap (next_of s) got ∙ ap (λ (p : ℕ × Ask). asks p.0 p.1) post

-- the ask of this index in a group
pub posted_at : (s : ClientState) (index number : ℕ) (ask : Ask) → slice_get (map (post_of s) (group s.who s.stage)) index ≡ Some (number, ask)
    → slice_get (group_asks s) index ≡ Some (posted_ask number ask)
posted_at s index number ask at =
    ap (λ posts. slice_get posts index) (sym (posts_of s (group s.who s.stage)))
    ∙ slice_get-map posted_of (map (post_of s) (group s.who s.stage)) index
    ∙ ap (option_map posted_of) at

within_two : (stage : Stage) → is_winding stage ≡ false → room_within stage ≤ 2
within_two compose going = omega arith
within_two (round keys) going = omega arith
within_two (act step) going = omega arith
within_two (winds end ms later) going = absurd (cc)

pub asks_length : (s : ClientState) → length (group_asks s) ≡ length (group s.who s.stage)
asks_length s = length-map (group s.who s.stage) (λ (m : Message). posted_ask m.number (record { from = call_ref s; caller = s.who.caller; request = m.request }))

-- what holds holds where memory was wanting
pub on_err : {T E : Type 0} (r : Result T E) (P : Type 0) → P → OnErr r P
on_err (Ok x) P holds = tt
on_err (Err e) P holds = holds

some_in_group : (s : ClientState) (left : List Call) (messages : List Message) (index : ℕ) → group s.who s.stage ≡ messages → length s.sent ≡ index
    → index ≡ 0 → is_ask (next_in s left) ≡ true → 0 < length messages
some_in_group s [] messages index all at first asking = absurd (cc)
some_in_group s (call ∷ calls) [] index all at first asking =
    let none : slice_get (group s.who s.stage) (length s.sent) ≡ None =
    ap (slice_get (group s.who s.stage)) (at ∙ first) ∙ ap (λ (messages : List Message). slice_get messages 0) all in
    let waiting : false ≡ true = subst (λ (o : Option Message). is_ask (next_of s o) ≡ true) none asking in
    absurd (cc)
some_in_group s (call ∷ calls) (m ∷ messages) index all at first asking = omega arith

-- a group that begins with an ask has one
pub some_asked : (s : ClientState) → s.sent ≡ [] → is_ask (next_step s) ≡ true → 0 < length (group s.who s.stage)
some_asked s between asking = some_in_group s s.left (group s.who s.stage) 0 refl (ap length between) refl asking

first_apart : {A : Type 0} (xs others : List A) (x : A) → slice_get xs 0 ≡ Some x → others ≡ drop 1 xs → xs ≡ x ∷ others
first_apart [] others x at behind = absurd (cc)
first_apart (y ∷ xs) others x at behind = let same : y ≡ x = cc in cc

pub whole_readied : (s : ClientState) (others : List (ℕ × Ask)) (number : ℕ) (ask : Ask) (before log : AskLog)
    → s.sent ≡ [] → is_ask (next_step s) ≡ true → is_winding s.stage ≡ false
    → slice_get (map (post_of s) (group s.who s.stage)) 0 ≡ Some (number, ask) → others ≡ drop 1 (map (post_of s) (group s.who s.stage))
    → log ≡ with_room (length others + 3) before → IsReadied number ask others s before log
whole_readied s others number ask before log between asking going at behind is =
    let posts = map (post_of s) (group s.who s.stage) in
    let first : posts ≡ (number, ask) ∷ others = first_apart posts others (number, ask) at behind in
    let count : suc (length others) ≡ length (group s.who s.stage) = sym (ap length first) ∙ length-map (group s.who s.stage) (post_of s) in
    let many = asks_length s in
    let two = within_two s.stage going in
    let room : log.room ≡ length others + 3 = ap (λ (l : AskLog). l.room) is in
    record {
      next = first_in s s.left (group s.who s.stage) number ask others 0 refl (ap length between) refl asking first;
      between = between;
      asks_same = ap (λ (l : AskLog). l.asks) is;
      first = posted_at s 0 number ask at;
      posts =
          ap (map posted_of) behind
          ∙ map_behind posted_of posts
          ∙ ap (drop 1) (posts_of s (group s.who s.stage))
          ∙ ap (λ b. in_outbox b true (group_asks s)) (sym going);
      room = omega (arith, count, many, two, room);
    }
  where
    map_behind : {A B : Type 0} (f : A → B) (xs : List A) → map f (drop 1 xs) ≡ drop 1 (map f xs)
    map_behind f [] = refl
    map_behind f (x ∷ xs) = refl

-- ---- what winds a call up

winding_within : (who : Who) (stage : Stage) → is_winding stage ≡ true → room_between who stage ≡ length (group who stage) + room_within stage
winding_within who compose winding = absurd (cc)
winding_within who (round keys) winding = absurd (cc)
winding_within who (act step) winding = absurd (cc)
winding_within who (winds end ms later) winding = refl

some_in : (who : Who) (stage : Stage) → has_message who stage ≡ true → is_winding stage ≡ true → 0 < length (group who stage)
some_in who compose there winding = absurd (cc)
some_in who (round keys) there winding = absurd (cc)
some_in who (act step) there winding = absurd (cc)
some_in who (winds end [] later) there winding = absurd (cc)
some_in who (winds end (m ∷ ms) later) there winding = omega arith

-- where there is an ask to make, the step has one
pub winding_some : (s : ClientState) → has_ask s ≡ true → is_winding s.stage ≡ true → 0 < length (group s.who s.stage)
winding_some s some winding = some_in s.who s.stage (both (is_some (next_course s.left)) (has_message s.who s.stage) some).1 winding

pub winding_readied : (s : ClientState) (number : ℕ) (ask : Ask) (others : List (ℕ × Ask))
    → is_winding s.stage ≡ true → s.sent ≡ []
    → slice_get (map (post_of s) (group s.who s.stage)) 0 ≡ Some (number, ask) → (0 ≡ length s.sent → next_step s ≡ asks number ask)
    → others ≡ [] → (log : AskLog) → room_between s.who s.stage ≤ log.room → IsReadied number ask others s log log
winding_readied s number ask others winding between at next alone log fits =
    let all = winding_within s.who s.stage winding in
    let many = asks_length s in
    record {
      next = next (sym (ap length between));
      between = between;
      asks_same = refl;
      first = posted_at s 0 number ask at;
      posts = ap (map posted_of) alone ∙ ap (λ b. in_outbox b true (group_asks s)) (sym winding);
      room = omega (arith, all, many, fits);
    }
