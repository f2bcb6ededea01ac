-- A client on its way through calls for which memory is wanting.
use Rattle.std.proofs.Common.{◌≡◌, ℕ, suc, ◌≤◌, ◌<◌, Bool, true, false, eqb, ◌&&◌, not, List, [], ◌∷◌, length, None, refl, sym, ap, subst, ◌∙◌, arith}
use Rattle.std.proofs.lemmas.Bool.{eqb-true, eq-eqb}
use Rattle.inf_base.specs.declared.id.Id.{Id}
use Rattle.inf_base.specs.declared.answer.Answer.TheVariants as answer
use Rattle.inf_base.specs.declared.call.Call.{Call}
use Rattle.inf_client.specs.Client.{IsOnTheWay}
use Rattle.inf_client.specs.Group.{IsFound, IsPassed}
use Rattle.inf_client.specs.Room.{room_between}
use Rattle.inf_duty.specs.Duty.{at_call, begun, found_at, given_up, given_up_in, has_ask, may_give_up}
use Rattle.inf_duty.specs.Messages.{are_none, is_winding}
use Rattle.inf_duty.specs.Outcome.{all_given_up, is_free, may_pass}
use Rattle.inf_duty.proofs.BegunFacts.{ask_left, both}
use Rattle.inf_message.specs.declared.ending.Ending.TheVariants as ending
use Rattle.inf_duty.specs.ClientState.{ClientState, Stage, act, compose, ended, rest_of, round, winds, wound}
use Rattle.inf_duty.specs.Flow.{clean_up}
use Rattle.inf_message.specs.Sent.{Sent}
use Rattle.inf_message.specs.declared.ask.Ask.{Ask}
use Rattle.inf_message.specs.declared.request.Request.{Request}
use Rattle.inf_message.specs.declared.step.Message.{Message}

pub way_starts : (digest : List ℕ → Id) (s : ClientState) → s.sent ≡ [] → IsOnTheWay digest s s
way_starts digest s between = record { between = between; behind = omega arith; reach = λ asked number behind. refl; all = refl; own = refl }

unlike : (a b : ℕ) → suc a ≤ b → eqb b a ≡ false
unlike a b behind = by (eqb b a) refl
  where
    by : (t : Bool) → eqb b a ≡ t → t ≡ false
    by true same = let equal : b ≡ a = eqb-true b a same in absurd (omega arith)
    by false same = refl

ended_in : (s : ClientState) (stage : Stage) → is_free s.who stage ≡ true → given_up_in s stage ≡ ended answer.NoMemory None s
ended_in s compose free = refl
ended_in s (round keys) free = refl
ended_in s (act flow) free = by (clean_up s.who flow) free
  where
    by : (steps : List (List Message)) → are_none steps ≡ true → wound (ending.Answers answer.NoMemory None) steps s ≡ ended answer.NoMemory None s
    by [] free = refl
    by (ms ∷ later) free = absurd (cc)
ended_in s (winds end ms later) free = absurd (cc)

-- a call that is given up, and has nothing to clean up, has ended
passed_ended : (s : ClientState) → may_pass s ≡ true → given_up s ≡ ended answer.NoMemory None s
passed_ended s free = ended_in s s.stage (both (may_give_up s) (is_free s.who s.stage) free).1

may_too : (s : ClientState) → may_pass s ≡ true → may_give_up s ≡ true
may_too s free = (both (may_give_up s) (is_free s.who s.stage) free).0

-- a later call is reached past one that is given up
reach_next : (digest : List ℕ → Id) (asked : Request) (number : ℕ) (left : List Call) (s : ClientState) → suc s.number ≤ number → 0 < length left → may_give_up s ≡ true
    → at_call digest number asked left s ≡ at_call digest number asked (rest_of left) (given_up s)
reach_next digest asked number [] s behind some may = absurd (omega arith)
reach_next digest asked number (next ∷ left) s behind some may = rw (unlike s.number number behind, may) refl

all_next : (left : List Call) (s : ClientState) → may_pass s ≡ true → 0 < length left → all_given_up left s ≡ all_given_up (rest_of left) (given_up s)
all_next [] s free some = absurd (omega arith)
all_next (next ∷ left) s free some = rw free refl

way_ended : (digest : List ℕ → Id) (entry now : ClientState) → IsOnTheWay digest entry now → 0 < length now.left → may_pass now ≡ true
    → IsOnTheWay digest entry (ended answer.NoMemory None now)
way_ended digest entry now way some free = record {
  between = refl;
  behind = let so : entry.number ≤ now.number = way.behind in omega arith;
  reach = λ asked number behind.
      way.reach asked number (omega arith) ∙ reach_next digest asked number now.left now (omega arith) some (may_too now free)
      ∙ ap (at_call digest number asked (rest_of now.left)) (passed_ended now free);
  all = way.all ∙ all_next now.left now free some ∙ ap (all_given_up (rest_of now.left)) (passed_ended now free);
  own = way.own;
}

pub way_goes : (digest : List ℕ → Id) (entry now next : ClientState) → IsOnTheWay digest entry now → has_ask now ≡ true → IsPassed now next → IsOnTheWay digest entry next
way_goes digest entry now next way some passed =
    subst (IsOnTheWay digest entry) (sym (passed.state ∙ passed_ended now passed.free))
    (way_ended digest entry now way (ask_left now some) passed.free)

pub passed_room : (now next : ClientState) (room : ℕ) → IsPassed now next → room_between next.who next.stage ≤ room
passed_room now next room passed =
    subst (λ (t : ClientState). room_between t.who t.stage ≤ room) (sym (passed.state ∙ passed_ended now passed.free)) (omega arith)

reach_here : (digest : List ℕ → Id) (asked : Request) (number : ℕ) (left : List Call) (s : ClientState) → number ≡ s.number → 0 < length left
    → at_call digest number asked left s ≡ found_at digest asked s
reach_here digest asked number [] s here some = absurd (omega arith)
reach_here digest asked number (next ∷ left) s here some = rw (eq-eqb number s.number here) refl

begun_between : (digest : List ℕ → Id) (ask : Ask) (sent : List Sent) (s : ClientState) → sent ≡ [] → begun digest ask sent s ≡ at_call digest ask.from.number ask.request s.left s
begun_between digest ask sent s between = ap (λ xs. begun digest ask xs s) between

pub way_found : (digest : List ℕ → Id) (entry now next : ClientState) (ask : Ask) → IsOnTheWay digest entry now → entry.sent ≡ [] → has_ask now ≡ true
    → IsFound digest ask now next → next ≡ begun digest ask entry.sent entry
way_found digest entry now next ask way between some found =
    let here : ask.from.number ≡ now.number = ap (λ from. from.number) found.here in
    sym (begun_between digest ask entry.sent entry between
    ∙ way.reach ask.request ask.from.number (omega arith)
    ∙ reach_here digest ask.request ask.from.number now.left now here (ask_left now some)
    ∙ sym found.state)

pub way_own : (digest : List ℕ → Id) (entry now next : ClientState) (ask : Ask) → IsOnTheWay digest entry now → IsFound digest ask now next → ask.from.client ≡ entry.who.client
way_own digest entry now next ask way found = ap (λ from. from.client) found.here ∙ way.own

cannot : (b c : Bool) → b ≡ false → (b && c) ≡ false
cannot true c none = absurd (cc)
cannot false c none = refl

stays : (left : List Call) (s : ClientState) → may_pass s ≡ false → all_given_up left s ≡ s
stays [] s none = refl
stays (next ∷ left) s none = rw none refl

-- where there is no ask to make, nothing is left to give up
pub way_ends : (digest : List ℕ → Id) (entry now : ClientState) → IsOnTheWay digest entry now → has_ask now ≡ false → now ≡ all_given_up entry.left entry
way_ends digest entry now way none =
    sym (way.all ∙ stays now.left now
    (cannot (may_give_up now) (is_free now.who now.stage) (cannot (has_ask now) (not (is_winding now.stage)) none)))

-- a client that gave up what was left might give up the first call
pub was_free : (entry now : ClientState) → has_ask entry ≡ true → now ≡ all_given_up entry.left entry → has_ask now ≡ false
    → may_pass entry ≡ true
was_free entry now some gave none = by (may_pass entry) refl
  where
    by : (b : Bool) → may_pass entry ≡ b → b ≡ true
    by true is = refl
    by false is =
        let still : now ≡ entry = gave ∙ stays entry.left entry is in
        let again : has_ask entry ≡ false = ap has_ask (sym still) ∙ none in
        absurd (cc)

pub shorter : (now next : ClientState) → has_ask now ≡ true → IsPassed now next → length next.left < length now.left
shorter now next some passed =
    subst (λ (t : ClientState). length t.left < length now.left) (sym (passed.state ∙ passed_ended now passed.free)) (by now.left (ask_left now some))
  where
    by : (left : List Call) → 0 < length left → length (rest_of left) < length left
    by [] some = absurd (omega arith)
    by (next ∷ left) some = omega arith
