-- Where an ask finds a client that has sent nothing: calls that it gave up, and the call that it takes up.
use Rattle.std.proofs.Common.{◌≡◌, ◌≢◌, ◌⊎◌, inl, inr, ⊎_elim, ℕ, ◌+◌, ◌<◌, Bool, true, false, not, ◌&&◌, cond, eqb, List, [], ◌∷◌, length, None, is_some, refl, sym, ap, ◌∙◌, arith}
use Rattle.std.proofs.lemmas.Bool.Decides.{nat_tests}
use Rattle.inf_base.specs.declared.id.Id.{Id}
use Rattle.inf_base.specs.declared.answer.Answer.TheVariants as answer
use Rattle.inf_base.specs.declared.call.Call.{Call}
use Rattle.inf_duty.specs.Duty.{at_call, begun, found_at, given_up, given_up_in, has_ask, has_message, lifts, may_give_up}
use Rattle.inf_duty.specs.Kept.{weight}
use Rattle.inf_duty.specs.Messages.{is_compose, is_winding}
use Rattle.inf_message.specs.declared.ending.Ending.TheVariants as ending
use Rattle.inf_duty.specs.ClientState.{ClientState, Stage, act, compose, rest_of, round, winds, wound}
use Rattle.inf_duty.specs.Flow.{clean_up}
use Rattle.inf_duty.specs.Group.{composed, composed_stage}
use Rattle.inf_duty.specs.Course.{next_course}
use Rattle.inf_message.specs.Sent.{Sent}
use Rattle.inf_message.specs.declared.ending.Ending.{Ending}
use Rattle.inf_message.specs.declared.ask.Ask.{Ask}
use Rattle.inf_message.specs.declared.request.Request.{Request}
use Rattle.inf_message.specs.declared.step.Message.{Message}

-- ---- a client that winds up gives nothing up

winding_given_in : (s : ClientState) (x : Stage) → is_winding x ≡ true → given_up_in s x ≡ s
winding_given_in s compose is = absurd (cc)
winding_given_in s (round keys) is = absurd (cc)
winding_given_in s (act flow) is = absurd (cc)
winding_given_in s (winds end ms later) is = refl

settled_stage : (digest : List ℕ → Id) (s : ClientState) (x : Stage) → is_compose x ≡ false → x ≡ composed_stage digest s x
settled_stage digest s compose settled = absurd (cc)
settled_stage digest s (round keys) settled = refl
settled_stage digest s (act flow) settled = refl
settled_stage digest s (winds end ms later) settled = refl

same_stage : (s : ClientState) (next : Stage) → s.stage ≡ next → s ≡ record s { stage = next }
same_stage s next is = ap (λ (x : Stage). record s { stage = x }) is

-- what is settled stays
pub stays_composed : (digest : List ℕ → Id) (s : ClientState) → is_compose s.stage ≡ false → s ≡ composed digest s
stays_composed digest s settled = same_stage s (composed_stage digest s s.stage) (settled_stage digest s s.stage settled)

unless : (b c : Bool) → c ≡ true → (b && not c) ≡ false
unless true true is = refl
unless false true is = refl
unless b false is = absurd (cc)

-- nor may it
pub winding_goes : (s : ClientState) → is_winding s.stage ≡ true → may_give_up s ≡ false
winding_goes s is = unless (has_ask s) (is_winding s.stage) is

winding_settled : (x : Stage) → is_winding x ≡ true → is_compose x ≡ false
winding_settled compose is = absurd (cc)
winding_settled (round keys) is = absurd (cc)
winding_settled (act flow) is = absurd (cc)
winding_settled (winds end ms later) is = refl

either_same : (b c : Bool) (x y s : ClientState) → c ≡ false → y ≡ s → cond b (cond c x s) y ≡ s
either_same true c x y s idle same = rw idle refl
either_same false c x y s idle same = same

found_stays : (digest : List ℕ → Id) (asked : Request) (s : ClientState) → is_winding s.stage ≡ true → found_at digest asked s ≡ s
found_stays digest asked s is =
    either_same (lifts asked) (may_give_up s) (given_up s) (composed digest s) s (winding_goes s is)
    (sym (stays_composed digest s (winding_settled s.stage is)))

all_same : (b c : Bool) (x y s : ClientState) → x ≡ s → y ≡ s → cond b x (cond c y s) ≡ s
all_same true c x y s here there = here
all_same false true x y s here there = there
all_same false false x y s here there = refl

pub winding_stays : (digest : List ℕ → Id) (number : ℕ) (asked : Request) (calls : List Call) (s : ClientState) → is_winding s.stage ≡ true → at_call digest number asked calls s ≡ s
winding_stays digest number asked [] s is = refl
winding_stays digest number asked (next ∷ calls) s is =
    all_same (eqb number s.number) (may_give_up s) (found_at digest asked s) (at_call digest number asked calls (given_up s)) s
    (found_stays digest asked s is)
    (ap (at_call digest number asked calls) (winding_given_in s s.stage is) ∙ winding_stays digest number asked calls s is)

-- ---- a call is given up

wound_left : (end : Ending) (more : List (List Message)) (s : ClientState) → end ≡ ending.Answers answer.NoMemory None → ((wound end more s).left ≡ rest_of s.left) ⊎ (is_winding (wound end more s).stage ≡ true)
wound_left (ending.Answers given place) [] s is = inl refl
wound_left ending.Retries [] s is = absurd (cc)
wound_left end (ms ∷ later) s is = inr refl

given_left_in : (s : ClientState) (x : Stage) → is_winding x ≡ false → ((given_up_in s x).left ≡ rest_of s.left) ⊎ (is_winding (given_up_in s x).stage ≡ true)
given_left_in s compose going = inl refl
given_left_in s (round keys) going = inl refl
given_left_in s (act flow) going = wound_left (ending.Answers answer.NoMemory None) (clean_up s.who flow) s refl
given_left_in s (winds end ms later) going = absurd (cc)

wound_sent : (given : Ending) (more : List (List Message)) (s : ClientState) → (wound given more s).sent ≡ []
wound_sent (ending.Answers given place) [] s = refl
wound_sent ending.Retries [] s = refl
wound_sent end (ms ∷ later) s = refl

given_sent_in : (s : ClientState) (x : Stage) → is_winding x ≡ false → (given_up_in s x).sent ≡ []
given_sent_in s compose going = refl
given_sent_in s (round keys) going = refl
given_sent_in s (act flow) going = wound_sent (ending.Answers answer.NoMemory None) (clean_up s.who flow) s
given_sent_in s (winds end ms later) going = absurd (cc)

-- a client that gives up has sent nothing
pub given_sent : (s : ClientState) → is_winding s.stage ≡ false → (given_up s).sent ≡ []
given_sent s going = given_sent_in s s.stage going

-- ---- a call that may be given up

pub both : (b c : Bool) → (b && c) ≡ true → (b ≡ true) × (c ≡ true)
both true c is = (refl, is)
both false c is = absurd (cc)

not_true : (b : Bool) → not b ≡ true → b ≡ false
not_true true is = absurd (cc)
not_true false is = refl

-- it does not wind up
pub may_goes : (s : ClientState) → may_give_up s ≡ true → is_winding s.stage ≡ false
may_goes s may = not_true (is_winding s.stage) (both (has_ask s) (not (is_winding s.stage)) may).1

pub built_left : (left : List Call) → is_some (next_course left) ≡ true → 0 < length left
built_left [] is = absurd (cc)
built_left (next ∷ calls) is = omega arith

-- an ask is made for a call that is left
pub ask_left : (s : ClientState) → has_ask s ≡ true → 0 < length s.left
ask_left s asks = built_left s.left (both (is_some (next_course s.left)) (has_message s.who s.stage) asks).0

pub may_left : (s : ClientState) → may_give_up s ≡ true → 0 < length s.left
may_left s may = ask_left s (both (has_ask s) (not (is_winding s.stage)) may).0

-- giving up a call before the one that is looked for changes nothing of what is found
pub gives_up : (digest : List ℕ → Id) (number : ℕ) (asked : Request) (s : ClientState) → s.number ≢ number → may_give_up s ≡ true
    → at_call digest number asked (given_up s).left (given_up s) ≡ at_call digest number asked s.left s
gives_up digest number asked s unlike may = by s.left refl
  where
    elsewhere : eqb number s.number ≡ false
    elsewhere = grind (arith, nat_tests)

    by : (left : List Call) → s.left ≡ left → at_call digest number asked (given_up s).left (given_up s) ≡ at_call digest number asked left s
    by [] same = absurd (omega (arith, may_left s may, ap length same))
    by (next ∷ calls) same =
        let step : at_call digest number asked (next ∷ calls) s ≡ at_call digest number asked calls (given_up s) = rw (elsewhere, may) refl in
        ⊎_elim
        (λ e. ap (λ xs. at_call digest number asked xs (given_up s)) (e ∙ ap rest_of same) ∙ sym step)
        (λ w. winding_stays digest number asked (given_up s).left (given_up s) w ∙ sym (winding_stays digest number asked calls (given_up s) w) ∙ sym step)
        (given_left_in s s.stage (may_goes s may))

weight_wound : (end : Ending) (more : List (List Message)) (s : ClientState) → end ≡ ending.Answers answer.NoMemory None → 0 < length s.left → weight (wound end more s) < length s.left + 1
weight_wound (ending.Answers given place) [] s is some = rest s.left some
  where
    rest : (left : List Call) → 0 < length left → length (rest_of left) + 1 < length left + 1
    rest [] some = absurd (omega arith)
    rest (next ∷ calls) some = omega arith
weight_wound ending.Retries [] s is some = absurd (cc)
weight_wound end (ms ∷ later) s is some = omega arith

weight_in : (s : ClientState) (x : Stage) → is_winding x ≡ false → 0 < length s.left → weight (given_up_in s x) < length s.left + 1
weight_in s compose going some = weight_wound (ending.Answers answer.NoMemory None) [] s refl some
weight_in s (round keys) going some = weight_wound (ending.Answers answer.NoMemory None) [] s refl some
weight_in s (act flow) going some = weight_wound (ending.Answers answer.NoMemory None) (clean_up s.who flow) s refl some
weight_in s (winds end ms later) going some = absurd (cc)

weight_is : (s : ClientState) → is_winding s.stage ≡ false → weight s ≡ length s.left + 1
weight_is s going = rw going refl

pub gives_up_less : (s : ClientState) → may_give_up s ≡ true → weight (given_up s) < weight s
gives_up_less s may = rw (weight_is s (may_goes s may)) (weight_in s s.stage (may_goes s may) (may_left s may))

-- ---- where the walk ends

-- a client that may not give its call up stays there
pub stays_at : (digest : List ℕ → Id) (number : ℕ) (asked : Request) (s : ClientState) → s.number ≢ number → may_give_up s ≡ false → at_call digest number asked s.left s ≡ s
stays_at digest number asked s unlike stopped = by s.left
  where
    elsewhere : eqb number s.number ≡ false
    elsewhere = grind (arith, nat_tests)

    by : (left : List Call) → at_call digest number asked left s ≡ s
    by [] = refl
    by (next ∷ calls) = rw (elsewhere, stopped) refl

pub at_nothing : (digest : List ℕ → Id) (number : ℕ) (asked : Request) (s : ClientState) → s.left ≡ [] → at_call digest number asked s.left s ≡ s
at_nothing digest number asked s over = ap (λ calls. at_call digest number asked calls s) over

pub at_found : (digest : List ℕ → Id) (number : ℕ) (asked : Request) (s : ClientState) → s.number ≡ number → (s.left ≡ [] → ⊥) → at_call digest number asked s.left s ≡ found_at digest asked s
at_found digest number asked s same some = by s.left some
  where
    here : eqb number s.number ≡ true
    here = grind (arith, nat_tests)

    by : (left : List Call) → (left ≡ [] → ⊥) → at_call digest number asked left s ≡ found_at digest asked s
    by [] some = absurd (some refl)
    by (next ∷ calls) some = rw here refl

pub begun_between : (digest : List ℕ → Id) (ask : Ask) (s : ClientState) → s.sent ≡ [] → begun digest ask s.sent s ≡ at_call digest ask.from.number ask.request s.left s
begun_between digest ask s none = ap (λ xs. begun digest ask xs s) none

begun_with : (digest : List ℕ → Id) (ask : Ask) (xs : List Sent) (s : ClientState) → (xs ≡ [] → ⊥) → s ≡ begun digest ask xs s
begun_with digest ask [] s some = absurd (some refl)
begun_with digest ask (x ∷ xs) s some = refl

pub begun_inside : (digest : List ℕ → Id) (ask : Ask) (s : ClientState) → (s.sent ≡ [] → ⊥) → s ≡ begun digest ask s.sent s
begun_inside digest ask s some = begun_with digest ask s.sent s some

-- ---- found at its call

pub found_lifts : (digest : List ℕ → Id) (asked : Request) (s : ClientState) → lifts asked ≡ true → may_give_up s ≡ true → given_up s ≡ found_at digest asked s
found_lifts digest asked s is may = rw (is, may) refl

pub found_idle : (digest : List ℕ → Id) (asked : Request) (s : ClientState) → lifts asked ≡ true → may_give_up s ≡ false → s ≡ found_at digest asked s
found_idle digest asked s is stays = rw (is, stays) refl

pub found_other : (digest : List ℕ → Id) (asked : Request) (s : ClientState) → lifts asked ≡ false → composed digest s ≡ found_at digest asked s
found_other digest asked s is = rw is refl
