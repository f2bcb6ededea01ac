-- Each result is of a call of its client's line: those that ended count from 1, and the one under way follows them.
use Rattle.std.proofs.Common.{◌≡◌, ℕ, zero, suc, ◌+◌, ◌-◌, ◌<◌, ◌≤◌, eqb, List, [], ◌∷◌, length, slice_get, Option, Some, None, All, refl, sym, ap, subst, ◌∙◌, ⊎_elim, arith}
use Rattle.std.proofs.lemmas.List.Elements.{All-append, All-cons, All-nil, All-push, All-weaker}
use Rattle.inf_base.specs.declared.id.Id.{Id}
use Rattle.inf_base.specs.declared.answer.Answer.{Answer}
use Rattle.inf_base.specs.declared.answer.Answer.TheVariants as answer
use Rattle.inf_base.specs.declared.call.Call.{Call}
use Rattle.inf_base.specs.declared.caller.CallRef.{CallRef}
use Rattle.inf_base.specs.declared.setup.ClientLine.{ClientLine}
use Rattle.inf_duty.specs.After.{client_after}
use Rattle.inf_duty.specs.Duty.{asked, given_up_in}
use Rattle.inf_duty.specs.Outcome.{Agrees, OutcomeFrom, all_given_up, results_of, so_far, unanswered}
use Rattle.inf_duty.specs.Start.{starting}
use Rattle.inf_duty.specs.World.{World}
use Rattle.inf_duty.proofs.BegunKept.{if_both}
use Rattle.inf_message.specs.declared.ending.Ending.TheVariants as ending
use Rattle.inf_message.specs.declared.turn.Turn.TheVariants as turn
use Rattle.inf_duty.specs.ClientState.{ClientState, Stage, act, call_ref, compose, ended, rest_of, round, winds, wound}
use Rattle.inf_duty.specs.Flow.{clean_up}
use Rattle.inf_duty.specs.Group.{composed_stage, next_stage}
use Rattle.inf_duty.specs.Course.{next_course}
use Rattle.inf_duty.specs.Turn.{learned, served, turn_at, turned}
use Rattle.inf_message.specs.Who.{Who}
use Rattle.inf_message.specs.declared.ending.Ending.{Ending}
use Rattle.inf_message.specs.declared.turn.Turn.{Turn}
use Rattle.inf_laws_history.specs.Counted.{IsOfScript}
use Rattle.inf_laws_history.proofs.ClientSteps.{by_answer, recorded_in}
use Rattle.inf_laws_history.proofs.GivingUp.{IsKept, kept_all_given_up, kept_begun}
use Rattle.inf_laws_history.proofs.ResultFacts.{calls_of}
use Rattle.inf_laws_history.proofs.Turns.{by_next}
use Rattle.inf_message.specs.declared.ask.Ask.{Ask}
use Rattle.inf_message.specs.declared.call_result.CallResult.{CallResult}
use Rattle.inf_message.specs.declared.event.Event.{Event}
use Rattle.inf_message.specs.declared.event.Event.TheVariants as event
use Rattle.inf_message.specs.declared.step.Message.{Message}
use Rattle.inf_message.specs.History.{Told, told_reply}
use Rattle.inf_resolve.specs.declared.known.Known.{Known}

-- ---- one client

-- the result is of one of the client's calls before the number
pub record IsBefore (client number : ℕ) (result : CallResult) : Type 0 where
  pub own : result.call.client ≡ client
  pub counted : 1 ≤ result.call.number
  pub less : result.call.number < number

-- a call is under way, but where none has begun
abbrev pub IsUnder : List Call → Stage → Type 0
IsUnder left compose = Unit {0}
IsUnder left other_stage = 0 < length left

-- the client has so many calls in all
pub record IsNumbered (client total : ℕ) (s : ClientState) : Type 0 where
  pub own : s.who.client ≡ client
  pub counted : 1 ≤ s.number
  pub all : s.number + length s.left ≡ total + 1
  pub under : IsUnder s.left s.stage
  pub results : All (IsBefore client s.number) s.results

module _ (digest : List ℕ → Id) (client total : ℕ) where
  abbrev Is : ClientState → Type 0
  Is s = IsNumbered client total s

  one_less : (left : List Call) → 0 < length left → length (rest_of left) + 1 ≡ length left
  one_less [] some = absurd (omega (arith, some))
  one_less (call ∷ calls) some = omega arith

  ended_is : (given : Answer) (at : Option ℕ) (s : ClientState) → 0 < length s.left → Is s → Is (ended given at s)
  ended_is given at s some is = record {
    own = is.own;
    counted = omega arith;
    all = omega (arith, is.all, one_less s.left some);
    under = tt;
    results = All-push (IsBefore client (s.number + 1)) s.results _
        (All-weaker (IsBefore client s.number) (IsBefore client (s.number + 1)) (λ r b. record { own = b.own; counted = b.counted; less = omega (arith, b.less) }) s.results is.results)
        (record { own = is.own; counted = is.counted; less = omega arith });
  }

  wound_is : (end : Ending) (more : List (List Message)) (s : ClientState) → 0 < length s.left → Is s → Is (wound end more s)
  wound_is (ending.Answers given at) [] s some is = ended_is given at s some is
  wound_is ending.Retries [] s some is = record { own = is.own; counted = is.counted; all = is.all; under = tt; results = is.results }
  wound_is end (ms ∷ later) s some is = record { own = is.own; counted = is.counted; all = is.all; under = some; results = is.results }

  any_under : (left : List Call) (stage : Stage) → 0 < length left → IsUnder left stage
  any_under left compose some = tt
  any_under left (round keys) some = some
  any_under left (act flow) some = some
  any_under left (winds end ms later) some = some

  turned_is : (t : Turn Stage) (s : ClientState) → 0 < length s.left → Is s → Is (turned t s)
  turned_is (turn.GoesOn next) s some is =
      record { own = is.own; counted = is.counted; all = is.all; under = any_under s.left next some; results = is.results }
  turned_is (turn.WindsUp end more) s some is = wound_is end more s some is

  over_is : (s : ClientState) (stage : Stage) → IsUnder s.left stage → Is s → Is (turned (turn_at digest (learned stage s) stage) (learned stage s))
  over_is s compose under is = record { own = is.own; counted = is.counted; all = is.all; under = tt; results = is.results }
  over_is s (round keys) under is =
      let t : ClientState = learned (round keys) s in
      turned_is (turn_at digest t (round keys)) t under
      (record { own = is.own; counted = is.counted; all = is.all; under = is.under; results = is.results })
  over_is s (act flow) under is = turned_is (turn_at digest s (act flow)) s under is
  over_is s (winds end ms later) under is = turned_is (turn_at digest s (winds end ms later)) s under is

  given_up_is : (s : ClientState) (stage : Stage) → 0 < length s.left → Is s → Is (given_up_in s stage)
  given_up_is s (act flow) some is = wound_is (ending.Answers answer.NoMemory None) (clean_up s.who flow) s some is
  given_up_is s (winds end ms later) some is = is
  given_up_is s compose some is = ended_is answer.NoMemory None s some is
  given_up_is s (round keys) some is = ended_is answer.NoMemory None s some is

  next_under : (left : List Call) (who : Who) (known : List Known) → IsUnder left (next_stage digest who known (next_course left))
  next_under [] who known = tt
  next_under (call ∷ calls) who known =
      by_next (IsUnder (call ∷ calls)) digest who known (next_course (call ∷ calls)) tt (λ keys. omega arith) (λ course old new leads. omega arith)

  composed_under : (s : ClientState) (stage : Stage) → IsUnder s.left stage → IsUnder s.left (composed_stage digest s stage)
  composed_under s compose under = next_under s.left s.who s.known
  composed_under s (round keys) under = under
  composed_under s (act flow) under = under
  composed_under s (winds end ms later) under = under

  kept : IsKept digest Is
  kept = record {
    composing = λ s is. record { own = is.own; counted = is.counted; all = is.all; under = composed_under s s.stage is.under; results = is.results };
    giving_up = λ s some is. given_up_is s s.stage some is;
  }

  asked_is : (place : ℕ) (ask : Ask) (s : ClientState) → Is s → Is (asked digest place ask s)
  asked_is place ask s is =
      let now = kept_begun digest Is kept ask s.sent s is in
      record { own = now.own; counted = now.counted; all = now.all; under = now.under; results = now.results }

  served_is : (place : ℕ) (told : Told) (s : ClientState) → Is s → Is (served digest place told s)
  served_is place told s is =
      by_answer digest Is place told s
      (λ apart. is)
      (λ here going. record { own = is.own; counted = is.counted; all = is.all; under = is.under; results = is.results })
      (λ here over.
      over_is (recorded_in place told s) s.stage is.under
      (record { own = is.own; counted = is.counted; all = is.all; under = is.under; results = is.results }))

  pub all_given_up_is : (s : ClientState) → Is s → Is (all_given_up s.left s)
  all_given_up_is s is = kept_all_given_up digest Is kept s is

-- how many calls a client has
abbrev pub total_of : World → ℕ → ℕ
total_of world client = length (calls_of (slice_get world.setup.clients client))

starting_is : (world : World) (client : ℕ) (line : Option ClientLine) → IsNumbered client (length (calls_of line)) (starting world client line)
starting_is world client None = record { own = refl; counted = omega arith; all = refl; under = tt; results = All-nil (IsBefore client 1) }
starting_is world client (Some line) = record { own = refl; counted = omega arith; all = omega arith; under = tt; results = All-nil (IsBefore client 1) }

pub numbered_after : (world : World) (client : ℕ) (h : List Event) → IsNumbered client (total_of world client) (client_after world client h)
numbered_after world client [] = starting_is world client (slice_get world.setup.clients client)
numbered_after world client (event.Ask number ask ∷ h) =
    if_both (IsNumbered client (total_of world client)) (eqb ask.from.client client) _ _
    (asked_is world.digest client (total_of world client) (suc (length h)) ask (client_after world client h) (numbered_after world client h))
    (numbered_after world client h)
numbered_after world client (event.Serve number ask_place given ∷ h) =
    served_is world.digest client (total_of world client) ask_place (told_reply (suc (length h)) given) (client_after world client h) (numbered_after world client h)

-- ---- its results

-- the result is of one of the client's calls
pub record IsOneOf (client total : ℕ) (result : CallResult) : Type 0 where
  pub own : result.call.client ≡ client
  pub counted : 1 ≤ result.call.number
  pub within : result.call.number ≤ total

pub so_far_call : (stage : Stage) (s : ClientState) → (so_far stage s).call ≡ call_ref s
so_far_call (winds (ending.Answers given place) m ms) s = refl
so_far_call (winds ending.Retries m ms) s = refl
so_far_call compose s = refl
so_far_call (round keys) s = refl
so_far_call (act flow) s = refl

module _ (digest : List ℕ → Id) (client total : ℕ) where
  left_are : (calls : List Call) (s : ClientState) → s.who.client ≡ client → 1 ≤ s.number → s.number + length calls ≡ total + 1
      → All (IsOneOf client total) (unanswered calls s)
  left_are [] s own counted all = All-nil (IsOneOf client total)
  left_are (call ∷ calls) s own counted all =
      let is : (so_far s.stage s).call ≡ call_ref s = so_far_call s.stage s in
      let numbers : (so_far s.stage s).call.number ≡ s.number = ap (λ (c : CallRef). c.number) is in
      All-cons (IsOneOf client total) (so_far s.stage s) (unanswered calls (ended answer.Unanswered None s))
      (record {
        own = ap (λ (c : CallRef). c.client) is ∙ own;
        counted = omega (arith, numbers, counted);
        within = omega (arith, numbers, all);
      })
      (left_are calls (ended answer.Unanswered None s) own (omega arith) (omega (arith, all)))

  results_are : (s : ClientState) → IsNumbered client total s → All (IsOneOf client total) (results_of s)
  results_are s is =
      All-append (IsOneOf client total) s.results (unanswered s.left s)
      (All-weaker (IsBefore client s.number) (IsOneOf client total)
      (λ r b. record { own = b.own; counted = b.counted; within = omega (arith, b.less, is.all) }) s.results is.results)
      (left_are s.left s is.own is.counted is.all)

  agreeing_are : (s : ClientState) (mine : List CallResult) → IsNumbered client total s → Agrees s mine → All (IsOneOf client total) mine
  agreeing_are s mine is agrees =
      ⊎_elim
      (λ (same : mine ≡ results_of s). subst (All (IsOneOf client total)) (sym same) (results_are s is))
      (λ (gave : (s.sent ≡ []) × (mine ≡ results_of (all_given_up s.left s))).
      subst (All (IsOneOf client total)) (sym gave.1) (results_are (all_given_up s.left s) (all_given_up_is digest client total s is)))
      agrees

-- ---- of a line of the script

called_at : (calls : List Call) (k : ℕ) → k < length calls → (call : Call) × (slice_get calls k ≡ Some call)
called_at [] k within = absurd (omega (arith, within))
called_at (call ∷ calls) zero within = (call, refl)
called_at (call ∷ calls) (suc k) within = called_at calls k (omega (arith, within))

of_line : (world : World) (line : Option ClientLine) (ref : CallRef) → slice_get world.setup.clients ref.client ≡ line → 1 ≤ ref.number
    → ref.number ≤ length (calls_of line) → IsOfScript world ref
of_line world None ref at counted within = absurd (omega (arith, counted, within))
of_line world (Some line) ref at counted within =
    let found = called_at line.calls (ref.number - 1) (omega (arith, counted, within)) in
    record { line = line; client = at; call = found.0; counted = counted; called = found.1 }

-- a call that is numbered as one of its client's is one of the script
pub is_of_script : (world : World) (ref : CallRef) → 1 ≤ ref.number → ref.number ≤ total_of world ref.client → IsOfScript world ref
is_of_script world ref counted within = of_line world (slice_get world.setup.clients ref.client) ref refl counted within

one_is_of_script : (world : World) (client : ℕ) (result : CallResult) → IsOneOf client (total_of world client) result → IsOfScript world result.call
one_is_of_script world client result is =
    is_of_script world result.call is.counted (subst (λ c. result.call.number ≤ total_of world c) (sym is.own) is.within)

outcome_from : (world : World) (h : List Event) (client : ℕ) (lines : List ClientLine) (results : List CallResult) → OutcomeFrom world h client lines results
    → All (λ (r : CallResult). IsOfScript world r.call) results
outcome_from world h client [] results out = subst (All (λ (r : CallResult). IsOfScript world r.call)) (sym out) (All-nil (λ (r : CallResult). IsOfScript world r.call))
outcome_from world h client (line ∷ lines) results out =
    subst (All (λ (r : CallResult). IsOfScript world r.call)) (sym out.all)
    (All-append (λ (r : CallResult). IsOfScript world r.call) out.mine out.others
    (All-weaker (IsOneOf client (total_of world client)) (λ (r : CallResult). IsOfScript world r.call) (one_is_of_script world client) out.mine
    (agreeing_are world.digest client (total_of world client) (client_after world client h) out.mine (numbered_after world client h) out.agrees))
    (outcome_from world h (client + 1) lines out.others out.later))

-- each result is of a call of the script
pub results_are_of_script : (world : World) (h : List Event) (results : List CallResult) → OutcomeFrom world h 0 world.setup.clients results
    → All (λ (r : CallResult). IsOfScript world r.call) results
results_are_of_script world h results out = outcome_from world h 0 world.setup.clients results out
