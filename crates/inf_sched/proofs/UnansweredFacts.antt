-- A call is unanswered exactly where the order's moves left it undecided.
use Rattle.std.proofs.Common.{◌≡◌, ◌≢◌, ℕ, ◌+◌, ◌<◌, ◌≤◌, Bool, true, false, not, List, [], ◌∷◌, length, Option, None, All, refl, sym, ap, subst, ◌∙◌, arith}
use Rattle.std.proofs.lemmas.List.Elements.{All-append, All-cons, All-nil}
use Rattle.inf_base.specs.declared.id.Id.{Id}
use Rattle.inf_base.specs.declared.answer.Answer.{Answer}
use Rattle.inf_base.specs.declared.answer.Answer.TheVariants as answer
use Rattle.inf_base.specs.declared.call.Call.{Call}
use Rattle.inf_base.specs.declared.caller.CallRef.{CallRef}
use Rattle.inf_base.specs.declared.setup.ClientLine.{ClientLine}
use Rattle.inf_duty.specs.Outcome.{come_to, results_of, so_far, unanswered}
use Rattle.inf_duty.specs.World.{World}
use Rattle.inf_message.specs.declared.ending.Ending.TheVariants as ending
use Rattle.inf_duty.specs.ClientState.{ClientState, Stage, act, compose, ended, round, winds}
use Rattle.inf_message.specs.Sent.{is_wanting}
use Rattle.inf_laws_history.proofs.Numbered.{IsNumbered, all_given_up_is, numbered_after, so_far_call, total_of}
use Rattle.inf_laws_history.proofs.PlacedAnswers.{AllAre, IsOfServes, StageIs, all_given_up_are, answers_after}
use Rattle.inf_message.specs.declared.call_result.CallResult.{CallResult}
use Rattle.inf_message.specs.declared.event.Event.{Event}
use Rattle.inf_order.specs.declared.moves.Move.{Move}
use Rattle.inf_sched.specs.Endings.{IsLeftOpen, is_open, is_undecided, left_by, standing_in}
use Rattle.inf_sched.specs.Order.{ByOrder, came_to, results_from}
use Rattle.inf_sched.specs.Scene.{Scene, client_in, is_gone}

-- ---- what decides a call is an answer

abbrev IsAnswer : Answer → Option ℕ → Type 0
IsAnswer given at = given ≢ answer.Unanswered

of_serves : IsOfServes IsAnswer
of_serves = record {
  done = λ place e. absurd (cc);
  stat = λ kind meta place e. absurd (cc);
  refused = λ error place e. absurd (cc);
  again = λ by place e. absurd (cc);
  clash = λ own kept place e. absurd (cc);
  wanting = λ e. absurd (cc);
}

-- ---- one client's results

-- the client has the result's call left, and nothing has decided it
record IsLeft (s : ClientState) (result : CallResult) : Type 0 where
  before : ℕ
  numbered : result.call.number ≡ s.number + before
  left : before < length s.left
  undecided : before ≡ 0 → is_undecided s ≡ true

-- the result of a call of the client, unanswered exactly where it is left so
record IsExact (client : ℕ) (s : ClientState) (result : CallResult) : Type 0 where
  own : result.call.client ≡ client
  open_only : result.answer ≡ answer.Unanswered → IsLeft s result
  open_all : IsLeft s result → result.answer ≡ answer.Unanswered

module _ (client : ℕ) (s : ClientState) where
  -- those behind the call under way
  behind : (calls : List Call) (t : ClientState) (before : ℕ) → t.who.client ≡ client → 0 < before → t.number + 1 ≡ s.number + before → before + length calls ≤ length s.left
      → All (IsExact client s) (unanswered calls (ended answer.Unanswered None t))
  behind [] t before own some number within = All-nil (IsExact client s)
  behind (call ∷ calls) t before own some number within =
      All-cons (IsExact client s) (so_far compose (ended answer.Unanswered None t)) (unanswered calls (ended answer.Unanswered None (ended answer.Unanswered None t)))
      (record {
        own = own;
        open_only = λ e. record {
          before = before;
          numbered = number;
          left = omega (arith, within);
          undecided = λ none. absurd (omega (arith, none, some));
        };
        open_all = λ left. refl;
      })
      (behind calls (ended answer.Unanswered None t) (before + 1) own (omega arith) (omega (arith, number)) (omega (arith, within)))

  -- the one under way
  open_if : (stage : Stage) → StageIs IsAnswer stage → (so_far stage s).answer ≡ answer.Unanswered
      → is_open s.sent stage ≡ true
  open_if (winds (ending.Answers given at) ms later) is e = absurd (is e)
  open_if (winds ending.Retries ms later) is e = refl
  open_if compose is e = refl
  open_if (round keys) is e = by (is_wanting s.sent) e
    where
      by : (b : Bool) → come_to b ≡ answer.Unanswered → not b ≡ true
      by true e = absurd (cc)
      by false e = refl
  open_if (act flow) is e = refl

  open_so : (stage : Stage) → is_open s.sent stage ≡ true → (so_far stage s).answer ≡ answer.Unanswered
  open_so (winds (ending.Answers given at) ms later) is = absurd (cc)
  open_so (winds ending.Retries ms later) is = refl
  open_so compose is = refl
  open_so (round keys) is = by (is_wanting s.sent) is
    where
      by : (b : Bool) → not b ≡ true → come_to b ≡ answer.Unanswered
      by true is = absurd (cc)
      by false is = refl
  open_so (act flow) is = refl

  first_exact : s.who.client ≡ client → 0 < length s.left → StageIs IsAnswer s.stage → IsExact client s (so_far s.stage s)
  first_exact own some is =
      let call = so_far_call s.stage s in
      record {
        own = ap (λ (c : CallRef). c.client) call ∙ own;
        open_only = λ e. record {
          before = 0;
          numbered = omega (arith, ap (λ (c : CallRef). c.number) call);
          left = some;
          undecided = λ none. open_if s.stage is e;
        };
        open_all = λ left. open_so s.stage (left.undecided (omega (arith, left.numbered, ap (λ (c : CallRef). c.number) call)));
      }

  left_exact : (calls : List Call) → s.who.client ≡ client → length calls ≤ length s.left → StageIs IsAnswer s.stage → All (IsExact client s) (unanswered calls s)
  left_exact [] own within is = All-nil (IsExact client s)
  left_exact (call ∷ calls) own within is =
      All-cons (IsExact client s) (so_far s.stage s) (unanswered calls (ended answer.Unanswered None s)) (first_exact own (omega (arith, within)) is)
      (behind calls s 1 own (omega arith) refl (omega (arith, within)))

  results_exact : (total : ℕ) → IsNumbered client total s → AllAre IsAnswer of_serves s → All (IsExact client s) (results_of s)
  results_exact total numbered are =
      All-append (IsExact client s) s.results (unanswered s.left s)
      (λ k d inside.
      (let before = numbered.results k d inside in
      record {
        own = before.own;
        open_only = λ e. absurd (are.results k d inside e);
        open_all = λ left. absurd (omega (arith, before.less, left.numbered));
      }))
      (left_exact s.left numbered.own (omega arith) are.stage)

-- ---- all clients

came_to_is : (gone : Bool) (s : ClientState) → came_to gone s ≡ results_of (left_by gone s)
came_to_is true s = refl
came_to_is false s = refl

left_numbered : (digest : List ℕ → Id) (gone : Bool) (client total : ℕ) (s : ClientState) → IsNumbered client total s → IsNumbered client total (left_by gone s)
left_numbered digest true client total s is = all_given_up_is digest client total s is
left_numbered digest false client total s is = is

left_are : (digest : List ℕ → Id) (gone : Bool) (s : ClientState) → AllAre IsAnswer of_serves s → AllAre IsAnswer of_serves (left_by gone s)
left_are digest true s are = all_given_up_are IsAnswer of_serves digest s are
left_are digest false s are = are

-- the result is unanswered exactly where its client has it left undecided
record IsEither (world : World) (scene : Scene) (result : CallResult) : Type 0 where
  open_only : result.answer ≡ answer.Unanswered → IsLeftOpen world scene result
  open_all : IsLeftOpen world scene result → result.answer ≡ answer.Unanswered

either : (world : World) (scene : Scene) (client : ℕ) (result : CallResult) → IsExact client (standing_in world scene client) result → IsEither world scene result
either world scene client result is =
    let at = subst (λ c. IsExact c (standing_in world scene c) result) (sym is.own) is in
    record {
      open_only = λ e. (let left = at.open_only e in record { before = left.before; numbered = left.numbered; left = left.left; undecided = left.undecided });
      open_all = λ left. at.open_all (record { before = left.before; numbered = left.numbered; left = left.left; undecided = left.undecided });
    }

from_client : (world : World) (scene : Scene) (client : ℕ) (lines : List ClientLine) → All (IsEither world scene) (results_from world scene client lines)
from_client world scene client [] = All-nil (IsEither world scene)
from_client world scene client (line ∷ lines) =
    let gone : Bool = is_gone scene client in
    let s : ClientState = client_in world scene client in
    All-append (IsEither world scene) (came_to gone s) (results_from world scene (client + 1) lines)
    (subst (All (IsEither world scene)) (sym (came_to_is gone s))
    (λ k d inside.
    either world scene client _
    (results_exact client (left_by gone s) (total_of world client)
    (left_numbered world.digest gone client (total_of world client) s (numbered_after world client scene.history))
    (left_are world.digest gone s (answers_after IsAnswer of_serves world client scene.history))
    k d inside)))
    (from_client world scene (client + 1) lines)

all_exact : (world : World) (order : List Move) (h : List Event) (results : List CallResult) (by : ByOrder world order h results) → All (IsEither world by.scene) results
all_exact world order h results by = subst (All (IsEither world by.scene)) (sym by.counted) (from_client world by.scene 0 world.setup.clients)

-- a call is unanswered only where the order ended before it was decided
pub unanswered_are_left : (world : World) (order : List Move) (h : List Event) (results : List CallResult) (by : ByOrder world order h results)
    → All (λ result. result.answer ≡ answer.Unanswered → IsLeftOpen world by.scene result) results
unanswered_are_left world order h results by k d inside = (all_exact world order h results by k d inside).open_only

-- and each that the order left so is
pub left_are_unanswered : (world : World) (order : List Move) (h : List Event) (results : List CallResult) (by : ByOrder world order h results)
    → All (λ result. IsLeftOpen world by.scene result → result.answer ≡ answer.Unanswered) results
left_are_unanswered world order h results by k d inside = (all_exact world order h results by k d inside).open_all
