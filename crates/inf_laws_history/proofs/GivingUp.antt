-- What a client keeps that gives up only calls that it has.
use Rattle.std.proofs.Common.{◌≡◌, ◌⊎◌, inl, inr, ℕ, ◌<◌, eqb, List, [], ◌∷◌, length, None, refl, sym, ap, subst, arith}
use Rattle.inf_base.specs.declared.id.Id.{Id}
use Rattle.inf_base.specs.declared.answer.Answer.TheVariants as answer
use Rattle.inf_base.specs.declared.call.Call.{Call}
use Rattle.inf_duty.specs.Duty.{at_call, begun, found_at, given_up, given_up_in, lifts, may_give_up}
use Rattle.inf_duty.specs.Outcome.{all_given_up, may_pass}
use Rattle.inf_duty.proofs.BegunKept.{if_both}
use Rattle.inf_message.specs.declared.ending.Ending.TheVariants as ending
use Rattle.inf_duty.specs.ClientState.{ClientState, Stage, act, compose, rest_of, round, winds, wound}
use Rattle.inf_duty.specs.Flow.{clean_up}
use Rattle.inf_duty.specs.Group.{composed}
use Rattle.inf_message.specs.Sent.{Sent}
use Rattle.inf_message.specs.declared.ask.Ask.{Ask}
use Rattle.inf_message.specs.declared.request.Request.{Request}
use Rattle.inf_message.specs.declared.step.Message.{Message}

abbrev pub IsWinding : Stage → Type 0
IsWinding (winds end ms later) = Unit {0}
IsWinding other_stage = ⊥

-- kept by settling what to ask for, and by giving up a call
pub record IsKept (digest : List ℕ → Id) (P : ClientState → Type 0) : Type 0 where
  pub composing : (s : ClientState) → P s → P (composed digest s)
  pub giving_up : (s : ClientState) → 0 < length s.left → P s → P (given_up s)

-- these calls are left, or nothing is given up any more
abbrev Tied : List Call → Stage → List Call → Type 0
Tied calls stage left = IsWinding stage ⊎ (left ≡ calls)

winding_stays : (s : ClientState) (stage : Stage) → IsWinding stage → given_up_in s stage ≡ s
winding_stays s (winds end ms later) winding = refl
winding_stays s compose winding = absurd winding
winding_stays s (round keys) winding = absurd winding
winding_stays s (act flow) winding = absurd winding

abbrev IsTied : List Call → ClientState → Type 0
IsTied calls s = Tied calls s.stage s.left

wound_tied : (call : Call) (calls : List Call) (s : ClientState) (more : List (List Message)) → s.left ≡ call ∷ calls
    → IsTied calls (wound (ending.Answers answer.NoMemory None) more s)
wound_tied call calls s [] same = inr (ap rest_of same)
wound_tied call calls s (ms ∷ later) same = inl tt

given_up_tied : (call : Call) (calls : List Call) (s : ClientState) (stage : Stage) → s.stage ≡ stage → Tied (call ∷ calls) stage s.left
    → IsTied calls (given_up_in s stage)
given_up_tied call calls s (winds end ms later) is tied = inl (subst IsWinding (sym is) tt)
given_up_tied call calls s (act flow) is (inl winding) = absurd winding
given_up_tied call calls s (act flow) is (inr same) = wound_tied call calls s (clean_up s.who flow) same
given_up_tied call calls s compose is (inl winding) = absurd winding
given_up_tied call calls s compose is (inr same) = inr (ap rest_of same)
given_up_tied call calls s (round keys) is (inl winding) = absurd winding
given_up_tied call calls s (round keys) is (inr same) = inr (ap rest_of same)

module _ (digest : List ℕ → Id) (P : ClientState → Type 0) (keeps : IsKept digest P) where
  giving : (call : Call) (calls : List Call) (s : ClientState) → IsTied (call ∷ calls) s → P s → P (given_up s)
  giving call calls s (inl winding) now = subst P (sym (winding_stays s s.stage winding)) now
  giving call calls s (inr same) now = keeps.giving_up s (omega (arith, ap length same)) now

  kept_at : (number : ℕ) (asked : Request) (calls : List Call) (s : ClientState) → IsTied calls s → P s → P (at_call digest number asked calls s)
  kept_at number asked [] s tied now = now
  kept_at number asked (call ∷ calls) s tied now =
      let less : P (given_up s) = giving call calls s tied now in
      if_both P (eqb number s.number) (found_at digest asked s) _
      (if_both P (lifts asked) _ _ (if_both P (may_give_up s) (given_up s) s less now) (keeps.composing s now))
      (if_both P (may_give_up s) (at_call digest number asked calls (given_up s)) s
      (kept_at number asked calls (given_up s) (given_up_tied call calls s s.stage refl tied) less) now)

  pub kept_begun : (ask : Ask) (sent : List Sent) (s : ClientState) → P s → P (begun digest ask sent s)
  kept_begun ask [] s now = kept_at ask.from.number ask.request s.left s (inr refl) now
  kept_begun ask (x ∷ sent) s now = now

  kept_all : (calls : List Call) (s : ClientState) → IsTied calls s → P s → P (all_given_up calls s)
  kept_all [] s tied now = now
  kept_all (call ∷ calls) s tied now =
      if_both P (may_pass s) (all_given_up calls (given_up s)) s
      (kept_all calls (given_up s) (given_up_tied call calls s s.stage refl tied) (giving call calls s tied now)) now

  pub kept_all_given_up : (s : ClientState) → P s → P (all_given_up s.left s)
  kept_all_given_up s now = kept_all s.left s (inr refl) now
