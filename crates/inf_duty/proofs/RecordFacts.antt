-- One answer among the Asks of a group.
use Rattle.std.proofs.Common.{◌≡◌, ℕ, zero, suc, ◌+◌, ◌<◌, ◌≤◌, ◌&&◌, eqb, true, false, List, [], ◌∷◌, ◌++◌, length, get_or, map, None, refl, sym, ap, ◌∙◌, arith}
use Rattle.std.proofs.Math.ListN.{set}
use Rattle.inf_duty.specs.Kept.{IsOpenAlone}
use Rattle.inf_duty.specs.Messages.{has_one_message}
use Rattle.inf_message.specs.Who.{Who}
use Rattle.std.proofs.lemmas.Bool.Decides.{nat_tests}
use Rattle.inf_duty.specs.ClientState.{Stage, act, compose, is_round, round, winds}
use Rattle.inf_message.specs.Sent.{Sent, new_sent, told_at}
use Rattle.inf_message.specs.History.{Told}

-- the first so many changed
abbrev pub changed : ℕ → (Sent → Sent) → List Sent → List Sent
changed zero f xs = xs
changed (suc i) f [] = []
changed (suc i) f (x ∷ xs) = f x ∷ changed i f xs

pub changed_all : (f : Sent → Sent) (xs : List Sent) (i : ℕ) → length xs ≤ i → changed i f xs ≡ map f xs
changed_all f [] zero all = refl
changed_all f [] (suc i) all = refl
changed_all f (x ∷ xs) zero all = absurd (omega arith)
changed_all f (x ∷ xs) (suc i) all = ap (λ ys. f x ∷ ys) (changed_all f xs i (omega arith))

pub changed_length : (f : Sent → Sent) (xs : List Sent) (i : ℕ) → length (changed i f xs) ≡ length xs
changed_length f xs zero = refl
changed_length f [] (suc i) = refl
changed_length f (x ∷ xs) (suc i) = let rest = changed_length f xs i in omega arith

changed_more_at : (f : Sent → Sent) (xs : List Sent) (i : ℕ) (y : Sent) → i < length xs → y ≡ get_or (changed i f xs) i y → set (changed i f xs) i (f y) ≡ changed (suc i) f xs
changed_more_at f [] i y within is = absurd (omega arith)
changed_more_at f (x ∷ xs) zero y within is = let same : y ≡ x = is in ap (λ z. f z ∷ xs) same
changed_more_at f (x ∷ xs) (suc i) y within is = ap (λ ys. f x ∷ ys) (changed_more_at f xs i y (omega arith) is)

-- ---- an Ask that is alone in its group

none_open : (x : Sent) → [] ≡ x ∷ [] → ⊥
none_open x is = cc

pub open_between : (who : Who) (stage : Stage) (sent : List Sent) → sent ≡ [] → IsOpenAlone who stage sent
open_between who stage sent none = record { untold = λ x is one. absurd (none_open x (sym none ∙ is)) }

pub open_placed : (who : Who) (stage : Stage) (sent now : List Sent) (place : ℕ) → now ≡ sent ++ new_sent place ∷ [] → IsOpenAlone who stage now
open_placed who stage sent now place is = record { untold = λ x only one. by sent x (sym is ∙ only) }
  where
    by : (xs : List Sent) (x : Sent) → xs ++ new_sent place ∷ [] ≡ x ∷ [] → x.told ≡ None
    by [] x only = let same : new_sent place ≡ x = cc in ap (λ (y : Sent). y.told) (sym same)
    by (y ∷ []) x only = absurd cc
    by (y ∷ z ∷ xs) x only = absurd cc

-- where an answer is kept, its Ask is not alone
pub open_recorded : (who : Who) (stage : Stage) (sent now : List Sent) → length now ≡ length sent → (has_one_message who stage && eqb (length sent) 1) ≡ false
    → IsOpenAlone who stage now
open_recorded who stage sent now same apart = record { untold = λ x only one. absurd (by one (sym same ∙ ap length only)) }
  where
    by : has_one_message who stage ≡ true → length sent ≡ 1 → ⊥
    by one alone =
        let here : eqb (length sent) 1 ≡ true = grind (arith, nat_tests) in
        cc

pub open_round : (who : Who) (stage : Stage) (sent : List Sent) → is_round stage ≡ true → IsOpenAlone who stage sent
open_round who stage sent is = record { untold = λ x only one. absurd (by stage is one) }
  where
    by : (next : Stage) → is_round next ≡ true → has_one_message who next ≡ true → ⊥
    by compose is one = cc
    by (round keys) is one = cc
    by (act step) is one = cc
    by (winds end ms later) is one = cc

-- ---- the answer of the Ask at a place: the first so many were looked at

pub record HasNoted (place : ℕ) (told : Told) (before now : List Sent) (i : ℕ) : Type 0 where
  pub same : now ≡ changed i (told_at place told) before

pub notes_none : (place : ℕ) (told : Told) (before : List Sent) → HasNoted place told before before 0
notes_none place told before = record { same = refl }

pub notes_more : (place : ℕ) (told : Told) (before now : List Sent) (i : ℕ) (x y : Sent) → HasNoted place told before now i
    → i < length before → x ≡ get_or now i x → y ≡ told_at place told x → HasNoted place told before (set now i y) (i + 1)
notes_more place told before now i x y noted within is answered =
    let f = told_at place told in
    let one : i + 1 ≡ suc i = omega arith in
    record {
      same = rw one (ap (λ (w : Sent). set now i w) answered ∙ ap (λ xs. set xs i (f x)) noted.same
          ∙ changed_more_at f before i x within (is ∙ ap (λ xs. get_or xs i x) noted.same));
    }
