-- Queues of Asks that wait, as events are made and served ones leave.
use Rattle.std.proofs.Common.{◌≡◌, ◌≢◌, ℕ, zero, suc, ◌+◌, ◌<◌, Bool, true, false, cond, not, ◌&&◌, List, [], ◌∷◌, length, slice_get, drop, Option, None, Some, All, refl, sym, ap, subst, ◌∙◌, arith}
use Rattle.std.proofs.lemmas.Bool.Decides.{Decides-eqb}
use Rattle.std.specs.List.{find}
use Rattle.std.proofs.lemmas.List.Elements.{All-head, All-tail}
use Rattle.inf_message.specs.declared.event.Event.{Event}
use Rattle.inf_message.specs.History.{is_served}
use Rattle.inf_sched.specs.Waiting.{IsFrontLeft, IsWithin, Posting, first_of, is_open, is_to}

pub front_starts : (h : List Event) (queue : List Posting) → All (IsWithin h) queue → IsFrontLeft h queue queue
front_starts h queue within = record { finds = λ also. refl; within = within }

served_skipped : (h : List Event) (p : Posting) (ps : List Posting) (also : Posting → Bool) → is_served p.place h ≡ true
    → find (λ q. also q && is_open h q) (p ∷ ps) ≡ find (λ q. also q && is_open h q) ps
served_skipped h p ps also served = by (also p) (is_open h p) (ap not served)
  where
    by : (a o : Bool) → o ≡ false → cond (a && o) (Some p) (find (λ q. also q && is_open h q) ps) ≡ find (λ q. also q && is_open h q) ps
    by true o none = rw none refl
    by false o none = refl

front_is : (now : List Posting) (p : Posting) → first_of now ≡ Some p → now ≡ p ∷ drop 1 now
front_is [] p first = absurd (cc)
front_is (q ∷ qs) p first = let this : q ≡ p = cc in ap (λ (x : Posting). x ∷ qs) this

-- the front leaves that was served
pub front_leaves : (h : List Event) (old now : List Posting) (p : Posting) (rest : List Posting) → IsFrontLeft h old now → first_of now ≡ Some p → rest ≡ drop 1 now → is_served p.place h ≡ true
    → IsFrontLeft h old rest
front_leaves h old now p rest left first behind served =
    let here : IsFrontLeft h old (p ∷ drop 1 now) = subst (λ ps. IsFrontLeft h old ps) (front_is now p first) left in
    subst (λ ps. IsFrontLeft h old ps) (sym behind) (record {
      finds = λ also. sym (served_skipped h p (drop 1 now) also served) ∙ here.finds also;
      within = All-tail (IsWithin h) p (drop 1 now) here.within;
    })

pub front_within : (h : List Event) (old now : List Posting) (p : Posting) → IsFrontLeft h old now → first_of now ≡ Some p → IsWithin h p
front_within h old now p left first =
    All-head (IsWithin h) p (drop 1 now) (subst (λ ps. All (IsWithin h) ps) (front_is now p first) left.within)

pub front_some : (now : List Posting) (p : Posting) → first_of now ≡ Some p → 0 < length now
front_some [] p first = absurd (cc)
front_some (q ∷ qs) p first = omega arith

pub front_found : (h : List Event) (old now : List Posting) (p : Posting) → IsFrontLeft h old now → first_of now ≡ Some p → is_served p.place h ≡ false
    → Some p ≡ find (is_open h) old
front_found h old [] p left first waits = absurd (cc)
front_found h old (q ∷ qs) p left first waits =
    let this : q ≡ p = cc in
    let open_yet : is_open h q ≡ true = ap not (subst (λ (x : Posting). is_served x.place h ≡ false) (sym this) waits) in
    sym first ∙ sym (found_first q qs open_yet) ∙ left.finds (λ x. true)
  where
    found_first : (x : Posting) (xs : List Posting) → is_open h x ≡ true → find (is_open h) (x ∷ xs) ≡ Some x
    found_first x xs yes_open = rw yes_open refl

pub none_found : (h : List Event) (old now : List Posting) → IsFrontLeft h old now → first_of now ≡ None → None ≡ find (is_open h) old
none_found h old [] left first = left.finds (λ x. true)
none_found h old (q ∷ qs) left first = absurd (cc)

-- ---- the oldest Ask to a server

abbrev fits : ℕ → List Event → Posting → Bool
fits number h p = is_to number p && is_open h p

find_at : (test : Posting → Bool) (ps : List Posting) (i : ℕ) (p : Posting) → slice_get ps i ≡ Some p
    → find test (drop i ps) ≡ cond (test p) (Some p) (find test (drop (suc i) ps))
find_at test [] i p at = absurd (cc)
find_at test (q ∷ ps) zero p at = let this : q ≡ p = cc in rw this refl
find_at test (q ∷ ps) (suc i) p at = find_at test ps i p at

next : (number i : ℕ) (h : List Event) (ps : List Posting) → find (fits number h) (drop (i + 1) ps) ≡ find (fits number h) (drop (suc i) ps)
next number i h ps = let same : i + 1 ≡ suc i = omega arith in ap (λ k. find (fits number h) (drop k ps)) same

pub found_at : (number i : ℕ) (h : List Event) (ps : List Posting) (p : Posting)
    → find (fits number h) (drop i ps) ≡ find (fits number h) ps → slice_get ps i ≡ Some p → p.number ≡ number → is_served p.place h ≡ false
    → Some p ≡ find (fits number h) ps
found_at number i h ps p before at to waits =
    let yes_to : is_to number p ≡ true = (Decides-eqb p.number number).1 to in
    let open_yet : is_open h p ≡ true = ap not waits in
    sym (sym before ∙ find_at (fits number h) ps i p at ∙ rw (yes_to, open_yet) refl)

pub passed_server : (number i : ℕ) (h : List Event) (ps : List Posting) (p : Posting)
    → find (fits number h) (drop i ps) ≡ find (fits number h) ps → slice_get ps i ≡ Some p → p.number ≢ number
    → find (fits number h) (drop (i + 1) ps) ≡ find (fits number h) ps
passed_server number i h ps p before at unlike = by (is_to number p) refl
  where
    by : (b : Bool) → is_to number p ≡ b → find (fits number h) (drop (i + 1) ps) ≡ find (fits number h) ps
    by true same = absurd (unlike ((Decides-eqb p.number number).0 same))
    by false other = next number i h ps ∙ sym (sym before ∙ find_at (fits number h) ps i p at ∙ rw other refl)

pub passed_served : (number i : ℕ) (h : List Event) (ps : List Posting) (p : Posting)
    → find (fits number h) (drop i ps) ≡ find (fits number h) ps → slice_get ps i ≡ Some p → p.number ≡ number → is_served p.place h ≡ true
    → find (fits number h) (drop (i + 1) ps) ≡ find (fits number h) ps
passed_served number i h ps p before at to served =
    let yes_to : is_to number p ≡ true = (Decides-eqb p.number number).1 to in
    let closed : is_open h p ≡ false = ap not served in
    next number i h ps ∙ sym (sym before ∙ find_at (fits number h) ps i p at ∙ rw (yes_to, closed) refl)

none_behind : {X : Type 0} (xs : List X) (i : ℕ) → slice_get xs i ≡ None → drop i xs ≡ []
none_behind [] zero none = refl
none_behind [] (suc i) none = refl
none_behind (x ∷ xs) zero none = absurd (cc)
none_behind (x ∷ xs) (suc i) none = none_behind xs i none

pub none_at : (number i : ℕ) (h : List Event) (ps : List Posting)
    → find (fits number h) (drop i ps) ≡ find (fits number h) ps → slice_get ps i ≡ None → None ≡ find (fits number h) ps
none_at number i h ps before none = sym (ap (find (fits number h)) (none_behind ps i none)) ∙ before

pub got_within : (h : List Event) (ps : List Posting) (i : ℕ) (p : Posting) → All (IsWithin h) ps → slice_get ps i ≡ Some p → IsWithin h p
got_within h [] i p within at = absurd (cc)
got_within h (q ∷ ps) zero p within at = let this : q ≡ p = cc in subst (λ (x : Posting). IsWithin h x) this (All-head (IsWithin h) q ps within)
got_within h (q ∷ ps) (suc i) p within at = got_within h ps i p (All-tail (IsWithin h) q ps within) at

pub got_before : (ps : List Posting) (i : ℕ) (p : Posting) → slice_get ps i ≡ Some p → i < length ps
got_before [] i p at = absurd (cc)
got_before (q ∷ ps) zero p at = omega arith
got_before (q ∷ ps) (suc i) p at = let rest = got_before ps i p at in omega arith

-- what is found of a queue whose served front has left is found of it before
pub found_left : (number : ℕ) (h : List Event) (old now : List Posting) (found : Option Posting) → IsFrontLeft h old now
    → found ≡ find (λ p. is_to number p && is_open h p) now → found ≡ find (λ p. is_to number p && is_open h p) old
found_left number h old now found left is = is ∙ left.finds (is_to number)
