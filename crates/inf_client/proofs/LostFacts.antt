-- A client that lacked memory for what it was told is still whole.
use Rattle.std.proofs.Common.{◌≡◌, ℕ, ◌+◌, ◌<◌, ◌≤◌, Bool, true, false, List, [], ◌∷◌, length, drop, refl, sym, ap, subst, ◌∙◌, inl, inr, arith}
use Rattle.std.proofs.lemmas.List.{drop_all}
use Rattle.inf_client.specs.AskLog.{AskLog}
use Rattle.inf_client.specs.Client.{IsAtRest, asks_left, group_asks, ready_in}
use Rattle.inf_client.specs.Group.{IsKept, in_outbox}
use Rattle.inf_client.specs.Room.{room_in}
use Rattle.inf_client.proofs.ClientFacts.{none_boxed}
use Rattle.inf_client.proofs.GroupFacts.{asks_length}
use Rattle.inf_client.proofs.ToldFacts.{ready_within, still_here}
use Rattle.inf_duty.specs.ClientState.{ClientState, Counts, compose}
use Rattle.inf_duty.specs.Group.{group}
use Rattle.inf_duty.specs.Messages.{is_winding}
use Rattle.inf_duty.specs.Turn.{IsLost}
use Rattle.inf_message.specs.Sent.{Sent}
use Rattle.inf_message.specs.declared.ask.Ask.{Ask}
use Rattle.inf_message.specs.History.{Posted}

-- ---- it stands where it stood, and has sent as many as before

no_more : (xs ys : List Sent) → length ys ≡ length xs → xs ≡ [] → ys ≡ []
no_more xs [] size none = refl
no_more xs (y ∷ ys) size none = let empty : length xs ≡ 0 = ap length none in absurd (omega arith)

rests_on : (s : ClientState) (sent : List Sent) (gone : Bool) → length sent ≡ length s.sent → IsAtRest s gone → IsAtRest (record s { sent = sent }) gone
rests_on s sent true size rest = (no_more s.sent sent size rest.0, rest.1)
rests_on s sent false size rest = tt

as_ready : (handed : Bool) (xs ys : List Sent) (s : ClientState) → length ys ≡ length xs → asks_left s ≡ asks_left (record s { sent = ys })
    → ready_in handed xs s ≡ ready_in handed ys (record s { sent = ys })
as_ready true xs ys s size same = same
as_ready false [] [] s size same = refl
as_ready false (x ∷ xs) (y ∷ ys) s size same = same
as_ready false [] (y ∷ ys) s size same = absurd (omega arith)
as_ready false (x ∷ xs) [] s size same = absurd (omega arith)

as_roomy : (handed : Bool) (xs ys : List Sent) (s : ClientState) → length ys ≡ length xs
    → room_in handed xs s ≡ room_in handed ys (record s { sent = ys })
as_roomy true xs ys s size = refl
as_roomy false [] [] s size = refl
as_roomy false (x ∷ xs) (y ∷ ys) s size = refl
as_roomy false [] (y ∷ ys) s size = absurd (omega arith)
as_roomy false (x ∷ xs) [] s size = absurd (omega arith)

module _ (s : ClientState) (gone : Bool) (log : AskLog) (handed : Bool) (outbox : List (ℕ × Ask)) (kept : IsKept s gone log handed outbox) where
  kept_still : (sent : List Sent) → length sent ≡ length s.sent → IsKept (record s { sent = sent }) gone log handed outbox
  kept_still sent size =
      let same : ready_in handed s.sent s ≡ ready_in handed sent (record s { sent = sent }) =
      as_ready handed s.sent sent s size (ap (λ (n : ℕ). drop n (group_asks s)) (sym size)) in
      record {
        at_rest = rests_on s sent gone size kept.at_rest;
        first = λ is. subst (λ (n : ℕ). n < length (group s.who s.stage)) (sym size) (kept.first is);
        here = kept.here;
        calls = λ some. kept.calls (subst (λ (ready : List Posted). 0 < length ready) (sym same) some);
        posts = kept.posts ∙ ap (in_outbox (is_winding s.stage) handed) same;
        room =
            subst (λ (ready : List Posted). length ready + room_in handed sent (record s { sent = sent }) ≤ log.room) same
            (subst (λ (n : ℕ). length (ready_in handed s.sent s) + n ≤ log.room) (as_roomy handed s.sent sent s size) kept.room);
      }

-- ---- it stands at the beginning of an attempt

inside_some : (sent : List Sent) → 0 < length sent → sent ≡ [] → ⊥
inside_some [] some none = omega arith
inside_some (x ∷ sent) some none = absurd cc

module _ (s : ClientState) (gone : Bool) (log : AskLog) (handed : Bool) (outbox : List (ℕ × Ask)) (kept : IsKept s gone log handed outbox)
    (some : 0 < length s.sent) (over : length s.sent ≡ length (group s.who s.stage)) where
  not_to_ask : (is : Bool) → handed ≡ is → handed ≡ false
  not_to_ask true is =
      let before : length s.sent < length (group s.who s.stage) = kept.first is in
      absurd (omega arith)
  not_to_ask false is = is

  kept_first : (counts : Counts) → IsKept (record s { stage = compose; sent = []; counts = counts }) gone log handed outbox
  kept_first counts =
      let inside = inside_some s.sent some in
      let quiet : handed ≡ false = not_to_ask handed refl in
      let many = asks_length s in
      let none : ready_in handed s.sent s ≡ [] = ready_within handed s.sent s inside ∙ drop_all (length s.sent) (group_asks s) (omega arith) in
      let now : ClientState = record s { stage = compose; sent = []; counts = counts } in
      let empty : ready_in handed [] now ≡ [] = ap (λ h. ready_in h [] now) quiet in
      record {
        at_rest = subst (IsAtRest now) (sym (still_here s gone kept.at_rest inside)) tt;
        first = λ is. (let clash = sym is ∙ quiet in absurd (cc));
        here = kept.here;
        calls = λ any. (let count : length (ready_in handed [] now) ≡ 0 = ap length empty in absurd (omega arith));
        posts =
            kept.posts ∙ ap (in_outbox (is_winding s.stage) handed) none ∙ none_boxed (is_winding s.stage) handed
            ∙ sym (none_boxed false handed) ∙ sym (ap (in_outbox false handed) empty);
        room = subst (λ (h : Bool). length (ready_in h [] now) + room_in h [] now ≤ log.room) (sym quiet) (omega arith);
      }

pub kept_lost : (s new : ClientState) (gone : Bool) (log : AskLog) (handed : Bool) (outbox : List (ℕ × Ask)) → IsKept s gone log handed outbox
    → IsLost s new → IsKept new gone log handed outbox
kept_lost s new gone log handed outbox kept (inl still) =
    subst (λ (t : ClientState). IsKept t gone log handed outbox) (sym still.same) (kept_still s gone log handed outbox kept new.sent still.size)
kept_lost s new gone log handed outbox kept (inr first) =
    subst (λ (t : ClientState). IsKept t gone log handed outbox) (sym first.same)
    (kept_first s gone log handed outbox kept first.some first.over new.counts)
