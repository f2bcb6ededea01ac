-- What an answer changes of a client.
use Rattle.std.proofs.Common.{◌≡◌, ◌≢◌, ℕ, ◌+◌, ◌<◌, ◌≤◌, Bool, true, false, cond, eqb, ◌&&◌, ◌||◌, List, [], ◌∷◌, length, map, drop, Option, Some, None, refl, sym, ap, ap₂, subst, ◌∙◌, arith}
use Rattle.std.proofs.lemmas.Bool.{eqb-true}
use Rattle.std.proofs.lemmas.List.{drop_all, length-map}
use Rattle.std.specs.List.{cons_option, list_all, list_any}
use Rattle.inf_base.specs.declared.id.Id.{Id}
use Rattle.inf_client.specs.AskLog.{AskLog, told_log, waiting_asks, waits_at}
use Rattle.inf_client.specs.Client.{IsAtRest, asks_left, group_asks, ready_in}
use Rattle.inf_client.specs.Group.{IsKept, in_outbox}
use Rattle.inf_client.specs.Room.{room_between, room_in, room_needed, room_within}
use Rattle.inf_client.proofs.ClientFacts.{between_in, inside_room, none_boxed, ready_inside}
use Rattle.inf_client.proofs.GroupFacts.{asks_length}
use Rattle.inf_client.proofs.TurnRoom.{after_between, next_fits}
use Rattle.inf_duty.specs.ClientState.{ClientState}
use Rattle.inf_duty.specs.Group.{group}
use Rattle.inf_duty.specs.Messages.{is_winding}
use Rattle.inf_duty.specs.Turn.{after_group, after_record, is_complete, recorded, served, settled, told_in}
use Rattle.inf_message.specs.Sent.{Sent, has_place, is_told, told_at}
use Rattle.inf_message.specs.declared.ask.Ask.{Ask}
use Rattle.inf_message.specs.History.{Made, Own, Posted, Told, own_ask, served_at, unless_told}

-- ---- the log

false_first : (a b : Bool) → (a || b) ≡ false → a ≡ false
false_first true b e = e
false_first false b e = refl

false_second : (a b : Bool) → (a || b) ≡ false → b ≡ false
false_second true b e = absurd (cc)
false_second false b e = e

same_own : (b : Bool) (own : Own) → cond b own own ≡ own
same_own true own = refl
same_own false own = refl

told_apart : (place : ℕ) (told : Told) (owns : List Own) → waits_at place owns ≡ false → map (served_at place told) owns ≡ owns
told_apart place told [] apart = refl
told_apart place told (own ∷ owns) apart = by own.told (λ e. told_apart place told owns e) apart
  where
    by : (answer : Option Told) → (waits_at place owns ≡ false → map (served_at place told) owns ≡ owns)
        → list_any (λ (made : Made). eqb made.ask_place place) (cons_option (unless_told own.made answer) (waiting_asks owns)) ≡ false
        → map (served_at place told) (own_ask own.made answer ∷ owns) ≡ own_ask own.made answer ∷ owns
    by None later e =
        ap₂ (λ (first : Own) more. first ∷ more)
        (ap (λ b. cond b (own_ask own.made (Some told)) (own_ask own.made None)) (false_first (eqb own.made.ask_place place) (waits_at place owns) e))
        (later (false_second (eqb own.made.ask_place place) (waits_at place owns) e))
    by (Some before) later e =
        ap₂ (λ (first : Own) more. first ∷ more) (same_own (eqb own.made.ask_place place) (own_ask own.made (Some before))) (later e)

-- where no Ask waits at the place, nothing changes
pub told_nothing : (place : ℕ) (told : Told) (log : AskLog) → waits_at place log.asks ≡ false → log ≡ told_log place told log
told_nothing place told log apart = ap (λ asks. record log { asks = asks }) (sym (told_apart place told log.asks apart))

-- ---- the client

kept_log : (s : ClientState) (gone : Bool) (log new : AskLog) (handed : Bool) (outbox : List (ℕ × Ask)) → IsKept s gone log handed outbox
    → new.room ≡ log.room → IsKept s gone new handed outbox
kept_log s gone log new handed outbox kept room = record {
  at_rest = kept.at_rest;
  first = kept.first;
  here = kept.here;
  calls = kept.calls;
  posts = kept.posts;
  room = subst (λ (n : ℕ). room_needed handed s ≤ n) (sym room) kept.room;
}

has_inside : (place : ℕ) (sent : List Sent) → has_place place sent ≡ true → sent ≢ []
has_inside place [] has = absurd (cc)
has_inside place (x ∷ sent) has = λ none. absurd (cc)

told_inside : (place : ℕ) (told : Told) (sent : List Sent) → sent ≢ [] → map (told_at place told) sent ≢ []
told_inside place told [] inside = absurd (inside refl)
told_inside place told (x ∷ sent) inside = λ none. absurd (cc)

pub still_here : (s : ClientState) (gone : Bool) → IsAtRest s gone → s.sent ≢ [] → gone ≡ false
still_here s true rest inside = absurd (inside rest.0)
still_here s false rest inside = refl

-- within a group
pub ready_within : (handed : Bool) (sent : List Sent) (s : ClientState) → sent ≢ [] → ready_in handed sent s ≡ asks_left s
ready_within true sent s inside = refl
ready_within false sent s inside = ready_inside sent s inside

room_inside : (handed : Bool) (sent : List Sent) (s : ClientState) → sent ≢ [] → room_in handed sent s ≡ room_within s.stage
room_inside true sent s inside = refl
room_inside false sent s inside = inside_room sent s inside

both_first : (a b : Bool) → (a && b) ≡ true → a ≡ true
both_first true b e = refl
both_first false b e = absurd (cc)

module _ (digest : List ℕ → Id) (s : ClientState) (gone : Bool) (log : AskLog) (handed : Bool) (outbox : List (ℕ × Ask)) (place : ℕ) (told : Told) (kept : IsKept s gone log handed outbox)
    (inside : s.sent ≢ []) where
  sent_same : length (recorded place told s).sent ≡ length s.sent
  sent_same = length-map s.sent (told_at place told)

  all_left : ready_in handed s.sent s ≡ asks_left s
  all_left = ready_within handed s.sent s inside

  left_same : asks_left s ≡ asks_left (recorded place told s)
  left_same = ap (λ (n : ℕ). drop n (group_asks s)) (sym sent_same)

  fits_within : length (asks_left s) + room_within s.stage ≤ log.room
  fits_within =
      subst (λ (ready : List Posted). length ready + room_within s.stage ≤ log.room) all_left
      (subst (λ (n : ℕ). length (ready_in handed s.sent s) + n ≤ log.room) (room_inside handed s.sent s inside) kept.room)

  after_inside : (recorded place told s).sent ≢ []
  after_inside = told_inside place told s.sent inside

  ready_after : ready_in handed (recorded place told s).sent (recorded place told s) ≡ asks_left s
  ready_after = ready_within handed (recorded place told s).sent (recorded place told s) after_inside ∙ sym left_same

  -- the group is not over
  kept_recorded : IsKept (recorded place told s) gone log handed outbox
  kept_recorded = record {
    at_rest = subst (IsAtRest (recorded place told s)) (sym (still_here s gone kept.at_rest inside)) tt;
    first = λ is. (let before : length s.sent < length (group s.who s.stage) = kept.first is in
        let same = sent_same in
        omega arith);
    here = kept.here;
    calls = λ some. kept.calls (subst (λ (ready : List Posted). 0 < length ready) (ready_after ∙ sym all_left) some);
    posts = kept.posts ∙ ap (in_outbox (is_winding s.stage) handed) (all_left ∙ sym ready_after);
    room =
        subst (λ (ready : List Posted). length ready + room_in handed (recorded place told s).sent (recorded place told s) ≤ log.room) (sym ready_after)
        (subst (λ (n : ℕ). length (asks_left s) + n ≤ log.room)
        (sym (room_inside handed (recorded place told s).sent (recorded place told s) after_inside)) fits_within);
  }

  not_to_ask : (is : Bool) → handed ≡ is → length (recorded place told s).sent ≡ length (group s.who s.stage) → handed ≡ false
  not_to_ask true is all =
      let before : length s.sent < length (group s.who s.stage) = kept.first is in
      let same = sent_same in
      absurd (omega arith)
  not_to_ask false is all = is

  -- the group is over
  kept_turned : is_complete (recorded place told s) ≡ true
      → IsKept (after_group digest (recorded place told s)) gone log handed outbox
  kept_turned complete =
      let r = recorded place told s in
      let next = after_group digest r in
      let all : length r.sent ≡ length (group s.who s.stage) =
      eqb-true (length r.sent) (length (group s.who s.stage)) (both_first (eqb (length r.sent) (length (group s.who s.stage))) (list_all is_told r.sent) complete) in
      let quiet : handed ≡ false = not_to_ask handed refl all in
      let many = asks_length s in
      let none : asks_left s ≡ [] = left_same ∙ drop_all (length r.sent) (group_asks s) (omega arith) in
      let between : next.sent ≡ [] = after_between digest r in
      let empty : ready_in handed next.sent next ≡ [] = ap (λ h. ready_in h next.sent next) quiet ∙ between_in next.sent next between in
      record {
        at_rest = subst (IsAtRest next) (sym (still_here s gone kept.at_rest inside)) tt;
        first = λ is. (let clash = sym is ∙ quiet in absurd (cc));
        here = kept.here;
        calls = λ some. (let count : length (ready_in handed next.sent next) ≡ 0 = ap length empty in absurd (omega arith));
        posts =
            kept.posts ∙ ap (in_outbox (is_winding s.stage) handed) (all_left ∙ none) ∙ none_boxed (is_winding s.stage) handed
            ∙ sym (none_boxed (is_winding next.stage) handed) ∙ sym (ap (in_outbox (is_winding next.stage) handed) empty);
        room =
            let within : room_within s.stage ≤ log.room = (let fits = fits_within in omega (arith, fits)) in
            let there = next_fits digest r log.room within in
            let fits : 0 + room_between next.who next.stage ≤ log.room = omega (arith, there) in
            subst (λ (h : Bool). length (ready_in h next.sent next) + room_in h next.sent next ≤ log.room) (sym quiet)
            (subst (λ (sent : List Sent). length (ready_in false sent next) + room_in false sent next ≤ log.room) (sym between) fits);
      }

  kept_settled : (b : Bool) → is_complete (recorded place told s) ≡ b → IsKept (settled digest b (recorded place told s)) gone log handed outbox
  kept_settled true is = kept_turned is
  kept_settled false is = kept_recorded

  kept_after : IsKept (after_record digest (recorded place told s)) gone log handed outbox
  kept_after = kept_settled (is_complete (recorded place told s)) refl

kept_served : (digest : List ℕ → Id) (s : ClientState) (gone : Bool) (log : AskLog) (handed : Bool) (outbox : List (ℕ × Ask))
    (place : ℕ) (told : Told) → IsKept s gone log handed outbox → (b : Bool) → has_place place s.sent ≡ b
    → IsKept (cond b (after_record digest (recorded place (told_in s told) s)) s) gone log handed outbox
kept_served digest s gone log handed outbox place told kept true has =
    kept_after digest s gone log handed outbox place (told_in s told) kept (has_inside place s.sent has)
kept_served digest s gone log handed outbox place told kept false has = kept

pub kept_told : (digest : List ℕ → Id) (s : ClientState) (gone : Bool) (log : AskLog) (handed : Bool) (outbox : List (ℕ × Ask))
    (place : ℕ) (told : Told) → IsKept s gone log handed outbox
    → IsKept (served digest place told s) gone (told_log place told log) handed outbox
kept_told digest s gone log handed outbox place told kept =
    kept_log (served digest place told s) gone log (told_log place told log) handed outbox
    (kept_served digest s gone log handed outbox place told kept (has_place place s.sent) refl) refl
