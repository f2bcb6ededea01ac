-- The order of answers within a group: an Ask that still waits may as well be answered before a later Ask of the group is
-- made, and before that one is answered.
use Rattle.std.proofs.Common.{◌≡◌, ℕ, ◌+◌, ◌<◌, ◌&&◌, ◌||◌, not, zero, suc, Bool, true, false, cond, eqb, List, [], ◌∷◌, ◌++◌, length, map, slice_get, Option, Some, None, option_map, refl, sym, ap, ap₂, ◌∙◌, subst, arith}
use Rattle.inf_base.specs.declared.id.Id.{Id}
use Rattle.std.proofs.lemmas.Bool.{or_right}
use Rattle.std.proofs.lemmas.Bool.Decides.{Decides-eqb, nat_tests}
use Rattle.std.proofs.lemmas.List.{length-map, map-append}
use Rattle.std.proofs.lemmas.Option.{slice_get-map, slice_get_within}
use Rattle.std.specs.List.{list_all}
use Rattle.inf_duty.specs.Duty.{asked}
use Rattle.inf_duty.specs.Own.{after_answer, told_pair}
use Rattle.inf_duty.specs.ClientState.{ClientState, Counts, Stage, counted, is_round, one_if, placed}
use Rattle.inf_message.specs.Who.{Who}
use Rattle.inf_duty.specs.Group.{group}
use Rattle.inf_duty.specs.Turn.{after_record, heard_in, is_complete, later_place, recorded, served, told_in}
use Rattle.inf_duty.specs.Messages.{has_one_message}
use Rattle.inf_message.specs.Sent.{Sent, has_place, is_first, is_told, told_at}
use Rattle.inf_laws_history.proofs.ClientSteps.{recorded_in, served_within}
use Rattle.inf_laws_history.proofs.PendingFacts.{begun_stays, not_complete, sent_recorded, waiting_at}
use Rattle.inf_laws_history.proofs.ByIndex.{got_pushed, got_stays}
use Rattle.inf_message.specs.declared.ask.Ask.{Ask}
use Rattle.inf_message.specs.History.{Told, told_reply}
use Rattle.inf_message.proofs.HistoryLaws.{itself}

-- what a client makes of an answer
abbrev pub hear : Told → Told
hear told = told_reply told.serve_place told.reply

-- ---- the later of two places

later_twice : (before : Option ℕ) (a b : ℕ) → later_place (later_place before b) a ≡ later_place (later_place before a) b
later_twice None a b = ap Some (grind (arith, nat_tests))
later_twice (Some place) a b = ap Some (grind (arith, nat_tests))

-- ---- two answers

pub differing : (a b : ℕ) → a ≡ b → eqb a b ≡ false → ⊥
differing a b same unlike = let yes = subst (λ c. eqb a c ≡ true) same (itself a) in cc

told_twice : (at place : ℕ) (a b : Told) (x : Sent) → eqb place at ≡ false → told_at at a (told_at place b x) ≡ told_at place b (told_at at a x)
told_twice at place a b x unlike = by (eqb x.place place) (eqb x.place at) refl refl
  where
    by : (here there : Bool) → eqb x.place place ≡ here → eqb x.place at ≡ there → told_at at a (told_at place b x) ≡ told_at place b (told_at at a x)
    by true true here there =
        absurd (differing place at (sym ((Decides-eqb x.place place).0 here) ∙ (Decides-eqb x.place at).0 there) unlike)
    by true false here there = rw (here, there, here) refl
    by false true here there = rw (here, there, here) refl
    by false false here there = rw (here, there, here) refl

all_told_twice : (at place : ℕ) (a b : Told) (sent : List Sent) → eqb place at ≡ false
    → map (told_at at a) (map (told_at place b) sent) ≡ map (told_at place b) (map (told_at at a) sent)
all_told_twice at place a b [] unlike = refl
all_told_twice at place a b (x ∷ sent) unlike = ap₂ (λ (y : Sent) (ys : List Sent). y ∷ ys) (told_twice at place a b x unlike) (all_told_twice at place a b sent unlike)

abbrev with_group : ClientState → List Sent → Counts → ClientState
with_group s sent counts = record s { sent = sent; counts = counts }

abbrev with_last : Counts → Option ℕ → Counts
with_last counts last = record counts { last = last }

pub recorded_twice : (at place : ℕ) (a b : Told) (s : ClientState) → eqb place at ≡ false → recorded at a (recorded place b s) ≡ recorded place b (recorded at a s)
recorded_twice at place a b s unlike =
    ap₂ (with_group s) (all_told_twice at place a b s.sent unlike)
    (ap (with_last s.counts) (later_twice s.counts.last a.serve_place b.serve_place))

-- ---- an answer and an Ask

first_stays : (at : ℕ) (told : Told) (sent : List Sent) → is_first (map (told_at at told) sent) ≡ is_first sent
first_stays at told [] = refl
first_stays at told (x ∷ sent) = refl

abbrev counted_as : ℕ → ClientState → Option ℕ → Bool → Counts
counted_as place s last first = record (counted place s) { last = last; rounds = s.counts.rounds + one_if (is_round s.stage && first) }

pub recorded_placed : (at place : ℕ) (told : Told) (s : ClientState) → eqb place at ≡ false → recorded at told (placed place s) ≡ placed place (recorded at told s)
recorded_placed at place told s unlike =
    let untold : told_at at told (waiting_at place) ≡ waiting_at place = rw unlike refl in
    ap₂ (with_group s)
    (map-append (told_at at told) s.sent (waiting_at place ∷ []) ∙ ap (λ (x : Sent). map (told_at at told) s.sent ++ x ∷ []) untold)
    (ap (counted_as place s (later_place s.counts.last told.serve_place)) (sym (first_stays at told s.sent)))

-- ---- an Ask that waits while another is made

-- the client waits for this Ask, and has a message of its group to send
pub record IsOpenIn (at : ℕ) (s : ClientState) : Type 0 where
  pub index : ℕ
  pub waits : slice_get s.sent index ≡ Some (waiting_at at)
  pub room : length s.sent < length (group s.who s.stage)

held : (at : ℕ) (sent : List Sent) (index : ℕ) → slice_get sent index ≡ Some (waiting_at at) → has_place at sent ≡ true
held at [] index found = absurd cc
held at (x ∷ sent) zero found =
    let same : x ≡ waiting_at at = cc in
    ap (λ (y : Sent). eqb y.place at || has_place at sent) same ∙ ap (λ b. b || has_place at sent) (itself at)
held at (x ∷ sent) (suc index) found = or_right (eqb x.place at) _ (held at sent index found)

not_full : (s : ClientState) → length s.sent < length (group s.who s.stage) → is_complete s ≡ false
not_full s room =
    let apart : eqb (length s.sent) (length (group s.who s.stage)) ≡ false = grind (arith, nat_tests) in
    ap (λ b. b && list_all is_told s.sent) apart

-- what is kept of an answer that others are waited for with
abbrev pub kept_of : Stage → Told → Told
kept_of stage told = record told { reply = heard_in stage told.reply }

-- a group that is asked in part has more than one message
several : (who : Who) (stage : Stage) (sent : List Sent) → 0 < length sent → length sent < length (group who stage) → has_one_message who stage ≡ false
several who stage sent some room =
    let apart : eqb (length (group who stage)) 1 ≡ false = grind (arith, nat_tests) in
    ap (λ b. not (is_round stage) && b) apart ∙ none (not (is_round stage))
  where
    none : (b : Bool) → (b && false) ≡ false
    none true = refl
    none false = refl

open_several : (at : ℕ) (s : ClientState) → IsOpenIn at s → has_one_message s.who s.stage ≡ false
open_several at s is =
    let within = slice_get_within s.sent is.index (waiting_at at) is.waits in
    several s.who s.stage s.sent (omega (arith, within)) is.room

kept_in : (s : ClientState) (told : Told) → has_one_message s.who s.stage ≡ false → told_in s told ≡ kept_of s.stage told
kept_in s told more = ap (λ b. cond (b && eqb (length s.sent) 1) told (kept_of s.stage told)) more

recorded_kept : (at : ℕ) (told : Told) (s : ClientState) → has_one_message s.who s.stage ≡ false → recorded_in at told s ≡ recorded at (kept_of s.stage told) s
recorded_kept at told s more = ap (λ t. recorded at t s) (kept_in s told more)

-- an answer does not end a group that is not wholly asked
pub open_recorded : (digest : List ℕ → Id) (at : ℕ) (told : Told) (s : ClientState) → IsOpenIn at s → served digest at told s ≡ recorded at (kept_of s.stage told) s
open_recorded digest at told s is =
    served_within digest at told s (held at s.sent is.index is.waits)
    (not_full (recorded_in at told s) (let room = is.room in let same = length-map s.sent (told_at at (told_in s told)) in omega arith))
    ∙ recorded_kept at told s (open_several at s is)

pub open_stays : (at place : ℕ) (told : Told) (s : ClientState) → eqb place at ≡ false → IsOpenIn place s → IsOpenIn place (recorded at told s)
open_stays at place told s unlike is = record {
  index = is.index;
  waits = sent_recorded at place told s.sent is.index unlike is.waits;
  room = let room = is.room in let same = length-map s.sent (told_at at told) in omega arith;
}

served_here : (digest : List ℕ → Id) (at : ℕ) (told : Told) (s : ClientState) → has_one_message s.who s.stage ≡ false → has_place at s.sent ≡ true
    → served digest at told s ≡ after_record digest (recorded at (kept_of s.stage told) s)
served_here digest at told s more here =
    ap (λ b. cond b (after_record digest (recorded_in at told s)) s) here ∙ ap (after_record digest) (recorded_kept at told s more)

module _ (digest : List ℕ → Id) (at place : ℕ) (told : Told) (ask : Ask) (s : ClientState) (apart : eqb place at ≡ false) (behind : eqb at place ≡ false) (is : IsOpenIn at s) where
  more : has_one_message s.who s.stage ≡ false
  more = open_several at s is

  -- the answer is kept before the other Ask is made
  abbrev kept_first : ClientState
  kept_first = recorded at (kept_of s.stage told) s

  -- both orders find the client within its group
  asked_so : asked digest place ask s ≡ placed place s
  asked_so = ap (placed place) (begun_stays digest ask s.sent s is.index (waiting_at at) is.waits)

  told_there : slice_get kept_first.sent is.index ≡ Some (told_at at (kept_of s.stage told) (waiting_at at))
  told_there = slice_get-map (told_at at (kept_of s.stage told)) s.sent is.index ∙ ap (option_map (told_at at (kept_of s.stage told))) is.waits

  asked_after : asked digest place ask (served digest at told s) ≡ placed place kept_first
  asked_after =
      ap (asked digest place ask) (open_recorded digest at told s is)
      ∙ ap (placed place) (begun_stays digest ask kept_first.sent kept_first is.index (told_at at (kept_of s.stage told) (waiting_at at)) told_there)

  still_held : has_place at (placed place s).sent ≡ true
  still_held = held at (placed place s).sent is.index (got_stays s.sent (waiting_at place) is.index (waiting_at at) is.waits)

  newest_waits : (t : ClientState) → slice_get (placed place t).sent (length t.sent) ≡ Some (waiting_at place)
  newest_waits t = got_pushed t.sent (waiting_at place)

  over_asked : served digest at told (asked digest place ask s) ≡ asked digest place ask (served digest at told s)
  over_asked =
      ap (served digest at told) asked_so
      ∙ served_within digest at told (placed place s) still_held
      (not_complete place (recorded_in at told (placed place s)) (length s.sent)
      (sent_recorded at place (told_in (placed place s) told) (placed place s).sent (length s.sent) apart (newest_waits s)))
      ∙ recorded_kept at told (placed place s) more
      ∙ recorded_placed at place (kept_of s.stage told) s apart
      ∙ sym asked_after

  -- the other answer leaves it waiting
  waits_still : (answer : Told) → slice_get (recorded place answer (placed place s)).sent is.index ≡ Some (waiting_at at)
  waits_still answer =
      sent_recorded place at answer (placed place s).sent is.index behind (got_stays s.sent (waiting_at place) is.index (waiting_at at) is.waits)

  other_first : (answer : Told) → served digest place answer (placed place s) ≡ recorded place (kept_of s.stage answer) (placed place s)
  other_first answer =
      served_within digest place answer (placed place s) (held place (placed place s).sent (length s.sent) (newest_waits s))
      (not_complete at (recorded_in place answer (placed place s)) is.index (waits_still (told_in (placed place s) answer)))
      ∙ recorded_kept place answer (placed place s) more

  other_last : (answer : Told) → served digest place answer (placed place kept_first) ≡ after_record digest (recorded place (kept_of s.stage answer) (placed place kept_first))
  other_last answer =
      served_here digest place answer (placed place kept_first) more
      (held place (placed place kept_first).sent (length kept_first.sent) (newest_waits kept_first))

  over_served : (answer : Told) → served digest at told (served digest place answer (asked digest place ask s)) ≡ served digest place answer (asked digest place ask (served digest at told s))
  over_served answer =
      let other : ClientState = recorded place (kept_of s.stage answer) (placed place s) in
      ap (λ t. served digest at told (served digest place answer t)) asked_so
      ∙ ap (served digest at told) (other_first answer)
      ∙ served_here digest at told other more (held at other.sent is.index (waits_still (kept_of s.stage answer)))
      ∙ ap (after_record digest)
      (recorded_twice at place (kept_of s.stage told) (kept_of s.stage answer) (placed place s) apart ∙ ap (recorded place (kept_of s.stage answer)) (recorded_placed at place (kept_of s.stage told) s apart))
      ∙ sym (other_last answer)
      ∙ ap (served digest place answer) (sym asked_after)

  -- the answer may come before the other Ask, whether that is answered or not
  pub over_one : (answer : Option Told) → served digest at told (after_answer digest place (told_pair answer) (asked digest place ask s))
      ≡ after_answer digest place (told_pair answer) (asked digest place ask (served digest at told s))
  over_one None = over_asked
  over_one (Some answer) = over_served (hear answer)
