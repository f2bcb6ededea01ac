-- What a client keeps while it follows its own Asks: that its counts fit.
use Rattle.std.proofs.Common.{◌≡◌, ℕ, ◌+◌, ◌<◌, ◌≤◌, Bool, true, false, List, [], ◌∷◌, length, get_or, take, fold, Option, Some, None, refl, sym, ap, ◌∙◌, arith}
use Rattle.std.proofs.lemmas.List.Sums.{fold_more}
use Rattle.inf_base.specs.declared.id.Id.{Id}
use Rattle.inf_base.specs.declared.answer.Answer.TheVariants as answer
use Rattle.inf_duty.specs.Duty.{asked, begun, given_up_in}
use Rattle.inf_duty.specs.Own.{after_answer, after_own}
use Rattle.inf_duty.specs.declared.own.OwnAsk.{OwnAsk}
use Rattle.inf_duty.proofs.BegunKept.{IsKept, if_both, kept_begun}
use Rattle.inf_message.specs.declared.ending.Ending.TheVariants as ending
use Rattle.inf_message.specs.declared.turn.Turn.TheVariants as turn
use Rattle.inf_duty.specs.ClientState.{ClientState, Stage, act, compose, round, winds, wound}
use Rattle.inf_duty.specs.Flow.{clean_up}
use Rattle.inf_duty.specs.Turn.{after_record, is_complete, learned, recorded, served, settled, told_in, turn_at, turned}
use Rattle.inf_message.specs.Sent.{has_place}
use Rattle.inf_message.specs.declared.ending.Ending.{Ending}
use Rattle.inf_message.specs.declared.turn.Turn.{Turn}
use Rattle.inf_message.specs.declared.ask.Ask.{Ask}
use Rattle.inf_message.specs.declared.reply.Reply.{Reply}
use Rattle.inf_message.specs.declared.step.Message.{Message}
use Rattle.inf_message.specs.History.{Told, told_reply}

-- its call has taken at most so many messages
abbrev TookAtMost : ℕ → ClientState → Type 0
TookAtMost count s = s.counts.messages ≤ count

wound_took : (count : ℕ) (end : Ending) (more : List (List Message)) (s : ClientState) → TookAtMost count s → TookAtMost count (wound end more s)
wound_took count (ending.Answers given place) [] s took = omega arith
wound_took count ending.Retries [] s took = took
wound_took count end (ms ∷ later) s took = took

given_took_in : (count : ℕ) (s : ClientState) (x : Stage) → TookAtMost count s → TookAtMost count (given_up_in s x)
given_took_in count s compose took = omega arith
given_took_in count s (round keys) took = omega arith
given_took_in count s (act flow) took = wound_took count (ending.Answers answer.NoMemory None) (clean_up s.who flow) s took
given_took_in count s (winds end ms later) took = took

took_kept : (digest : List ℕ → Id) (count : ℕ) → IsKept digest (TookAtMost count)
took_kept digest count = record { composing = λ s took. took; giving_up = λ s took. given_took_in count s s.stage took }

-- a client that an ask finds has sent no more than before
pub begun_took : (digest : List ℕ → Id) (count : ℕ) (ask : Ask) (s : ClientState) → s.counts.messages ≤ count → (begun digest ask s.sent s).counts.messages ≤ count
begun_took digest count ask s took = kept_begun digest (TookAtMost count) (took_kept digest count) ask s.sent s took

asked_took : (digest : List ℕ → Id) (count at : ℕ) (ask : Ask) (s : ClientState) → TookAtMost count s → TookAtMost (count + 1) (asked digest at ask s)
asked_took digest count at ask s took = let before = begun_took digest count ask s took in omega arith

turned_took : (count : ℕ) (t : Turn Stage) (s : ClientState) → TookAtMost count s → TookAtMost count (turned t s)
turned_took count (turn.GoesOn next) s took = took
turned_took count (turn.WindsUp end more) s took = wound_took count end more s took

learned_took : (count : ℕ) (x : Stage) (s : ClientState) → TookAtMost count s → TookAtMost count (learned x s)
learned_took count compose s took = took
learned_took count (round keys) s took = took
learned_took count (act flow) s took = took
learned_took count (winds end ms later) s took = took

settled_took : (digest : List ℕ → Id) (count : ℕ) (complete : Bool) (s : ClientState) → TookAtMost count s → TookAtMost count (settled digest complete s)
settled_took digest count true s took =
    turned_took count (turn_at digest (learned s.stage s) s.stage) (learned s.stage s) (learned_took count s.stage s took)
settled_took digest count false s took = took

served_took : (digest : List ℕ → Id) (count at : ℕ) (told : Told) (s : ClientState) → TookAtMost count s → TookAtMost count (served digest at told s)
served_took digest count at told s took =
    let heard : Told = told_in s told in
    if_both (TookAtMost count) (has_place at s.sent) (after_record digest (recorded at heard s)) s
    (settled_took digest count (is_complete (recorded at heard s)) (recorded at heard s) took) took

answer_took : (digest : List ℕ → Id) (count at : ℕ) (told : Option (ℕ × Reply)) (s : ClientState) → TookAtMost count s → TookAtMost count (after_answer digest at told s)
answer_took digest count at None s took = took
answer_took digest count at (Some told) s took = served_took digest count at (told_reply told.0 told.1) s took

-- the client once it has followed the first so many of its Asks
pub record HasFollowed (digest : List ℕ → Id) (before now : ClientState) (own : List OwnAsk) (count : ℕ) : Type 0 where
  pub same : now ≡ fold (after_own digest) before (take count own)
  pub took : now.counts.messages ≤ count

pub follows_none : (digest : List ℕ → Id) (before : ClientState) (own : List OwnAsk) → before.counts.messages ≡ 0 → HasFollowed digest before before own 0
follows_none digest before own none = record { same = refl; took = omega arith }

pub follows_more : (digest : List ℕ → Id) (before now next : ClientState) (own : List OwnAsk) (count : ℕ) (made : OwnAsk) → HasFollowed digest before now own count → count < length own → made ≡ get_or own count made → next ≡ after_own digest now made → HasFollowed digest before next own (count + 1)
follows_more digest before now next own count made followed within is after =
    rw after
    (record {
      same = ap (λ s. after_own digest s made) followed.same ∙ ap (after_own digest (fold (after_own digest) before (take count own))) is ∙ sym (fold_more (after_own digest) before own count made within);
      took = answer_took digest (count + 1) made.ask_place made.told (asked digest made.ask_place made.ask now) (asked_took digest count made.ask_place made.ask now followed.took);
    })
