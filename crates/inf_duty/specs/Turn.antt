-- What comes of the answers to a group.
use Rattle.std.specs.Prelude.{◌≡◌, ◌⊎◌, ℕ, ◌<◌, ◌==◌, ◌&&◌, nat_lt, Bool, true, false, if◌then◌else◌, List, [], ◌∷◌, ◌++◌, length, map, Option, Some, None}
use Rattle.std.specs.List.{list_all}
use Rattle.inf_base.specs.declared.answer.Answer.TheVariants as answer
use Rattle.inf_base.specs.declared.id.Id.{Id}
use Rattle.inf_base.specs.declared.key.LookKey.{LookKey}
use Rattle.inf_message.specs.declared.ending.Ending.TheVariants as ending
use Rattle.inf_message.specs.declared.turn.Turn.{Turn}
use Rattle.inf_message.specs.declared.turn.Turn.TheVariants as turn
use Rattle.inf_message.specs.Heard.{heard, light}
use Rattle.inf_message.specs.declared.reply.Reply.{Reply}
use Rattle.inf_message.specs.History.{Told}
use Rattle.inf_message.specs.Sent.{Sent, has_place, is_told, is_wanting, told_at}
use Rattle.inf_message.specs.Turn.{again, ends, turn_as}
use Rattle.inf_message.specs.Who.{Who}
use Rattle.inf_resolve.specs.declared.known.Known.{Known}
use Rattle.inf_resolve.specs.declared.resolved.Resolved.{Resolved}
use Rattle.inf_resolve.specs.declared.resolved.Resolved.TheVariants as comes
use Rattle.inf_resolve.specs.Resolved.{resolved}
use Rattle.inf_duty.specs.ClientState.{ClientState, Stage, act, compose, round, winds, wound}
use Rattle.inf_duty.specs.Flow.{after_act}
use Rattle.inf_duty.specs.declared.course.Course.{Course}
use Rattle.inf_duty.specs.Course.{next_course}
use Rattle.inf_duty.specs.Group.{group}
use Rattle.inf_duty.specs.Messages.{has_one_message}

-- ---- after a round

-- what a lookup of a key was told
abbrev pub told_of : LookKey → Option Told → List Known
told_of k None = []
told_of k (Some told) = record { key = k; reply = told.reply; place = told.serve_place } ∷ []

-- what the lookups of a round were told, by key
abbrev pub told_by : List LookKey → List Sent → List Known
told_by (k ∷ keys) (x ∷ xs) = told_of k x.told ++ told_by keys xs
told_by any_keys any_sent = []

-- it joins what the attempt knows
abbrev pub learned : Stage → ClientState → ClientState
learned (round keys) s = record s { known = s.known ++ told_by keys s.sent }
learned other s = s

-- a change in the way, and want of the root, end the attempt; else what is asked for next is settled by what is known
abbrev pub turn_by : Resolved → Turn Stage
turn_by (comes.IsBusy by place) = ends (answer.Again by) place
turn_by comes.Lacks = again
turn_by other = turn.GoesOn compose

abbrev pub known_turn : (List ℕ → Id) → Who → List Known → Option Course → Turn Stage
known_turn digest who known None = again
known_turn digest who known (Some course) = turn_by (resolved digest who.root course.looked known)

-- one reply that memory is wanting ends the call, once all are there
abbrev pub round_turn : (List ℕ → Id) → ClientState → Turn Stage
round_turn digest s =
    if is_wanting s.sent then turn.WindsUp (ending.Answers answer.NoMemory None) []
    else known_turn digest s.who s.known (next_course s.left)

-- ---- after any group

-- what comes of a group that was answered: the stage that follows, or the end
abbrev pub turn_at : (List ℕ → Id) → ClientState → Stage → Turn Stage
turn_at digest s compose = again
turn_at digest s (round keys) = round_turn digest s
turn_at digest s (act step) = turn_as act (after_act digest s.who step s.sent)
turn_at digest s (winds end ms later) = turn.WindsUp end later

abbrev pub turned : Turn Stage → ClientState → ClientState
turned (turn.GoesOn next) s = record s { stage = next; sent = [] }
turned (turn.WindsUp end more) s = wound end more s

abbrev pub after_group : (List ℕ → Id) → ClientState → ClientState
after_group digest s = turned (turn_at digest (learned s.stage s) s.stage) (learned s.stage s)

abbrev pub is_complete : ClientState → Bool
is_complete s = length s.sent == length (group s.who s.stage) && list_all is_told s.sent

-- the group is over when each of its messages was sent and answered
abbrev pub settled : (List ℕ → Id) → Bool → ClientState → ClientState
settled digest true s = after_group digest s
settled digest false s = s

abbrev pub later_place : Option ℕ → ℕ → Option ℕ
later_place None place = Some place
later_place (Some earlier) place = Some (if nat_lt earlier place then place else earlier)

abbrev pub recorded : ℕ → Told → ClientState → ClientState
recorded ask_place told s =
    record s {
      sent = map (told_at ask_place told) s.sent;
      counts = record s.counts { last = later_place s.counts.last told.serve_place };
    }

abbrev pub after_record : (List ℕ → Id) → ClientState → ClientState
after_record digest s = settled digest (is_complete s) s

-- a group that is one message, and no round, has no other answer to wait for
abbrev pub is_lone : ClientState → Bool
is_lone s = has_one_message s.who s.stage && length s.sent == 1

-- what is kept of an answer that others are waited for with: only those of a round own memory that counts
abbrev pub heard_in : Stage → Reply → Reply
heard_in (round keys) given = heard given
heard_in other given = light given

abbrev pub told_in : ClientState → Told → Told
told_in s told = if is_lone s then told else record told { reply = heard_in s.stage told.reply }

-- the Ask at a place was served; only an Ask of the present group is waited for
abbrev pub served : (List ℕ → Id) → ℕ → Told → ClientState → ClientState
served digest ask_place told s =
    if has_place ask_place s.sent then after_record digest (recorded ask_place (told_in s told) s) else s

-- ---- where memory is wanting for what a client is told

-- it stands where it stood; of the answer it kept nothing, or what a lookup was told
pub record StandsStill (old new : ClientState) : Type 0 where
  pub size : length new.sent ≡ length old.sent
  pub same : new ≡ record old { sent = new.sent }

-- its group was over, and it stands at the beginning of an attempt
pub record StandsAtFirst (old new : ClientState) : Type 0 where
  pub some : 0 < length old.sent
  pub over : length old.sent ≡ length (group old.who old.stage)
  pub same : new ≡ record old { stage = compose; sent = []; counts = new.counts }

abbrev pub IsLost : ClientState → ClientState → Type 0
IsLost old new = StandsStill old new ⊎ StandsAtFirst old new
