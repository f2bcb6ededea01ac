-- What a client was told answers what it asked, and how it learns that.
use Rattle.std.proofs.Common.{◌≡◌, ℕ, ◌==◌, Bool, true, false, if◌then◌else◌, List, [], ◌∷◌, ◌++◌, length, map, slice_get, Option, Some, None, refl, sym, ap, subst}
use Rattle.std.proofs.lemmas.Bool.Decides.{Decides-eqb}
use Rattle.inf_base.specs.declared.answer.Answer.TheVariants as answer
use Rattle.inf_base.specs.declared.call.Call.{Call}
use Rattle.inf_base.specs.declared.id.Id.{Id}
use Rattle.inf_base.specs.declared.key.LookKey.{LookKey}
use Rattle.inf_base.specs.declared.key.LookKey.TheVariants as look
use Rattle.inf_message.specs.declared.ask.Ask.{Ask}
use Rattle.inf_message.specs.declared.ending.Ending.{Ending}
use Rattle.inf_message.specs.declared.ending.Ending.TheVariants as ending
use Rattle.inf_message.specs.declared.reply.Reply.{Reply}
use Rattle.inf_message.specs.declared.reply.Reply.TheVariants as reply
use Rattle.inf_message.specs.declared.request.Request.{Request}
use Rattle.inf_message.specs.declared.step.Message.{Message}
use Rattle.inf_message.specs.declared.turn.Turn.{Turn}
use Rattle.inf_message.specs.declared.turn.Turn.TheVariants as turn
use Rattle.inf_message.specs.Heard.{heard}
use Rattle.inf_message.specs.History.{Told, or_told}
use Rattle.inf_message.specs.Sent.{Sent, told_at}
use Rattle.inf_message.specs.Who.{Who}
use Rattle.inf_resolve.specs.declared.known.Known.{Known}
use Rattle.inf_duty.specs.ClientState.{ClientState, Stage, act, compose, idle, placed, round, winds, wound}
use Rattle.inf_duty.specs.Course.{next_course}
use Rattle.inf_duty.specs.Duty.{asks, given_up, given_up_in, next_in, next_of, next_step}
use Rattle.inf_duty.specs.Flow.{clean_up}
use Rattle.inf_duty.specs.Group.{composed, composed_stage, group, next_stage}
use Rattle.inf_duty.specs.Turn.{heard_in, is_lone, learned, recorded, settled, told_by, told_in, told_of, turn_at, turned}
use Rattle.inf_laws_client.specs.Told.{AnswersKeys, AnswersLookup, AreKnownFor, AreToldFor, IfTold, IsToldAsAsked, IsToldFor, RoundIsToldFor}

-- ---- what is sent

pub asks_next : (s : ClientState) (number : ℕ) (ask : Ask) (calls : List Call) → next_in s calls ≡ asks number ask
    → next_of s (slice_get (group s.who s.stage) (length s.sent)) ≡ asks number ask
asks_next s number ask [] is = absurd cc
asks_next s number ask (call ∷ calls) is = is

-- the message that is sent is one of the group
pub record IsSent (found : Option Message) (asked : Request) : Type 0 where
  pub message : Message
  pub found_there : found ≡ Some message
  pub request : asked ≡ message.request

pub is_sent : (s : ClientState) (number : ℕ) (ask : Ask) (found : Option Message)
    → next_of s found ≡ asks number ask → IsSent found ask.request
is_sent s number ask None is = absurd cc
is_sent s number ask (Some message) is = record { message = message; found_there = refl; request = cc }

-- ---- an answer among those to a group

abbrev pub sent_told : Sent → Option Told
sent_told x = x.told

pub told_one : (P : Told → Type 0) (told : Told) (x_place : ℕ) (old : Option Told) (b : Bool)
    → (b ≡ true → P told) → IfTold P old
    → IfTold P (sent_told (if b then record { place = x_place; told = Some (or_told old told) }
    else record { place = x_place; told = old }))
told_one P told x_place None true now before = now refl
told_one P told x_place (Some earlier) true now before = before
told_one P told x_place old false now before = before

-- what is true of a reply with its place is true of what is kept of it, if it is where others are waited for too
heard_if : (P : ℕ → Reply → Type 0) (b : Bool) (told : Told) (kept : Reply) → P told.serve_place told.reply
    → P told.serve_place kept
    → P (if b then told else record told { reply = kept }).serve_place
    (if b then told else record told { reply = kept }).reply
heard_if P true told kept now hears = now
heard_if P false told kept now hears = hears

pub holds_told_in : (P : ℕ → Reply → Type 0) (s : ClientState) (told : Told)
    → ((place : ℕ) (given : Reply) → P place given → P place (heard_in s.stage given))
    → P told.serve_place told.reply → P (told_in s told).serve_place (told_in s told).reply
holds_told_in P s told hears now =
    heard_if P (is_lone s) told (heard_in s.stage told.reply) now (hears told.serve_place told.reply now)

heard_for : (k : LookKey) (given : Reply) → IsToldFor k given → IsToldFor k (heard given)
heard_for look.Top (reply.Listing items) told = tt
heard_for (look.At dir name) (reply.Listing items) told = tt
heard_for k given told = told

heard_keys : (keys : List LookKey) (sent : List Sent) (place : ℕ) (given : Reply)
    → AnswersKeys keys sent place given → AnswersKeys keys sent place (heard given)
heard_keys [] [] place given told = tt
heard_keys [] (x ∷ xs) place given told = tt
heard_keys (k ∷ keys) [] place given told = tt
heard_keys (k ∷ keys) (x ∷ xs) place given told =
    (λ same. heard_for k given (told.0 same), heard_keys keys xs place given told.1)

heard_lookup : (stage : Stage) (sent : List Sent) (place : ℕ) (given : Reply)
    → AnswersLookup stage sent place given → AnswersLookup stage sent place (heard_in stage given)
heard_lookup (round keys) sent place given told = heard_keys keys sent place given told
heard_lookup compose sent place given told = tt
heard_lookup (act step) sent place given told = tt
heard_lookup (winds end ms later) sent place given told = tt

pub lookup_in : (s : ClientState) (place : ℕ) (told : Told) → AnswersLookup s.stage s.sent place told.reply
    → AnswersLookup s.stage s.sent place (told_in s told).reply
lookup_in s place told now =
    holds_told_in (λ (serve_place : ℕ) (given : Reply). AnswersLookup s.stage s.sent place given) s told
    (λ serve_place given. heard_lookup s.stage s.sent place given) now

-- ---- what was told answers what was asked

none_told : (keys : List LookKey) → AreToldFor keys []
none_told [] = tt
none_told (k ∷ keys) = tt

none_asked : (stage : Stage) → RoundIsToldFor stage []
none_asked compose = refl
none_asked (round keys) = none_told keys
none_asked (act step) = tt
none_asked (winds end ms later) = tt

pub idle_as_asked : (who : Who) (calls : List Call) → IsToldAsAsked (idle who calls)
idle_as_asked who calls = record { known = tt; sent = refl }

wound_as_asked : (end : Ending) (more : List (List Message)) (s : ClientState) → AreKnownFor s.known
    → IsToldAsAsked (wound end more s)
wound_as_asked (ending.Answers given place) [] s known = record { known = tt; sent = refl }
wound_as_asked ending.Retries [] s known = record { known = tt; sent = refl }
wound_as_asked end (ms ∷ later) s known = record { known = known; sent = tt }

turned_as_asked : (t : Turn Stage) (s : ClientState) → AreKnownFor s.known → IsToldAsAsked (turned t s)
turned_as_asked (turn.GoesOn next) s known = record { known = known; sent = none_asked next }
turned_as_asked (turn.WindsUp end more) s known = wound_as_asked end more s known

given_up_at : (s : ClientState) (stage : Stage) → IsToldAsAsked s → IsToldAsAsked (given_up_in s stage)
given_up_at s (act step) told =
    wound_as_asked (ending.Answers answer.NoMemory None) (clean_up s.who step) s told.known
given_up_at s (winds end ms later) told = told
given_up_at s compose told = record { known = tt; sent = refl }
given_up_at s (round keys) told = record { known = tt; sent = refl }

pub given_up_as_asked : (s : ClientState) → IsToldAsAsked s → IsToldAsAsked (given_up s)
given_up_as_asked s told = given_up_at s s.stage told

composed_at : (digest : List ℕ → Id) (s : ClientState) (stage : Stage) → AreKnownFor s.known
    → RoundIsToldFor stage s.sent → IsToldAsAsked (record s { stage = composed_stage digest s stage })
composed_at digest s compose known sent =
    let next = next_stage digest s.who s.known (next_course s.left) in
    record {
      known = known;
      sent = subst (λ (asked : List Sent). RoundIsToldFor next asked) (sym sent) (none_asked next);
    }
composed_at digest s (round keys) known sent = record { known = known; sent = sent }
composed_at digest s (act step) known sent = record { known = known; sent = tt }
composed_at digest s (winds end ms later) known sent = record { known = known; sent = tt }

pub composed_as_asked : (digest : List ℕ → Id) (s : ClientState) → IsToldAsAsked s
    → IsToldAsAsked (composed digest s)
composed_as_asked digest s told = composed_at digest s s.stage told.known told.sent

-- an Ask more was told nothing yet
told_more : (keys : List LookKey) (sent : List Sent) (x : Sent) → x.told ≡ None → AreToldFor keys sent
    → AreToldFor keys (sent ++ x ∷ [])
told_more [] [] x none told = tt
told_more [] (first ∷ sent) x none told = tt
told_more (k ∷ keys) [] x none told = (
  subst (λ (o : Option Told). IfTold (λ (t : Told). IsToldFor k t.reply) o) (sym none) tt,
  none_told keys,
)
told_more (k ∷ keys) (first ∷ sent) x none told = (told.0, told_more keys sent x none told.1)

more_asked : (s : ClientState) (number : ℕ) (ask : Ask) (x : Sent) (stage : Stage) (sent : List Sent)
    → next_of s (slice_get (group s.who stage) (length s.sent)) ≡ asks number ask → x.told ≡ None
    → RoundIsToldFor stage sent → RoundIsToldFor stage (sent ++ x ∷ [])
more_asked s number ask x compose sent is none told = absurd cc
more_asked s number ask x (round keys) sent is none told = told_more keys sent x none told
more_asked s number ask x (act step) sent is none told = tt
more_asked s number ask x (winds end ms later) sent is none told = tt

pub placed_as_asked : (place number : ℕ) (ask : Ask) (s : ClientState) → IsToldAsAsked s
    → next_step s ≡ asks number ask → IsToldAsAsked (placed place s)
placed_as_asked place number ask s told is =
    let x : Sent = record { place = place; told = None } in
    record {
      known = told.known;
      sent = more_asked s number ask x s.stage s.sent (asks_next s number ask s.left is) refl told.sent;
    }

-- the answer is one to the lookup of its place
told_keys : (place : ℕ) (told : Told) (keys : List LookKey) (sent : List Sent)
    → AnswersKeys keys sent place told.reply → AreToldFor keys sent → AreToldFor keys (map (told_at place told) sent)
told_keys place told [] [] now before = tt
told_keys place told [] (x ∷ xs) now before = tt
told_keys place told (k ∷ keys) [] now before = tt
told_keys place told (k ∷ keys) (x ∷ xs) now before = (
  told_one (λ (t : Told). IsToldFor k t.reply) told x.place x.told (x.place == place)
      (λ is. now.0 ((Decides-eqb x.place place).0 is)) before.0,
  told_keys place told keys xs now.1 before.1,
)

told_stage : (place : ℕ) (told : Told) (stage : Stage) (sent : List Sent)
    → AnswersLookup stage sent place told.reply → RoundIsToldFor stage sent
    → RoundIsToldFor stage (map (told_at place told) sent)
told_stage place told compose sent now before = ap (map (told_at place told)) before
told_stage place told (round keys) sent now before = told_keys place told keys sent now before
told_stage place told (act step) sent now before = tt
told_stage place told (winds end ms later) sent now before = tt

pub recorded_as_asked : (place : ℕ) (told : Told) (s : ClientState) → IsToldAsAsked s
    → AnswersLookup s.stage s.sent place told.reply → IsToldAsAsked (recorded place told s)
recorded_as_asked place told s before now =
    record { known = before.known; sent = told_stage place told s.stage s.sent now before.sent }

-- what a round was told joins what is known
one_more : (k : LookKey) (told : Option Told) (rest : List Known) → IfTold (λ (t : Told). IsToldFor k t.reply) told
    → AreKnownFor rest → AreKnownFor (told_of k told ++ rest)
one_more k None rest now more = more
one_more k (Some told) rest now more = (now, more)

known_by : (keys : List LookKey) (sent : List Sent) → AreToldFor keys sent → AreKnownFor (told_by keys sent)
known_by [] [] told = tt
known_by [] (x ∷ xs) told = tt
known_by (k ∷ keys) [] told = tt
known_by (k ∷ keys) (x ∷ xs) told = one_more k x.told (told_by keys xs) told.0 (known_by keys xs told.1)

known_more : (known more : List Known) → AreKnownFor known → AreKnownFor more → AreKnownFor (known ++ more)
known_more [] more before now = now
known_more (x ∷ known) more before now = (before.0, known_more known more before.1 now)

learned_for : (s : ClientState) (stage : Stage) → RoundIsToldFor stage s.sent → AreKnownFor s.known
    → AreKnownFor (learned stage s).known
learned_for s (round keys) sent known = known_more s.known (told_by keys s.sent) known (known_by keys s.sent sent)
learned_for s compose sent known = known
learned_for s (act step) sent known = known
learned_for s (winds end ms later) sent known = known

pub settled_as_asked : (digest : List ℕ → Id) (b : Bool) (s : ClientState) → IsToldAsAsked s
    → IsToldAsAsked (settled digest b s)
settled_as_asked digest true s told =
    turned_as_asked (turn_at digest (learned s.stage s) s.stage) (learned s.stage s)
    (learned_for s s.stage told.sent told.known)
settled_as_asked digest false s told = told
