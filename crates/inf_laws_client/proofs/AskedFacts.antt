-- A client asks the messages of its group, in their order.
use Rattle.std.proofs.Common.{◌≡◌, ℕ, ◌==◌, Bool, true, false, if◌then◌else◌, List, [], ◌∷◌, ◌++◌, length, map, slice_get, Option, Some, None, subst}
use Rattle.inf_base.specs.declared.answer.Answer.TheVariants as answer
use Rattle.inf_base.specs.declared.call.Call.{Call}
use Rattle.inf_base.specs.declared.id.Id.{Id}
use Rattle.inf_base.specs.declared.key.LookKey.{LookKey}
use Rattle.inf_message.specs.declared.ask.Ask.{Ask}
use Rattle.inf_message.specs.declared.reply.Reply.{Reply}
use Rattle.inf_message.specs.declared.request.Request.{Request}
use Rattle.inf_message.specs.declared.request.Request.TheVariants as request
use Rattle.inf_message.specs.declared.step.Message.{Message}
use Rattle.inf_message.specs.History.{Told, or_told}
use Rattle.inf_laws_client.specs.Asked.{AnswersAsked, AreAskedFor, AsksItsGroup}
use Rattle.inf_message.specs.declared.ending.Ending.TheVariants as ending
use Rattle.inf_message.specs.declared.turn.Turn.TheVariants as turn
use Rattle.inf_duty.specs.ClientState.{ClientState, Stage, act, compose, idle, placed, round, winds, wound}
use Rattle.inf_duty.specs.Flow.{clean_up}
use Rattle.inf_duty.specs.Group.{composed, composed_stage, group, next_stage}
use Rattle.inf_duty.specs.Course.{next_course}
use Rattle.inf_duty.specs.Turn.{is_complete, learned, recorded, served, settled, told_in, turn_at, turned}
use Rattle.inf_message.specs.Sent.{Sent, has_place, told_at}
use Rattle.inf_message.specs.Who.{Who, lookup_of}
use Rattle.inf_message.specs.declared.ending.Ending.{Ending}
use Rattle.inf_message.specs.declared.turn.Turn.{Turn}
use Rattle.inf_duty.specs.Duty.{asks, begun, given_up, given_up_in, next_step}
use Rattle.inf_laws_client.specs.Told.{AnswersKeys, AnswersLookup}
use Rattle.inf_duty.proofs.BegunKept.{if_both, kept_begun}
use Rattle.inf_laws_client.proofs.ToldFacts.{asks_next, is_sent}

module _ (A : ℕ → Request → Type 0) where
  pub idle_asks : (who : Who) (calls : List Call) → AsksItsGroup A (idle who calls)
  idle_asks who calls = record { asked = tt }

  wound_asks : (end : Ending) (more : List (List Message)) (s : ClientState) → AsksItsGroup A (wound end more s)
  wound_asks (ending.Answers given place) [] s = record { asked = tt }
  wound_asks ending.Retries [] s = record { asked = tt }
  wound_asks end (ms ∷ later) s = record { asked = tt }

  turned_asks : (t : Turn Stage) (s : ClientState) → AsksItsGroup A (turned t s)
  turned_asks (turn.GoesOn next) s = record { asked = tt }
  turned_asks (turn.WindsUp end more) s = wound_asks end more s

  none_asked : (ms : List Message) (sent : List Sent) → AreAskedFor A [] sent → AreAskedFor A ms sent
  none_asked ms [] asked = tt
  none_asked ms (x ∷ xs) asked = absurd asked

  given_up_at : (s : ClientState) (stage : Stage) → AsksItsGroup A s → AsksItsGroup A (given_up_in s stage)
  given_up_at s (act flow) asks_its = wound_asks (ending.Answers answer.NoMemory None) (clean_up s.who flow) s
  given_up_at s (winds end ms later) asks_its = asks_its
  given_up_at s compose asks_its = record { asked = tt }
  given_up_at s (round keys) asks_its = record { asked = tt }

  pub given_up_asks : (s : ClientState) → AsksItsGroup A s → AsksItsGroup A (given_up s)
  given_up_asks s asks_its = given_up_at s s.stage asks_its

  -- ---- an Ask more

  asked_more : (ms : List Message) (sent : List Sent) (x : Sent) (m : Message) → slice_get ms (length sent) ≡ Some m → A x.place m.request
      → AreAskedFor A ms sent → AreAskedFor A ms (sent ++ x ∷ [])
  asked_more [] [] x m is at asked = absurd cc
  asked_more [] (y ∷ ys) x m is at asked = absurd asked
  asked_more (first ∷ ms) [] x m is at asked =
      let same : m ≡ first = cc in (subst (λ (message : Message). A x.place message.request) same at, tt)
  asked_more (first ∷ ms) (y ∷ ys) x m is at asked = (asked.0, asked_more ms ys x m is at asked.1)

  pub placed_asks : (place number : ℕ) (ask : Ask) (s : ClientState) → AsksItsGroup A s → next_step s ≡ asks number ask → A place ask.request
      → AsksItsGroup A (placed place s)
  placed_asks place number ask s asks_its is at =
      let sent = is_sent s number ask _ (asks_next s number ask s.left is) in
      record {
        asked = asked_more (group s.who s.stage) s.sent (record { place = place; told = None }) sent.message sent.found_there
            (subst (λ (asked : Request). A place asked) sent.request at) asks_its.asked;
      }

  -- ---- once an Ask was served

  same_place : (asked : Request) (place : ℕ) (old told : Option Told) (b : Bool) → A place asked
      → A ((λ (x : Sent). x.place) (if b then record { place = place; told = told } else record { place = place; told = old })) asked
  same_place asked place old told true at = at
  same_place asked place old told false at = at

  asked_told : (place : ℕ) (told : Told) (ms : List Message) (sent : List Sent) → AreAskedFor A ms sent → AreAskedFor A ms (map (told_at place told) sent)
  asked_told place told ms [] asked = tt
  asked_told place told [] (x ∷ xs) asked = absurd asked
  asked_told place told (m ∷ ms) (x ∷ xs) asked =
      (same_place m.request x.place x.told (Some (or_told x.told told)) (x.place == place) asked.0, asked_told place told ms xs asked.1)

  -- ---- what is told of them

  keys_answered : (who : Who) (keys : List LookKey) (sent : List Sent) (place : ℕ) (given : Reply) → AreAskedFor A (map (lookup_of who) keys) sent
      → AnswersAsked A place given → AnswersKeys keys sent place given
  keys_answered who [] [] place given asked told = tt
  keys_answered who [] (x ∷ xs) place given asked told = tt
  keys_answered who (k ∷ keys) [] place given asked told = tt
  keys_answered who (k ∷ keys) (x ∷ xs) place given asked told =
      (λ same. told k (subst (λ (p : ℕ). A p (request.Lookup k)) same asked.0), keys_answered who keys xs place given asked.1 told)

  lookup_answered : (who : Who) (stage : Stage) (sent : List Sent) (place : ℕ) (given : Reply) → AreAskedFor A (group who stage) sent
      → AnswersAsked A place given → AnswersLookup stage sent place given
  lookup_answered who (round keys) sent place given asked told = keys_answered who keys sent place given asked told
  lookup_answered who compose sent place given asked told = tt
  lookup_answered who (act flow) sent place given asked told = tt
  lookup_answered who (winds end ms later) sent place given asked told = tt

  pub answers_lookup : (place : ℕ) (given : Reply) (s : ClientState) → AsksItsGroup A s → AnswersAsked A place given → AnswersLookup s.stage s.sent place given
  answers_lookup place given s asks_its told = lookup_answered s.who s.stage s.sent place given asks_its.asked told

module _ (digest : List ℕ → Id) (A : ℕ → Request → Type 0) where
  composed_at : (s : ClientState) (stage : Stage) → AreAskedFor A (group s.who stage) s.sent → AsksItsGroup A (record s { stage = composed_stage digest s stage })
  composed_at s compose asked = record { asked = none_asked A (group s.who (next_stage digest s.who s.known (next_course s.left))) s.sent asked }
  composed_at s (round keys) asked = record { asked = asked }
  composed_at s (act flow) asked = record { asked = asked }
  composed_at s (winds end ms later) asked = record { asked = asked }

  pub composed_asks : (s : ClientState) → AsksItsGroup A s → AsksItsGroup A (composed digest s)
  composed_asks s asks_its = composed_at s s.stage asks_its.asked

  pub begun_asks : (ask : Ask) (s : ClientState) → AsksItsGroup A s → AsksItsGroup A (begun digest ask s.sent s)
  begun_asks ask s asks_its =
      kept_begun digest (AsksItsGroup A) (record { composing = composed_asks; giving_up = given_up_asks A }) ask s.sent s asks_its

  settled_asks : (b : Bool) (s : ClientState) → AsksItsGroup A s → AsksItsGroup A (settled digest b s)
  settled_asks true s asks_its =
      turned_asks A (turn_at digest (learned s.stage s) s.stage) (learned s.stage s)
  settled_asks false s asks_its = asks_its

  pub served_asks : (place : ℕ) (told : Told) (s : ClientState) → AsksItsGroup A s → AsksItsGroup A (served digest place told s)
  served_asks place told s asks_its =
      let later = recorded place (told_in s told) s in
      let here : AsksItsGroup A later =
      record { asked = asked_told A place (told_in s told) (group s.who s.stage) s.sent asks_its.asked } in
      if_both (AsksItsGroup A) (has_place place s.sent) _ s (settled_asks (is_complete later) later here) asks_its

module _ (A B : ℕ → Request → Type 0) (weaker : (place : ℕ) (asked : Request) → A place asked → B place asked) where
  weaker_group : (ms : List Message) (sent : List Sent) → AreAskedFor A ms sent → AreAskedFor B ms sent
  weaker_group ms [] asked = tt
  weaker_group [] (x ∷ xs) asked = absurd asked
  weaker_group (m ∷ ms) (x ∷ xs) asked = (weaker x.place m.request asked.0, weaker_group ms xs asked.1)

  pub weaker_asks : (s : ClientState) → AsksItsGroup A s → AsksItsGroup B s
  weaker_asks s asks_its = record { asked = weaker_group (group s.who s.stage) s.sent asks_its.asked }
