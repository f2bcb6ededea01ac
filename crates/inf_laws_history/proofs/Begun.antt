-- A call with Asks of its own, or a message of a flow to send, has begun: its first Ask is one of the history.
use Rattle.std.proofs.Common.{◌≡◌, ℕ, suc, ◌<◌, ◌≤◌, true, eqb, List, [], ◌∷◌, length, slice_get, Option, Some, None, is_some, IfSome, refl, arith}
use Rattle.inf_base.specs.declared.id.Id.{Id}
use Rattle.inf_base.specs.declared.answer.Answer.{Answer}
use Rattle.inf_base.specs.declared.answer.Answer.TheVariants as answer
use Rattle.inf_base.specs.declared.setup.ClientLine.{ClientLine}
use Rattle.inf_duty.specs.After.{client_after}
use Rattle.inf_duty.specs.Duty.{asked, begun, given_up_in}
use Rattle.inf_duty.specs.Start.{starting}
use Rattle.inf_duty.specs.World.{World}
use Rattle.inf_duty.proofs.BegunKept.{IsKept, if_both, kept_begun}
use Rattle.inf_message.specs.declared.ending.Ending.TheVariants as ending
use Rattle.inf_message.specs.declared.turn.Turn.TheVariants as turn
use Rattle.inf_duty.specs.ClientState.{ClientState, Stage, act, compose, ended, first_place, round, winds, wound}
use Rattle.inf_duty.specs.Flow.{clean_up}
use Rattle.inf_duty.specs.Group.{composed_stage, next_stage}
use Rattle.inf_duty.specs.declared.course.Course.{Course}
use Rattle.inf_duty.specs.Course.{next_course}
use Rattle.inf_duty.specs.Turn.{learned, served, turn_at, turned}
use Rattle.inf_message.specs.Sent.{Sent, has_place}
use Rattle.inf_message.specs.Who.{Who}
use Rattle.inf_message.specs.declared.ending.Ending.{Ending}
use Rattle.inf_message.specs.declared.turn.Turn.{Turn}
use Rattle.inf_laws_history.proofs.ClientSteps.{by_answer, recorded_in}
use Rattle.inf_laws_history.proofs.Turns.{by_next}
use Rattle.inf_message.specs.declared.ask.Ask.{Ask}
use Rattle.inf_message.specs.declared.event.Event.{Event}
use Rattle.inf_message.specs.declared.event.Event.TheVariants as event
use Rattle.inf_message.specs.declared.step.Message.{Message}
use Rattle.inf_message.specs.History.{Told, told_reply}
use Rattle.inf_resolve.specs.declared.known.Known.{Known}
use Rattle.inf_resolve.specs.declared.looked.Looked.{Looked}
use Rattle.inf_resolve.specs.declared.resolved.Resolved.TheVariants as comes
use Rattle.inf_resolve.specs.declared.walked.Walked.{Walked}
use Rattle.inf_resolve.specs.Resolved.{resolved}

-- a message of a flow, or of a clean-up, is next or waited for
abbrev pub IsInFlow : Stage → Type 0
IsInFlow (act flow) = Unit {0}
IsInFlow (winds end ms later) = Unit {0}
IsInFlow other_stage = ⊥

pub record IsBegun (most : ℕ) (s : ClientState) : Type 0 where
  pub within : IfSome s.counts.first (λ first. first ≤ most)
  pub waits : 0 < length s.sent → is_some s.counts.first ≡ true
  pub flows : IsInFlow s.stage → is_some s.counts.first ≡ true
  pub knows : 0 < length s.known → is_some s.counts.first ≡ true

module _ (digest : List ℕ → Id) (most : ℕ) where
  abbrev Is : ClientState → Type 0
  Is s = IsBegun most s

  ended_is : (given : Answer) (at : Option ℕ) (s : ClientState) → Is (ended given at s)
  ended_is given at s = record {
    within = tt;
    waits = λ some. absurd (omega (arith, some));
    flows = λ flows. absurd flows;
    knows = λ some. absurd (omega (arith, some));
  }

  wound_is : (end : Ending) (more : List (List Message)) (s : ClientState) → is_some s.counts.first ≡ true → Is s → Is (wound end more s)
  wound_is (ending.Answers given at) [] s some is = ended_is given at s
  wound_is ending.Retries [] s some is = record { within = is.within; waits = λ none. some; flows = λ flows. absurd flows; knows = λ none. some }
  wound_is end (ms ∷ later) s some is = record { within = is.within; waits = λ none. some; flows = λ flows. some; knows = λ none. some }

  turned_is : (t : Turn Stage) (s : ClientState) → is_some s.counts.first ≡ true → Is s → Is (turned t s)
  turned_is (turn.GoesOn next) s some is = record { within = is.within; waits = λ none. some; flows = λ flows. some; knows = λ none. some }
  turned_is (turn.WindsUp end more) s some is = wound_is end more s some is

  over_is : (stage : Stage) (s : ClientState) → is_some s.counts.first ≡ true → Is s → Is (turned (turn_at digest (learned stage s) stage) (learned stage s))
  over_is compose s some is = turned_is (turn_at digest s compose) s some is
  over_is (round keys) s some is =
      let t : ClientState = learned (round keys) s in
      turned_is (turn_at digest t (round keys)) t some (record { within = is.within; waits = is.waits; flows = is.flows; knows = λ more. some })
  over_is (act flow) s some is = turned_is (turn_at digest s (act flow)) s some is
  over_is (winds end ms later) s some is = turned_is (turn_at digest s (winds end ms later)) s some is

  given_up_is : (s : ClientState) (stage : Stage) → (IsInFlow stage → is_some s.counts.first ≡ true) → Is s → Is (given_up_in s stage)
  given_up_is s (act flow) flows is = wound_is (ending.Answers answer.NoMemory None) (clean_up s.who flow) s (flows tt) is
  given_up_is s (winds end ms later) flows is = is
  given_up_is s compose flows is = ended_is answer.NoMemory None s
  given_up_is s (round keys) flows is = ended_is answer.NoMemory None s

  -- a flow is next only where something is known
  some_known : (root : Id) (looked : Looked) (known : List Known) (old new : Walked) → resolved digest root looked known ≡ comes.Leads old new → 0 < length known
  some_known root looked [] old new leads = absurd cc
  some_known root looked (k ∷ known) old new leads = omega arith

  next_flows : (who : Who) (known : List Known) (course : Option Course) → IsInFlow (next_stage digest who known course) → 0 < length known
  next_flows who known course =
      by_next (λ (next : Stage). IsInFlow next → 0 < length known) digest who known course (λ flows. absurd flows) (λ keys flows. absurd flows)
      (λ found old new leads flows. some_known who.root found.looked known old new leads)

  composed_flows : (s : ClientState) (stage : Stage) → (0 < length s.known → is_some s.counts.first ≡ true) → (IsInFlow stage → is_some s.counts.first ≡ true)
      → IsInFlow (composed_stage digest s stage) → is_some s.counts.first ≡ true
  composed_flows s compose knows flows now = knows (next_flows s.who s.known (next_course s.left) now)
  composed_flows s (round keys) knows flows now = flows now
  composed_flows s (act flow) knows flows now = flows now
  composed_flows s (winds end ms later) knows flows now = flows now

  kept : IsKept digest Is
  kept = record {
    composing = λ s is. record { within = is.within; waits = is.waits; flows = composed_flows s s.stage is.knows is.flows; knows = is.knows };
    giving_up = λ s is. given_up_is s s.stage is.flows is;
  }

  first_within : (first : Option ℕ) (place : ℕ) → place ≤ most → IfSome first (λ at. at ≤ most) → IfSome (first_place first place) (λ at. at ≤ most)
  first_within None place now before = now
  first_within (Some first) place now before = before

  first_some : (first : Option ℕ) (place : ℕ) → is_some (first_place first place) ≡ true
  first_some None place = refl
  first_some (Some first) place = refl

  asked_is : (place : ℕ) (ask : Ask) (s : ClientState) → place ≤ most → Is s → Is (asked digest place ask s)
  asked_is place ask s now is =
      let t : ClientState = begun digest ask s.sent s in
      let is_now : Is t = kept_begun digest Is kept ask s.sent s is in
      record {
        within = first_within t.counts.first place now is_now.within;
        waits = λ some. first_some t.counts.first place;
        flows = λ flows. first_some t.counts.first place;
        knows = λ some. first_some t.counts.first place;
      }

  has_some : (place : ℕ) (sent : List Sent) → has_place place sent ≡ true → 0 < length sent
  has_some place [] here = absurd cc
  has_some place (x ∷ xs) here = omega arith

  served_is : (place : ℕ) (told : Told) (s : ClientState) → Is s → Is (served digest place told s)
  served_is place told s is =
      by_answer digest Is place told s
      (λ apart. is)
      (λ here going. record { within = is.within; waits = λ some. is.waits (has_some place s.sent here); flows = is.flows; knows = is.knows })
      (λ here over.
      let some = is.waits (has_some place s.sent here) in
      over_is s.stage (recorded_in place told s) some (record { within = is.within; waits = λ more. some; flows = is.flows; knows = is.knows }))

  starting_is : (world : World) (client : ℕ) (line : Option ClientLine) → Is (starting world client line)
  starting_is world client None = record {
    within = tt;
    waits = λ some. absurd (omega (arith, some));
    flows = λ flows. absurd flows;
    knows = λ some. absurd (omega (arith, some));
  }
  starting_is world client (Some line) = record {
    within = tt;
    waits = λ some. absurd (omega (arith, some));
    flows = λ flows. absurd flows;
    knows = λ some. absurd (omega (arith, some));
  }

more_within : (most : ℕ) (first : Option ℕ) → IfSome first (λ at. at ≤ most) → IfSome first (λ at. at ≤ suc most)
more_within most None within = tt
more_within most (Some first) within = omega (arith, within)

one_more : (most : ℕ) (s : ClientState) → IsBegun most s → IsBegun (suc most) s
one_more most s is = record { within = more_within most s.counts.first is.within; waits = is.waits; flows = is.flows; knows = is.knows }

-- a call's first Ask is one of the history
pub begun_after : (world : World) (client : ℕ) (h : List Event) → IsBegun (length h) (client_after world client h)
begun_after world client [] = starting_is world.digest 0 world client (slice_get world.setup.clients client)
begun_after world client (event.Ask number ask ∷ h) =
    let before : IsBegun (suc (length h)) (client_after world client h) = one_more (length h) (client_after world client h) (begun_after world client h) in
    if_both (IsBegun (suc (length h))) (eqb ask.from.client client) _ _
    (asked_is world.digest (suc (length h)) (suc (length h)) ask (client_after world client h) (omega arith) before) before
begun_after world client (event.Serve number ask_place given ∷ h) =
    served_is world.digest (suc (length h)) ask_place (told_reply (suc (length h)) given) (client_after world client h)
    (one_more (length h) (client_after world client h) (begun_after world client h))
