-- What contracts see of a client of a run, and what a step of it does.
use Rattle.std.specs.Prelude.{◌≡◌, ◌⊎◌, ℕ, ◌≤◌, Bool, true, false, not, ◌&&◌, List, [], length, map, drop, slice_get, Some}
use Rattle.inf_base.specs.declared.id.Id.{Id}
use Rattle.inf_duty.specs.ClientStep.{is_ask}
use Rattle.inf_duty.specs.Duty.{Duty, at_call, begun, has_ask, is_over, next_step, waits}
use Rattle.inf_duty.specs.Outcome.{all_given_up, may_pass}
use Rattle.inf_duty.specs.declared.client_step.ClientStep.{ClientStep}
use Rattle.inf_duty.specs.declared.client_step.ClientStep.TheVariants as step
use Rattle.inf_duty.specs.ClientState.{ClientState, call_ref}
use Rattle.inf_duty.specs.Group.{group}
use Rattle.inf_message.specs.Sent.{Sent}
use Rattle.inf_message.specs.declared.ask.Ask.{Ask}
use Rattle.inf_message.specs.declared.request.Request.{Request}
use Rattle.inf_message.specs.declared.step.Message.{Message}
use Rattle.inf_message.specs.declared.trip.Trip.{Trip}
use Rattle.inf_message.specs.History.{Posted, posted_ask}
use Rattle.inf_client.specs.AskLog.{AskLog, trips_in}
use Rattle.inf_client.specs.Planned.{planned}

-- a client by its state, whether it gave up all that it had left, its own Asks, and whether it was told to make an
-- ask that has no place yet
pub record Client : Type 0 where
  pub state : ClientState
  pub gone : Bool
  pub log : AskLog
  pub handed : Bool

abbrev pub client_with : ClientState → Bool → AskLog → Bool → Client
client_with state gone log handed = record { state = state; gone = gone; log = log; handed = handed }

-- its Asks that were answered, each with its answer, in the order of asking
abbrev pub trips_of_client : Client → List Trip
trips_of_client a = trips_in a.log

-- whether it has an ask to make
abbrev pub wants_to_ask : (List ℕ → Id) → Client → Bool
wants_to_ask digest a = not a.gone && is_ask (next_step (planned digest a.state))

-- the asks of the group, each with its server
abbrev pub group_asks : ClientState → List Posted
group_asks s =
    map
    (λ (m : Message). posted_ask m.number (record { from = call_ref s; caller = s.who.caller; request = m.request }))
    (group s.who s.stage)

-- those of them that are still to be made
abbrev pub asks_left : ClientState → List Posted
asks_left s = drop (length s.sent) (group_asks s)

-- the ask is its duty, and the first that is left of its group
pub record AsksNext (digest : List ℕ → Id) (number : ℕ) (ask : Ask) (old new : Client) : Type 0 where
  pub here : old.gone ≡ false
  pub duty : Duty digest old.state number ask
  pub own : ask.from.client ≡ old.state.who.client
  pub state : new.state ≡ begun digest ask old.state.sent old.state
  pub still_here : new.gone ≡ false
  pub asks : new.log.asks ≡ old.log.asks
  pub first : slice_get (asks_left new.state) 0 ≡ Some (posted_ask number ask)
  pub handed : new.handed ≡ true

-- it was to ask, and gave up all that it had left, between two groups
pub record GaveUp (digest : List ℕ → Id) (old new : Client) : Type 0 where
  pub asking : wants_to_ask digest old ≡ true
  pub between : old.state.sent ≡ []
  pub free : may_pass old.state ≡ true
  pub state : new.state ≡ all_given_up old.state.left old.state
  pub gone : new.gone ≡ true
  pub asks : new.log.asks ≡ old.log.asks
  pub handed : new.handed ≡ false

-- it has no ask to make, and is as it was
pub record IsIdle (digest : List ℕ → Id) (old new : Client) : Type 0 where
  pub idle : wants_to_ask digest old ≡ false
  pub same : new ≡ old

abbrev pub Rests : (List ℕ → Id) → Client → Client → Type 0
Rests digest old new = IsIdle digest old new ⊎ GaveUp digest old new

-- what a step does, by what it tells to do next; a client that rests waits, or each of its calls has ended
abbrev pub Steps : (List ℕ → Id) → Client → ClientStep → Client → Type 0
Steps digest old (step.Ask number ask) new = AsksNext digest number ask old new
Steps digest old step.Waiting new = Rests digest old new × (next_step (planned digest new.state) ≡ waits)
Steps digest old step.Finished new = Rests digest old new × (next_step (planned digest new.state) ≡ is_over)

-- a client that gave up what it had left stands between two groups, and has no ask to make
abbrev pub IsAtRest : ClientState → Bool → Type 0
IsAtRest state true = (state.sent ≡ []) × (has_ask state ≡ false)
IsAtRest state false = Unit {0}

-- the asks that it is about to make: between two groups none, but where it was told to ask; else all that is left of
-- the group
abbrev pub ready_in : Bool → List Sent → ClientState → List Posted
ready_in false [] s = []
ready_in handed sent s = asks_left s

-- between two groups, where the calls behind the entry's are given up: whatever call comes next, and whatever comes of
-- giving up what is left, is as from the entry on
pub record IsOnTheWay (digest : List ℕ → Id) (entry now : ClientState) : Type 0 where
  pub between : now.sent ≡ []
  pub behind : entry.number ≤ now.number
  pub reach : (asked : Request) (number : ℕ) → now.number ≤ number →
      at_call digest number asked entry.left entry ≡ at_call digest number asked now.left now
  pub all : all_given_up entry.left entry ≡ all_given_up now.left now
  pub own : now.who.client ≡ entry.who.client
