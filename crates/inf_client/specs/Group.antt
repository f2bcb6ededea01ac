-- The asks of a group as code has them, and what is kept true of a client.
use Rattle.std.specs.Prelude.{◌≡◌, ℕ, ◌+◌, ◌≤◌, ◌<◌, Bool, true, false, List, [], length, map, drop, slice_get, Some}
use Rattle.inf_base.specs.declared.id.Id.{Id}
use Rattle.inf_client.specs.AskLog.{AskLog}
use Rattle.inf_client.specs.Client.{IsAtRest, group_asks, ready_in}
use Rattle.inf_client.specs.Room.{room_needed, room_within}
use Rattle.inf_duty.specs.Duty.{asks, found_at, given_up, next_step}
use Rattle.inf_duty.specs.Messages.{is_winding}
use Rattle.inf_duty.specs.Outcome.{may_pass}
use Rattle.inf_duty.specs.ClientState.{ClientState, call_ref}
use Rattle.inf_duty.specs.Group.{group}
use Rattle.inf_message.specs.declared.ask.Ask.{Ask}
use Rattle.inf_message.specs.History.{Posted, posted_ask}

abbrev pub posted_of : ℕ × Ask → Posted
posted_of post = posted_ask post.0 post.1

-- the asks that it is about to make, but for the one that was handed out
abbrev pub not_handed : Bool → List Posted → List Posted
not_handed true ready = drop 1 ready
not_handed false ready = ready

-- those of them that are kept, to be handed out: none where they wind a call up
abbrev pub in_outbox : Bool → Bool → List Posted → List Posted
in_outbox true handed ready = []
in_outbox false handed ready = not_handed handed ready

pub record IsKept (s : ClientState) (gone : Bool) (log : AskLog) (handed : Bool)
    (outbox : List (ℕ × Ask)) : Type 0 where
  pub at_rest : IsAtRest s gone
  -- there is an ask that it was told to make
  pub first : handed ≡ true → length s.sent < length (group s.who s.stage)
  -- a client that was told to ask has not given up
  pub here : handed ≡ true → gone ≡ false
  pub calls : 0 < length (ready_in handed s.sent s) → 0 < length s.left
  pub posts : map posted_of outbox ≡ in_outbox (is_winding s.stage) handed (ready_in handed s.sent s)
  -- to make an ask of the group takes no memory, nor does what may wind the call up
  pub room : room_needed handed s ≤ log.room

-- the client is to make this ask, and then the others of its group, for which there is room
pub record IsReadied (number : ℕ) (ask : Ask) (others : List (ℕ × Ask)) (s : ClientState)
    (before log : AskLog) : Type 0 where
  pub next : next_step s ≡ asks number ask
  pub between : s.sent ≡ []
  pub asks_same : log.asks ≡ before.asks
  pub first : slice_get (group_asks s) 0 ≡ Some (posted_ask number ask)
  pub posts : map posted_of others ≡ in_outbox (is_winding s.stage) true (group_asks s)
  pub room : length (group_asks s) + room_within s.stage ≤ log.room

-- nothing had to be cleaned up behind the call that was given up
pub record IsPassed (old new : ClientState) : Type 0 where
  pub free : may_pass old ≡ true
  pub state : new ≡ given_up old

-- the ask is of the call under way, and finds the client there
pub record IsFound (digest : List ℕ → Id) (ask : Ask) (old new : ClientState) : Type 0 where
  pub here : ask.from ≡ call_ref old
  pub state : new ≡ found_at digest ask.request old
