-- Where a run stands, and the steps that it takes: a client asks, or wants memory; a server serves.
use Rattle.std.specs.Prelude.{◌≡◌, ◌⊎◌, ℕ, Bool, true, false, ◌&&◌, ◌||◌, not, nat_lt, List, [], ◌∷◌, length, map, slice_get, slice_set, Option, Some, None}
use Rattle.inf_base.specs.declared.setup.ClientLine.{ClientLine}
use Rattle.inf_duty.specs.ClientState.{ClientState}
pub use Rattle.inf_client.specs.Planned.{planned, planned_from}
pub use Rattle.inf_duty.specs.ClientStep.{is_ask}
use Rattle.inf_duty.specs.Duty.{next_step}
use Rattle.inf_laws_history.specs.Legal.{MayAsk, MayServe}
use Rattle.inf_duty.specs.After.{client_after}
use Rattle.inf_duty.specs.Outcome.{may_pass}
use Rattle.inf_duty.specs.World.{World}
use Rattle.inf_message.specs.declared.ask.Ask.{Ask}
use Rattle.inf_message.specs.declared.event.Event.{Event}
use Rattle.inf_message.specs.declared.event.Event.TheVariants as event
use Rattle.inf_message.specs.declared.reply.Reply.{Reply}

pub record Scene : Type 0 where
  -- the events so far, the newest first
  pub history : List Event
  -- for each client, whether it gave up all that it had left, which no event shows
  pub gone : List Bool

abbrev pub opening : World → Scene
opening world = record { history = []; gone = map (λ (line : ClientLine). false) world.setup.clients }

abbrev pub is_set : Option Bool → Bool
is_set None = false
is_set (Some flag) = flag

abbrev pub is_gone : Scene → ℕ → Bool
is_gone scene client = is_set (slice_get scene.gone client)

-- a client as its own events leave it
abbrev pub client_in : World → Scene → ℕ → ClientState
client_in world scene client = client_after world client scene.history

-- ---- what a client may do

-- whether the client has an ask to make
abbrev pub can_ask : World → Scene → ℕ → Bool
can_ask world scene client =
    not (is_gone scene client) && is_ask (next_step (planned world.digest (client_in world scene client)))

-- the client makes an ask: its next one; where it wanted memory for some calls, its next one behind these; where it
-- wanted memory in the midst of a flow, the first of what lifts that flow's changes
pub record MakesAsk (world : World) (client : ℕ) (old new : Scene) : Type 0 where
  pub number : ℕ
  pub ask : Ask
  pub here : is_gone old client ≡ false
  pub own : ask.from.client ≡ client
  pub may : MayAsk world old.history number ask
  pub joins : new ≡ record { history = event.Ask number ask ∷ old.history; gone = old.gone }

-- the client is to ask, between two groups, with nothing to clean up, and wants memory for each call that it has left
pub record GivesUp (world : World) (client : ℕ) (old new : Scene) : Type 0 where
  pub can : can_ask world old client ≡ true
  pub between : (client_in world old client).sent ≡ []
  pub free : may_pass (client_in world old client) ≡ true
  pub gone : new ≡ record { history = old.history; gone = slice_set old.gone client true }

abbrev pub Asks : World → ℕ → Scene → Scene → Type 0
Asks world client old new = MakesAsk world client old new ⊎ GivesUp world client old new

-- ---- what a server may do

-- the Ask at this place is served, by the server that it was made to
pub record MakesServe (world : World) (number ask_place : ℕ) (old new : Scene) : Type 0 where
  pub given : Reply
  pub may : MayServe world old.history number ask_place given
  pub joins : new ≡ record { history = event.Serve number ask_place given ∷ old.history; gone = old.gone }

-- ---- how far a client has come

-- the number of the call under way, or of the next one where none is
abbrev pub number_in : World → Scene → ℕ → ℕ
number_in world scene client = (client_in world scene client).number

-- whether the client's call of this number has ended
abbrev pub has_ended : World → ℕ → ℕ → Scene → Bool
has_ended world client number scene = is_gone scene client || nat_lt number (number_in world scene client)

abbrev pub calls_left : World → Scene → ℕ → ℕ
calls_left world scene client = length (client_in world scene client).left

-- whether the client has a call left
abbrev pub has_calls : World → Scene → ℕ → Bool
has_calls world scene client = not (is_gone scene client) && nat_lt 0 (calls_left world scene client)
