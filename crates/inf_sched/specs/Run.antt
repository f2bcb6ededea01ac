-- What contracts see of a run, and what it keeps behind that.
use Rattle.std.specs.Prelude.{◌≡◌, ◌⊎◌, ℕ, zero, suc, ◌+◌, ◌≤◌, Bool, true, false, List, [], ◌∷◌, ◌++◌, length, map, reverse, slice_get, Some, None}
use Rattle.inf_duty.specs.ClientState.{ClientState}
use Rattle.inf_duty.specs.Start.{start}
use Rattle.inf_core.specs.Core.{IsSameRun, Running}
use Rattle.inf_laws_history.specs.Legal.{Legal, MayAsk, MayServe}
use Rattle.inf_duty.specs.After.{client_after}
use Rattle.inf_duty.specs.Outcome.{all_given_up, may_pass, results_of}
use Rattle.inf_duty.specs.World.{World}
use Rattle.inf_message.specs.declared.ask.Ask.{Ask}
use Rattle.inf_message.specs.declared.call_result.CallResult.{CallResult}
use Rattle.inf_message.specs.declared.event.Event.{Event}
use Rattle.inf_message.specs.declared.event.Event.TheVariants as event
use Rattle.inf_message.specs.History.{Own, asks_of, made_ask, own_ask, served_at, told_reply}
use Rattle.inf_client.specs.AskLog.{no_asks}
use Rattle.inf_client.specs.Client.{Client, client_with, wants_to_ask}
use Rattle.inf_sched.specs.declared.stepping.Stepped.{Stepped}
use Rattle.inf_sched.specs.declared.stepping.Stepped.TheVariants as stepped
use Rattle.inf_message.specs.declared.reply.Reply.{Reply}
use Rattle.inf_sched.specs.Moves.{ByCall, HasNoAsk}
use Rattle.inf_sched.specs.Scene.{Asks, MakesServe, Scene, has_calls, has_ended, number_in}
use Rattle.inf_sched.specs.Waiting.{IsQueue, Posting, is_by, is_to, oldest, posting}

-- a run by its core, and for each client whether it gave up what it had left
pub record Playing (R : Type 0) : Type 0 where
  pub core : Running R
  pub gone : List Bool

abbrev pub playing : {R : Type 0} → Running R → List Bool → Playing R
playing core gone = record { core = core; gone = gone }

abbrev pub scene_of : {R : Type 0} → Playing R → Scene
scene_of run = record { history = run.core.history; gone = run.gone }

abbrev pub gone_of : List Client → List Bool
gone_of clients = map (λ (a : Client). a.gone) clients

-- ---- what a run keeps

-- between two groups it gave up all that it had left
pub record IsGivenUp (s state : ClientState) : Type 0 where
  pub between : s.sent ≡ []
  pub all : state ≡ all_given_up s.left s

abbrev pub IsStateOf : Bool → ClientState → ClientState → Type 0
IsStateOf true s state = IsGivenUp s state
IsStateOf false s state = state ≡ s

-- a client in code is as its events leave it
abbrev pub IsClient : ClientState → Client → Type 0
IsClient s a = IsStateOf a.gone s a.state

-- the Asks of a client in the order of asking, each with its answer, if it was served
abbrev pub asks_shown : ℕ → List Event → List Own
asks_shown client h = reverse (asks_of client h)

pub record AreClients (world : World) (h : List Event) (clients : List Client) : Type 0 where
  pub count : length clients ≡ length world.setup.clients
  pub each : (client : ℕ) (a : Client) → slice_get clients client ≡ Some a → IsClient (client_after world client h) a
  -- what it keeps of its Asks is what its events show
  pub asks : (client : ℕ) (a : Client) → slice_get clients client ≡ Some a → a.log.asks ≡ asks_shown client h
  -- it was told of no ask that it did not make
  pub idle : (client : ℕ) (a : Client) → slice_get clients client ≡ Some a → a.handed ≡ false

-- so many queues, each with the Asks that fit
pub record AreQueues (fits : ℕ → Posting → Bool) (h : List Event) (many : ℕ)
    (queues : List (List Posting)) : Type 0 where
  pub count : length queues ≡ many
  pub each : (index : ℕ) (queue : List Posting) → slice_get queues index ≡ Some queue → IsQueue (fits index) h queue

pub record IsKept (world : World) (h : List Event) (now : List Client)
    (to_server by_client : List (List Posting)) : Type 0 where
  pub some_servers : 1 ≤ world.setup.servers
  pub legal : Legal world h
  pub clients : AreClients world h now
  pub servers : AreQueues is_to h (world.setup.servers + 1) to_server
  pub askers : AreQueues is_by h (length world.setup.clients) by_client

-- ---- what comes of letting a client ask

-- it asked, and the posting is its Ask's
pub record Asked (world : World) (client : ℕ) (p : Posting) (h after : List Event) (a b : Client) : Type 0 where
  pub number : ℕ
  pub ask : Ask
  pub here : a.gone ≡ false
  pub own : ask.from.client ≡ client
  pub may : MayAsk world h number ask
  pub joins : after ≡ event.Ask number ask ∷ h
  pub posted : p ≡ posting (suc (length h)) number client
  pub still_here : b.gone ≡ false
  pub asks : b.log.asks ≡ a.log.asks ++ own_ask (made_ask number ask (suc (length h))) None ∷ []
  pub idle : b.handed ≡ false
  pub is_client : IsClient (client_after world client after) b
  pub legal : Legal world after

-- it gave up all that it had left
pub record HasGivenUp (world : World) (client : ℕ) (h after : List Event) (a b : Client) : Type 0 where
  pub here : a.gone ≡ false
  pub asking : wants_to_ask world.digest a ≡ true
  pub between : a.state.sent ≡ []
  pub free : may_pass a.state ≡ true
  pub same : after ≡ h
  pub gone : b.gone ≡ true
  pub asks : b.log.asks ≡ a.log.asks
  pub idle : b.handed ≡ false
  pub is_client : IsClient (client_after world client h) b

-- it has no ask to make
pub record HasRested (world : World) (h after : List Event) (a b : Client) : Type 0 where
  pub idle : wants_to_ask world.digest a ≡ false
  pub same : after ≡ h
  pub is_client : b ≡ a

abbrev pub Did : World → ℕ → Stepped → List Event → List Event → Client → Client → Type 0
Did world client (stepped.Asked p) h after a b = Asked world client p h after a b
Did world client stepped.GaveUp h after a b = HasGivenUp world client h after a b
Did world client stepped.Rested h after a b = HasRested world h after a b

-- what it did that made no ask
abbrev pub rested : Bool → Bool → Stepped
rested false true = stepped.GaveUp
rested was_gone is_gone = stepped.Rested

-- ---- what comes of serving an Ask

pub record HasServed (world : World) (p : Posting) (h after : List Event) (a b : Client) : Type 0 where
  pub given : Reply
  pub may : MayServe world h p.number p.place given
  pub joins : after ≡ event.Serve p.number p.place given ∷ h
  pub same_gone : b.gone ≡ a.gone
  pub same_handed : b.handed ≡ a.handed
  pub asks : b.log.asks ≡ map (served_at p.place (told_reply (suc (length h)) given)) a.log.asks
  pub is_client : IsClient (client_after world p.client after) b
  pub legal : Legal world after

-- ---- steps of a run

-- a client that is let ask does so or gives up; or it has no ask to make, and nothing comes of it
abbrev pub HasStepped : Bool → World → ℕ → Scene → Scene → Type 0
HasStepped true world client old new = Asks world client old new
HasStepped false world client old new = HasNoAsk world client old × (new ≡ old)

-- ---- the beginning and the end of a run

abbrev pub unset : ℕ → List Bool
unset zero = []
unset (suc many) = false ∷ unset many

-- the first so many clients before anything has happened
pub record AreOpening (world : World) (many : ℕ) (clients : List Client) : Type 0 where
  pub count : length clients ≡ many
  pub each : (client : ℕ) (a : Client) → slice_get clients client ≡ Some a
      → a ≡ client_with (start world client) false no_asks false
  pub gone : gone_of clients ≡ unset many

pub record AreEmpty (many : ℕ) (queues : List (List Posting)) : Type 0 where
  pub count : length queues ≡ many
  pub each : (index : ℕ) (queue : List Posting) → slice_get queues index ≡ Some queue → queue ≡ []

abbrev pub results_of_client : Client → List CallResult
results_of_client a = results_of a.state

-- ---- a client that goes on alone

-- its oldest waiting Ask is served, since it has no ask to make
pub record HasOldestServed (world : World) (client : ℕ) (old new : Scene) : Type 0 where
  pub idle : HasNoAsk world client old
  pub posting : Posting
  pub found : oldest (is_by client) old.history ≡ Some posting
  pub serves : MakesServe world posting.number posting.place old new

-- there is neither an ask to make nor one to serve
pub record HasNothingLeft (world : World) (client : ℕ) (old new : Scene) : Type 0 where
  pub idle : HasNoAsk world client old
  pub none : oldest (is_by client) old.history ≡ None
  pub same : new ≡ old

abbrev pub HasAdvanced : Bool → World → ℕ → Scene → Scene → Type 0
HasAdvanced true world client old new = Asks world client old new ⊎ HasOldestServed world client old new
HasAdvanced false world client old new = HasNothingLeft world client old new

-- it has gone on alone once more, and that call ended or not; or it has no call left
pub record HasCalledOnce (ended : Bool) (world : World) (client : ℕ) (old new : Scene) : Type 0 where
  pub some : has_calls world old client ≡ true
  pub call : ByCall world client old new
  pub ends : has_ended world client (number_in world old client) new ≡ ended

pub record HasNoCall (world : World) (client : ℕ) (old new : Scene) : Type 0 where
  pub none : has_calls world old client ≡ false
  pub same : new ≡ old

abbrev pub HasCalled : Bool → World → ℕ → Scene → Scene → Type 0
HasCalled true world client old new = HasCalledOnce true world client old new
HasCalled false world client old new = HasCalledOnce false world client old new ⊎ HasNoCall world client old new

-- ---- runs on their way

-- wherever what is left of a move leads from here, the whole of it leads from the entry
pub record IsAlong {R : Type 0} (Left Whole : Scene → Scene → Type 0) (entry now : Playing R) : Type 0 where
  pub same : IsSameRun entry.core now.core
  pub leads : (last : Scene) → Left (scene_of now) last → Whole (scene_of entry) last

-- these moves led here
pub record IsMoved {R : Type 0} (Made : Scene → Scene → Type 0) (entry now : Playing R) : Type 0 where
  pub same : IsSameRun entry.core now.core
  pub made : Made (scene_of entry) (scene_of now)
