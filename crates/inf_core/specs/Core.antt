-- What contracts see of the core, and what it keeps behind that.
use Rattle.std.specs.Prelude.{◌≡◌, ℕ, suc, ◌+◌, ◌<◌, ◌≤◌, Bool, List, ◌∷◌, length, slice_get, slice_set, Some}
use Rattle.inf_base.specs.declared.id.Id.{Id}
use Rattle.inf_base.specs.declared.setup.Setup.{Setup}
use Rattle.inf_duty.specs.World.{World, world_by}
use Rattle.inf_laws_history.specs.Legal.{Legal, MayServe, server_after}
use Rattle.inf_message.specs.declared.ask.Ask.{Ask}
use Rattle.inf_message.specs.declared.event.Event.{Event}
use Rattle.inf_message.specs.declared.event.Event.TheVariants as event
use Rattle.inf_message.specs.declared.reply.Reply.{Reply}
use Rattle.inf_message.specs.History.{is_served}
use Rattle.inf_server.specs.Machine.{Serves}
use Rattle.inf_server.specs.Server.{IsSameServer, Standing, site_of}
pub use Rattle.inf_laws_server.specs.Replies.{TellsOfNoChange}

-- a core by its rule of identifiers, its setup, and the events so far, the newest first
pub record Running (R : Type 0) : Type 0 where
  pub rule : R
  pub setup : Setup
  pub history : List Event

-- what the events rest on, where `digest_of` says what rules answer
abbrev pub world_in : {R : Type 0} → (R → List ℕ → Id) → Running R → World
world_in digest_of core = world_by (digest_of core.rule) core.setup

-- events join, and nothing else changes
pub record IsSameRun {R : Type 0} (old new : Running R) : Type 0 where
  pub rule : new.rule ≡ old.rule
  pub setup : new.setup ≡ old.setup

-- the Ask at this place was served next, by the server that it was made to, and as that one may
pub record IsServedNext (world : World) (old new : List Event) (ask_place : ℕ) (given : Reply) : Type 0 where
  pub number : ℕ
  pub may : MayServe world old number ask_place given
  pub joins : new ≡ event.Serve number ask_place given ∷ old

-- ---- what the core keeps

-- a server after these events
abbrev pub standing : {R : Type 0} → World → R → List Event → ℕ → Standing R
standing world rule h number = record {
  rule = rule;
  number = number;
  servers = world.setup.servers;
  state = server_after world number h;
}

-- the first so many servers by number, each as these events leave it
pub record AreStanding {R : Type 0} (world : World) (rule : R) (h : List Event) (many : ℕ)
    (servers : List (Standing R)) : Type 0 where
  pub count : length servers ≡ many
  pub each : (number : ℕ) → number < many → slice_get servers number ≡ Some (standing world rule h number)

-- for each event, in the order of places, whether some Serve names it
pub record AreFlags (h : List Event) (served : List Bool) : Type 0 where
  pub count : length served ≡ length h
  pub each : (index : ℕ) → index < length h → slice_get served index ≡ Some (is_served (suc index) h)

-- the history is legal, and what is kept beside it is what it comes to
pub record IsKept {R : Type 0} (world : World) (rule : R) (servers : List (Standing R)) (h : List Event)
    (served : List Bool) : Type 0 where
  pub some_servers : 1 ≤ world.setup.servers
  pub legal : Legal world h
  -- the coordinator is the last
  pub standing : AreStanding world rule h (world.setup.servers + 1) servers
  pub flags : AreFlags h served

-- one server has served an Ask, and the others are as they were
pub record IsServedBy {R : Type 0} (digest_of : R → List ℕ → Id) (old new : List (Standing R)) (server : Standing R)
    (ask_place : ℕ) (ask : Ask) (given : Reply) : Type 0 where
  pub after : Standing R
  pub put : new ≡ slice_set old server.number after
  pub serves : Serves (site_of digest_of server) server.state ask_place ask given after.state
  pub same : IsSameServer server after
