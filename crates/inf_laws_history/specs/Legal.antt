-- Histories in which each client does its duty and each server replies as its machine does.
use Rattle.std.specs.Prelude.{◌≡◌, ℕ, ◌<◌, false, List, [], ◌∷◌, length, Some}
use Rattle.inf_duty.specs.After.{client_after}
use Rattle.inf_duty.specs.World.{World}
use Rattle.inf_laws_history.specs.Sites.{site_of}
use Rattle.inf_duty.specs.Duty.{Duty}
use Rattle.inf_message.specs.declared.ask.Ask.{Ask}
use Rattle.inf_message.specs.declared.event.Event.{Event}
use Rattle.inf_message.specs.declared.event.Event.TheVariants as event
use Rattle.inf_message.specs.declared.reply.Reply.{Reply}
use Rattle.inf_message.specs.History.{Posted, asked_at, is_served, serves_of}
use Rattle.inf_server.specs.Machine.{Serves, state_after}
use Rattle.inf_server.specs.State.{State}

-- the state of a server after its own Serves
abbrev pub server_after : World → ℕ → List Event → State
server_after world number h = state_after (site_of world number) (serves_of number h)

-- the client is there, and does its duty
pub record MayAsk (world : World) (h : List Event) (number : ℕ) (ask : Ask) : Type 0 where
  pub client : ask.from.client < length world.setup.clients
  pub duty : Duty world.digest (client_after world ask.from.client h) number ask

-- the Ask was made to this server and not served yet, and the reply is the machine's
pub record MayServe (world : World) (h : List Event) (number ask_place : ℕ) (given : Reply) : Type 0 where
  pub posted : Posted
  pub made : asked_at ask_place h ≡ Some posted
  pub to : posted.number ≡ number
  pub waits : is_served ask_place h ≡ false
  pub after : State
  pub reply : Serves (site_of world number) (server_after world number h) ask_place posted.ask given after

-- each event is one that its author may make after those before it
abbrev pub Legal : World → List Event → Type 0
Legal world [] = Unit {0}
Legal world (event.Ask number ask ∷ h) = Legal world h × MayAsk world h number ask
Legal world (event.Serve number ask_place given ∷ h) = Legal world h × MayServe world h number ask_place given
