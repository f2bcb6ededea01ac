-- Asks that were not served yet: each is one of its client's group.
use Rattle.std.specs.Prelude.{◌≡◌, ◌<◌, ℕ, false, List, length, slice_get, Some, None}
use Rattle.inf_duty.specs.After.{client_after}
use Rattle.inf_duty.specs.World.{World}
use Rattle.inf_duty.specs.ClientState.{ClientState, call_ref}
use Rattle.inf_duty.specs.Group.{group}
use Rattle.inf_message.specs.declared.ask.Ask.{Ask}
use Rattle.inf_message.specs.declared.event.Event.{Event}
use Rattle.inf_message.specs.History.{Posted, asked_at, is_served}

-- the client waits for this Ask
pub record Waits (s : ClientState) (place number : ℕ) (ask : Ask) : Type 0 where
  pub index : ℕ
  pub sent : slice_get s.sent index ≡ Some (record { place = place; told = None })
  pub message : slice_get (group s.who s.stage) index ≡ Some (record { number = number; request = ask.request })
  pub from : ask.from ≡ call_ref s
  pub caller : ask.caller ≡ s.who.caller
  pub under_way : 0 < length s.left

abbrev pub ArePending : World → List Event → Type 0
ArePending world h =
    (place : ℕ) (posted : Posted) → asked_at place h ≡ Some posted → is_served place h ≡ false →
    Waits (client_after world posted.ask.from.client h) place posted.number posted.ask
