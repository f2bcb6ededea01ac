-- A client that is let ask.
use Rattle.std.specs.Prelude.{ℕ, List, [], ◌∷◌}
use Rattle.inf_base.specs.declared.id.Id.{Id}
use Rattle.inf_duty.specs.ClientState.{ClientState}
use Rattle.inf_duty.specs.Group.{composed}
use Rattle.inf_message.specs.Sent.{Sent}

-- between two groups it settles what it asks for next; within a group it goes on with it
abbrev pub planned_from : (List ℕ → Id) → List Sent → ClientState → ClientState
planned_from digest [] s = composed digest s
planned_from digest (x ∷ xs) s = s

abbrev pub planned : (List ℕ → Id) → ClientState → ClientState
planned digest s = planned_from digest s.sent s
