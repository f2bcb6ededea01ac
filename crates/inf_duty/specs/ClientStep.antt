-- What a client is to do next, as the code has it.
use Rattle.std.specs.Prelude.{Bool, true, false}
use Rattle.inf_duty.specs.Duty.{Next, asks, is_over, waits}
use Rattle.inf_duty.specs.declared.client_step.ClientStep.{ClientStep}
use Rattle.inf_duty.specs.declared.client_step.ClientStep.TheVariants as step

abbrev pub next_as : ClientStep → Next
next_as (step.Ask number ask) = asks number ask
next_as step.Waiting = waits
next_as step.Finished = is_over

-- no ask is to be made
abbrev pub IsQuiet : ClientStep → Type 0
IsQuiet (step.Ask number ask) = ⊥
IsQuiet step.Waiting = Unit {0}
IsQuiet step.Finished = Unit {0}

abbrev pub is_ask : Next → Bool
is_ask (asks number ask) = true
is_ask waits = false
is_ask is_over = false
