-- Which of a directory's slots are sought for a call.
use Rattle.std.specs.Prelude.{ℕ, Bool, false, ◌||◌, List, Option, Some, None}
use Rattle.inf_base.specs.declared.caller.CallRef.{CallRef}
use Rattle.inf_base.specs.Content.{Slot}
use Rattle.inf_content.specs.declared.wanted.Wanted.{Wanted}
use Rattle.inf_content.specs.declared.wanted.Wanted.TheVariants as wanted
use Rattle.inf_content.specs.Slot.{erases, holds, reserves}
use Rattle.inf_content.specs.Slots.{slot_in}

-- whether a slot is one of those
abbrev pub is_wanted : Wanted → CallRef → Slot → Bool
is_wanted wanted.Reserved by slot = reserves by slot
is_wanted wanted.Held by slot = holds by slot
is_wanted wanted.Going by slot = erases by slot
is_wanted wanted.Taken by slot = reserves by slot || holds by slot

-- whether there is a slot, and it passes
abbrev pub passes : (Slot → Bool) → Option Slot → Bool
passes test None = false
passes test (Some slot) = test slot

-- whether the slot under a name is one of those
abbrev pub is_wanted_name : Wanted → CallRef → List (List ℕ × Slot) → List ℕ → Bool
is_wanted_name wanted by slots name = passes (is_wanted wanted by) (slot_in name slots)
