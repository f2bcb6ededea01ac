-- A change of the slots of one directory, as data.
use Rattle.std.specs.Prelude.{ℕ, List, Some, None}
use Rattle.inf_base.specs.declared.access.Access.{Access}
use Rattle.inf_base.specs.declared.caller.Caller.{Caller}
use Rattle.inf_base.specs.declared.caller.CallRef.{CallRef}
use Rattle.inf_base.specs.declared.directory.DirRef.{DirRef}
use Rattle.inf_base.specs.declared.file.FileMeta.{FileMeta}
use Rattle.inf_base.specs.Content.{Slot, reserved, file}
use Rattle.inf_content.specs.Slots.{filled_in, lifted, with_slot, without_slot}

abbrev pub Slots : Type 0
Slots = List (List ℕ × Slot)

pub data Edit : Type 0 where
  -- a file comes under a name
  puts : List ℕ → FileMeta → Edit
  -- a name is kept for a call, with the access object of a directory to come
  keeps : List ℕ → CallRef → Access → Edit
  -- what the call reserved first becomes this directory, of this mode and the caller's
  fills : CallRef → DirRef → ℕ → Caller → Edit
  -- what the call reserves or holds is lifted
  lifts : CallRef → Edit
  -- the slot under a name goes
  takes : List ℕ → Edit

abbrev pub edited : Edit → Slots → Slots
edited (puts name meta) slots = with_slot name (file meta None) slots
edited (keeps name by access) slots = with_slot name (reserved by access) slots
edited (fills by dir mode caller) slots = filled_in by (Some (dir, mode, caller)) slots
edited (lifts by) slots = lifted by slots
edited (takes name) slots = without_slot name slots
