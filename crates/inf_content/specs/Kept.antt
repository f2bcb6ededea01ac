-- How a slot is kept.
use Rattle.std.specs.Prelude.{Option}
use Rattle.std.specs.Option.{option_map}
use Rattle.inf_base.specs.Content.{Hold, Slot, reserved, file, directory}
use Rattle.inf_content.specs.declared.slot.Holder.{Holder}
use Rattle.inf_content.specs.declared.slot.What.{What}
use Rattle.inf_content.specs.declared.slot.What.TheVariants as what

-- a hold as it is kept
abbrev pub hold_of : Holder → Hold
hold_of holder = record { by = holder.by; mode = holder.mode }

-- a slot as it is kept; what is reserved is held by no call beside
abbrev pub slot_of : What → Option Holder → Slot
slot_of (what.Reserved by access) held = reserved by access
slot_of (what.File meta) held = file meta (option_map hold_of held)
slot_of (what.Dir access) held = directory access (option_map hold_of held)
