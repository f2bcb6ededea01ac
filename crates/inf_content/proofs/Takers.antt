-- Which slots calls hold or reserve, before and after what they do with them.
use Rattle.std.proofs.Common.{◌≡◌, ℕ, ◌||◌, true, false, Option, Some, None, refl, sym, ap, ◌∙◌, ⊎_elim}
use Rattle.std.proofs.lemmas.Bool.{or_cases}
use Rattle.inf_base.specs.declared.caller.CallRef.{CallRef}
use Rattle.inf_base.specs.declared.caller.Caller.{Caller}
use Rattle.inf_base.specs.declared.directory.DirRef.{DirRef}
use Rattle.inf_base.specs.declared.file.FileMeta.{FileMeta}
use Rattle.inf_base.specs.Content.{Slot, reserved, file, directory}
use Rattle.inf_content.specs.declared.wanted.Wanted.{Wanted}
use Rattle.inf_content.specs.declared.wanted.Wanted.TheVariants as wanted
use Rattle.inf_content.specs.BusyNames.{is_busy}
use Rattle.inf_content.specs.Slot.{erases, filled, freed, held_slot, holds, reserves, settled, with_meta}
use Rattle.inf_content.specs.Wanted.{is_wanted}

-- ---- what is wanted of a call is busy
held_busy : (by : CallRef) (slot : Slot) → holds by slot ≡ true → is_busy slot ≡ true
held_busy by (reserved other access) is = cc
held_busy by (file meta None) is = cc
held_busy by (file meta (Some hold)) is = refl
held_busy by (directory access None) is = cc
held_busy by (directory access (Some hold)) is = refl

reserved_busy : (by : CallRef) (slot : Slot) → reserves by slot ≡ true → is_busy slot ≡ true
reserved_busy by (reserved other access) is = refl
reserved_busy by (file meta held) is = cc
reserved_busy by (directory access held) is = cc

going_busy : (by : CallRef) (slot : Slot) → erases by slot ≡ true → is_busy slot ≡ true
going_busy by (reserved other access) is = cc
going_busy by (file meta None) is = cc
going_busy by (file meta (Some hold)) is = refl
going_busy by (directory access None) is = cc
going_busy by (directory access (Some hold)) is = refl

pub wanted_busy : (w : Wanted) (by : CallRef) (slot : Slot) → is_wanted w by slot ≡ true → is_busy slot ≡ true
wanted_busy wanted.Reserved by slot is = reserved_busy by slot is
wanted_busy wanted.Held by slot is = held_busy by slot is
wanted_busy wanted.Going by slot is = going_busy by slot is
wanted_busy wanted.Taken by slot is = ⊎_elim (reserved_busy by slot) (held_busy by slot) (or_cases (reserves by slot) (holds by slot) is)

-- ---- what a call lets go is free
pub settled_free : (by : CallRef) (slot : Slot) → holds by slot ≡ true → is_busy (settled slot) ≡ false
settled_free by (reserved other access) is = cc
settled_free by (file meta held) is = refl
settled_free by (directory access held) is = refl

pub filled_free : (by : CallRef) (link : Option (DirRef × ℕ × Caller)) (slot : Slot) → reserves by slot ≡ true → is_busy (filled link slot) ≡ false
filled_free by link (reserved other access) is = refl
filled_free by link (file meta held) is = cc
filled_free by link (directory access held) is = cc

pub freed_free : (by : CallRef) (slot : Slot) → holds by slot ≡ true → is_busy (freed by slot) ≡ false
freed_free by (reserved other access) is = cc
freed_free by (file meta held) is = rw is refl
freed_free by (directory access held) is = rw is refl

pub held_slot_busy : (by : CallRef) (mode : Option ℕ) (slot : Slot) → is_busy (held_slot by mode slot) ≡ true
held_slot_busy by mode (reserved other access) = refl
held_slot_busy by mode (file meta held) = refl
held_slot_busy by mode (directory access held) = refl

pub with_meta_busy : (meta : FileMeta) (slot : Slot) → is_busy (with_meta meta slot) ≡ is_busy slot
with_meta_busy meta (reserved other access) = refl
with_meta_busy meta (file old held) = refl
with_meta_busy meta (directory access held) = refl

-- a call that took a slot, and did not reserve it, holds it
pub holds_from_taken : (by : CallRef) (slot : Slot) → (reserves by slot || holds by slot) ≡ true → reserves by slot ≡ false → holds by slot ≡ true
holds_from_taken by slot taken not_reserved = ap (λ b. b || holds by slot) (sym not_reserved) ∙ taken
