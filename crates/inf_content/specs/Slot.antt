-- What stands under one name, and what calls do with it.
use Rattle.std.specs.Prelude.{ℕ, Bool, false, ◌&&◌, if◌then◌else◌, Option, Some, None, is_none}
use Rattle.std.specs.Option.{option_map, unwrap_or}
use Rattle.inf_base.specs.declared.access.Access.{Access}
use Rattle.inf_base.specs.declared.caller.Caller.{Caller}
use Rattle.inf_base.specs.declared.caller.CallRef.{CallRef}
use Rattle.inf_base.specs.declared.directory.DirRef.{DirRef}
use Rattle.inf_base.specs.declared.file.FileMeta.{FileMeta}
use Rattle.inf_base.specs.declared.item.Kind.{Kind}
use Rattle.inf_base.specs.declared.item.Kind.TheVariants as kind
use Rattle.inf_base.specs.Content.{Hold, Slot, reserved, file, directory}
use Rattle.inf_base.specs.Same.{dir_of, is_same_call}
use Rattle.inf_content.specs.declared.seen.Seen.{Seen}
use Rattle.inf_content.specs.declared.seen.Seen.TheVariants as seen

-- the call that holds an entry, if one does
abbrev pub holder : Option Hold → Option CallRef
holder held = option_map (λ (h : Hold). h.by) held

-- the call that holds or reserves a slot
abbrev pub taker : Slot → Option CallRef
taker (reserved by access) = Some by
taker (file meta held) = holder held
taker (directory access held) = holder held

-- what is seen of a slot: what stands there, and the call that holds or reserved it
abbrev pub seen_slot : Slot → Seen
seen_slot (reserved by access) = seen.Reserved by
seen_slot (file meta held) = seen.File meta (holder held)
seen_slot (directory access held) = seen.Dir (dir_of access) access.mode access.owner access.group (holder held)

-- the access object of a slot that is a directory
abbrev pub access_in : Slot → Option Access
access_in (reserved by access) = None
access_in (file meta held) = None
access_in (directory access held) = Some access

-- what a listing shows; what is reserved does not stand there yet
abbrev pub kind_in : Slot → Option Kind
kind_in (reserved by access) = None
kind_in (file meta held) = Some kind.File
kind_in (directory access held) = Some kind.Dir

-- a file's metadata changed, whoever holds it
abbrev pub with_meta : FileMeta → Slot → Slot
with_meta meta (reserved by access) = reserved by access
with_meta meta (file old held) = file meta held
with_meta meta (directory access held) = directory access held

-- a slot held by a call, with the mode to come; what is reserved stays
abbrev pub held_slot : CallRef → Option ℕ → Slot → Slot
held_slot by mode (reserved other access) = reserved other access
held_slot by mode (file meta held) = file meta (Some (record { by = by; mode = mode }))
held_slot by mode (directory access held) = directory access (Some (record { by = by; mode = mode }))

-- whether the call reserved it
abbrev pub reserves : CallRef → Slot → Bool
reserves by (reserved other access) = is_same_call other by
reserves by (file meta held) = false
reserves by (directory access held) = false

-- whether a hold is of the call
abbrev pub is_held_by : CallRef → Option Hold → Bool
is_held_by by None = false
is_held_by by (Some hold) = is_same_call hold.by by

-- whether the call holds it
abbrev pub holds : CallRef → Slot → Bool
holds by (reserved other access) = false
holds by (file meta held) = is_held_by by held
holds by (directory access held) = is_held_by by held

-- a call holds it and no mode is to come: it is to go
abbrev pub is_to_go : CallRef → Option Hold → Bool
is_to_go by None = false
is_to_go by (Some hold) = is_same_call hold.by by && is_none hold.mode

-- whether it is to go for the call
abbrev pub erases : CallRef → Slot → Bool
erases by (reserved other access) = false
erases by (file meta held) = is_to_go by held
erases by (directory access held) = is_to_go by held

-- the mode to come, if one was kept
abbrev pub mode_after : ℕ → Option Hold → ℕ
mode_after mode None = mode
mode_after mode (Some hold) = unwrap_or hold.mode mode

-- a slot with the mode that was kept for it, held by no call
abbrev pub settled : Slot → Slot
settled (reserved by access) = reserved by access
settled (file meta held) = file (record meta { mode = mode_after meta.mode held }) None
settled (directory access held) = directory (record access { mode = mode_after access.mode held }) None

-- what a call holds is let go
abbrev pub let_go : CallRef → Option Hold → Option Hold
let_go by held = if is_held_by by held then None else held

-- a slot with no hold of the call
abbrev pub freed : CallRef → Slot → Slot
freed by (reserved other access) = reserved other access
freed by (file meta held) = file meta (let_go by held)
freed by (directory access held) = directory access (let_go by held)

-- an access object that is to be another directory's, with that one's owner; the place of birth stays
abbrev pub linked : Option (DirRef × ℕ × Caller) → Access → Access
linked None access = access
linked (Some link) access =
    record access { id = link.0.id; born = link.0.born; mode = link.1; owner = link.2.uid; group = link.2.gid }

-- what was reserved becomes a directory
abbrev pub filled : Option (DirRef × ℕ × Caller) → Slot → Slot
filled link (reserved by access) = directory (linked link access) None
filled link (file meta held) = file meta held
filled link (directory access held) = directory access held
