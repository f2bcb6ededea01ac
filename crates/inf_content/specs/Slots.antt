-- The slots of one directory, in the order of their names' bytes.
use Rattle.std.specs.Prelude.{ℕ, Bool, false, ◌&&◌, if◌then◌else◌, List, [], ◌∷◌, Option, Some, None, is_none}
use Rattle.std.specs.BTreeMap.{insert_entry, is_at}
use Rattle.std.specs.Cmp.Lexicographic.{slice_cmp}
use Rattle.std.specs.List.{list_any}
use Rattle.std.specs.Map.{lookup, remove_entry}
use Rattle.std.specs.Ordering.{nat_cmp}
use Rattle.std.specs.Str.{bytes_eq}
use Rattle.inf_base.specs.declared.access.Access.{Access}
use Rattle.inf_base.specs.declared.caller.Caller.{Caller}
use Rattle.inf_base.specs.declared.caller.CallRef.{CallRef}
use Rattle.inf_base.specs.declared.directory.DirRef.{DirRef}
use Rattle.inf_base.specs.declared.id.Id.{Id}
use Rattle.inf_base.specs.declared.item.Item.{Item}
use Rattle.inf_base.specs.declared.item.Kind.{Kind}
use Rattle.inf_base.specs.declared.triple.Triple.{Triple}
use Rattle.inf_base.specs.declared.triple.Triple.TheVariants as triple
use Rattle.inf_base.specs.Content.{Slot}
use Rattle.inf_base.specs.Same.{dir_of, is_same_id}
use Rattle.inf_content.specs.declared.inside.Inside.{Inside}
use Rattle.inf_content.specs.declared.inside.Inside.TheVariants as inside
use Rattle.inf_content.specs.declared.seen.Seen.{Seen}
use Rattle.inf_content.specs.declared.seen.Seen.TheVariants as seen
use Rattle.inf_content.specs.Slot.{access_in, erases, filled, freed, holds, kind_in, reserves, seen_slot, settled, taker}

-- what stands under a name
abbrev pub slot_in : List ℕ → List (List ℕ × Slot) → Option Slot
slot_in name slots = lookup (is_at (slice_cmp nat_cmp name)) slots

-- the slots with one under a name, in its place in the order; one that stood there goes
abbrev pub with_slot : List ℕ → Slot → List (List ℕ × Slot) → List (List ℕ × Slot)
with_slot name slot slots = insert_entry (slice_cmp nat_cmp) slots name slot

-- the slots without the one under a name
abbrev pub without_slot : List ℕ → List (List ℕ × Slot) → List (List ℕ × Slot)
without_slot name slots = remove_entry (is_at (slice_cmp nat_cmp name)) slots

-- the slots with the one under a name changed
abbrev pub changed_slot : List ℕ → (Slot → Slot) → List (List ℕ × Slot) → List (List ℕ × Slot)
changed_slot name change [] = []
changed_slot name change (e ∷ es) =
    if is_at (slice_cmp nat_cmp name) e.0 then (e.0, change e.1) ∷ es else e ∷ changed_slot name change es

-- the slots with the first one that passes changed
abbrev pub first_changed : (Slot → Bool) → (Slot → Slot) → List (List ℕ × Slot) → List (List ℕ × Slot)
first_changed test change [] = []
first_changed test change (e ∷ es) = if test e.1 then (e.0, change e.1) ∷ es else e ∷ first_changed test change es

-- the slots without the first one that passes
abbrev pub without_first : (Slot → Bool) → List (List ℕ × Slot) → List (List ℕ × Slot)
without_first test [] = []
without_first test (e ∷ es) = if test e.1 then es else e ∷ without_first test es

-- the first slot that passes, with its name
abbrev pub first : (Slot → Bool) → List (List ℕ × Slot) → Option (List ℕ × Slot)
first test [] = None
first test (e ∷ es) = if test e.1 then Some e else first test es

-- what is seen where a slot may stand
abbrev pub seen_of : Option Slot → Seen
seen_of None = seen.Missing
seen_of (Some slot) = seen_slot slot

-- the access object where a directory may stand
abbrev pub access_of : Option Slot → Option Access
access_of None = None
access_of (Some slot) = access_in slot

-- the first of two calls, if there is one
abbrev pub or_later : Option CallRef → Option CallRef → Option CallRef
or_later None later = later
or_later (Some by) later = Some by

-- the call of the first slot that is held or reserved
abbrev pub first_taker : List (List ℕ × Slot) → Option CallRef
first_taker [] = None
first_taker (e ∷ es) = or_later (taker e.1) (first_taker es)

-- whether the birth triple of a directory is this place: the directory of this identifier, and this name
abbrev pub is_birth_place : Id → List ℕ → Triple → Bool
is_birth_place id name triple.Root = false
is_birth_place id name (triple.Of parent birth_name version) = is_same_id id parent && bytes_eq name birth_name

-- the directory of a slot, and whether it lives where it was made
abbrev pub lives : Id → List ℕ → Option Access → Option (DirRef × Bool)
lives id name None = None
lives id name (Some access) = Some (dir_of access, is_birth_place id name access.birth)

-- the slots with what a call reserved first made a directory
abbrev pub filled_in : CallRef → Option (DirRef × ℕ × Caller) → List (List ℕ × Slot) → List (List ℕ × Slot)
filled_in by link slots = first_changed (reserves by) (filled link) slots

-- what is told of the slot that is filled
abbrev pub told_of_filled : Id → Option (DirRef × ℕ × Caller) → Option (List ℕ × Slot) → Option (DirRef × Bool)
told_of_filled id link None = None
told_of_filled id link (Some e) = lives id e.0 (access_in (filled link e.1))

-- what is told of a slot under a name that is filled
abbrev pub told_of_slot : Id → List ℕ → Option (DirRef × ℕ × Caller) → Slot → Option (DirRef × Bool)
told_of_slot id name link slot = lives id name (access_in (filled link slot))

-- the slots with what the call held first settled
abbrev pub settled_in : CallRef → List (List ℕ × Slot) → List (List ℕ × Slot)
settled_in by slots = first_changed (holds by) settled slots

-- the slots without what a call reserved, and with what it held free
abbrev pub lifted : CallRef → List (List ℕ × Slot) → List (List ℕ × Slot)
lifted by [] = []
lifted by (e ∷ es) = if reserves by e.1 then lifted by es else (e.0, freed by e.1) ∷ lifted by es

-- the slots without the first one that is to go for the call
abbrev pub erased : CallRef → List (List ℕ × Slot) → List (List ℕ × Slot)
erased by slots = without_first (erases by) slots

-- the name of what was erased, and its access object if it was a directory
abbrev pub told_of_erased : Option (List ℕ × Slot) → Option (List ℕ × Option Access)
told_of_erased None = None
told_of_erased (Some e) = Some (e.0, access_in e.1)

-- something stands there that no call holds or reserves
abbrev pub has_free : List (List ℕ × Slot) → Bool
has_free slots = list_any (λ (e : List ℕ × Slot). is_none (taker e.1)) slots

-- with nothing that stays, the first call is in the way
abbrev pub unless_busy : Option CallRef → Inside
unless_busy None = inside.Empty
unless_busy (Some by) = inside.Busy by

-- what stands in a directory: something that stays, what calls hold or reserve, or nothing
abbrev pub inside_of : List (List ℕ × Slot) → Inside
inside_of slots = if has_free slots then inside.Full else unless_busy (first_taker slots)

-- an item before others, if it is one
abbrev pub with_item : List ℕ → Option Kind → List Item → List Item
with_item name None items = items
with_item name (Some kind) items = record { name = name; kind = kind } ∷ items

-- the names in their order, each with its kind; what is reserved does not stand there yet
abbrev pub items_of : List (List ℕ × Slot) → List Item
items_of [] = []
items_of (e ∷ es) = with_item e.0 (kind_in e.1) (items_of es)
