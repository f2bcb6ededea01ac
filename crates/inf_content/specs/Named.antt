-- How the slots of a directory are kept: by their names, each with a copy of its name.
use Rattle.std.specs.Prelude.{◌≡◌, ℕ, ◌≤◌, if◌then◌else◌, List, length, map, Option, Some, None}
use Rattle.std.specs.BTreeMap.{is_at}
use Rattle.std.specs.Cmp.Lexicographic.{slice_cmp}
use Rattle.std.specs.List.Sorted.{IsStrictlySortedBy}
use Rattle.std.specs.Map.{keys_of, lookup}
use Rattle.std.specs.Ordering.{nat_cmp}
use Rattle.inf_base.specs.Content.{Slot}
use Rattle.inf_content.specs.declared.named.Named.{Named}
use Rattle.inf_content.specs.BusyNames.{Busy, busy_names, is_busy}

-- the slots, without the copies of their names
abbrev pub slots_of : List (List ℕ × Named) → List (List ℕ × Slot)
slots_of entries = map (λ (e : List ℕ × Named). (e.0, e.1.kept)) entries

-- the copy of its name that a slot has, while no call holds or reserves it
abbrev pub spare_of : List ℕ → Slot → Option (List ℕ)
spare_of name slot = if is_busy slot then None else Some name

-- each slot has the copy that it is to have
abbrev pub AreSpared : List (List ℕ × Named) → Type 0
AreSpared entries = (name : List ℕ) (named : Named) → lookup (is_at (slice_cmp nat_cmp name)) entries ≡ Some named
    → named.spare ≡ spare_of name named.kept

-- what holds of the slots of a directory as they are kept, and of the list of the busy ones
pub record AreKept (entries : List (List ℕ × Named)) (busy : Busy) : Type 0 where
  pub in_order : IsStrictlySortedBy (slice_cmp nat_cmp) (keys_of entries)
  pub spared : AreSpared entries
  pub listed : busy.names ≡ busy_names (slots_of entries)
  pub room : length entries ≤ busy.room
