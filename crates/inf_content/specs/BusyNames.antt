-- The names of a directory's slots that calls hold or reserve.
use Rattle.std.specs.Prelude.{ℕ, Bool, if◌then◌else◌, List, [], ◌∷◌, is_some}
use Rattle.std.specs.BTreeSet.{insert_key}
use Rattle.std.specs.Cmp.Lexicographic.{slice_cmp}
use Rattle.std.specs.Ordering.{nat_cmp}
use Rattle.std.specs.Set.{remove_key}
use Rattle.std.specs.Str.{bytes_eq}
use Rattle.inf_base.specs.Content.{Slot}
use Rattle.inf_content.specs.Slot.{taker}

-- names in the order of their bytes, and for how many there is room
pub record Busy : Type 0 where
  pub names : List (List ℕ)
  pub room : ℕ

abbrev pub nothing_busy : Busy
nothing_busy = record { names = []; room = 0 }

-- whether a call holds or reserves a slot
abbrev pub is_busy : Slot → Bool
is_busy slot = is_some (taker slot)

-- the names of the slots that calls hold or reserve
abbrev pub busy_names : List (List ℕ × Slot) → List (List ℕ)
busy_names [] = []
busy_names (e ∷ es) = if is_busy e.1 then e.0 ∷ busy_names es else busy_names es

-- names with one more, in its place in the order, unless it is there
abbrev pub with_name : List ℕ → List (List ℕ) → List (List ℕ)
with_name name names = insert_key (slice_cmp nat_cmp) names name

-- names without one
abbrev pub without_name : List ℕ → List (List ℕ) → List (List ℕ)
without_name name names = remove_key (bytes_eq name) names
