-- The order of content objects, by the bytes of their identifiers, and of their slots, by the bytes of their names.
use Rattle.std.specs.Prelude.{ℕ, List, map, All}
use Rattle.std.specs.Cmp.Lexicographic.{slice_cmp}
use Rattle.std.specs.List.Sorted.{IsStrictlySortedBy}
use Rattle.std.specs.Map.{keys_of}
use Rattle.std.specs.Ordering.{nat_cmp}
use Rattle.inf_base.specs.Content.{Content, Slot}

-- the names of slots rise
abbrev pub NamesRise : List (List ℕ × Slot) → Type 0
NamesRise slots = IsStrictlySortedBy (slice_cmp nat_cmp) (keys_of slots)

-- the identifiers of content objects rise
abbrev pub IdentifiersRise : List Content → Type 0
IdentifiersRise contents = IsStrictlySortedBy (slice_cmp nat_cmp) (map (λ (c : Content). c.dir.id.bytes) contents)

-- identifiers rise, and names rise in each directory
pub record AreInOrder (contents : List Content) : Type 0 where
  pub identifiers : IdentifiersRise contents
  pub names : All (λ (c : Content). NamesRise c.slots) contents
