-- A directory that is neither the root nor linked is on no path.
use Rattle.std.proofs.Common.{◌≡◌, ◌⊎◌, inl, inr, ℕ, List, [], ◌∷◌, Option, Some, None, refl, ap, ◌∙◌}
use Rattle.inf_base.specs.declared.access.Access.{Access}
use Rattle.inf_base.specs.declared.directory.DirRef.{DirRef}
use Rattle.inf_base.specs.Same.{dir_of}
use Rattle.inf_laws_directory.specs.Changes.{IsUnreached}
use Rattle.inf_laws_directory.specs.Owned.{IsLinkedSomewhere, IsUnlinked}
use Rattle.inf_laws_directory.specs.Things.{Directories, Thing, a_dir, a_file, inside, thing_at}

-- what names come to is where they began, or is linked
module _ (dirs : Directories) (access : Access) where
  abbrev IsLinked : Type 0
  IsLinked = IsLinkedSomewhere dirs (dir_of access)

  linked_in : (name : List ℕ) (here next : Thing) → inside dirs name here ≡ Some next → next ≡ a_dir access → IsLinked
  linked_in name (a_file meta) next is same = absurd cc
  linked_in name (a_dir parent) next is same =
      record { parent = dir_of parent; name = name; access = access; linked = is ∙ ap (λ (t : Thing). Some t) same; same = refl }

  came_to : (path : List (List ℕ)) (here : Thing) → thing_at dirs path (Some here) ≡ Some (a_dir access) → (here ≡ a_dir access) ⊎ IsLinked
  came_to [] here is = inl (cc)
  came_to (name ∷ path) here is = inr (by (inside dirs name here) refl is (came_to path))
    where
      by_next : (next : Thing) → inside dirs name here ≡ Some next → (next ≡ a_dir access) ⊎ IsLinked → IsLinked
      by_next next is (inl same) = linked_in name here next is same
      by_next next is (inr linked) = linked

      by : (found : Option Thing) → inside dirs name here ≡ found → thing_at dirs path found ≡ Some (a_dir access)
          → ((next : Thing) → thing_at dirs path (Some next) ≡ Some (a_dir access) → (next ≡ a_dir access) ⊎ IsLinked) → IsLinked
      by None is at later = absurd cc
      by (Some next) is at later = by_next next is (later next at)

pub unreached : (dirs : Directories) (root : Access) (dir : DirRef) → (dir_of root ≡ dir → ⊥) → IsUnlinked dirs dir → IsUnreached dirs root dir
unreached dirs root dir not_root unlinked path access reaches same = by (came_to dirs access path (a_dir root) reaches)
  where
    by : (a_dir root ≡ a_dir access) ⊎ IsLinkedSomewhere dirs (dir_of access) → ⊥
    by (inl is) = (let it : root ≡ access = cc in not_root (ap dir_of it ∙ same))
    by (inr linked) = unlinked linked.parent linked.name linked.access linked.linked (linked.same ∙ same)
