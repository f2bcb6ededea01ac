-- What changes at one name of a directory, where nothing stands behind it: everything else stands as before.
use Rattle.std.proofs.Common.{◌≡◌, ℕ, Bool, true, false, List, [], ◌∷◌, ◌++◌, length, Option, Some, None, refl, sym, ap, ◌∙◌, subst, ap₂, subst₂, inl, inr, ◌⊎◌, arith, length-append}
use Rattle.std.specs.Option.{option_map}
use Rattle.std.proofs.lemmas.Bool.{and_parts}
use Rattle.std.proofs.lemmas.Slice.Eq.{bytes_eq-Decides}
use Rattle.inf_base.specs.declared.access.Access.{Access}
use Rattle.inf_base.specs.declared.directory.DirRef.{DirRef}
use Rattle.inf_base.specs.Same.{dir_of}
use Rattle.inf_base.proofs.Same.{same_dir}
use Rattle.inf_tree.specs.Tree.{Node, changed}
use Rattle.inf_laws_directory.specs.Changes.{AllStay, IsUnreached, is_at}
use Rattle.inf_laws_directory.specs.Stands.{AreThere, Shown, Shows, child, node_at, shown_node, shown_thing}
use Rattle.inf_laws_directory.specs.Things.{Directories, HasContent, Reaches, StandOnce, Thing, a_dir, thing_at, thing_under}
use Rattle.inf_laws_directory.proofs.Nodes.{cases_path, changed_elsewhere, changed_here, node_at-here, seen}
use Rattle.inf_laws_directory.proofs.Ways.{same_at, thing_at-next}

abbrev pub HasNothingBehind : Directories → Option Thing → Type 0
HasNothingBehind dirs here = (name : List ℕ) (names : List (List ℕ)) → thing_at dirs (name ∷ names) here ≡ None

-- a name of a directory is given to another thing, or to none
pub record ChangesLeaf (old new : Directories) (dir : DirRef) (name : List ℕ) : Type 0 where
  pub before : HasNothingBehind new (thing_under name dir old)
  pub after : HasNothingBehind new (thing_under name dir new)
  pub others : (other_dir : DirRef) (other : List ℕ) → is_at dir name other_dir other ≡ false
      → thing_under other other_dir new ≡ thing_under other other_dir old

-- the same of a node, with what shows under the name then
pub record ChangesLeafTo (node after : Node) (name : List ℕ) (shown : Option Shown) : Type 0 where
  pub here : option_map shown_node (child name after) ≡ shown
  pub others : (rest : List (List ℕ)) → (rest ≡ name ∷ [] → ⊥) → seen rest after ≡ seen rest node

longer : (path : List (List ℕ)) (name : List ℕ) → path ≡ path ++ name ∷ [] → ⊥
longer path name same = let more = ap length same in omega (arith, more, length-append path (name ∷ []))

module _ (old new : Directories) (root access : Access) (path : List (List ℕ)) (name : List ℕ)
    (once : StandOnce old root) (reached : Reaches old root path access) (leaf : ChangesLeaf old new (dir_of access) name) where
  past_leaf : (there : DirRef) (step : List ℕ) (rest : List (List ℕ)) → dir_of access ≡ there → name ≡ step → (rest ≡ [] → ⊥)
      → thing_at new rest (thing_under step there new) ≡ thing_at new rest (thing_under step there old)
  past_leaf there step [] dir same more = absurd (more refl)
  past_leaf there step (next ∷ rest) dir same more =
      subst₂ (λ d n. thing_at new (next ∷ rest) (thing_under n d new) ≡ thing_at new (next ∷ rest) (thing_under n d old)) dir same
      (leaf.after next rest ∙ sym (leaf.before next rest))

  pub same_elsewhere : (other : List (List ℕ)) → (other ≡ path ++ name ∷ [] → ⊥) → thing_at new other (Some (a_dir root)) ≡ thing_at old other (Some (a_dir root))
  same_elsewhere other apart = same_at old new root other (λ before rest step there split at. by before rest step there split at (is_at (dir_of access) name (dir_of there) step) refl)
    where
      by : (before rest : List (List ℕ)) (step : List ℕ) (there : Access) → before ++ step ∷ rest ≡ other → Reaches old root before there
          → (b : Bool) → is_at (dir_of access) name (dir_of there) step ≡ b
          → thing_at new rest (thing_under step (dir_of there) new) ≡ thing_at new rest (thing_under step (dir_of there) old)
      by before rest step there split at false differs = ap (thing_at new rest) (leaf.others (dir_of there) step differs)
      by before rest step there split at true same =
          let parts = and_parts _ _ same in
          let dir : dir_of access ≡ dir_of there = same_dir (dir_of access) (dir_of there) parts.0 in
          let step_is : name ≡ step = (bytes_eq-Decides name step).0 parts.1 in
          let before_is : before ≡ path = once before path there access at reached (sym dir) in
          past_leaf (dir_of there) step rest dir step_is (λ none.
          apart (sym split ∙ ap (λ r. before ++ step ∷ r) none ∙ ap₂ (λ p n. p ++ n ∷ []) before_is (sym step_is)))

  pub new_here : thing_at new (path ++ name ∷ []) (Some (a_dir root)) ≡ thing_under name (dir_of access) new
  new_here = thing_at-next new root access path name (same_elsewhere path (longer path name) ∙ reached)

  -- a tree that changes alike
  pub leaf_shows : (tree node : Node) (change : Node → Node) → Shows old root tree → node_at path (Some tree) ≡ Some node
      → ChangesLeafTo node (change node) name (option_map shown_thing (thing_under name (dir_of access) new)) → Shows new root (changed change path tree)
  leaf_shows tree node change shows stands alike other = by (cases_path other (path ++ name ∷ []))
    where
      by : (other ≡ path ++ name ∷ []) ⊎ (other ≡ path ++ name ∷ [] → ⊥)
          → option_map shown_thing (thing_at new other (Some (a_dir root))) ≡ seen other (changed change path tree)
      by (inl same) =
          subst (λ (p : List (List ℕ)). option_map shown_thing (thing_at new p (Some (a_dir root))) ≡ seen p (changed change path tree)) (sym same)
          (ap (option_map shown_thing) new_here ∙ sym alike.here
          ∙ sym (ap (option_map shown_node) (changed_here change path (name ∷ []) tree node stands ∙ node_at-here (child name (change node)))))
      by (inr apart) =
          ap (option_map shown_thing) (same_elsewhere other apart) ∙ shows other ∙ sym (changed_elsewhere change path other name tree node stands alike.others apart)

  pub leaf_once : ((made : Access) → thing_under name (dir_of access) new ≡ Some (a_dir made) → IsUnreached old root (dir_of made)) → StandOnce new root
  leaf_once fresh first second one another at other_at is = by (cases_path first (path ++ name ∷ [])) (cases_path second (path ++ name ∷ []))
    where
      made_at : (place : List (List ℕ)) (made : Access) → place ≡ path ++ name ∷ [] → Reaches new root place made → IsUnreached old root (dir_of made)
      made_at place made same reaches = fresh made (sym new_here ∙ subst (λ (p : List (List ℕ)). Reaches new root p made) same reaches)

      by : (first ≡ path ++ name ∷ []) ⊎ (first ≡ path ++ name ∷ [] → ⊥) → (second ≡ path ++ name ∷ []) ⊎ (second ≡ path ++ name ∷ [] → ⊥) → first ≡ second
      by (inl same) (inl too) = same ∙ sym too
      by (inl same) (inr apart) = absurd (made_at first one same at second another (sym (same_elsewhere second apart) ∙ other_at) (sym is))
      by (inr apart) (inl same) = absurd (made_at second another same other_at first one (sym (same_elsewhere first apart) ∙ at) is)
      by (inr apart) (inr too) = once first second one another (sym (same_elsewhere first apart) ∙ at) (sym (same_elsewhere second too) ∙ other_at) is

  -- each directory that a path leads to is there, where the one that comes is
  pub leaf_there : AreThere old root → AllStay old new
      → ((made : Access) → thing_under name (dir_of access) new ≡ Some (a_dir made) → HasContent new (dir_of made)) → AreThere new root
  leaf_there there stay comes other seen at = by (cases_path other (path ++ name ∷ []))
    where
      by : (other ≡ path ++ name ∷ []) ⊎ (other ≡ path ++ name ∷ [] → ⊥) → HasContent new (dir_of seen)
      by (inl same) = comes seen (sym new_here ∙ subst (λ (p : List (List ℕ)). Reaches new root p seen) same at)
      by (inr apart) = stay (dir_of seen) (there other seen (sym (same_elsewhere other apart) ∙ at))
