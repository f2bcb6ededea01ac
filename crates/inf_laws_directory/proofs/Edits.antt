-- What is put under a free name of a directory, or taken from there.
use Rattle.std.proofs.Common.{◌≡◌, ℕ, Bool, true, false, cond, List, [], ◌∷◌, Option, Some, None, refl, sym, ap, ◌∙◌, subst, subst₂, ◌⊎◌, inl, inr}
use Rattle.std.specs.Cmp.Lexicographic.{slice_cmp}
use Rattle.std.specs.List.Sorted.{IsStrictlySortedBy}
use Rattle.std.specs.Option.{option_map}
use Rattle.std.specs.Ordering.{nat_cmp}
use Rattle.std.specs.Str.{bytes_eq}
use Rattle.std.proofs.lemmas.Bool.{and_left, and_parts, false_from_ne_true}
use Rattle.std.proofs.lemmas.Slice.Eq.{bytes_eq-Decides}
use Rattle.inf_base.specs.declared.access.Access.{Access}
use Rattle.inf_base.specs.declared.file.FileMeta.{FileMeta}
use Rattle.inf_base.specs.Same.{dir_of, is_same_dir}
use Rattle.inf_base.proofs.Same.{same_dir}
use Rattle.inf_tree.specs.Tree.{DirMeta, Entries, IsTree, Node, changed, cut, dir, file, found, hung, names_of, none, placed, without}
use Rattle.inf_tree.proofs.Lookups.{found-placed, found-without}
use Rattle.inf_laws_directory.specs.Changes.{AllStay, IsEmpty, IsNew, IsUnreached, Puts, Takes, is_at}
use Rattle.inf_laws_directory.specs.Stands.{Shows, Stands, child, meta_of, node_at, shown_node, shown_thing}
use Rattle.inf_laws_directory.specs.Things.{Directories, HasContent, Reaches, Thing, a_dir, a_file, thing_at, thing_under}
use Rattle.inf_laws_directory.proofs.Leaves.{ChangesLeaf, HasNothingBehind, leaf_once, leaf_shows, leaf_there}
use Rattle.inf_laws_directory.proofs.Nodes.{IfTree, IsDirOf, IsTree-node_at, cases_name, dir_from_shown, own_name, seen, shows_from}

-- entries that differ from others at one name, behind which nothing shows before or after
record DiffersAt (name : List ℕ) (meta : DirMeta) (entries after : Entries) : Type 0 where
  others : (other : List ℕ) → bytes_eq other name ≡ false → found other after ≡ found other entries
  nothing_before : (next : List ℕ) (rest : List (List ℕ)) → seen (name ∷ next ∷ rest) (dir meta entries) ≡ None
  nothing_after : (next : List ℕ) (rest : List (List ℕ)) → seen (name ∷ next ∷ rest) (dir meta after) ≡ None

seen_elsewhere : (name : List ℕ) (meta : DirMeta) (entries after : Entries) → DiffersAt name meta entries after
    → (path : List (List ℕ)) → (path ≡ name ∷ [] → ⊥) → seen path (dir meta after) ≡ seen path (dir meta entries)
seen_elsewhere name meta entries after differs [] apart = refl
seen_elsewhere name meta entries after differs (first ∷ rest) apart = by (cases_name first name) rest apart
  where
    by : (first ≡ name) ⊎ (bytes_eq first name ≡ false) → (rest : List (List ℕ)) → (first ∷ rest ≡ name ∷ [] → ⊥)
        → seen (first ∷ rest) (dir meta after) ≡ seen (first ∷ rest) (dir meta entries)
    by (inl same) [] apart = absurd (apart (ap (λ n. n ∷ []) same))
    by (inl same) (next ∷ more) apart =
        subst (λ (n : List ℕ). seen (n ∷ next ∷ more) (dir meta after) ≡ seen (n ∷ next ∷ more) (dir meta entries)) (sym same)
        (differs.nothing_after next more ∙ sym (differs.nothing_before next more))
    by (inr other) rest apart = ap (λ (o : Option Node). option_map shown_node (node_at rest o)) (differs.others first other)

module _ (name : List ℕ) (entries : Entries) where
  placed_here : (node : Node) → found name (placed name node entries) ≡ Some node
  placed_here node = found-placed name name node entries ∙ ap (λ b. cond b (Some node) (found name entries)) (own_name name)

  placed_elsewhere : (node : Node) (other : List ℕ) → bytes_eq other name ≡ false → found other (placed name node entries) ≡ found other entries
  placed_elsewhere node other apart = found-placed other name node entries ∙ ap (λ b. cond b (Some node) (found other entries)) apart

  without_here : IsStrictlySortedBy (slice_cmp nat_cmp) (names_of entries) → found name (without name entries) ≡ None
  without_here sorted = found-without name name entries sorted ∙ ap (λ b. cond b None (found name entries)) (own_name name)

  without_elsewhere : IsStrictlySortedBy (slice_cmp nat_cmp) (names_of entries) → (other : List ℕ) → bytes_eq other name ≡ false
      → found other (without name entries) ≡ found other entries
  without_elsewhere sorted other apart = found-without other name entries sorted ∙ ap (λ b. cond b None (found other entries)) apart

module _ (old new : Directories) (root access : Access) (tree : Node) (path : List (List ℕ)) (name : List ℕ)
    (stands : Stands old root tree) (reached : Reaches old root path access) where
  -- what stands in the tree where the directory stands
  here : IsDirOf access (node_at path (Some tree))
  here = dir_from_shown access (node_at path (Some tree)) (sym (ap (option_map shown_thing) reached) ∙ stands.shows path)

  abbrev standing : Entries
  standing = here.entries

  shows_on : Shows old access (dir (meta_of access) standing)
  shows_on = shows_from old root access tree (dir (meta_of access) standing) path stands.shows reached here.is

  -- a directory that comes stood nowhere, and is there
  abbrev Comes : Access → Type 0
  Comes made = IsUnreached old root (dir_of made) × HasContent new (dir_of made)

  -- the directories and the tree change alike
  edit_stands : (change : Node → Node) (after : Entries) → ChangesLeaf old new (dir_of access) name → change (dir (meta_of access) standing) ≡ dir (meta_of access) after
      → DiffersAt name (meta_of access) standing after
      → option_map shown_node (found name after) ≡ option_map shown_thing (thing_under name (dir_of access) new)
      → AllStay old new → ((made : Access) → thing_under name (dir_of access) new ≡ Some (a_dir made) → Comes made)
      → Stands new root (changed change path tree)
  edit_stands change after leaf changed_is differs alike stay comes = record {
    shows = leaf_shows old new root access path name stands.once reached leaf tree (dir (meta_of access) standing) change stands.shows here.is (rw changed_is record {
      here = alike;
      others = seen_elsewhere name (meta_of access) standing after differs;
    });
    once = leaf_once old new root access path name stands.once reached leaf (λ made is. (comes made is).0);
    there = leaf_there old new root access path name stands.once reached leaf stands.there stay (λ made is. (comes made is).1);
  }

  put_stands : (node : Node) (thing : Thing) → Puts old new (dir_of access) name thing
      → HasNothingBehind new (Some thing) → ((next : List ℕ) → child next node ≡ None) → shown_node node ≡ shown_thing thing
      → ((made : Access) → thing ≡ a_dir made → Comes made)
      → Stands new root (changed (hung name node) path tree)
  put_stands node thing puts nothing leaf alike comes =
      edit_stands (hung name node) (placed name node standing)
      (record { before = λ next rest. ap (thing_at new (next ∷ rest)) puts.free; after = λ next rest. ap (thing_at new (next ∷ rest)) puts.here ∙ nothing next rest; others = puts.others })
      refl
      (record {
        others = placed_elsewhere name standing node;
        nothing_before = λ next rest. sym (shows_on (name ∷ next ∷ rest)) ∙ ap (λ (o : Option Thing). option_map shown_thing (thing_at old (next ∷ rest) o)) puts.free;
        nothing_after = λ next rest.
            ap (λ (o : Option Node). option_map shown_node (node_at (next ∷ rest) o)) (placed_here name standing node)
            ∙ ap (λ (o : Option Node). option_map shown_node (node_at rest o)) (leaf next);
      })
      (ap (option_map shown_node) (placed_here name standing node) ∙ ap Some alike ∙ sym (ap (option_map shown_thing) puts.here))
      puts.stay (λ made is. comes made (let both : Some thing ≡ Some (a_dir made) = sym puts.here ∙ is in cc))

  pub file_stands : (meta : FileMeta) → Puts old new (dir_of access) name (a_file meta) → Stands new root (changed (hung name (file meta)) path tree)
  file_stands meta puts = put_stands (file meta) (a_file meta) puts (λ next rest. refl) (λ next. refl) refl (λ made is. absurd (cc))

  pub directory_stands : (made : Access) → Puts old new (dir_of access) name (a_dir made) → IsNew old root (dir_of made)
      → Stands new root (changed (hung name (dir (meta_of made) none)) path tree)
  directory_stands made puts fresh =
      put_stands (dir (meta_of made) none) (a_dir made) puts
      (λ next rest. ap (thing_at new rest) (puts.others (dir_of made) next (and_left _ _ apart) ∙ fresh.empty next))
      (λ next. refl) refl
      (λ other is. subst Comes (let same : made ≡ other = cc in same) (fresh.unreached, puts.stay (dir_of made) fresh.there))
    where
      apart : is_same_dir (dir_of access) (dir_of made) ≡ false
      apart = false_from_ne_true _ (λ same. fresh.unreached path access reached (same_dir (dir_of access) (dir_of made) same))

  pub taken_stands : (gone : Access) → IsTree tree → thing_under name (dir_of access) old ≡ Some (a_dir gone) → IsEmpty old (dir_of gone)
      → Takes old new (dir_of access) name → Stands new root (changed (cut name) path tree)
  taken_stands gone trees stood empty takes =
      edit_stands (cut name) (without name standing)
      (record { before = λ next rest. ap (thing_at new (next ∷ rest)) stood ∙ ap (thing_at new rest) (still_empty next); after = λ next rest. ap (thing_at new (next ∷ rest)) takes.gone; others = takes.others })
      refl
      (record {
        others = without_elsewhere name standing sorted;
        nothing_before = λ next rest.
            sym (shows_on (name ∷ next ∷ rest))
            ∙ ap (λ (o : Option Thing). option_map shown_thing (thing_at old (next ∷ rest) o)) stood
            ∙ ap (λ (o : Option Thing). option_map shown_thing (thing_at old rest o)) (empty next);
        nothing_after = λ next rest. ap (λ (o : Option Node). option_map shown_node (node_at (next ∷ rest) o)) (without_here name standing sorted);
      })
      (ap (option_map shown_node) (without_here name standing sorted) ∙ sym (ap (option_map shown_thing) takes.gone))
      takes.stay (λ made is. absurd (let both : None ≡ Some (a_dir made) = sym takes.gone ∙ is in cc))
    where
      sorted : IsStrictlySortedBy (slice_cmp nat_cmp) (names_of standing)
      sorted = (subst IfTree here.is (IsTree-node_at path (Some tree) trees)).0

      still_empty : (next : List ℕ) → thing_under next (dir_of gone) new ≡ None
      still_empty next = by (is_at (dir_of access) name (dir_of gone) next) refl
        where
          by : (b : Bool) → is_at (dir_of access) name (dir_of gone) next ≡ b → thing_under next (dir_of gone) new ≡ None
          by true same =
              let parts = and_parts _ _ same in
              let dir : dir_of access ≡ dir_of gone = same_dir (dir_of access) (dir_of gone) parts.0 in
              let name_is : name ≡ next = (bytes_eq-Decides name next).0 parts.1 in
              subst₂ (λ d n. thing_under n d new ≡ None) dir name_is takes.gone
          by false apart = takes.others (dir_of gone) next apart ∙ empty next
