-- What paths come to in the plain tree, before and after the node at one path changes.
use Rattle.std.proofs.Common.{◌≡◌, ℕ, Bool, true, false, cond, List, [], ◌∷◌, ◌++◌, Option, Some, None, refl, sym, ap, ◌∙◌, subst, inl, inr, ⊎_elim, ◌⊎◌}
use Rattle.std.specs.Option.{option_map}
use Rattle.std.specs.Str.{bytes_eq}
use Rattle.std.proofs.lemmas.Bool.{cases_Bool}
use Rattle.std.proofs.lemmas.Slice.Eq.{bytes_eq-Decides}
use Rattle.inf_base.specs.declared.access.Access.{Access}
use Rattle.inf_tree.specs.Tree.{AreTrees, DirMeta, Entries, IsTree, Node, changed, changed_under, dir, entry, file, found, none}
use Rattle.inf_laws_directory.specs.Things.{Directories, Reaches, a_dir, thing_at}
use Rattle.inf_laws_directory.proofs.Ways.{thing_at-append}
use Rattle.inf_laws_directory.specs.Stands.{Shows, shown_thing, Shown, child, meta_of, node_at, shown_node, shows_dir}

pub node_at-here : (here : Option Node) → node_at [] here ≡ here
node_at-here None = refl
node_at-here (Some here) = refl

pub node_at-append : (path rest : List (List ℕ)) (here : Option Node) → node_at (path ++ rest) here ≡ node_at rest (node_at path here)
node_at-append path rest None = refl
node_at-append [] rest (Some here) = refl
node_at-append (name ∷ path) rest (Some here) = node_at-append path rest (child name here)

-- a node that shows what an access object shows is a directory
pub record IsDirOf (access : Access) (here : Option Node) : Type 0 where
  pub entries : Entries
  pub is : here ≡ Some (dir (meta_of access) entries)

pub dir_from_shown : (access : Access) (here : Option Node) → Some (shows_dir (meta_of access)) ≡ option_map shown_node here → IsDirOf access here
dir_from_shown access None shown = cc
dir_from_shown access (Some (file meta)) shown = cc
dir_from_shown access (Some (dir meta entries)) shown =
    let same : meta ≡ meta_of access = cc in record { entries = entries; is = ap (λ (m : DirMeta). Some (dir m entries)) same }

-- what is shown at a path
abbrev pub seen : List (List ℕ) → Node → Option Shown
seen path here = option_map shown_node (node_at path (Some here))

-- from a directory that is reached, each path shows the same
pub shows_from : (dirs : Directories) (root access : Access) (tree here : Node) (path : List (List ℕ)) → Shows dirs root tree → Reaches dirs root path access
    → node_at path (Some tree) ≡ Some here → Shows dirs access here
shows_from dirs root access tree here path shows reached is rest =
    sym (ap (option_map shown_thing) (thing_at-append dirs path rest (Some (a_dir root)) ∙ ap (thing_at dirs rest) reached))
    ∙ shows (path ++ rest)
    ∙ ap (option_map shown_node) (node_at-append path rest (Some tree) ∙ ap (node_at rest) is)

-- what is found where the node under a name changed
found-changed : (name : List ℕ) (change : Node → Node) (entries : Entries) → found name (changed_under name change entries) ≡ option_map change (found name entries)
found-changed name change none = refl
found-changed name change (entry other node rest) = by (bytes_eq name other) refl (found-changed name change rest)
  where
    by : (b : Bool) → bytes_eq name other ≡ b → found name (changed_under name change rest) ≡ option_map change (found name rest)
        → found name (cond b (entry other (change node) rest) (entry other node (changed_under name change rest))) ≡ option_map change (cond b (Some node) (found name rest))
    by true same later = rw same refl
    by false apart later = rw apart later

found-unchanged : (name other : List ℕ) (change : Node → Node) (entries : Entries) → bytes_eq other name ≡ false → found other (changed_under name change entries) ≡ found other entries
found-unchanged name other change none apart = refl
found-unchanged name other change (entry first node rest) apart = by (bytes_eq name first) refl (found-unchanged name other change rest apart)
  where
    by : (b : Bool) → bytes_eq name first ≡ b → found other (changed_under name change rest) ≡ found other rest
        → found other (cond b (entry first (change node) rest) (entry first node (changed_under name change rest))) ≡ found other (entry first node rest)
    by true same later = let past : bytes_eq other first ≡ false = subst (λ (n : List ℕ). bytes_eq other n ≡ false) ((bytes_eq-Decides name first).0 same) apart in rw past refl
    by false differs later = ap (cond (bytes_eq other first) (Some node)) later

pub own_name : (name : List ℕ) → bytes_eq name name ≡ true
own_name name = (bytes_eq-Decides name name).1 refl

-- a name, or a path, is another or it is not
pub cases_name : (name other : List ℕ) → (name ≡ other) ⊎ (bytes_eq name other ≡ false)
cases_name name other = ⊎_elim (λ same. inl ((bytes_eq-Decides name other).0 same)) (λ apart. inr apart) (cases_Bool (bytes_eq name other))

pub cases_path : (path other : List (List ℕ)) → (path ≡ other) ⊎ (path ≡ other → ⊥)
cases_path [] [] = inl refl
cases_path [] (name ∷ names) = inr (λ same. cc)
cases_path (name ∷ names) [] = inr (λ same. cc)
cases_path (name ∷ names) (other ∷ others) = by (cases_name name other) (cases_path names others)
  where
    by : (name ≡ other) ⊎ (bytes_eq name other ≡ false) → (names ≡ others) ⊎ (names ≡ others → ⊥) → (name ∷ names ≡ other ∷ others) ⊎ (name ∷ names ≡ other ∷ others → ⊥)
    by (inl same) (inl rest) = inl (cc)
    by (inl same) (inr differ) = inr (λ whole. differ (cc))
    by (inr apart) later = inr (λ whole.
        let same : name ≡ other = cc in
        let equal : bytes_eq name other ≡ true = (bytes_eq-Decides name other).1 same in cc)

module _ (change : Node → Node) where
  -- the node at the path is the changed one
  pub changed_here : (path rest : List (List ℕ)) (tree here : Node) → node_at path (Some tree) ≡ Some here
      → node_at (path ++ rest) (Some (changed change path tree)) ≡ node_at rest (Some (change here))
  changed_here [] rest tree here at = let same : tree ≡ here = cc in ap (λ (node : Node). node_at rest (Some (change node))) same
  changed_here (name ∷ path) rest (file meta) here at = cc
  changed_here (name ∷ path) rest (dir meta entries) here at = by (found name entries) refl at (λ under. changed_here path rest under here)
    where
      by : (o : Option Node) → found name entries ≡ o → node_at path o ≡ Some here
          → ((under : Node) → node_at path (Some under) ≡ Some here → node_at (path ++ rest) (Some (changed change path under)) ≡ node_at rest (Some (change here)))
          → node_at (path ++ rest) (found name (changed_under name (changed change path) entries)) ≡ node_at rest (Some (change here))
      by None is at later = cc
      by (Some under) is at later =
          ap (node_at (path ++ rest)) (found-changed name (changed change path) entries ∙ ap (option_map (changed change path)) is) ∙ later under at

  -- where the changed node shows the same but at one name, the tree shows the same but at that path
  pub changed_elsewhere : (path other : List (List ℕ)) (name : List ℕ) (tree here : Node) → node_at path (Some tree) ≡ Some here
      → ((rest : List (List ℕ)) → (rest ≡ name ∷ [] → ⊥) → seen rest (change here) ≡ seen rest here)
      → (other ≡ path ++ name ∷ [] → ⊥) → seen other (changed change path tree) ≡ seen other tree
  changed_elsewhere [] other name tree here at alike apart =
      let same : tree ≡ here = cc in subst (λ (node : Node). seen other (change node) ≡ seen other node) (sym same) (alike other apart)
  changed_elsewhere (step ∷ path) other name (file meta) here at alike apart = refl
  changed_elsewhere (step ∷ path) [] name (dir meta entries) here at alike apart = refl
  changed_elsewhere (step ∷ path) (first ∷ other) name (dir meta entries) here at alike apart =
      by (cases_name first step) (found step entries) refl at (λ under at differ. changed_elsewhere path other name under here at alike differ)
    where
      by : (first ≡ step) ⊎ (bytes_eq first step ≡ false) → (o : Option Node) → found step entries ≡ o → node_at path o ≡ Some here
          → ((under : Node) → node_at path (Some under) ≡ Some here → (other ≡ path ++ name ∷ [] → ⊥) → seen other (changed change path under) ≡ seen other under)
          → option_map shown_node (node_at other (found first (changed_under step (changed change path) entries))) ≡ option_map shown_node (node_at other (found first entries))
      by (inl same) None is at later = cc
      by (inl same) (Some under) is at later =
          let new : found first (changed_under step (changed change path) entries) ≡ Some (changed change path under) =
          rw same (found-changed step (changed change path) entries ∙ ap (option_map (changed change path)) is) in
          let old : found first entries ≡ Some under = rw same is in
          ap (λ (o : Option Node). option_map shown_node (node_at other o)) new
          ∙ later under at (λ rest. apart (cc))
          ∙ ap (λ (o : Option Node). option_map shown_node (node_at other o)) (sym old)
      by (inr differs) o is at later =
          ap (λ (o : Option Node). option_map shown_node (node_at other o)) (found-unchanged step first (changed change path) entries differs)

-- what stands at a path of a tree is a tree
abbrev pub IfTree : Option Node → Type 0
IfTree None = Unit {0}
IfTree (Some node) = IsTree node

IsTree-found : (name : List ℕ) (entries : Entries) → AreTrees entries → IfTree (found name entries)
IsTree-found name none trees = tt
IsTree-found name (entry other node rest) trees = by (bytes_eq name other) (IsTree-found name rest trees.1)
  where
    by : (b : Bool) → IfTree (found name rest) → IfTree (cond b (Some node) (found name rest))
    by true later = trees.0
    by false later = later

pub IsTree-node_at : (path : List (List ℕ)) (here : Option Node) → IfTree here → IfTree (node_at path here)
IsTree-node_at path None tree = tt
IsTree-node_at [] (Some here) tree = tree
IsTree-node_at (name ∷ path) (Some (file meta)) tree = tt
IsTree-node_at (name ∷ path) (Some (dir meta entries)) tree = IsTree-node_at path (found name entries) (IsTree-found name entries tree.1)
