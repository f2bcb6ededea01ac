-- Every call leaves a tree whose names are sorted.
use Rattle.std.proofs.Common.{◌≡◌, ℕ, ◌==◌, ◌&&◌, ◌||◌, not, Bool, true, false, cond, List, [], ◌∷◌, Option, Some, None, Result, Ok, Err, IfOk, refl, sym, ap, ◌∙◌, subst}
use Rattle.std.specs.declared.cmp.Ordering.{Ordering}
use Rattle.std.specs.declared.cmp.Ordering.TheVariants.{Less, Equal, Greater}
use Rattle.std.specs.Ordering.{nat_cmp, match_ordering, ordering_reverse}
use Rattle.std.specs.Cmp.Lexicographic.{slice_cmp}
use Rattle.std.specs.List.{AllByRecursion}
use Rattle.std.specs.List.Sorted.{IsStrictlySortedBy}
use Rattle.std.specs.Str.{bytes_eq}
use Rattle.std.proofs.lemmas.Cmp.{nat_list_cmp_total}
use Rattle.std.specs.Option.{ok_or}
use Rattle.inf_base.specs.Path.{path_of}
use Rattle.inf_base.specs.declared.caller.Caller.{Caller}
use Rattle.inf_base.specs.declared.call.Call.{Call}
use Rattle.inf_base.specs.declared.call.Call.TheVariants as call
use Rattle.inf_base.specs.declared.errno.Errno.{Errno}
use Rattle.inf_base.specs.declared.errno.Errno.TheVariants as errno
use Rattle.inf_perm.specs.Classes.{may}
use Rattle.inf_perm.specs.declared.want.Want.TheVariants as want
use Rattle.inf_base.specs.declared.answer.Answer.{Answer}
use Rattle.inf_tree.proofs.Checks.{after, each, passed}
use Rattle.inf_tree.specs.Tree.{Node, Entries, file, dir, none, entry, names_of, IsTree, AreTrees, found, placed, without, changed_under, changed, hung, cut, with_mode, with_length}
use Rattle.inf_base.specs.Checks.{check}
use Rattle.inf_tree.specs.Walk.{allows, directory_of, walk, Place, parent_of, place_of, node_at}
use Rattle.inf_tree.specs.Apply.{changes, looks, with_new, without_dir, without_file, truncated, with_new_mode, renamed, stat, listing, new_dir, new_file, is_dir, is_free, is_empty, is_below, meta_of_file, owner_of, apply}

abbrev IsBefore : List ℕ → List (List ℕ) → Type 0
IsBefore name names = AllByRecursion (λ other. slice_cmp nat_cmp name other ≡ Less) names

IsBefore-trans : (a b : List ℕ) (names : List (List ℕ)) → slice_cmp nat_cmp a b ≡ Less → IsBefore b names → IsBefore a names
IsBefore-trans a b [] first later = tt
IsBefore-trans a b (c ∷ cs) first later = (nat_list_cmp_total.trans a b c first later.0, IsBefore-trans a b cs first later.1)

IsBefore-placed : (a name : List ℕ) (node : Node) (entries : Entries) → slice_cmp nat_cmp a name ≡ Less → IsBefore a (names_of entries) → IsBefore a (names_of (placed name node entries))
IsBefore-placed a name node none new old = (new, tt)
IsBefore-placed a name node (entry other under rest) new old = by (slice_cmp nat_cmp name other) (IsBefore-placed a name node rest new old.1)
  where
    by : (o : Ordering) → IsBefore a (names_of (placed name node rest)) → IsBefore a (names_of (match_ordering o (entry name node (entry other under rest)) (entry other node rest) (entry other under (placed name node rest))))
    by Less later = (new, old)
    by Equal later = old
    by Greater later = (old.0, later)

IsSorted-placed : (name : List ℕ) (node : Node) (entries : Entries) → IsStrictlySortedBy (slice_cmp nat_cmp) (names_of entries) → IsStrictlySortedBy (slice_cmp nat_cmp) (names_of (placed name node entries))
unfolding IsStrictlySortedBy
IsSorted-placed name node none sorted = (tt, tt)
IsSorted-placed name node (entry other under rest) sorted = by (slice_cmp nat_cmp name other) refl (IsSorted-placed name node rest sorted.1)
  where
    by : (o : Ordering) → slice_cmp nat_cmp name other ≡ o → IsStrictlySortedBy (slice_cmp nat_cmp) (names_of (placed name node rest)) → IsStrictlySortedBy (slice_cmp nat_cmp) (names_of (match_ordering o (entry name node (entry other under rest)) (entry other node rest) (entry other under (placed name node rest))))
    by Less e later = ((e, IsBefore-trans name other (names_of rest) e sorted.0), sorted)
    by Equal e later = sorted
    by Greater e later = (IsBefore-placed other name node rest (nat_list_cmp_total.antisymm other name ∙ ap ordering_reverse e) sorted.0, later)

AreTrees-placed : (name : List ℕ) (node : Node) (entries : Entries) → IsTree node → AreTrees entries → AreTrees (placed name node entries)
AreTrees-placed name node none new old = (new, tt)
AreTrees-placed name node (entry other under rest) new old = by (slice_cmp nat_cmp name other) (AreTrees-placed name node rest new old.1)
  where
    by : (o : Ordering) → AreTrees (placed name node rest) → AreTrees (match_ordering o (entry name node (entry other under rest)) (entry other node rest) (entry other under (placed name node rest)))
    by Less later = (new, old)
    by Equal later = (new, old.1)
    by Greater later = (old.0, later)

pub IsTree-hung : (name : List ℕ) (node under : Node) → IsTree node → IsTree under → IsTree (hung name node under)
IsTree-hung name node (file meta) new old = tt
IsTree-hung name node (dir meta entries) new old = (IsSorted-placed name node entries old.0, AreTrees-placed name node entries new old.1)

IsBefore-without : (a name : List ℕ) (entries : Entries) → IsBefore a (names_of entries) → IsBefore a (names_of (without name entries))
IsBefore-without a name none old = tt
IsBefore-without a name (entry other under rest) old = by (bytes_eq name other) (IsBefore-without a name rest old.1)
  where
    by : (b : Bool) → IsBefore a (names_of (without name rest)) → IsBefore a (names_of (cond b rest (entry other under (without name rest))))
    by true later = old.1
    by false later = (old.0, later)

IsSorted-without : (name : List ℕ) (entries : Entries) → IsStrictlySortedBy (slice_cmp nat_cmp) (names_of entries) → IsStrictlySortedBy (slice_cmp nat_cmp) (names_of (without name entries))
unfolding IsStrictlySortedBy
IsSorted-without name none sorted = tt
IsSorted-without name (entry other under rest) sorted = by (bytes_eq name other) (IsSorted-without name rest sorted.1)
  where
    by : (b : Bool) → IsStrictlySortedBy (slice_cmp nat_cmp) (names_of (without name rest)) → IsStrictlySortedBy (slice_cmp nat_cmp) (names_of (cond b rest (entry other under (without name rest))))
    by true later = sorted.1
    by false later = (IsBefore-without other name rest sorted.0, later)

AreTrees-without : (name : List ℕ) (entries : Entries) → AreTrees entries → AreTrees (without name entries)
AreTrees-without name none old = tt
AreTrees-without name (entry other under rest) old = by (bytes_eq name other) (AreTrees-without name rest old.1)
  where
    by : (b : Bool) → AreTrees (without name rest) → AreTrees (cond b rest (entry other under (without name rest)))
    by true later = old.1
    by false later = (old.0, later)

pub IsTree-cut : (name : List ℕ) (under : Node) → IsTree under → IsTree (cut name under)
IsTree-cut name (file meta) old = tt
IsTree-cut name (dir meta entries) old = (IsSorted-without name entries old.0, AreTrees-without name entries old.1)

pub IsTree-with_mode : (mode : ℕ) (node : Node) → IsTree node → IsTree (with_mode mode node)
IsTree-with_mode mode (file meta) old = tt
IsTree-with_mode mode (dir meta entries) old = old

pub IsTree-with_length : (length : ℕ) (node : Node) → IsTree node → IsTree (with_length length node)
IsTree-with_length length (file meta) old = tt
IsTree-with_length length (dir meta entries) old = old

names_of-changed_under : (name : List ℕ) (change : Node → Node) (entries : Entries) → names_of (changed_under name change entries) ≡ names_of entries
names_of-changed_under name change none = refl
names_of-changed_under name change (entry other under rest) = by (bytes_eq name other) (names_of-changed_under name change rest)
  where
    by : (b : Bool) → names_of (changed_under name change rest) ≡ names_of rest → names_of (cond b (entry other (change under) rest) (entry other under (changed_under name change rest))) ≡ other ∷ names_of rest
    by true later = refl
    by false later = ap (λ names. other ∷ names) later

abbrev Keeps : (Node → Node) → Type 0
Keeps change = (node : Node) → IsTree node → IsTree (change node)

AreTrees-changed_under : (name : List ℕ) (change : Node → Node) (entries : Entries) → Keeps change → AreTrees entries → AreTrees (changed_under name change entries)
AreTrees-changed_under name change none keeps old = tt
AreTrees-changed_under name change (entry other under rest) keeps old = by (bytes_eq name other) (AreTrees-changed_under name change rest keeps old.1)
  where
    by : (b : Bool) → AreTrees (changed_under name change rest) → AreTrees (cond b (entry other (change under) rest) (entry other under (changed_under name change rest)))
    by true later = (keeps under old.0, old.1)
    by false later = (old.0, later)

pub IsTree-changed : (change : Node → Node) (names : List (List ℕ)) (tree : Node) → Keeps change → IsTree tree → IsTree (changed change names tree)
IsTree-changed change [] tree keeps old = keeps tree old
IsTree-changed change (name ∷ names) (file meta) keeps old = tt
IsTree-changed change (name ∷ names) (dir meta entries) keeps old =
    let under : Node → Node = λ node. changed change names node in
    (subst (λ (all : List (List ℕ)). IsStrictlySortedBy (slice_cmp nat_cmp) all) (sym (names_of-changed_under name under entries)) old.0, AreTrees-changed_under name under entries (λ node tree. IsTree-changed change names node keeps tree) old.1)

-- what is found in a tree, or reached by a walk in it, is a tree

abbrev IfFound : Option Node → Type 0
IfFound None = Unit {0}
IfFound (Some node) = IsTree node

IsTree-found : (name : List ℕ) (entries : Entries) → AreTrees entries → IfFound (found name entries)
IsTree-found name none old = tt
IsTree-found name (entry other under rest) old = by (bytes_eq name other) (IsTree-found name rest old.1)
  where
    by : (b : Bool) → IfFound (found name rest) → IfFound (cond b (Some under) (found name rest))
    by true later = old.0
    by false later = later

AreTrees-directory : (node : Node) (error : Errno) → IsTree node → IfOk (ok_or (directory_of node) error) (λ d. AreTrees d.entries)
AreTrees-directory (file meta) error old = tt
AreTrees-directory (dir meta entries) error old = old.1

IsTree-ok_or : (o : Option Node) (error : Errno) → IfFound o → IfOk (ok_or o error) IsTree
IsTree-ok_or None error h = tt
IsTree-ok_or (Some node) error h = h

AreTrees-walk : (caller : Caller) (names : List (List ℕ)) (node : Node) → IsTree node → IfOk (walk caller names node) (λ d. AreTrees d.entries)
AreTrees-walk caller [] node old = AreTrees-directory node errno.ENOTDIR old
AreTrees-walk caller (name ∷ names) node old =
    after (λ d. AreTrees d.entries) (λ d. AreTrees d.entries) (ok_or (directory_of node) errno.ENOTDIR) _ (AreTrees-directory node errno.ENOTDIR old) (λ here trees.
    passed (λ d. AreTrees d.entries) (check (allows here caller want.Search) errno.EACCES) _ (
    after IsTree (λ d. AreTrees d.entries) (ok_or (found name here.entries) errno.ENOENT) _ (IsTree-ok_or (found name here.entries) errno.ENOENT (IsTree-found name here.entries trees)) (λ next tree.
    AreTrees-walk caller names next tree)))

AreTrees-parent : (tree : Node) (caller : Caller) (place : Place) → IsTree tree → IfOk (parent_of tree caller place) (λ d. AreTrees d.entries)
AreTrees-parent tree caller place old =
    after (λ d. AreTrees d.entries) (λ d. AreTrees d.entries) (walk caller place.directory tree) _ (AreTrees-walk caller place.directory tree old) (λ parent trees.
    passed (λ d. AreTrees d.entries) (check (allows parent caller want.Search) errno.EACCES) _ trees)

-- the calls that change the tree

IsTree-with_new : (tree : Node) (caller : Caller) (path : List ℕ) (node : Node) → IsTree tree → IsTree node → IfOk (with_new tree caller path node) IsTree
IsTree-with_new tree caller path node old new =
    each IsTree (path_of path) _ (λ names.
    each IsTree (ok_or (place_of names) errno.EEXIST) _ (λ place.
    each IsTree (parent_of tree caller place) _ (λ parent.
    passed IsTree (check (allows parent caller want.Write) errno.EACCES) _ (
    passed IsTree (check (is_free place.name parent) errno.EEXIST) _ (
    IsTree-changed (hung place.name node) place.directory tree (λ under h. IsTree-hung place.name node under new h) old)))))

IsTree-without_dir : (tree : Node) (caller : Caller) (path : List ℕ) → IsTree tree → IfOk (without_dir tree caller path) IsTree
IsTree-without_dir tree caller path old =
    each IsTree (path_of path) _ (λ names.
    each IsTree (ok_or (place_of names) errno.EBUSY) _ (λ place.
    each IsTree (parent_of tree caller place) _ (λ parent.
    passed IsTree (check (allows parent caller want.Write) errno.EACCES) _ (
    each IsTree (ok_or (found place.name parent.entries) errno.ENOENT) _ (λ node.
    each IsTree (ok_or (directory_of node) errno.ENOTDIR) _ (λ directory.
    passed IsTree (check (is_empty directory.entries) errno.ENOTEMPTY) _ (
    IsTree-changed (cut place.name) place.directory tree (IsTree-cut place.name) old)))))))

IsTree-without_file : (tree : Node) (caller : Caller) (path : List ℕ) → IsTree tree → IfOk (without_file tree caller path) IsTree
IsTree-without_file tree caller path old =
    each IsTree (path_of path) _ (λ names.
    each IsTree (ok_or (place_of names) errno.EISDIR) _ (λ place.
    each IsTree (parent_of tree caller place) _ (λ parent.
    passed IsTree (check (allows parent caller want.Write) errno.EACCES) _ (
    each IsTree (ok_or (found place.name parent.entries) errno.ENOENT) _ (λ node.
    passed IsTree (check (not (is_dir node)) errno.EISDIR) _ (
    IsTree-changed (cut place.name) place.directory tree (IsTree-cut place.name) old))))))

IsTree-truncated : (tree : Node) (caller : Caller) (path : List ℕ) (length : ℕ) → IsTree tree → IfOk (truncated tree caller path length) IsTree
IsTree-truncated tree caller path length old =
    each IsTree (path_of path) _ (λ names.
    each IsTree (ok_or (place_of names) errno.EISDIR) _ (λ place.
    each IsTree (node_at tree caller (Some place)) _ (λ node.
    each IsTree (ok_or (meta_of_file node) errno.EISDIR) _ (λ meta.
    passed IsTree (check (may meta.mode meta.owner meta.group caller want.Write) errno.EACCES) _ (
    IsTree-changed (with_length length) names tree (IsTree-with_length length) old)))))

IsTree-with_new_mode : (tree : Node) (caller : Caller) (path : List ℕ) (mode : ℕ) → IsTree tree → IfOk (with_new_mode tree caller path mode) IsTree
IsTree-with_new_mode tree caller path mode old =
    each IsTree (path_of path) _ (λ names.
    each IsTree (node_at tree caller (place_of names)) _ (λ node.
    passed IsTree (check (caller.uid == owner_of node || caller.uid == 0) errno.EPERM) _ (
    IsTree-changed (with_mode mode) names tree (IsTree-with_mode mode) old)))

IsTree-renamed : (tree : Node) (caller : Caller) (old_path new_path : List ℕ) → IsTree tree → IfOk (renamed tree caller old_path new_path) IsTree
IsTree-renamed tree caller old_path new_path old =
    each IsTree (path_of old_path) _ (λ old_names.
    each IsTree (path_of new_path) _ (λ new_names.
    each IsTree (ok_or (place_of old_names) errno.EINVAL) _ (λ from.
    each IsTree (ok_or (place_of new_names) errno.EEXIST) _ (λ to.
    after (λ d. AreTrees d.entries) IsTree (parent_of tree caller from) _ (AreTrees-parent tree caller from old) (λ old_parent trees.
    passed IsTree (check (allows old_parent caller want.Write) errno.EACCES) _ (
    after IsTree IsTree (ok_or (found from.name old_parent.entries) errno.ENOENT) _ (IsTree-ok_or (found from.name old_parent.entries) errno.ENOENT (IsTree-found from.name old_parent.entries trees)) (λ node moved.
    each IsTree (parent_of tree caller to) _ (λ new_parent.
    passed IsTree (check (allows new_parent caller want.Write) errno.EACCES) _ (
    passed IsTree (check (not (is_dir node && is_below old_names new_names)) errno.EINVAL) _ (
    passed IsTree (check (is_free to.name new_parent) errno.EEXIST) _ (
    IsTree-changed (hung to.name node) to.directory (changed (cut from.name) from.directory tree) (λ under h. IsTree-hung to.name node under moved h) (IsTree-changed (cut from.name) from.directory tree (IsTree-cut from.name) old))))))))))))

IsTree-changes : (tree : Node) (r : Result Node Errno) → IsTree tree → IfOk r IsTree → IsTree (changes tree r).tree
IsTree-changes tree (Ok after) old new = new
IsTree-changes tree (Err error) old new = old

IsTree-looks : (tree : Node) (r : Result Answer Errno) → IsTree tree → IsTree (looks tree r).tree
IsTree-looks tree (Ok seen) old = old
IsTree-looks tree (Err error) old = old

IsTree-new_dir : (caller : Caller) (mode : ℕ) → IsTree (new_dir caller mode)
unfolding IsStrictlySortedBy
IsTree-new_dir caller mode = (tt, tt)

pub IsTree-apply : (tree : Node) (caller : Caller) (c : Call) → IsTree tree → IsTree (apply tree caller c).tree
IsTree-apply tree caller (call.Mkdir path mode) old = IsTree-changes tree (with_new tree caller path (new_dir caller mode)) old (IsTree-with_new tree caller path (new_dir caller mode) old (IsTree-new_dir caller mode))
IsTree-apply tree caller (call.Create path mode) old = IsTree-changes tree (with_new tree caller path (new_file caller mode)) old (IsTree-with_new tree caller path (new_file caller mode) old tt)
IsTree-apply tree caller (call.Rmdir path) old = IsTree-changes tree (without_dir tree caller path) old (IsTree-without_dir tree caller path old)
IsTree-apply tree caller (call.Unlink path) old = IsTree-changes tree (without_file tree caller path) old (IsTree-without_file tree caller path old)
IsTree-apply tree caller (call.Stat path) old = IsTree-looks tree (stat tree caller path) old
IsTree-apply tree caller (call.List path) old = IsTree-looks tree (listing tree caller path) old
IsTree-apply tree caller (call.Truncate path length) old = IsTree-changes tree (truncated tree caller path length) old (IsTree-truncated tree caller path length old)
IsTree-apply tree caller (call.Chmod path mode) old = IsTree-changes tree (with_new_mode tree caller path mode) old (IsTree-with_new_mode tree caller path mode old)
IsTree-apply tree caller (call.Rename from to) old = IsTree-changes tree (renamed tree caller from to) old (IsTree-renamed tree caller from to old)
