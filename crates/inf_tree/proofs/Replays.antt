-- The answers that the tree gives to calls in turn are answers that replay, and every replay keeps the tree sorted.
use Rattle.std.proofs.Common.{◌≡◌, ℕ, List, [], ◌∷◌, Result, Ok, Err, IfOk, refl, sym, subst}
use Rattle.std.specs.Option.{ok_or}
use Rattle.inf_base.specs.Path.{path_of}
use Rattle.inf_base.specs.declared.answer.Answer.{Answer}
use Rattle.inf_base.specs.declared.answer.Answer.TheVariants as answer
use Rattle.inf_base.specs.declared.call.Call.{Call}
use Rattle.inf_base.specs.declared.call.Call.TheVariants as call
use Rattle.inf_base.specs.declared.caller.Caller.{Caller}
use Rattle.inf_base.specs.declared.errno.Errno.{Errno}
use Rattle.inf_base.specs.declared.errno.Errno.TheVariants as errno
use Rattle.inf_perm.specs.declared.want.Want.TheVariants as want
use Rattle.inf_tree.specs.Tree.{Node, IsTree, file, dir}
use Rattle.inf_base.specs.Checks.{check}
use Rattle.inf_tree.specs.Walk.{allows, directory_of, node_at, place_of}
use Rattle.inf_tree.specs.Apply.{Applied, changes, looks, told, with_new, without_dir, without_file, truncated, with_new_mode, renamed, stat, listing, new_dir, new_file, apply}
use Rattle.inf_tree.specs.Replay.{Request, Decided, Passes, tree_after, Replays, answers_to, decided, replayed}
use Rattle.inf_tree.proofs.Checks.{each, passed}
use Rattle.inf_tree.proofs.Sorted.{IsTree-apply}

-- the answer passes, and the tree goes on
record IsGiven (applied : Applied) (tree : Node) : Type 0 where
  passes : Passes applied.answer applied
  goes_on : tree_after applied.answer tree applied ≡ applied.tree

IsGiven-changes : (tree : Node) (r : Result Node Errno) → IsGiven (changes tree r) tree
IsGiven-changes tree (Ok after) = record { passes = refl; goes_on = refl }
IsGiven-changes tree (Err error) = record { passes = refl; goes_on = refl }

abbrev IsSeen : Node → Answer → Type 0
IsSeen tree seen = IsGiven (record { answer = seen; tree = tree }) tree

IsSeen-told : (tree node : Node) → IsSeen tree (told node)
IsSeen-told tree (file meta) = record { passes = refl; goes_on = refl }
IsSeen-told tree (dir meta entries) = record { passes = refl; goes_on = refl }

IsGiven-looks : (tree : Node) (r : Result Answer Errno) → IfOk r (IsSeen tree) → IsGiven (looks tree r) tree
IsGiven-looks tree (Ok seen) h = h
IsGiven-looks tree (Err error) h = record { passes = refl; goes_on = refl }

IsSeen-stat : (tree : Node) (caller : Caller) (path : List ℕ) → IfOk (stat tree caller path) (IsSeen tree)
IsSeen-stat tree caller path =
    each (IsSeen tree) (path_of path) _ (λ names.
    each (IsSeen tree) (node_at tree caller (place_of names)) _ (λ node.
    IsSeen-told tree node))

IsSeen-listing : (tree : Node) (caller : Caller) (path : List ℕ) → IfOk (listing tree caller path) (IsSeen tree)
IsSeen-listing tree caller path =
    each (IsSeen tree) (path_of path) _ (λ names.
    each (IsSeen tree) (node_at tree caller (place_of names)) _ (λ node.
    each (IsSeen tree) (ok_or (directory_of node) errno.ENOTDIR) _ (λ directory.
    passed (IsSeen tree) (check (allows directory caller want.Read) errno.EACCES) _ (
    record { passes = refl; goes_on = refl }))))

IsGiven-apply : (tree : Node) (caller : Caller) (c : Call) → IsGiven (apply tree caller c) tree
IsGiven-apply tree caller (call.Mkdir path mode) = IsGiven-changes tree (with_new tree caller path (new_dir caller mode))
IsGiven-apply tree caller (call.Create path mode) = IsGiven-changes tree (with_new tree caller path (new_file caller mode))
IsGiven-apply tree caller (call.Rmdir path) = IsGiven-changes tree (without_dir tree caller path)
IsGiven-apply tree caller (call.Unlink path) = IsGiven-changes tree (without_file tree caller path)
IsGiven-apply tree caller (call.Stat path) = IsGiven-looks tree (stat tree caller path) (IsSeen-stat tree caller path)
IsGiven-apply tree caller (call.List path) = IsGiven-looks tree (listing tree caller path) (IsSeen-listing tree caller path)
IsGiven-apply tree caller (call.Truncate path length) = IsGiven-changes tree (truncated tree caller path length)
IsGiven-apply tree caller (call.Chmod path mode) = IsGiven-changes tree (with_new_mode tree caller path mode)
IsGiven-apply tree caller (call.Rename old new) = IsGiven-changes tree (renamed tree caller old new)

pub Replays-answers_to : (tree : Node) (requests : List Request) → Replays tree (decided requests (answers_to tree requests))
Replays-answers_to tree [] = tt
Replays-answers_to tree (r ∷ later) =
    let given = IsGiven-apply tree r.caller r.call in
    let rest : List Decided = decided later (answers_to (apply tree r.caller r.call).tree later) in
    (given.passes, subst (λ (t : Node). Replays t rest) (sym given.goes_on) (Replays-answers_to (apply tree r.caller r.call).tree later))

-- what is answered, the tree after it is sorted

IsTree-tree_after : (given : Answer) (tree : Node) (applied : Applied) → IsTree tree → IsTree applied.tree → IsTree (tree_after given tree applied)
IsTree-tree_after (answer.Again other) tree applied old new = old
IsTree-tree_after (answer.IdClash own kept) tree applied old new = old
IsTree-tree_after answer.NoMemory tree applied old new = old
IsTree-tree_after given tree applied old new = new

pub IsTree-replayed : (tree : Node) (calls : List Decided) → IsTree tree → IsTree (replayed tree calls)
IsTree-replayed tree [] old = old
IsTree-replayed tree (d ∷ later) old =
    let applied = apply tree d.caller d.call in
    IsTree-replayed (tree_after d.answer tree applied) later (IsTree-tree_after d.answer tree applied old (IsTree-apply tree d.caller d.call old))
