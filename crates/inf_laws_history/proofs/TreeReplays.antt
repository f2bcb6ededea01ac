-- Answers that are not the tree's pass and leave it: calls replay where those that the tree has a say in do.
use Rattle.std.proofs.Common.{◌≡◌, if◌then◌else◌, List, [], ◌∷◌, refl}
use Rattle.inf_base.specs.declared.answer.Answer.{Answer}
use Rattle.inf_base.specs.declared.answer.Answer.TheVariants as answer
use Rattle.inf_base.specs.declared.call.Call.{Call}
use Rattle.inf_base.specs.declared.caller.Caller.{Caller}
use Rattle.inf_laws_history.specs.Decisions.{is_of_tree, of_tree}
use Rattle.inf_tree.specs.Apply.{apply}
use Rattle.inf_tree.specs.Replay.{Decided, Replays, replayed}
use Rattle.inf_tree.specs.Tree.{Node}

abbrev one_more : Caller → Call → Answer → List Decided → List Decided
one_more caller call given later = record { caller = caller; call = call; answer = given } ∷ later

one_replays : (tree : Node) (caller : Caller) (call : Call) (given : Answer) (kept later : List Decided)
    → ((t : Node) → Replays t kept → Replays t later)
    → Replays tree (if is_of_tree given then one_more caller call given kept else kept) → Replays tree (one_more caller call given later)
one_replays tree caller call (answer.Again by) kept later rest replays = (tt, rest tree replays)
one_replays tree caller call (answer.IdClash own other) kept later rest replays = (tt, rest tree replays)
one_replays tree caller call answer.NoMemory kept later rest replays = (tt, rest tree replays)
one_replays tree caller call given kept later rest replays = (replays.0, rest (apply tree caller call).tree replays.1)

pub replays_of_tree : (tree : Node) (ds : List Decided) → Replays tree (of_tree ds) → Replays tree ds
replays_of_tree tree [] replays = tt
replays_of_tree tree (d ∷ later) replays =
    one_replays tree d.caller d.call d.answer (of_tree later) later (λ t. replays_of_tree t later) replays

one_leaves : (tree : Node) (caller : Caller) (call : Call) (given : Answer) (kept later : List Decided)
    → ((t : Node) → replayed t kept ≡ replayed t later)
    → replayed tree (if is_of_tree given then one_more caller call given kept else kept) ≡ replayed tree (one_more caller call given later)
one_leaves tree caller call (answer.Again by) kept later rest = rest tree
one_leaves tree caller call (answer.IdClash own other) kept later rest = rest tree
one_leaves tree caller call answer.NoMemory kept later rest = rest tree
one_leaves tree caller call given kept later rest = rest (apply tree caller call).tree

pub replayed_of_tree : (tree : Node) (ds : List Decided) → replayed tree (of_tree ds) ≡ replayed tree ds
replayed_of_tree tree [] = refl
replayed_of_tree tree (d ∷ later) = one_leaves tree d.caller d.call d.answer (of_tree later) later (λ t. replayed_of_tree t later)
