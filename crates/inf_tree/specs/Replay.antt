-- Calls in turn: what they answer, and which answers are those of the tree.
use Rattle.std.specs.Prelude.{◌≡◌, List, [], ◌∷◌, map}
use Rattle.inf_base.specs.declared.answer.Answer.{Answer}
use Rattle.inf_base.specs.declared.answer.Answer.TheVariants as answer
use Rattle.inf_base.specs.declared.call.Call.{Call}
use Rattle.inf_base.specs.declared.caller.Caller.{Caller}
use Rattle.inf_tree.specs.Tree.{Node}
use Rattle.inf_tree.specs.Apply.{Applied, apply}

-- a call, and who makes it
pub record Request : Type 0 where
  pub caller : Caller
  pub call : Call

pub record Decided : Type 0 where
  pub caller : Caller
  pub call : Call
  pub answer : Answer

-- an answer passes where it is the tree's, and where it says that the call was given up
abbrev pub Passes : Answer → Applied → Type 0
Passes (answer.Again other) applied = Unit {0}
Passes (answer.IdClash own kept) applied = Unit {0}
Passes answer.NoMemory applied = Unit {0}
Passes given applied = given ≡ applied.answer

-- a call that was given up leaves the tree
abbrev pub tree_after : Answer → Node → Applied → Node
tree_after (answer.Again other) tree applied = tree
tree_after (answer.IdClash own kept) tree applied = tree
tree_after answer.NoMemory tree applied = tree
tree_after given tree applied = applied.tree

-- taken in turn, each answer passes, and the tree goes on
abbrev pub Replays : Node → List Decided → Type 0
Replays tree [] = Unit {0}
Replays tree (d ∷ later) =
    Passes d.answer (apply tree d.caller d.call) × Replays (tree_after d.answer tree (apply tree d.caller d.call)) later

-- the answers to calls that are made in turn
abbrev pub answers_to : Node → List Request → List Answer
answers_to tree [] = []
answers_to tree (r ∷ later) = (apply tree r.caller r.call).answer ∷ answers_to (apply tree r.caller r.call).tree later

-- each call with its answer
abbrev pub decided : List Request → List Answer → List Decided
decided [] answers = []
decided (r ∷ requests) [] = []
decided (r ∷ requests) (a ∷ answers) =
    record { caller = r.caller; call = r.call; answer = a } ∷ decided requests answers

-- the calls of one caller
abbrev pub requests_of : Caller → List Call → List Request
requests_of caller calls = map (λ c. record { caller = caller; call = c }) calls

abbrev pub answers_of : Node → Caller → List Call → List Answer
answers_of tree caller calls = answers_to tree (requests_of caller calls)

-- the tree that calls leave, given what was answered to them
abbrev pub replayed : Node → List Decided → Node
replayed tree [] = tree
replayed tree (d ∷ later) = replayed (tree_after d.answer tree (apply tree d.caller d.call)) later
