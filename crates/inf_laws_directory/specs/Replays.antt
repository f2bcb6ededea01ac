-- What it is for a served request to agree with a call on the plain tree.
use Rattle.std.specs.Prelude.{◌≡◌, ℕ, true, List, [], ◌∷◌, ◌++◌, Ok, Some}
use Rattle.std.specs.List.{list_all}
use Rattle.inf_base.specs.declared.access.Access.{Access}
use Rattle.inf_base.specs.declared.answer.Answer.{Answer}
use Rattle.inf_base.specs.declared.answer.Answer.TheVariants as answer
use Rattle.inf_base.specs.declared.call.Call.{Call}
use Rattle.inf_base.specs.declared.caller.Caller.{Caller}
use Rattle.inf_base.specs.declared.entry.Entry.{Entry}
use Rattle.inf_base.specs.declared.errno.Errno.{Errno}
use Rattle.inf_base.specs.Path.{path_of}
use Rattle.inf_perm.specs.declared.want.Want.TheVariants as want
use Rattle.inf_server.specs.Chains.{last_of}
use Rattle.inf_server.specs.Checks.{lets}
use Rattle.inf_tree.specs.Apply.{apply}
use Rattle.inf_tree.specs.Tree.{IsTree, Node}
use Rattle.inf_laws_directory.specs.Leads.{Leads}
use Rattle.inf_laws_directory.specs.Stands.{Stands}
use Rattle.inf_laws_directory.specs.Things.{Directories}

-- the directories stand for the tree, and the chain leads along the path to its last entry
pub record IsAt (dirs : Directories) (root : Access) (tree : Node) (path : List (List ℕ)) (chain : List Entry)
    (last : Entry) : Type 0 where
  pub sorted : IsTree tree
  pub stands : Stands dirs root tree
  pub leads : Leads dirs root path chain
  pub ends : last_of chain ≡ Some last

-- the path text has these names, and this last one
abbrev pub IsPathOf : List ℕ → List (List ℕ) → List ℕ → Type 0
IsPathOf text path name = path_of text ≡ Ok (path ++ name ∷ [])

-- the caller may search each directory of the chain, and write to the last
pub record MayWrite (caller : Caller) (chain : List Entry) (last : Entry) : Type 0 where
  pub search : list_all (lets caller want.Search) chain ≡ true
  pub write : lets caller want.Write last ≡ true

-- the call is refused so, and the tree stays
abbrev pub IsRefused : Node → Caller → Call → Errno → Type 0
IsRefused tree caller asked error = apply tree caller asked ≡ record { answer = answer.Refused error; tree = tree }

-- the call has this answer, and what stands then stands for the tree after it
pub record Answers (tree : Node) (caller : Caller) (asked : Call) (given : Answer) (root : Access)
    (new : Directories) : Type 0 where
  pub answered : (apply tree caller asked).answer ≡ given
  pub stands : Stands new root (apply tree caller asked).tree
