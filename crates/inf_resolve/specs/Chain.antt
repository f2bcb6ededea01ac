-- Chains as they are to be, whatever made them.
use Rattle.std.specs.Prelude.{◌≡◌, ℕ, true, List, [], ◌∷◌, Some, None}
use Rattle.inf_base.specs.declared.directory.DirRef.{DirRef}
use Rattle.inf_base.specs.declared.entry.Entry.{Entry}
use Rattle.inf_base.specs.declared.key.LookKey.{LookKey}
use Rattle.inf_base.specs.declared.key.LookKey.TheVariants as look
use Rattle.inf_base.specs.Same.{dir_of}
use Rattle.inf_message.specs.declared.reply.Reply.TheVariants as reply
use Rattle.inf_resolve.specs.declared.known.Known.{Known}
use Rattle.inf_resolve.specs.Known.{entry_behind, links_to, told_under}

-- an entry is what was told under a key, with the place of the Serve as its stamp
pub record IsTold (known : List Known) (asked : LookKey) (entry : Entry) : Type 0 where
  pub told : Known
  pub is_known : told_under asked known ≡ Some told
  pub is_found : told.reply ≡ reply.Found entry.key entry.access
  pub stamp : entry.stamp ≡ told.place

-- what was told of a name in a directory leads nowhere
pub record IsStop (known : List Known) (dir : DirRef) (name : List ℕ) : Type 0 where
  pub told : Known
  pub is_known : told_under (look.At dir.id name) known ≡ Some told
  pub no_entry : entry_behind dir (Some told) ≡ None

-- from a directory on, each entry is what was told of the next name in the directory of the one before, and links to
-- it; the entries end with the names, or before a name whose reply leads nowhere
abbrev pub LeadsAlong : List Known → DirRef → List (List ℕ) → List Entry → Type 0
LeadsAlong known dir [] [] = Unit
LeadsAlong known dir [] (entry ∷ entries) = ⊥
LeadsAlong known dir (name ∷ names) [] = IsStop known dir name
LeadsAlong known dir (name ∷ names) (entry ∷ entries) =
    IsTold known (look.At dir.id name) entry × (links_to dir entry.key ≡ true)
    × LeadsAlong known (dir_of entry.access) names entries

-- the chain of a path begins with what was told of the root
abbrev pub IsChain : List Known → List (List ℕ) → List Entry → Type 0
IsChain known names [] = ⊥
IsChain known names (root ∷ entries) = IsTold known look.Top root × LeadsAlong known (dir_of root.access) names entries
