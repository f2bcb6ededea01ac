-- What a walk along the names of a chain comes to in the plain tree.
use Rattle.std.specs.Prelude.{◌≡◌, ℕ, List, Some, Ok}
use Rattle.std.specs.List.{list_all}
use Rattle.std.specs.Option.{option_map}
use Rattle.inf_base.specs.declared.access.Access.{Access}
use Rattle.inf_base.specs.declared.caller.Caller.{Caller}
use Rattle.inf_base.specs.declared.entry.Entry.{Entry}
use Rattle.inf_base.specs.declared.errno.Errno.TheVariants as errno
use Rattle.inf_base.specs.Checks.{◌>>◌, check}
use Rattle.inf_base.specs.Same.{dir_of}
use Rattle.inf_perm.specs.declared.want.Want.TheVariants as want
use Rattle.inf_server.specs.Checks.{lets}
use Rattle.inf_tree.specs.Tree.{Entries, Node, dir, found}
use Rattle.inf_tree.specs.Walk.{parent_of}
use Rattle.inf_laws_directory.specs.Stands.{meta_of, node_at, shown_node, shown_thing}
use Rattle.inf_laws_directory.specs.Things.{Directories, thing_under}

-- the walk comes to the directory of this access object, where each entry of the chain lets the caller search; it shows
-- there what stands in the servers' directory
pub record ComesTo (dirs : Directories) (tree : Node) (caller : Caller) (path : List (List ℕ)) (chain : List Entry)
    (access : Access) : Type 0 where
  pub entries : Entries
  pub stands : node_at path (Some tree) ≡ Some (dir (meta_of access) entries)
  pub walked : (name : List ℕ) → parent_of tree caller (record { directory = path; name = name })
      ≡ (check (list_all (lets caller want.Search) chain) errno.EACCES
      >> Ok (record { meta = meta_of access; entries = entries }))
  pub shows : (name : List ℕ) → option_map shown_node (found name entries)
      ≡ option_map shown_thing (thing_under name (dir_of access) dirs)
