-- Where chains lead in the servers' directories, and where the walk along them comes to in a tree.
use Rattle.std.proofs.Common.{◌≡◌, ℕ, ◌-◌, Bool, true, false, ◌&&◌, List, [], ◌∷◌, length, slice_get, Option, Some, Result, Ok, refl, sym, ap, ◌∙◌, subst, suc, arith}
use Rattle.std.specs.Option.{option_map}
use Rattle.inf_base.specs.declared.access.Access.{Access}
use Rattle.inf_base.specs.declared.caller.Caller.{Caller}
use Rattle.inf_base.specs.declared.entry.Entry.{Entry}
use Rattle.inf_base.specs.declared.errno.Errno.{Errno}
use Rattle.inf_base.specs.declared.errno.Errno.TheVariants as errno
use Rattle.inf_base.specs.Checks.{◌>>=◌, ◌>>◌, check}
use Rattle.inf_base.specs.Same.{dir_of}
use Rattle.inf_perm.specs.declared.want.Want.TheVariants as want
use Rattle.inf_server.specs.Chains.{last_of}
use Rattle.inf_server.specs.Checks.{lets}
use Rattle.inf_tree.specs.Tree.{Entries, Node, dir, found}
use Rattle.inf_tree.specs.Walk.{Directory, parent_of, walk}
use Rattle.inf_laws_directory.specs.Leads.{Leads, LeadsFrom}
use Rattle.inf_laws_directory.specs.Stands.{Shows, meta_of, node_at, shown_node, shown_thing}
use Rattle.inf_laws_directory.specs.Things.{Directories, Reaches, Thing, a_dir, thing_at, thing_under}
use Rattle.inf_laws_directory.specs.Walks.{ComesTo}
use Rattle.inf_laws_directory.proofs.Nodes.{dir_from_shown, node_at-here}
use Rattle.inf_laws_directory.proofs.Ways.{thing_at-here}

pub less : (n : ℕ) → suc n - 1 ≡ n
less n = omega arith

pub last_of-one : (only : Entry) → last_of (only ∷ []) ≡ Some only
last_of-one only = ap (slice_get (only ∷ [])) (less 0)

pub last_of-next : (first second : Entry) (chain : List Entry) → last_of (first ∷ second ∷ chain) ≡ last_of (second ∷ chain)
last_of-next first second chain =
    ap (slice_get (first ∷ second ∷ chain)) (less (suc (length chain))) ∙ ap (slice_get (second ∷ chain)) (sym (less (length chain)))

reaches_from : (dirs : Directories) (path : List (List ℕ)) (first last : Entry) (chain : List Entry)
    → LeadsFrom dirs first.access path chain → last_of (first ∷ chain) ≡ Some last → Reaches dirs first.access path last.access
reaches_from dirs [] first last [] leads is = let same : Some first ≡ Some last = sym (last_of-one first) ∙ is in cc
reaches_from dirs [] first last (e ∷ chain) leads is = absurd leads
reaches_from dirs (name ∷ path) first last [] leads is = absurd leads
reaches_from dirs (name ∷ path) first last (e ∷ chain) leads is =
    ap (thing_at dirs path) leads.0 ∙ reaches_from dirs path e last chain leads.1 (sym (last_of-next first e chain) ∙ is)

pub reaches : (dirs : Directories) (root : Access) (path : List (List ℕ)) (chain : List Entry) (last : Entry)
    → Leads dirs root path chain → last_of chain ≡ Some last → Reaches dirs root path last.access
reaches dirs root path [] last leads is = absurd leads
reaches dirs root path (e ∷ chain) last leads is =
    subst (λ (access : Access). Reaches dirs access path last.access) leads.0
    (reaches_from dirs path e last chain (subst (λ (access : Access). LeadsFrom dirs access path chain) (sym leads.0) leads.1) is)

-- what stands under the name of a directory shows the same as the node there
pub shows_next : (dirs : Directories) (here next : Access) (entries : Entries) (name : List ℕ) (under : Node) → Shows dirs here (dir (meta_of here) entries)
    → thing_under name (dir_of here) dirs ≡ Some (a_dir next) → found name entries ≡ Some under → Shows dirs next under
shows_next dirs here next entries name under shows thing node path =
    ap (λ (o : Option Thing). option_map shown_thing (thing_at dirs path o)) (sym thing)
    ∙ shows (name ∷ path)
    ∙ ap (λ (o : Option Node). option_map shown_node (node_at path o)) node

-- what stands under a name of a directory shows the same as what is found there
pub shows_here : (dirs : Directories) (here : Access) (entries : Entries) (name : List ℕ) → Shows dirs here (dir (meta_of here) entries)
    → option_map shown_thing (thing_under name (dir_of here) dirs) ≡ option_map shown_node (found name entries)
shows_here dirs here entries name shows =
    sym (ap (option_map shown_thing) (thing_at-here dirs (thing_under name (dir_of here) dirs)))
    ∙ shows (name ∷ [])
    ∙ ap (option_map shown_node) (node_at-here (found name entries))

first_check : (lets_first let_others : Bool) (walked : Result Directory Errno) (next : Directory → Result Directory Errno) (directory : Directory)
    → (walked >>= next) ≡ (check let_others errno.EACCES >> Ok directory)
    → ((check lets_first errno.EACCES >> walked) >>= next) ≡ (check (lets_first && let_others) errno.EACCES >> Ok directory)
first_check true let_others walked next directory later = later
first_check false let_others walked next directory later = refl

only_check : (lets_only : Bool) (directory : Directory)
    → (check lets_only errno.EACCES >> Ok directory) ≡ (check {E = Errno} (lets_only && true) errno.EACCES >> Ok directory)
only_check true directory = refl
only_check false directory = refl

-- the walk goes on where the first directory lets the caller search
walked_next : (caller : Caller) (first : Entry) (entries : Entries) (name last_name : List ℕ) (path : List (List ℕ)) (under : Node) (let_others : Bool) (directory : Directory)
    → found name entries ≡ Some under
    → parent_of under caller (record { directory = path; name = last_name }) ≡ (check let_others errno.EACCES >> Ok directory)
    → parent_of (dir (meta_of first.access) entries) caller (record { directory = name ∷ path; name = last_name })
    ≡ (check (lets caller want.Search first && let_others) errno.EACCES >> Ok directory)
walked_next caller first entries name last_name path under let_others directory is later =
    rw is (first_check (lets caller want.Search first) let_others (walk caller path under) _ directory later)

comes_from : (dirs : Directories) (caller : Caller) (path : List (List ℕ)) (first last : Entry) (chain : List Entry) (entries : Entries)
    → Shows dirs first.access (dir (meta_of first.access) entries) → LeadsFrom dirs first.access path chain → last_of (first ∷ chain) ≡ Some last
    → ComesTo dirs (dir (meta_of first.access) entries) caller path (first ∷ chain) last.access
comes_from dirs caller [] first last [] entries shows leads is =
    let same : first ≡ last = (let both : Some first ≡ Some last = sym (last_of-one first) ∙ is in cc) in
    let here : ComesTo dirs (dir (meta_of first.access) entries) caller [] (first ∷ []) first.access = record {
      entries = entries;
      stands = refl;
      walked = λ name. only_check (lets caller want.Search first) (record { meta = meta_of first.access; entries = entries });
      shows = λ name. sym (shows_here dirs first.access entries name shows);
    } in
    subst (λ (e : Entry). ComesTo dirs (dir (meta_of first.access) entries) caller [] (first ∷ []) e.access) same here
comes_from dirs caller [] first last (e ∷ chain) entries shows leads is = absurd leads
comes_from dirs caller (name ∷ path) first last [] entries shows leads is = absurd leads
comes_from dirs caller (name ∷ path) first last (e ∷ chain) entries shows leads is =
    let under = dir_from_shown e.access (found name entries) (sym (ap (option_map shown_thing) leads.0) ∙ shows_here dirs first.access entries name shows) in
    let beyond = shows_next dirs first.access e.access entries name (dir (meta_of e.access) under.entries) shows leads.0 under.is in
    let later = comes_from dirs caller path e last chain under.entries beyond leads.1 (sym (last_of-next first e chain) ∙ is) in
    record {
      entries = later.entries;
      stands = ap (node_at path) under.is ∙ later.stands;
      walked = λ n. walked_next caller first entries name n path (dir (meta_of e.access) under.entries) _ _ under.is (later.walked n);
      shows = later.shows;
    }

pub comes : (dirs : Directories) (root : Access) (tree : Node) (caller : Caller) (path : List (List ℕ)) (chain : List Entry) (last : Entry)
    → Shows dirs root tree → Leads dirs root path chain → last_of chain ≡ Some last → ComesTo dirs tree caller path chain last.access
comes dirs root tree caller path [] last shows leads is = absurd leads
comes dirs root tree caller path (e ∷ chain) last shows leads is =
    let of_first = subst (λ (access : Access). Shows dirs access tree) (sym leads.0) shows in
    let here = dir_from_shown e.access (Some tree) (of_first []) in
    let same : tree ≡ dir (meta_of e.access) here.entries = (let is = here.is in cc) in
    subst (λ (node : Node). ComesTo dirs node caller path (e ∷ chain) last.access) (sym same)
    (comes_from dirs caller path e last chain here.entries
    (subst (λ (node : Node). Shows dirs e.access node) same of_first)
    (subst (λ (access : Access). LeadsFrom dirs access path chain) (sym leads.0) leads.1) is)
