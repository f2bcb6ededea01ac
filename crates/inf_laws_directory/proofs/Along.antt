-- What calls come to on the plain tree, where a chain leads along their paths.
use Rattle.std.proofs.Common.{◌≡◌, ℕ, Bool, true, false, cond, not, List, [], ◌∷◌, ◌++◌, Option, Some, None, is_some, is_none, Result, Ok, Err, ok_or, refl, sym, ap, ◌∙◌}
use Rattle.std.specs.List.{list_all}
use Rattle.std.specs.Option.{option_map}
use Rattle.inf_base.specs.declared.access.Access.{Access}
use Rattle.inf_base.specs.declared.answer.Answer.{Answer}
use Rattle.inf_base.specs.declared.answer.Answer.TheVariants as answer
use Rattle.inf_base.specs.declared.call.Call.{Call}
use Rattle.inf_base.specs.declared.call.Call.TheVariants as call
use Rattle.inf_base.specs.declared.caller.Caller.{Caller}
use Rattle.inf_base.specs.declared.entry.Entry.{Entry}
use Rattle.inf_base.specs.declared.errno.Errno.{Errno}
use Rattle.inf_base.specs.declared.errno.Errno.TheVariants as errno
use Rattle.inf_base.specs.declared.file.FileMeta.{FileMeta}
use Rattle.inf_base.specs.declared.item.Kind.TheVariants as kind
use Rattle.inf_base.specs.Checks.{◌>>=◌, ◌>>◌, check}
use Rattle.inf_base.specs.Path.{path_of}
use Rattle.inf_base.specs.Same.{dir_of}
use Rattle.inf_perm.specs.declared.want.Want.TheVariants as want
use Rattle.inf_server.specs.Chains.{last_of}
use Rattle.inf_server.specs.Checks.{lets}
use Rattle.inf_tree.specs.Apply.{apply, changes, is_empty, is_free, looks, new_dir, new_file, stat, told, with_new, without_dir}
use Rattle.inf_tree.specs.Tree.{Entries, Node, changed, cut, dir, entry, file, found, hung, none}
use Rattle.inf_tree.specs.Walk.{Directory, Place, allows, behind, directory_of, parent_of, place_of, walk}
use Rattle.inf_laws_directory.specs.Answers.{IsCallOn, if_free, if_searched, permitted, told_along, told_of}
use Rattle.inf_laws_directory.specs.Changes.{IsEmpty}
use Rattle.inf_laws_directory.specs.Leads.{Leads}
use Rattle.inf_laws_directory.specs.Replays.{IsRefused}
use Rattle.inf_laws_directory.specs.Stands.{Shown, Shows, Stands, meta_of, shown_node, shown_thing, shows_file}
use Rattle.inf_laws_directory.specs.Things.{Directories, Thing, a_dir, a_file, thing_under}
use Rattle.inf_laws_directory.specs.Walks.{ComesTo}
use Rattle.inf_laws_directory.proofs.Chains.{comes, reaches, shows_here, shows_next}
use Rattle.inf_laws_directory.proofs.Nodes.{IsDirOf, dir_from_shown, own_name, shows_from}

place_of-last : (path : List (List ℕ)) (name : List ℕ) → place_of (path ++ name ∷ []) ≡ Some (record { directory = path; name = name })
place_of-last [] name = refl
place_of-last (first ∷ path) name = ap (λ (o : Option Place). Some (behind first o)) (place_of-last path name)

place_of-behind : (path names : List (List ℕ)) (place : Place) → place_of names ≡ Some place
    → place_of (path ++ names) ≡ Some (record { directory = path ++ place.directory; name = place.name })
place_of-behind [] names place is = is
place_of-behind (first ∷ path) names place is = ap (λ (o : Option Place). Some (behind first o)) (place_of-behind path names place is)

check_first : {X : Type 0} (passes : Bool) (directory : Directory) (next : Directory → Result X Errno)
    → ((check passes errno.EACCES >> Ok directory) >>= next) ≡ (check passes errno.EACCES >> next directory)
check_first true directory next = refl
check_first false directory next = refl

check_before : {X Y : Type 0} (passes : Bool) (next : Result X Errno) (last : X → Result Y Errno)
    → ((check passes errno.EACCES >> next) >>= last) ≡ (check passes errno.EACCES >> (next >>= last))
check_before true next last = refl
check_before false next last = refl

module _ (caller : Caller) (name last_name : List ℕ) (more : List (List ℕ)) where
  -- from the directory that a path leads to, the walk goes on to what is found there
  abbrev onward : Directory → Result Directory Errno
  onward here = do
    next ← ok_or (found name here.entries) errno.ENOENT
    walk caller more next

  abbrev entered : Directory → Result Directory Errno
  entered parent = do
    check (allows parent caller want.Search) errno.EACCES
    Ok parent

  walk_onward : (path : List (List ℕ)) (tree : Node)
      → walk caller (path ++ name ∷ more) tree ≡ (parent_of tree caller (record { directory = path; name = last_name }) >>= onward)
  walk_onward [] (file meta) = refl
  walk_onward [] (dir meta entries) = sym (check_first (allows (record { meta = meta; entries = entries }) caller want.Search) (record { meta = meta; entries = entries }) onward)
  walk_onward (first ∷ path) (file meta) = refl
  walk_onward (first ∷ path) (dir meta entries) = by (allows (record { meta = meta; entries = entries }) caller want.Search) (found first entries) (walk_onward path)
    where
      by : (b : Bool) (o : Option Node) → ((under : Node) → walk caller (path ++ name ∷ more) under ≡ ((walk caller path under >>= entered) >>= onward))
          → (check b errno.EACCES >> (ok_or o errno.ENOENT >>= walk caller (path ++ name ∷ more)))
          ≡ (((check b errno.EACCES >> (ok_or o errno.ENOENT >>= walk caller path)) >>= entered) >>= onward)
      by false o later = refl
      by true None later = refl
      by true (Some under) later = later under

  -- and where it cannot go on, that is the answer
  stops_behind : (path : List (List ℕ)) (tree : Node) (passes : Bool) (directory : Directory) (error : Errno)
      → ((n : List ℕ) → parent_of tree caller (record { directory = path; name = n }) ≡ (check passes errno.EACCES >> Ok directory))
      → (passes ≡ true → onward directory ≡ Err error)
      → parent_of tree caller (record { directory = path ++ name ∷ more; name = last_name }) ≡ Err (cond passes error errno.EACCES)
  stops_behind path tree true directory error walked stuck = rw (walk_onward path tree, walked last_name, stuck refl) refl
  stops_behind path tree false directory error walked stuck = rw (walk_onward path tree, walked last_name) refl

walk_file : (caller : Caller) (path : List (List ℕ)) (meta : FileMeta) → walk caller path (file meta) ≡ Err errno.ENOTDIR
walk_file caller [] meta = refl
walk_file caller (name ∷ path) meta = refl

-- every call on a path stops where the walk to its parent does
call_stops : (tree : Node) (caller : Caller) (asked : Call) (text : List ℕ) (names : List (List ℕ)) (place : Place) (error : Errno) → IsCallOn text asked
    → path_of text ≡ Ok names → place_of names ≡ Some place → parent_of tree caller place ≡ Err error
    → IsRefused tree caller asked error
call_stops tree caller (call.Mkdir path mode) text names place error on is at stop = rw (on, is, at, stop) refl
call_stops tree caller (call.Create path mode) text names place error on is at stop = rw (on, is, at, stop) refl
call_stops tree caller (call.Rmdir path) text names place error on is at stop = rw (on, is, at, stop) refl
call_stops tree caller (call.Unlink path) text names place error on is at stop = rw (on, is, at, stop) refl
call_stops tree caller (call.Stat path) text names place error on is at stop = rw (on, is, at, stop) refl
call_stops tree caller (call.List path) text names place error on is at stop = rw (on, is, at, stop) refl
call_stops tree caller (call.Truncate path length) text names place error on is at stop = rw (on, is, at, stop) refl
call_stops tree caller (call.Chmod path mode) text names place error on is at stop = rw (on, is, at, stop) refl
call_stops tree caller (call.Rename old new) text names place error on is at stop = absurd on

-- what stands in the tree under a name, by what shows
None_from_shown : (node : Option Node) → None ≡ option_map shown_node node → node ≡ None
None_from_shown None shown = refl
None_from_shown (Some node) shown = cc

file_from_shown : (meta : FileMeta) (node : Option Node) → Some (shows_file meta) ≡ option_map shown_node node → node ≡ Some (file meta)
file_from_shown meta None shown = cc
file_from_shown meta (Some (file other)) shown = cc
file_from_shown meta (Some (dir other entries)) shown = cc

free_alike : (node : Option Node) (thing : Option Thing) → option_map shown_node node ≡ option_map shown_thing thing → not (is_some node) ≡ is_none thing
free_alike None None shown = refl
free_alike None (Some thing) shown = cc
free_alike (Some node) None shown = cc
free_alike (Some node) (Some thing) shown = refl

told_alike : (node : Option Node) (thing : Option Thing) → option_map shown_node node ≡ option_map shown_thing thing
    → (ok_or node errno.ENOENT >>= λ under. Ok (told under)) ≡ (ok_or thing errno.ENOENT >>= λ standing. Ok (told_of standing))
told_alike None None shown = refl
told_alike None (Some thing) shown = cc
told_alike (Some node) None shown = cc
told_alike (Some (file meta)) (Some (a_file other)) shown = let same : meta ≡ other = cc in ap (λ m. Ok (answer.Stat kind.File m)) same
told_alike (Some (file meta)) (Some (a_dir access)) shown = cc
told_alike (Some (dir meta entries)) (Some (a_file other)) shown = cc
told_alike (Some (dir meta entries)) (Some (a_dir access)) shown = let same : meta ≡ meta_of access = cc in ap (λ m. Ok (told (dir m entries))) same

-- a directory that shows nothing under any name has no entries, and one that shows something has some
is_empty_shown : (entries : Entries) → ((name : List ℕ) → None ≡ option_map shown_node (found name entries)) → is_empty entries ≡ true
is_empty_shown none shown = refl
is_empty_shown (entry name node rest) shown = let nothing = shown name in let own = own_name name in cc

is_full_shown : (entries : Entries) (name : List ℕ) (shown : Shown) → Some shown ≡ option_map shown_node (found name entries) → is_empty entries ≡ false
is_full_shown none name shown is = cc
is_full_shown (entry name node rest) other shown is = refl

-- without permission to write there, nothing comes of it
refused_by : (tree : Node) (lets_search lets_write : Bool) (change : Result Node Errno) → lets_write ≡ false
    → changes tree (check lets_search errno.EACCES >> (check lets_write errno.EACCES >> change)) ≡ record { answer = answer.Refused errno.EACCES; tree = tree }
refused_by tree false lets_write change closed = refl
refused_by tree true lets_write change closed = rw closed refl

module _ (dirs : Directories) (root : Access) (tree : Node) (caller : Caller) (path : List (List ℕ)) (name : List ℕ) (chain : List Entry) (last : Entry)
    (stands : Stands dirs root tree) (leads : Leads dirs root path chain) (ends : last_of chain ≡ Some last) where
  came : ComesTo dirs tree caller path chain last.access
  came = comes dirs root tree caller path chain last stands.shows leads ends

  -- the directory where the chain ends
  abbrev parent : Directory
  parent = record { meta = meta_of last.access; entries = came.entries }

  abbrev passes : Bool
  passes = list_all (lets caller want.Search) chain

  shows_on : Shows dirs last.access (dir (meta_of last.access) came.entries)
  shows_on = shows_from dirs root last.access tree (dir (meta_of last.access) came.entries) path stands.shows (reaches dirs root path chain last leads ends) came.stands

  abbrev under : Option Thing
  under = thing_under name (dir_of last.access) dirs

  nothing_found : under ≡ None → found name came.entries ≡ None
  nothing_found is = None_from_shown _ (sym (came.shows name ∙ ap (option_map shown_thing) is))

  file_found : (meta : FileMeta) → under ≡ Some (a_file meta) → found name came.entries ≡ Some (file meta)
  file_found meta is = file_from_shown meta _ (sym (came.shows name ∙ ap (option_map shown_thing) is))

  dir_found : (access : Access) → under ≡ Some (a_dir access) → IsDirOf access (found name came.entries)
  dir_found access is = dir_from_shown access _ (sym (came.shows name ∙ ap (option_map shown_thing) is))

  still_free : is_free name parent ≡ is_none under
  still_free = free_alike (found name came.entries) under (came.shows name)

  module _ (text : List ℕ) (names : path_of text ≡ Ok (path ++ name ∷ [])) where
    with_new_along : (node : Node) → with_new tree caller text node ≡ permitted caller chain last (if_free under (changed (hung name node) path tree))
    with_new_along node = rw (names, place_of-last path name, came.walked name) (
        check_first passes parent _
        ∙ ap (λ b. check passes errno.EACCES >> (check (allows parent caller want.Write) errno.EACCES >> (check b errno.EEXIST >> Ok (changed (hung name node) path tree)))) still_free)

    pub created : (mode : ℕ) → apply tree caller (call.Create text mode)
        ≡ changes tree (permitted caller chain last (if_free under (changed (hung name (new_file caller mode)) path tree)))
    created mode = ap (changes tree) (with_new_along (new_file caller mode))

    pub made : (mode : ℕ) → apply tree caller (call.Mkdir text mode)
        ≡ changes tree (permitted caller chain last (if_free under (changed (hung name (new_dir caller mode)) path tree)))
    made mode = ap (changes tree) (with_new_along (new_dir caller mode))

    stat_along : stat tree caller text ≡ told_along caller chain under
    stat_along = rw (names, place_of-last path name, came.walked name) (
        ap (λ (r : Result Node Errno). r >>= λ node. Ok (told node)) (check_first passes parent (λ d. ok_or (found name d.entries) errno.ENOENT))
        ∙ check_before passes (ok_or (found name came.entries) errno.ENOENT) (λ node. Ok (told node))
        ∙ ap (λ (r : Result Answer Errno). check passes errno.EACCES >> r) (told_alike (found name came.entries) under (came.shows name)))

    pub looked : apply tree caller (call.Stat text) ≡ looks tree (told_along caller chain under)
    looked = ap (looks tree) stat_along

    -- the removal of what stands there
    abbrev removal : Option Node → Result Node Errno
    removal standing = do
      node ← ok_or standing errno.ENOENT
      directory ← ok_or (directory_of node) errno.ENOTDIR
      check (is_empty directory.entries) errno.ENOTEMPTY
      Ok (changed (cut name) path tree)

    without_dir_along : (result : Result Node Errno) → removal (found name came.entries) ≡ result → without_dir tree caller text ≡ permitted caller chain last result
    without_dir_along result is = rw (names, place_of-last path name, came.walked name) (
        check_first passes parent _
        ∙ ap (λ (r : Result Node Errno). check passes errno.EACCES >> (check (allows parent caller want.Write) errno.EACCES >> r)) is)

    removed : (result : Result Node Errno) → removal (found name came.entries) ≡ result → apply tree caller (call.Rmdir text) ≡ changes tree (permitted caller chain last result)
    removed result is = ap (changes tree) (without_dir_along result is)

    pub unwritten : lets caller want.Write last ≡ false → IsRefused tree caller (call.Rmdir text) errno.EACCES
    unwritten closed = removed (removal (found name came.entries)) refl ∙ refused_by tree passes (lets caller want.Write last) (removal (found name came.entries)) closed

    pub nothing_removed : under ≡ None → apply tree caller (call.Rmdir text) ≡ changes tree (permitted caller chain last (Err errno.ENOENT))
    nothing_removed is = removed (Err errno.ENOENT) (rw (nothing_found is) refl)

    pub file_stays : (meta : FileMeta) → under ≡ Some (a_file meta) → apply tree caller (call.Rmdir text) ≡ changes tree (permitted caller chain last (Err errno.ENOTDIR))
    file_stays meta is = removed (Err errno.ENOTDIR) (rw (file_found meta is) refl)

    -- what shows in a directory that stands there
    shows_inside : (access : Access) (is : under ≡ Some (a_dir access)) (inner : List ℕ)
        → option_map shown_thing (thing_under inner (dir_of access) dirs) ≡ option_map shown_node (found inner (dir_found access is).entries)
    shows_inside access is inner = let found_dir = dir_found access is in
        shows_here dirs access found_dir.entries inner
        (shows_next dirs last.access access came.entries name (dir (meta_of access) found_dir.entries) shows_on is found_dir.is)

    pub full_stays : (full : Access) (inner : List ℕ) (thing : Thing) → under ≡ Some (a_dir full) → thing_under inner (dir_of full) dirs ≡ Some thing
        → apply tree caller (call.Rmdir text) ≡ changes tree (permitted caller chain last (Err errno.ENOTEMPTY))
    full_stays full inner thing is stands_inside =
        let some = is_full_shown (dir_found full is).entries inner (shown_thing thing) (sym (ap (option_map shown_thing) stands_inside) ∙ shows_inside full is inner) in
        removed (Err errno.ENOTEMPTY) (rw ((dir_found full is).is, some) refl)

    pub empty_removed : (empty : Access) → under ≡ Some (a_dir empty) → IsEmpty dirs (dir_of empty)
        → apply tree caller (call.Rmdir text) ≡ changes tree (permitted caller chain last (Ok (changed (cut name) path tree)))
    empty_removed empty is nothing =
        let bare = is_empty_shown (dir_found empty is).entries (λ inner. sym (ap (option_map shown_thing) (nothing inner)) ∙ shows_inside empty is inner) in
        removed (Ok (changed (cut name) path tree)) (rw ((dir_found empty is).is, bare) refl)

  module _ (next : List ℕ) (rest : List (List ℕ)) (asked : Call) (text : List ℕ) (on : IsCallOn text asked) (names : path_of text ≡ Ok (path ++ name ∷ next ∷ rest)) where
    -- the place of the whole path, from the chain on
    abbrev place : Place
    place = behind next (place_of rest)

    stops_with : (error : Errno) → (passes ≡ true → onward caller name place.name place.directory parent ≡ Err error) → IsRefused tree caller asked (if_searched caller chain error)
    stops_with error stuck =
        call_stops tree caller asked text (path ++ name ∷ next ∷ rest) (record { directory = path ++ name ∷ place.directory; name = place.name }) (if_searched caller chain error) on names
        (place_of-behind path (name ∷ next ∷ rest) (record { directory = name ∷ place.directory; name = place.name }) refl)
        (stops_behind caller name place.name place.directory path tree passes parent error came.walked stuck)

    pub stops_at_nothing : under ≡ None → IsRefused tree caller asked (if_searched caller chain errno.ENOENT)
    stops_at_nothing is = stops_with errno.ENOENT (λ searched. rw (nothing_found is) refl)

    pub stops_at_file : (meta : FileMeta) → under ≡ Some (a_file meta) → IsRefused tree caller asked (if_searched caller chain errno.ENOTDIR)
    stops_at_file meta is = stops_with errno.ENOTDIR (λ searched. rw (file_found meta is) (walk_file caller place.directory meta))

    stops_unsearched : passes ≡ false → IsRefused tree caller asked errno.EACCES
    stops_unsearched closed = rw closed at (stops_with errno.ENOENT (λ open_to. absurd (cc)))

  pub unsearched : (rest : List (List ℕ)) (asked : Call) (text : List ℕ) → IsCallOn text asked → path_of text ≡ Ok (path ++ name ∷ rest) → passes ≡ false
      → IsRefused tree caller asked errno.EACCES
  unsearched [] asked text on names closed =
      call_stops tree caller asked text (path ++ name ∷ []) (record { directory = path; name = name }) errno.EACCES on names (place_of-last path name) (rw (came.walked name, closed) refl)
  unsearched (next ∷ rest) asked text on names closed = stops_unsearched next rest asked text on names closed
