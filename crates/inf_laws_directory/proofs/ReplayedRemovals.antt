-- Seals and unlinks of a directory, and its removal at the same place of the tree.
use Rattle.std.proofs.Common.{Bool, Err, List, Ok, Some, [], ap, false, inl, inr, is_none, refl, subst, sym, true, ℕ, ◌++◌, ◌||◌, ◌∙◌, ◌∷◌, ◌≡◌, ◌⊎◌}
use Rattle.std.specs.List.{list_all}
use Rattle.inf_base.specs.declared.access.Access.{Access}
use Rattle.inf_base.specs.declared.answer.Answer.TheVariants as answer
use Rattle.inf_base.specs.declared.call.Call.TheVariants as call
use Rattle.inf_base.specs.declared.entry.Entry.{Entry}
use Rattle.inf_base.specs.declared.errno.Errno.{Errno}
use Rattle.inf_base.specs.declared.errno.Errno.TheVariants as errno
use Rattle.inf_base.specs.Content.{Slot, reserved, file, directory}
use Rattle.inf_base.specs.Path.{path_of}
use Rattle.inf_base.specs.Same.{dir_of}
use Rattle.inf_content.specs.Contents.{slots_at}
use Rattle.inf_content.specs.Slot.{taker}
use Rattle.inf_content.specs.Slots.{first, has_free, slot_in}
use Rattle.inf_message.specs.declared.ask.Ask.{Ask}
use Rattle.inf_perm.specs.declared.want.Want.TheVariants as want
use Rattle.inf_server.specs.Chains.{before_last, last_of}
use Rattle.inf_server.specs.Checks.{lets}
use Rattle.inf_server.specs.State.{Site, State}
use Rattle.inf_tree.specs.Apply.{changes}
use Rattle.inf_tree.specs.Tree.{Node, changed, cut}
use Rattle.inf_laws_directory.specs.Changes.{IsEmpty, Takes}
use Rattle.inf_laws_directory.specs.Objects.{Objects, Service, content_in, site_in}
use Rattle.inf_content.specs.Order.{AreInOrder}
use Rattle.inf_laws_directory.specs.Replays.{Answers, IsAt, IsRefused, MayWrite}
use Rattle.inf_laws_directory.specs.Things.{Directories, Reaches, Thing, a_dir, a_file, thing_in, thing_under}
use Rattle.inf_laws_directory.proofs.Along.{empty_removed, full_stays, unsearched, unwritten}
use Rattle.inf_laws_directory.proofs.Chains.{reaches}
use Rattle.inf_laws_directory.proofs.ContentFacts.{slots_sorted}
use Rattle.inf_laws_directory.proofs.Edits.{taken_stands}
use Rattle.inf_laws_directory.proofs.Replayed.{answers_so, permits}
use Rattle.inf_laws_directory.proofs.ServiceFacts.{slots_here}
use Rattle.inf_laws_directory.proofs.SlotFacts.{AreSorted, first_is_changed}
use Rattle.inf_laws_directory.proofs.Ways.{thing_at-next}
use Rattle.inf_laws_server.specs.Denied.{Denies, IsClosed, IsFull, IsUnwritable}
use Rattle.inf_laws_server.specs.Passed.{IsAsked}
use Rattle.inf_message.specs.declared.request.Request.TheVariants as request

-- what no call holds or reserves stands there
abbrev is_free : Slot → Bool
is_free slot = is_none (taker slot)

record HasFirst (slots : List (List ℕ × Slot)) : Type 0 where
  found : List ℕ × Slot
  is : first is_free slots ≡ Some found
  free : is_free found.1 ≡ true

first_free : (slots : List (List ℕ × Slot)) → has_free slots ≡ true → HasFirst slots
first_free [] some = cc
first_free (e ∷ es) some = by (is_free e.1) refl some (first_free es)
  where
    by : (b : Bool) → is_free e.1 ≡ b → (b || has_free es) ≡ true → (has_free es ≡ true → HasFirst es) → HasFirst (e ∷ es)
    by true free some later = record { found = e; is = rw free refl; free = free }
    by false taken some later = let rest = later some in record { found = rest.found; is = rw taken rest.is; free = rest.free }

record HasThing (slots : List (List ℕ × Slot)) : Type 0 where
  inner : List ℕ
  thing : Thing
  stands : thing_in (slot_in inner slots) ≡ Some thing

thing_of_free : (slots : List (List ℕ × Slot)) (inner : List ℕ) (slot : Slot) → slot_in inner slots ≡ Some slot → is_free slot ≡ true → HasThing slots
thing_of_free slots inner (reserved by access) is free = cc
thing_of_free slots inner (file meta held) is free = record { inner = inner; thing = a_file meta; stands = ap thing_in is }
thing_of_free slots inner (directory access held) is free = record { inner = inner; thing = a_dir access; stands = ap thing_in is }

free_stands : (slots : List (List ℕ × Slot)) → AreSorted slots → has_free slots ≡ true → HasThing slots
free_stands slots sorted some =
    let has = first_free slots some in
    thing_of_free slots has.found.0 has.found.1 (first_is_changed is_free (λ slot. slot) slots has.found sorted has.is).old has.free

module _ (service : Service) (objects : Objects) (number : ℕ) (root : Access) (tree : Node) (ask : Ask) (text : List ℕ) (path : List (List ℕ)) (name : List ℕ)
    (chain : List Entry) (parent target : Entry)
    (above : IsAt (content_in service objects) root tree path (before_last chain) parent)
    (at : IsAt (content_in service objects) root tree (path ++ name ∷ []) chain target)
    (names : path_of text ≡ Ok (path ++ name ∷ [])) where
  abbrev site : Site
  site = site_in service number

  abbrev state : State
  state = objects number

  abbrev dirs : Directories
  dirs = content_in service objects

  abbrev passes : Bool
  passes = list_all (lets ask.caller want.Search) (before_last chain)

  abbrev may_write : Bool
  may_write = lets ask.caller want.Write parent

  reached : Reaches dirs root path parent.access
  reached = reaches dirs root path (before_last chain) parent above.leads above.ends

  -- the directory stands under its name in the one before it
  stands_under : thing_under name (dir_of parent.access) dirs ≡ Some (a_dir target.access)
  stands_under = sym (thing_at-next dirs root parent.access path name reached) ∙ reaches dirs root (path ++ name ∷ []) chain target at.leads at.ends

  abbrev Refuses : Errno → Type 0
  Refuses error = IsRefused tree ask.caller (call.Rmdir text) error

  full_refused : AreInOrder state.contents → (entry : Entry) → IsAsked site state ask.from (last_of chain) (chain ∷ []) entry → passes ≡ true → may_write ≡ true
      → has_free (slots_at (dir_of entry.access) state.contents) ≡ true → Refuses errno.ENOTEMPTY
  full_refused ordered entry is_asked open_to may full =
      let dir = dir_of entry.access in
      let has = free_stands (slots_at dir state.contents) (slots_sorted dir state.contents ordered.names) full in
      let same : entry ≡ target = (let ends = is_asked.last in cc (ends, at.ends)) in
      full_stays dirs root tree ask.caller path name (before_last chain) parent above.stands above.leads above.ends text names target.access has.inner has.thing stands_under
      (subst (λ (e : Entry). thing_under has.inner (dir_of e.access) dirs ≡ Some has.thing) same
      (subst (λ (s : List (List ℕ × Slot)). thing_in (slot_in has.inner s) ≡ Some has.thing) (sym (slots_here service objects number state dir is_asked.here)) has.stands))
      ∙ ap (changes tree) (permits service objects number root tree ask path (before_last chain) parent above (Err errno.ENOTEMPTY) open_to may)

  abbrev IsDenied : Errno → Type 0
  IsDenied error = IsClosed site state ask (last_of chain) (chain ∷ []) (before_last chain) error
      ⊎ IsUnwritable site state ask (last_of chain) (chain ∷ []) (before_last chain) error ⊎ IsFull site state ask chain error

  denied_refused : AreInOrder state.contents → (error : Errno) → IsDenied error → Refuses error
  denied_refused ordered error (inl is) =
      subst Refuses (sym is.error_is)
      (unsearched dirs root tree ask.caller path name (before_last chain) parent above.stands above.leads above.ends [] (call.Rmdir text) text refl names is.closed)
  denied_refused ordered error (inr (inl is)) =
      let same : is.written ≡ parent = (let ends = is.ends in cc (ends, above.ends)) in
      subst Refuses (sym is.error_is)
      (unwritten dirs root tree ask.caller path name (before_last chain) parent above.stands above.leads above.ends text names
      (subst (λ (e : Entry). lets ask.caller want.Write e ≡ false) same is.closed))
  denied_refused ordered error (inr (inr is)) =
      let same : is.written ≡ parent = (let ends = is.ends in cc (ends, above.ends)) in
      subst Refuses (sym is.error_is)
      (full_refused ordered is.entry is.is_asked is.search (subst (λ (e : Entry). lets ask.caller want.Write e ≡ true) same is.write) is.full)

  pub seal_refused : AreInOrder state.contents → (error : Errno) → Denies site state ask (request.Seal chain) error → Refuses error
  seal_refused ordered error denies = denied_refused ordered error denies.because

  pub directory_unlinked : (new : Directories) → MayWrite ask.caller (before_last chain) parent → IsEmpty dirs (dir_of target.access)
      → Takes dirs new (dir_of parent.access) name → Answers tree ask.caller (call.Rmdir text) answer.Done root new
  directory_unlinked new may empty takes =
      answers_so tree ask.caller (call.Rmdir text) answer.Done root new (changed (cut name) path tree)
      (empty_removed dirs root tree ask.caller path name (before_last chain) parent above.stands above.leads above.ends text names target.access stands_under empty
      ∙ ap (changes tree) (permits service objects number root tree ask path (before_last chain) parent above (Ok (changed (cut name) path tree)) may.search may.write))
      (taken_stands dirs new root parent.access tree path name above.stands reached target.access above.sorted stands_under empty takes)
