-- Requests to the end of a chain, and calls at the same place of the tree.
use Rattle.std.proofs.Common.{Bool, Err, List, None, Ok, Option, Result, Some, [], ap, cond, false, inl, inr, refl, subst, sym, true, ℕ, ◌++◌, ◌∙◌, ◌∷◌, ◌≡◌}
use Rattle.std.specs.List.{list_all}
use Rattle.inf_base.specs.declared.access.Access.{Access}
use Rattle.inf_base.specs.declared.answer.Answer.{Answer}
use Rattle.inf_base.specs.declared.answer.Answer.TheVariants as answer
use Rattle.inf_base.specs.declared.call.Call.{Call}
use Rattle.inf_base.specs.declared.call.Call.TheVariants as call
use Rattle.inf_base.specs.declared.caller.Caller.{Caller}
use Rattle.inf_base.specs.declared.caller.CallRef.{CallRef}
use Rattle.inf_base.specs.declared.directory.DirRef.{DirRef}
use Rattle.inf_base.specs.declared.entry.Entry.{Entry}
use Rattle.inf_base.specs.declared.errno.Errno.{Errno}
use Rattle.inf_base.specs.declared.errno.Errno.TheVariants as errno
use Rattle.inf_base.specs.declared.file.FileMeta.{FileMeta}
use Rattle.inf_base.specs.declared.item.Kind.{Kind}
use Rattle.inf_base.specs.declared.item.Kind.TheVariants as kind
use Rattle.inf_base.specs.Content.{Content, Slot, reserved, file, directory}
use Rattle.inf_base.specs.Path.{path_of}
use Rattle.inf_base.specs.Same.{dir_of}
use Rattle.inf_content.specs.Contents.{content_at, seen_in, slots_at, slots_found}
use Rattle.inf_content.specs.Slot.{holder, linked}
use Rattle.inf_content.specs.Slots.{seen_of, slot_in}
use Rattle.inf_content.specs.declared.seen.Seen.{Seen}
use Rattle.inf_content.specs.declared.seen.Seen.TheVariants as seen
use Rattle.inf_message.specs.declared.ask.Ask.{Ask}
use Rattle.inf_message.specs.declared.reply.Reply.{Reply}
use Rattle.inf_message.specs.declared.reply.Reply.TheVariants as reply
use Rattle.inf_perm.specs.declared.want.Want.TheVariants as want
use Rattle.inf_server.specs.Checks.{lets}
use Rattle.inf_server.specs.Files.{new_file, no_directory, stat_of}
use Rattle.inf_server.specs.Names.{found_by, is_missing, unless_taken}
use Rattle.inf_server.specs.Response.{Response}
use Rattle.inf_server.specs.State.{Site, State}
use Rattle.inf_tree.specs.Apply.{Applied, apply, changes, looks}
use Rattle.inf_tree.specs.Tree.{DirMeta, Node}
use Rattle.inf_laws_directory.specs.Answers.{IsCallOn, if_free, permitted, told_along}
use Rattle.inf_laws_directory.specs.Changes.{IsNew, Puts}
use Rattle.inf_laws_directory.specs.Objects.{Objects, Service, content_in, site_in}
use Rattle.inf_laws_directory.specs.Replays.{Answers, IsAt, IsRefused, MayWrite}
use Rattle.inf_laws_directory.specs.Things.{Directories, Thing, a_dir, a_file, thing_in, thing_under}
use Rattle.inf_laws_directory.specs.Stands.{Stands, meta_of}
use Rattle.inf_laws_directory.proofs.Along.{created, file_stays, looked, made, nothing_removed, stops_at_file, stops_at_nothing, unsearched, unwritten}
use Rattle.inf_laws_directory.proofs.Chains.{reaches}
use Rattle.inf_laws_directory.proofs.Edits.{directory_stands, file_stands}
use Rattle.inf_laws_directory.proofs.ServiceFacts.{slots_here}
use Rattle.inf_laws_server.specs.Denied.{Denies, DeniesName, IsClosed, IsUnwritable}
use Rattle.inf_laws_server.proofs.Came.{Did}
use Rattle.inf_laws_server.specs.Passed.{IsAsked, MayPut}
use Rattle.inf_server.specs.Chains.{last_of}
use Rattle.inf_laws_server.proofs.Asked.{seen_is}
use Rattle.inf_message.specs.declared.request.Request.TheVariants as request
use Rattle.inf_message.specs.declared.op.Op.TheVariants as op

-- what stands under a name where a call found this there
abbrev pub Tells : Seen → Option Thing → Type 0
Tells seen.Gone thing = ⊥
Tells seen.Missing thing = thing ≡ None
Tells (seen.Reserved other) thing = ⊥
Tells (seen.File meta held) thing = thing ≡ Some (a_file meta)
Tells (seen.Dir dir mode owner group held) thing =
    (access : Access) × (thing ≡ Some (a_dir access)) × (meta_of access ≡ record { mode = mode; owner = owner; group = group })

found_tells : (by : CallRef) (dir : DirRef) (name : List ℕ) (contents : List Content) (found : Seen) → found_by by dir name contents ≡ Ok found
    → Tells found (thing_in (slot_in name (slots_at dir contents)))
found_tells by dir name contents found = by_content (content_at dir contents)
  where
    by_slot : (slot : Option Slot) → unless_taken by dir.born (seen_of slot) ≡ Ok found → Tells found (thing_in slot)
    by_slot None is = let same : seen.Missing ≡ found = cc in subst (λ (s : Seen). Tells s None) same refl
    by_slot (Some (reserved other access)) is = cc
    by_slot (Some (file meta held)) is = subst (λ (s : Seen). Tells s (Some (a_file meta))) (seen_is by dir.born (seen.File meta (holder held)) found is) refl
    by_slot (Some (directory access held)) is =
        subst (λ (s : Seen). Tells s (Some (a_dir access)))
        (seen_is by dir.born (seen.Dir (dir_of access) access.mode access.owner access.group (holder held)) found is) (access, refl, refl)

    by_content : (content : Option Content) → unless_taken by dir.born (seen_in name content) ≡ Ok found → Tells found (thing_in (slot_in name (slots_found content)))
    by_content None is = cc
    by_content (Some c) is = by_slot (slot_in name c.slots) is

-- the answer that a reply to a look tells
abbrev answer_of : Reply → Answer
answer_of (reply.Stat of_kind meta) = answer.Stat of_kind meta
answer_of other_reply = answer.Done

-- a call that comes to this answer and to a tree for which the directories stand
pub answers_so : (tree : Node) (caller : Caller) (asked_call : Call) (given : Answer) (root : Access) (new : Directories) (after : Node)
    → apply tree caller asked_call ≡ record { answer = given; tree = after } → Stands new root after → Answers tree caller asked_call given root new
answers_so tree caller asked_call given root new after is stands = record {
  answered = ap (λ (a : Applied). a.answer) is;
  stands = subst (λ (a : Applied). Stands new root a.tree) (sym is) stands;
}

module _ (service : Service) (objects : Objects) (number : ℕ) (root : Access) (tree : Node) (ask : Ask) (path : List (List ℕ)) (chain : List Entry) (last : Entry)
    (at : IsAt (content_in service objects) root tree path chain last) where
  abbrev site : Site
  site = site_in service number

  abbrev state : State
  state = objects number

  abbrev dirs : Directories
  dirs = content_in service objects

  abbrev passes : Bool
  passes = list_all (lets ask.caller want.Search) chain

  abbrev IsEnd : Entry → Type 0
  IsEnd entry = IsAsked site state ask.from (last_of chain) (chain ∷ []) entry

  -- the directory asked is the one where the chain ends
  is_last : (entry : Entry) → last_of chain ≡ Some entry → entry ≡ last
  is_last entry ends = cc (ends, at.ends)

  -- what the call changes, where the caller may search along the chain and write at its end
  pub permits : (change : Result Node Errno) → passes ≡ true → lets ask.caller want.Write last ≡ true → permitted ask.caller chain last change ≡ change
  permits change open_to may_write = rw (open_to, may_write) refl

  closed_to : (change : Result Node Errno) → passes ≡ true → lets ask.caller want.Write last ≡ false → permitted ask.caller chain last change ≡ Err errno.EACCES
  closed_to change open_to closed = rw (open_to, closed) refl

  -- where the caller may not write, the chain ends
  closed_at_end : (written : Entry) → last_of chain ≡ Some written → lets ask.caller want.Write written ≡ false → lets ask.caller want.Write last ≡ false
  closed_at_end written ends closed = subst (λ (e : Entry). lets ask.caller want.Write e ≡ false) (is_last written ends) closed

  may_at_end : (entry : Entry) → IsEnd entry → lets ask.caller want.Write entry ≡ true → lets ask.caller want.Write last ≡ true
  may_at_end entry is_asked may = subst (λ (e : Entry). lets ask.caller want.Write e ≡ true) (is_last entry is_asked.last) may

  module _ (name : List ℕ) where
    abbrev under : Option Thing
    under = thing_under name (dir_of last.access) dirs

    -- what is found is what stands there
    found_there : (entry : Entry) → IsEnd entry → (found : Seen) → found_by ask.from (dir_of entry.access) name state.contents ≡ Ok found → Tells found under
    found_there entry is_asked found is =
        subst (λ (e : Entry). Tells found (thing_under name (dir_of e.access) dirs)) (is_last entry is_asked.last)
        (subst (λ (slots : List (List ℕ × Slot)). Tells found (thing_in (slot_in name slots))) (sym (slots_here service objects number state (dir_of entry.access) is_asked.here))
        (found_tells ask.from (dir_of entry.access) name state.contents found is))

    module _ (asked_call : Call) (text : List ℕ) (on : IsCallOn text asked_call) where
      abbrev Refuses : Errno → Type 0
      Refuses error = IsRefused tree ask.caller asked_call error

      -- a chain that does not let the caller search refuses both
      pub closed_refused : (rest : List (List ℕ)) → path_of text ≡ Ok (path ++ name ∷ rest) → (error : Errno)
          → IsClosed site state ask (last_of chain) (chain ∷ []) chain error → Refuses error
      closed_refused rest names error is =
          subst Refuses (sym is.error_is) (unsearched dirs root tree ask.caller path name chain last at.stands at.leads at.ends rest asked_call text on names is.closed)

      pub walk_refused : (next : List ℕ) (rest : List (List ℕ)) → path_of text ≡ Ok (path ++ name ∷ next ∷ rest)
          → (error : Errno) → Denies site state ask (request.Finish chain (op.Walk name)) error → Refuses error
      walk_refused next rest names error (inl closed) = closed_refused (next ∷ rest) names error closed
      walk_refused next rest names error (inr is) =
          by is.search is.found (found_there is.entry is.is_asked is.found is.is_found) is.denies
        where
          by : passes ≡ true → (found : Seen) → Tells found under → no_directory found ≡ reply.Refused error → Refuses error
          by open_to seen.Gone tells says = absurd tells
          by open_to seen.Missing tells says =
              let stopped = stops_at_nothing dirs root tree ask.caller path name chain last at.stands at.leads at.ends next rest asked_call text on names tells in
              let it : errno.ENOENT ≡ error = cc in
              subst Refuses it (subst (λ b. Refuses (cond b errno.ENOENT errno.EACCES)) open_to stopped)
          by open_to (seen.Reserved other) tells says = absurd tells
          by open_to (seen.File meta held) tells says =
              let stopped = stops_at_file dirs root tree ask.caller path name chain last at.stands at.leads at.ends next rest asked_call text on names meta tells in
              let it : errno.ENOTDIR ≡ error = cc in
              subst Refuses it (subst (λ b. Refuses (cond b errno.ENOTDIR errno.EACCES)) open_to stopped)
          by open_to (seen.Dir dir mode owner group held) tells says = cc

    module _ (text : List ℕ) (names : path_of text ≡ Ok (path ++ name ∷ [])) where
      abbrev looked_up : apply tree ask.caller (call.Stat text) ≡ looks tree (told_along ask.caller chain under)
      looked_up = looked dirs root tree ask.caller path name chain last at.stands at.leads at.ends text names

      -- what a look tells of what it found is what the call tells
      told : (found : Seen) → Tells found under → passes ≡ true → (of_kind : Kind) (meta : FileMeta) → stat_of found ≡ Ok (reply.Stat of_kind meta)
          → apply tree ask.caller (call.Stat text) ≡ record { answer = answer.Stat of_kind meta; tree = tree }
      told seen.Gone tells open_to of_kind meta is = cc
      told seen.Missing tells open_to of_kind meta is = cc
      told (seen.Reserved other) tells open_to of_kind meta is = cc
      told (seen.File old held) tells open_to of_kind meta is =
          let given : reply.Stat kind.File old ≡ reply.Stat of_kind meta = cc in
          looked_up ∙ rw (open_to, tells) (ap (λ (r : Reply). record { answer = answer_of r; tree = tree }) given)
      told (seen.Dir dir mode owner group held) tells open_to of_kind meta is =
          let given : reply.Stat kind.Dir (record { mode = mode; owner = owner; group = group; length = 0 }) ≡ reply.Stat of_kind meta = cc in
          looked_up ∙ rw (open_to, tells.1) (ap (λ (m : DirMeta). record { answer = answer.Stat kind.Dir (record { mode = m.mode; owner = m.owner; group = m.group; length = 0 }); tree = tree }) tells.2
          ∙ ap (λ (r : Reply). record { answer = answer_of r; tree = tree }) given)

      abbrev NotTold : Errno → Type 0
      NotTold error = IsRefused tree ask.caller (call.Stat text) error

      pub stat_refused : (error : Errno) → Denies site state ask (request.Finish chain (op.Stat name)) error → NotTold error
      stat_refused error (inl closed) = closed_refused (call.Stat text) text refl [] names error closed
      stat_refused error (inr is) =
          by is.search is.found (found_there is.entry is.is_asked is.found is.is_found) is.denies
        where
          by : passes ≡ true → (found : Seen) → Tells found under → stat_of found ≡ Err (reply.Refused error) → NotTold error
          by open_to seen.Gone tells says = absurd tells
          by open_to seen.Missing tells says =
              let it : errno.ENOENT ≡ error = cc in
              subst NotTold it (looked_up ∙ rw (open_to, tells) refl)
          by open_to (seen.Reserved other) tells says = absurd tells
          by open_to (seen.File meta held) tells says = cc
          by open_to (seen.Dir dir mode owner group held) tells says = cc

      pub stat_told : (end : Response) (of_kind : Kind) (meta : FileMeta) → Did site state 0 ask (request.Finish chain (op.Stat name)) end
          → end.reply ≡ reply.Stat of_kind meta
          → apply tree ask.caller (call.Stat text) ≡ record { answer = answer.Stat of_kind meta; tree = tree }
      stat_told end of_kind meta is given =
          let may = is.passed in
          told may.found (found_there may.entry may.is_asked may.found may.is_found) may.search of_kind meta (may.is_told ∙ ap Ok (sym is.said ∙ given))

      abbrev StaysStanding : Errno → Type 0
      StaysStanding error = IsRefused tree ask.caller (call.Rmdir text) error

      pub unwritable_stays : (error : Errno) → IsUnwritable site state ask (last_of chain) (chain ∷ []) chain error → StaysStanding error
      unwritable_stays error is =
          subst StaysStanding (sym is.error_is)
          (unwritten dirs root tree ask.caller path name chain last at.stands at.leads at.ends text names (closed_at_end is.written is.ends is.closed))

      pub rmdir_name_refused : (error : Errno) → Denies site state ask (request.Finish chain (op.RmdirName name)) error → StaysStanding error
      rmdir_name_refused error (inl closed) = closed_refused (call.Rmdir text) text refl [] names error closed
      rmdir_name_refused error (inr (inl closed)) = unwritable_stays error closed
      rmdir_name_refused error (inr (inr is)) =
          by is.search (may_at_end is.entry is.is_asked is.allowed) is.found (found_there is.entry is.is_asked is.found is.is_found) is.denies
        where
          by : passes ≡ true → lets ask.caller want.Write last ≡ true → (found : Seen) → Tells found under → no_directory found ≡ reply.Refused error
              → StaysStanding error
          by open_to may_write seen.Gone tells says = absurd tells
          by open_to may_write seen.Missing tells says =
              let it : errno.ENOENT ≡ error = cc in
              subst StaysStanding it
              (nothing_removed dirs root tree ask.caller path name chain last at.stands at.leads at.ends text names tells ∙ ap (changes tree) (permits (Err errno.ENOENT) open_to may_write))
          by open_to may_write (seen.Reserved other) tells says = absurd tells
          by open_to may_write (seen.File meta held) tells says =
              let it : errno.ENOTDIR ≡ error = cc in
              subst StaysStanding it
              (file_stays dirs root tree ask.caller path name chain last at.stands at.leads at.ends text names meta tells ∙ ap (changes tree) (permits (Err errno.ENOTDIR) open_to may_write))
          by open_to may_write (seen.Dir dir mode owner group held) tells says = cc

      -- a call that puts something under a free name, and a request that wants the name free
      module _ (asked_call : Call) (on : IsCallOn text asked_call) (after : Node)
          (told : apply tree ask.caller asked_call ≡ changes tree (permitted ask.caller chain last (if_free under after))) where
        taken : (found : Seen) → Tells found under → is_missing found ≡ false → if_free under after ≡ Err errno.EEXIST
        taken seen.Gone tells stands = absurd tells
        taken seen.Missing tells stands = cc
        taken (seen.Reserved other) tells stands = absurd tells
        taken (seen.File meta held) tells stands = rw tells refl
        taken (seen.Dir dir mode owner group held) tells stands = rw tells.1 refl

        abbrev NotPut : Errno → Type 0
        NotPut error = IsRefused tree ask.caller asked_call error

        new_name_refused : (error : Errno) → DeniesName site state ask chain name error → NotPut error
        new_name_refused error (inl closed) = closed_refused asked_call text on [] names error closed
        new_name_refused error (inr (inl is)) =
            subst NotPut (sym is.error_is)
            (told ∙ ap (changes tree) (closed_to (if_free under after) is.search (closed_at_end is.written is.ends is.closed)))
        new_name_refused error (inr (inr is)) =
            let tells = found_there is.entry is.is_asked is.found is.is_found in
            subst NotPut (sym is.denies.1)
            (told ∙ ap (changes tree) (permits (if_free under after) is.search (may_at_end is.entry is.is_asked is.allowed) ∙ taken is.found tells is.denies.0))

        -- and where it is free, the call is done
        applied : MayWrite ask.caller chain last → under ≡ None → apply tree ask.caller asked_call ≡ record { answer = answer.Done; tree = after }
        applied may free = told ∙ ap (changes tree) (permits (if_free under after) may.search may.write) ∙ rw free refl

      pub create_refused : (mode : ℕ) (error : Errno) → DeniesName site state ask chain name error → IsRefused tree ask.caller (call.Create text mode) error
      create_refused mode =
          new_name_refused (call.Create text mode) refl _ (created dirs root tree ask.caller path name chain last at.stands at.leads at.ends text names mode)

      pub reserve_refused : (mode : ℕ) (error : Errno) → DeniesName site state ask chain name error → IsRefused tree ask.caller (call.Mkdir text mode) error
      reserve_refused mode =
          new_name_refused (call.Mkdir text mode) refl _ (made dirs root tree ask.caller path name chain last at.stands at.leads at.ends text names mode)

      -- where a file is created the caller may write, and what stands then stands for the tree with the file
      pub may_create : MayPut site state ask chain name → MayWrite ask.caller chain last
      may_create may = record { search = may.search; write = may_at_end may.entry may.is_asked may.write }

      pub file_created : (mode : ℕ) (new : Directories) → MayWrite ask.caller chain last → Puts dirs new (dir_of last.access) name (a_file (new_file ask.caller mode))
          → Answers tree ask.caller (call.Create text mode) answer.Done root new
      file_created mode new may puts =
          answers_so tree ask.caller (call.Create text mode) answer.Done root new _
          (applied (call.Create text mode) refl _ (created dirs root tree ask.caller path name chain last at.stands at.leads at.ends text names mode) may puts.free)
          (file_stands dirs new root last.access tree path name at.stands (reaches dirs root path chain last at.leads at.ends) (new_file ask.caller mode) puts)

      -- the same of a directory that is linked
      pub directory_linked : (mode : ℕ) (dir : DirRef) (access : Access) (new : Directories) → MayWrite ask.caller chain last → IsNew dirs root dir
          → Puts dirs new (dir_of last.access) name (a_dir (linked (Some (dir, mode, ask.caller)) access))
          → Answers tree ask.caller (call.Mkdir text mode) answer.Done root new
      directory_linked mode dir access new may fresh puts =
          answers_so tree ask.caller (call.Mkdir text mode) answer.Done root new _
          (applied (call.Mkdir text mode) refl _ (made dirs root tree ask.caller path name chain last at.stands at.leads at.ends text names mode) may puts.free)
          (directory_stands dirs new root last.access tree path name at.stands (reaches dirs root path chain last at.leads at.ends) (linked (Some (dir, mode, ask.caller)) access) puts fresh)
