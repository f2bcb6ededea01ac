-- The one message of a call, gone through.
use Rattle.std.proofs.Common.{◌≡◌, inl, inr, ℕ, Bool, true, false, List, [], ◌∷◌, Option, Some, None, Result, Ok, Err, refl, ap}
use Rattle.std.specs.List.{list_all}
use Rattle.inf_base.specs.declared.caller.CallRef.{CallRef}
use Rattle.inf_base.specs.declared.entry.Entry.{Entry}
use Rattle.inf_base.specs.declared.errno.Errno.{Errno}
use Rattle.inf_base.specs.declared.errno.Errno.TheVariants as errno
use Rattle.inf_base.specs.Checks.{◌>>=◌, ◌>>◌, check}
use Rattle.inf_base.specs.Same.{dir_of}
use Rattle.inf_content.specs.declared.seen.Seen.{Seen}
use Rattle.inf_content.specs.declared.seen.Seen.TheVariants as seen
use Rattle.inf_message.specs.declared.ask.Ask.{Ask}
use Rattle.inf_message.specs.declared.op.Op.{Op}
use Rattle.inf_message.specs.declared.op.Op.TheVariants as op
use Rattle.inf_message.specs.declared.reply.Reply.{Reply}
use Rattle.inf_message.specs.declared.reply.Reply.TheVariants as reply
use Rattle.inf_message.specs.declared.reply.Spot.{Spot}
use Rattle.inf_message.specs.declared.request.Request.{Request}
use Rattle.inf_message.specs.declared.request.Request.TheVariants as request
use Rattle.inf_perm.specs.declared.want.Want.TheVariants as want
use Rattle.inf_server.specs.Chains.{last_of}
use Rattle.inf_server.specs.Checks.{asked_of, lets, searched, writable}
use Rattle.inf_server.specs.Files.{create, no_directory, rmdir_name, stat, stat_of, walk}
use Rattle.inf_server.specs.Machine.{on_op}
use Rattle.inf_server.specs.Names.{found_by, is_missing}
use Rattle.inf_server.specs.Response.{Response, done}
use Rattle.inf_server.specs.State.{Site, State}
use Rattle.inf_laws_server.specs.Blocked.{Blocks, BlocksName}
use Rattle.inf_laws_server.specs.Denied.{Denies, DeniesName}
use Rattle.inf_laws_server.specs.Passed.{IsAsked, MayPut}
use Rattle.inf_laws_server.specs.Replies.{Fails, Strays, asks_chain}
use Rattle.inf_laws_server.proofs.Asked.{at_directory, at_name, found_missing}
use Rattle.inf_laws_server.proofs.Came.{Came, Did}
use Rattle.inf_laws_server.proofs.Walking.{Comes, behind_check}

-- a name that is to be free
module _ (site : Site) (state : State) (place : ℕ) (ask : Ask) (wanted : Request) (of_chain : asks_chain wanted ≡ true)
    (strays : Strays site wanted)
    (chain : List Entry) (name : List ℕ)
    (blocks : (by : CallRef) (at : Spot) → BlocksName site state ask.from (last_of chain) name by at
    → Blocks site state ask.from wanted by at)
    (denies : (error : Errno) → DeniesName site state ask chain name error → Denies site state ask wanted error) where
  pub new_name_comes : (next : Entry → Result Response Reply)
      → ((may : MayPut site state ask chain name) → Came site state place ask wanted (next may.entry))
      → Came site state place ask wanted (asked_of site state ask.from (last_of chain) (chain ∷ [])
      >>= (λ entry. searched ask.caller chain >> (writable ask.caller entry
      >> (found_by ask.from (dir_of entry.access) name state.contents
      >>= (λ found. check (is_missing found) (reply.Refused errno.EEXIST) >> next entry)))))
  new_name_comes next rest =
      let why = Fails site state ask wanted in
      let holds = Did site state place ask wanted in
      at_directory site state ask wanted of_chain strays holds (last_of chain) (chain ∷ []) _
      (λ by at stops. blocks by at (inl stops)) (λ entry is_asked.
      behind_check why holds (list_all (lets ask.caller want.Search) chain) (reply.Refused errno.EACCES) _
      (λ closed. denies errno.EACCES (inl (record {
        entry = entry;
        is_asked = is_asked;
        closed = closed;
        error_is = refl;
      }))) (λ search.
      behind_check why holds (lets ask.caller want.Write entry) (reply.Refused errno.EACCES) _
      (λ closed. denies errno.EACCES (inr (inl (record {
        entry = entry;
        is_asked = is_asked;
        search = search;
        written = entry;
        ends = is_asked.last;
        closed = closed;
        error_is = refl;
      })))) (λ write.
      at_name site state ask wanted of_chain strays holds (last_of chain) name _ entry is_asked
      (λ by at stops. blocks by at (inr stops)) (λ found is_found.
      behind_check why holds (is_missing found) (reply.Refused errno.EEXIST) (next entry)
      (λ taken. denies errno.EEXIST (inr (inr (record {
        entry = entry;
        is_asked = is_asked;
        search = search;
        allowed = write;
        found = found;
        is_found = is_found;
        denies = (taken, refl);
      })))) (λ missing.
      rest (record {
        entry = entry;
        is_asked = is_asked;
        search = search;
        write = write;
        free = found_missing ask.from (dir_of entry.access) name state.contents found is_found missing;
      }))))))

module _ (site : Site) (state : State) (place : ℕ) (ask : Ask) (chain : List Entry) where
  abbrev finish : Op → Request
  finish with = request.Finish chain with

  pub create_comes : (name : List ℕ) (mode : ℕ) → Came site state place ask (finish (op.Create name mode))
      (create site state ask chain name mode)
  create_comes name mode =
      new_name_comes site state place ask (finish (op.Create name mode)) refl tt chain name (λ by at blocks. blocks)
      (λ error denies. denies) _
      (λ may. record { passed = may; said = refl; did = refl; succeeds = refl })

  stat_found : (name : List ℕ) (entry : Entry) → IsAsked site state ask.from (last_of chain) (chain ∷ []) entry
      → list_all (lets ask.caller want.Search) chain ≡ true
      → (found : Seen) → found_by ask.from (dir_of entry.access) name state.contents ≡ Ok found
      → Came site state place ask (finish (op.Stat name)) (stat_of found >>= (λ told. done told state))
  stat_found name entry is_asked search seen.Gone is = refl
  stat_found name entry is_asked search seen.Missing is =
      inr (record {
        entry = entry;
        is_asked = is_asked;
        search = search;
        allowed = tt;
        found = seen.Missing;
        is_found = is;
        denies = refl;
      })
  stat_found name entry is_asked search (seen.Reserved other) is = tt
  stat_found name entry is_asked search (seen.File meta held) is = record {
    passed = record {
      entry = entry;
      is_asked = is_asked;
      search = search;
      found = seen.File meta held;
      is_found = is;
      kind = _;
      meta = _;
      is_told = refl;
    };
    said = refl;
    did = refl;
    succeeds = refl;
  }
  stat_found name entry is_asked search (seen.Dir dir mode owner group held) is = record {
    passed = record {
      entry = entry;
      is_asked = is_asked;
      search = search;
      found = seen.Dir dir mode owner group held;
      is_found = is;
      kind = _;
      meta = _;
      is_told = refl;
    };
    said = refl;
    did = refl;
    succeeds = refl;
  }

  pub stat_comes : (name : List ℕ) → Came site state place ask (finish (op.Stat name)) (stat site state ask chain name)
  stat_comes name =
      let wanted = finish (op.Stat name) in
      let why = Fails site state ask wanted in
      let holds = Did site state place ask wanted in
      at_directory site state ask wanted refl tt holds (last_of chain) (chain ∷ []) _ (λ by at stops. inl stops)
      (λ entry is_asked.
      behind_check why holds (list_all (lets ask.caller want.Search) chain) (reply.Refused errno.EACCES) _
      (λ closed. inl (record { entry = entry; is_asked = is_asked; closed = closed; error_is = refl })) (λ search.
      at_name site state ask wanted refl tt holds (last_of chain) name _ entry is_asked (λ by at stops. inr stops)
      (stat_found name entry is_asked search)))

  walk_found : (name : List ℕ) (entry : Entry) → IsAsked site state ask.from (last_of chain) (chain ∷ []) entry
      → list_all (lets ask.caller want.Search) chain ≡ true
      → (found : Seen) → found_by ask.from (dir_of entry.access) name state.contents ≡ Ok found
      → Came site state place ask (finish (op.Walk name)) (Err (no_directory found))
  walk_found name entry is_asked search seen.Gone is = refl
  walk_found name entry is_asked search seen.Missing is =
      inr (record {
        entry = entry;
        is_asked = is_asked;
        search = search;
        allowed = tt;
        found = seen.Missing;
        is_found = is;
        denies = refl;
      })
  walk_found name entry is_asked search (seen.Reserved other) is = tt
  walk_found name entry is_asked search (seen.File meta held) is =
      inr (record {
        entry = entry;
        is_asked = is_asked;
        search = search;
        allowed = tt;
        found = seen.File meta held;
        is_found = is;
        denies = refl;
      })
  walk_found name entry is_asked search (seen.Dir dir mode owner group held) is = tt

  pub walk_comes : (name : List ℕ) → Came site state place ask (finish (op.Walk name)) (walk site state ask chain name)
  walk_comes name =
      let wanted = finish (op.Walk name) in
      let why = Fails site state ask wanted in
      let holds = Did site state place ask wanted in
      at_directory site state ask wanted refl tt holds (last_of chain) (chain ∷ []) _ (λ by at stops. inl stops)
      (λ entry is_asked.
      behind_check why holds (list_all (lets ask.caller want.Search) chain) (reply.Refused errno.EACCES) _
      (λ closed. inl (record { entry = entry; is_asked = is_asked; closed = closed; error_is = refl })) (λ search.
      at_name site state ask wanted refl tt holds (last_of chain) name _ entry is_asked (λ by at stops. inr stops)
      (walk_found name entry is_asked search)))

  none_found : (name : List ℕ) (entry : Entry) → IsAsked site state ask.from (last_of chain) (chain ∷ []) entry
      → list_all (lets ask.caller want.Search) chain ≡ true
      → lets ask.caller want.Write entry ≡ true
      → (found : Seen) → found_by ask.from (dir_of entry.access) name state.contents ≡ Ok found
      → Came site state place ask (finish (op.RmdirName name)) (Err (no_directory found))
  none_found name entry is_asked search write seen.Gone is = refl
  none_found name entry is_asked search write seen.Missing is =
      inr (inr (record {
        entry = entry;
        is_asked = is_asked;
        search = search;
        allowed = write;
        found = seen.Missing;
        is_found = is;
        denies = refl;
      }))
  none_found name entry is_asked search write (seen.Reserved other) is = tt
  none_found name entry is_asked search write (seen.File meta held) is =
      inr (inr (record {
        entry = entry;
        is_asked = is_asked;
        search = search;
        allowed = write;
        found = seen.File meta held;
        is_found = is;
        denies = refl;
      }))
  none_found name entry is_asked search write (seen.Dir dir mode owner group held) is = tt

  pub rmdir_name_comes : (name : List ℕ) → Came site state place ask (finish (op.RmdirName name))
      (rmdir_name site state ask chain name)
  rmdir_name_comes name =
      let wanted = finish (op.RmdirName name) in
      let why = Fails site state ask wanted in
      let holds = Did site state place ask wanted in
      at_directory site state ask wanted refl tt holds (last_of chain) (chain ∷ []) _ (λ by at stops. inl stops)
      (λ entry is_asked.
      behind_check why holds (list_all (lets ask.caller want.Search) chain) (reply.Refused errno.EACCES) _
      (λ closed. inl (record { entry = entry; is_asked = is_asked; closed = closed; error_is = refl })) (λ search.
      behind_check why holds (lets ask.caller want.Write entry) (reply.Refused errno.EACCES) _
      (λ closed. inr (inl (record {
        entry = entry;
        is_asked = is_asked;
        search = search;
        written = entry;
        ends = is_asked.last;
        closed = closed;
        error_is = refl;
      }))) (λ write.
      at_name site state ask wanted refl tt holds (last_of chain) name _ entry is_asked (λ by at stops. inr stops)
      (none_found name entry is_asked search write))))

  pub op_comes : (with : Op) → Came site state place ask (finish with) (on_op site state ask chain with)
  op_comes (op.Create name mode) = create_comes name mode
  op_comes (op.Stat name) = stat_comes name
  op_comes (op.Walk name) = walk_comes name
  op_comes (op.RmdirName name) = rmdir_name_comes name
  op_comes other_op = tt
