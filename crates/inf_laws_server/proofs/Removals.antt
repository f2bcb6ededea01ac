-- What removes a directory, gone through.
use Rattle.std.proofs.Common.{◌≡◌, inl, inr, ℕ, Bool, true, false, cond, ◌||◌, List, [], ◌∷◌, is_none, Option, Some, None, Result, Ok, Err, ok_or, refl, sym, ap, ◌∙◌, subst}
use Rattle.std.specs.List.{list_all}
use Rattle.inf_base.specs.declared.caller.CallRef.{CallRef}
use Rattle.inf_base.specs.declared.directory.DirRef.{DirRef}
use Rattle.inf_base.specs.declared.entry.Entry.{Entry}
use Rattle.inf_base.specs.declared.errno.Errno.TheVariants as errno
use Rattle.inf_base.specs.declared.id.Id.{Id}
use Rattle.inf_base.specs.Content.{Content, Slot}
use Rattle.inf_base.specs.Same.{dir_of}
use Rattle.inf_content.specs.Contents.{content_at, slots_at, slots_found}
use Rattle.inf_content.specs.Slot.{taker}
use Rattle.inf_content.specs.Slots.{first_taker, has_free, inside_of, or_later, unless_busy}
use Rattle.inf_content.specs.declared.inside.Inside.{Inside}
use Rattle.inf_content.specs.declared.inside.Inside.TheVariants as inside
use Rattle.inf_message.specs.declared.ask.Ask.{Ask}
use Rattle.inf_message.specs.declared.reply.Reply.{Reply}
use Rattle.inf_message.specs.declared.reply.Reply.TheVariants as reply
use Rattle.inf_message.specs.declared.reply.Spot.TheVariants as spot
use Rattle.inf_message.specs.declared.request.Request.{Request}
use Rattle.inf_message.specs.declared.request.Request.TheVariants as request
use Rattle.inf_perm.specs.declared.want.Want.TheVariants as want
use Rattle.inf_server.specs.Chains.{before_last, last_of}
use Rattle.inf_server.specs.Checks.{lets}
use Rattle.inf_server.specs.Removals.{drop_dir, forget, is_the_directory, name_in, seal, unless_inside, unlink, unseal}
use Rattle.inf_server.specs.State.{Site, State, is_here}
use Rattle.inf_laws_server.specs.Denied.{IsFull}
use Rattle.inf_laws_server.specs.Passed.{IsAsked}
use Rattle.inf_laws_server.specs.Replies.{Fails}
use Rattle.inf_laws_server.proofs.Asked.{at_directory, at_name, found_directory}
use Rattle.inf_laws_server.proofs.Came.{Came, Did}
use Rattle.inf_base.proofs.Same.{same_dir}
use Rattle.inf_laws_server.proofs.Walking.{behind_check, behind_some, behind_unit}

-- a directory in which nothing is found is empty
empty_inside : (slots : List (List ℕ × Slot)) → inside_of slots ≡ inside.Empty → slots ≡ []
empty_inside [] is = refl
empty_inside (e ∷ es) is = absurd (by_taker (taker e.1) (has_free es) is)
  where
    by_taker : (by : Option CallRef) (free : Bool) → cond (is_none by || free) inside.Full
        (unless_busy (or_later by (first_taker es))) ≡ inside.Empty → ⊥
    by_taker None free is = cc
    by_taker (Some by) true is = cc
    by_taker (Some by) false is = cc

nothing_inside : (born : ℕ) (what : Inside) → unless_inside born what ≡ Ok tt → what ≡ inside.Empty
nothing_inside born inside.Empty is = refl
nothing_inside born inside.Full is = cc
nothing_inside born (inside.Busy by) is = cc

-- a content object that is there where something stands in it
record HasInside (found : Option Content) (by : CallRef) : Type 0 where
  content : Content
  there : found ≡ Some content
  taken : first_taker content.slots ≡ Some by

has_inside : (found : Option Content) (by : CallRef) → first_taker (slots_found found) ≡ Some by → HasInside found by
has_inside None by is = cc
has_inside (Some content) by is = record { content = content; there = refl; taken = is }

module _ (site : Site) (state : State) (place : ℕ) (ask : Ask) where
  -- ---- the seal

  module _ (chain : List Entry) (parent : Entry) (above : last_of (before_last chain) ≡ Some parent) (entry : Entry)
      (is_asked : IsAsked site state ask.from (last_of chain) (chain ∷ []) entry)
      (search : list_all (lets ask.caller want.Search) (before_last chain) ≡ true)
      (write : lets ask.caller want.Write parent ≡ true) where
    abbrev slots : List (List ℕ × Slot)
    slots = slots_at (dir_of entry.access) state.contents

    abbrev why : Reply → Type 0
    why = Fails site state ask (request.Seal chain)

    inside_fails : (full : Bool) → has_free slots ≡ full → (busy : Option CallRef) → first_taker slots ≡ busy
        → (given : Reply)
        → unless_inside entry.access.born (cond full inside.Full (unless_busy busy)) ≡ Err given → why given
    inside_fails true full busy is given refused =
        let told : reply.Refused errno.ENOTEMPTY ≡ given = cc in
        subst why told (record {
          parent = parent;
          above = above;
          because = inr (inr (record {
            entry = entry;
            is_asked = is_asked;
            search = search;
            written = parent;
            ends = above;
            write = write;
            full = full;
            error_is = refl;
          }));
        })
    inside_fails false full None is given refused = cc
    inside_fails false full (Some by) is given refused =
        let told : reply.Busy by spot.Inside entry.access.born ≡ given = cc in
        let has = has_inside (content_at (dir_of entry.access) state.contents) by is in
        subst why told (inr (record {
          entry = entry;
          last = is_asked.last;
          here = is_asked.here;
          content = has.content;
          there = has.there;
          taken = has.taken;
          spot_is = refl;
        }))

  pub seal_comes : (chain : List Entry) → Came site state place ask (request.Seal chain) (seal site state ask chain)
  seal_comes chain =
      let wanted = request.Seal chain in
      let why = Fails site state ask wanted in
      let holds = Did site state place ask wanted in
      behind_some why holds (last_of (before_last chain)) reply.Other _ (λ none. tt) (λ parent above.
      at_directory site state ask wanted refl tt holds (last_of chain) (chain ∷ []) _ (λ by at stops. inl stops)
      (λ entry is_asked.
      behind_check why holds (list_all (lets ask.caller want.Search) (before_last chain)) (reply.Refused errno.EACCES) _
      (λ closed. record {
        parent = parent;
        above = above;
        because = inl (record { entry = entry; is_asked = is_asked; closed = closed; error_is = refl });
      }) (λ search.
      behind_check why holds (lets ask.caller want.Write parent) (reply.Refused errno.EACCES) _
      (λ closed. record {
        parent = parent;
        above = above;
        because = inr (inl (record {
          entry = entry;
          is_asked = is_asked;
          search = search;
          written = parent;
          ends = above;
          closed = closed;
          error_is = refl;
        }));
      }) (λ write.
      let slots = slots_at (dir_of entry.access) state.contents in
      behind_unit why holds (unless_inside entry.access.born (inside_of slots)) _
      (inside_fails chain parent above entry is_asked search write (has_free slots) refl (first_taker slots) refl)
      (λ is.
      record {
        passed = record {
          parent = parent;
          above = above;
          entry = entry;
          is_asked = is_asked;
          search = search;
          write = write;
          empty = empty_inside slots (nothing_inside entry.access.born (inside_of slots) is);
        };
        said = refl;
        did = refl;
        succeeds = refl;
      })))))

  -- ---- the unlink

  pub unlink_comes : (chain : List Entry) → Came site state place ask (request.Unlink chain)
      (unlink site state ask chain)
  unlink_comes chain =
      let wanted = request.Unlink chain in
      let why = Fails site state ask wanted in
      let holds = Did site state place ask wanted in
      behind_some why holds (last_of chain) reply.Other _ (λ none. tt) (λ target last.
      behind_some why holds (name_in target.key) reply.Other _ (λ none. tt) (λ name named.
      at_directory site state ask wanted refl tt holds (last_of (before_last chain)) (chain ∷ []) _
      (λ by at stops. inl stops) (λ entry is_asked.
      at_name site state ask wanted refl tt holds (last_of (before_last chain)) name _ entry is_asked
      (λ by at stops. inr (record { target = target; last = last; name = name; named = named; stops = stops }))
      (λ found is_found.
      behind_check why holds (is_the_directory target.access found) reply.Other _ (λ other. tt) (λ it.
      let has = found_directory ask.from (dir_of entry.access) name state.contents found is_found target.access it in
      record {
        passed = record {
          target = target;
          last = last;
          name = name;
          named = named;
          entry = entry;
          is_asked = is_asked;
          access = has.access;
          held = has.held;
          stands = has.stands;
          same = same_dir (dir_of has.access) (dir_of target.access) has.is_sought;
        };
        said = refl;
        did = refl;
        succeeds = refl;
      })))))

  -- ---- what cleans up

  pub drop_comes : (dir : DirRef) → Came site state place ask (request.Drop dir) (drop_dir site state ask dir)
  drop_comes dir =
      behind_check (Fails site state ask (request.Drop dir)) (Did site state place ask (request.Drop dir))
      (is_here site dir.id) reply.Other _
      (λ elsewhere. elsewhere) (λ here. record {
        passed = record { here = here };
        said = refl;
        did = refl;
        succeeds = refl;
      })

  pub unseal_comes : (dir : DirRef) → Came site state place ask (request.Unseal dir) (unseal site state ask dir)
  unseal_comes dir =
      behind_check (Fails site state ask (request.Unseal dir)) (Did site state place ask (request.Unseal dir))
      (is_here site dir.id) reply.Other _
      (λ elsewhere. elsewhere) (λ here. record {
        passed = record { here = here };
        said = refl;
        did = refl;
        succeeds = refl;
      })

  pub forget_comes : (parent : Id) (dir : DirRef) → Came site state place ask (request.Forget parent dir)
      (forget site state parent dir)
  forget_comes parent dir =
      behind_check (Fails site state ask (request.Forget parent dir))
      (Did site state place ask (request.Forget parent dir)) (is_here site parent) reply.Other _
      (λ elsewhere. elsewhere) (λ here. record {
        passed = record { here = here };
        said = refl;
        did = refl;
        succeeds = refl;
      })
