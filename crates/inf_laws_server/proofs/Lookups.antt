-- Lookups, gone through.
use Rattle.std.proofs.Common.{◌≡◌, inl, inr, ℕ, ◌==◌, Bool, true, false, cond, List, [], ◌∷◌, Option, Some, None, Result, Ok, Err, ok_or, refl, sym, ap, ◌∙◌, subst}
use Rattle.inf_base.specs.declared.caller.CallRef.{CallRef}
use Rattle.inf_base.specs.declared.directory.DirRef.{DirRef}
use Rattle.inf_base.specs.declared.id.Id.{Id}
use Rattle.inf_base.specs.declared.key.LookKey.{LookKey}
use Rattle.inf_base.specs.declared.key.LookKey.TheVariants as look
use Rattle.inf_base.specs.Checks.{◌>>=◌, ◌>>◌, check}
use Rattle.inf_base.specs.Content.{Content, Hold, Slot, TopAccess, reserved, file, directory}
use Rattle.inf_content.specs.Contents.{born_of, content_at, content_of_id, if_born, seal_of, slots_at, slots_found}
use Rattle.inf_content.specs.Slot.{holder, taker}
use Rattle.inf_content.specs.Slots.{slot_in}
use Rattle.inf_message.specs.declared.ask.Ask.{Ask}
use Rattle.inf_message.specs.declared.reply.Reply.{Reply}
use Rattle.inf_message.specs.declared.reply.Reply.TheVariants as reply
use Rattle.inf_message.specs.declared.reply.Spot.TheVariants as spot
use Rattle.inf_message.specs.declared.request.Request.{Request}
use Rattle.inf_message.specs.declared.request.Request.TheVariants as request
use Rattle.inf_server.specs.Lookups.{lookup_at, lookup_top, told_of, unheld, unless_sealed}
use Rattle.inf_server.specs.Machine.{on_lookup}
use Rattle.inf_server.specs.Names.{in_the_way}
use Rattle.inf_server.specs.Response.{Response, done}
use Rattle.inf_server.specs.State.{Site, State, is_here, root_id}
use Rattle.inf_laws_server.specs.CameTo.{IsDone}
use Rattle.inf_laws_server.specs.Replies.{Fails, Succeeds}
use Rattle.inf_laws_server.proofs.Came.{Came, Did}
use Rattle.inf_laws_server.proofs.Walking.{Comes, behind, behind_check, behind_some, behind_unit}

-- a content object found by its birth is the one of its identifier
of_birth : (born : ℕ) (found : Option Content) (content : Content) → if_born born found ≡ Some content
    → found ≡ Some content
of_birth born None content is = cc
of_birth born (Some c) content is = by (c.dir.born == born) is
  where
    by : (b : Bool) → cond b (Some c) None ≡ Some content → Some c ≡ Some content
    by true is = is
    by false is = cc

record HasSealer (found : Option Content) (by : CallRef) : Type 0 where
  content : Content
  there : found ≡ Some content
  seal : content.seal ≡ Some by

has_sealer : (found : Option Content) (by : CallRef) → seal_of found ≡ Some by → HasSealer found by
has_sealer None by is = cc
has_sealer (Some content) by is = record { content = content; there = refl; seal = is }

record HasSlot (found : Option Content) (name : List ℕ) (slot : Slot) : Type 0 where
  content : Content
  there : found ≡ Some content
  stands : slot_in name content.slots ≡ Some slot

has_slot : (found : Option Content) (name : List ℕ) (slot : Slot) → slot_in name (slots_found found) ≡ Some slot
    → HasSlot found name slot
has_slot None name slot is = absurd cc
has_slot (Some content) name slot is = record { content = content; there = refl; stands = is }

module _ (site : Site) (state : State) (place : ℕ) (ask : Ask) where
  -- ---- the root

  abbrev of_top : Request
  of_top = request.Lookup look.Top

  top_held : (top : TopAccess) → state.top ≡ Some top → (held : Option CallRef) → holder top.held ≡ held
      → (given : Reply)
      → unheld 0 held ≡ Err given → Fails site state ask of_top given
  top_held top is None free given refused = cc
  top_held top is (Some by) held given refused =
      let told : in_the_way by 0 ≡ given = cc in
      subst (Fails site state ask of_top) told (record { top = top; is_top = is; held = held; spot_is = refl })

  pub top_comes : Came site state place ask of_top (lookup_top site state)
  top_comes =
      let why = Fails site state ask of_top in
      let holds = Did site state place ask of_top in
      behind_check why holds (is_here site (root_id site)) reply.Other _ (λ elsewhere. tt) (λ here.
      behind_some why holds state.top reply.Other _ (λ none. tt) (λ top is_top.
      behind_unit why holds (unheld 0 (holder top.held)) _ (top_held top is_top (holder top.held) refl) (λ free.
      record {
        passed = record { here = here; top = top; is_top = is_top; free = free };
        said = refl;
        did = refl;
        succeeds = refl;
      })))

  -- ---- names

  module _ (id : Id) (name : List ℕ) (here : is_here site id ≡ true) (birth : ℕ) where
    abbrev of_name : Request
    of_name = request.Lookup (look.At id name)

    abbrev why : Reply → Type 0
    why = Fails site state ask of_name

    abbrev dir : DirRef
    dir = record { id = id; born = birth }

    sealed : (seal : Option CallRef) → seal_of (content_at dir state.contents) ≡ seal → (given : Reply)
        → unless_sealed birth seal ≡ Err given → why given
    sealed None is given refused = cc
    sealed (Some by) is given refused =
        let told : reply.Busy by spot.Sealed birth ≡ given = cc in
        let has = has_sealer (content_at dir state.contents) by is in
        subst why told (inl (record {
          dir = dir;
          is_sealed = record { content = has.content; here = here; there = has.there; seal = has.seal };
          of_id = of_birth birth (content_of_id id state.contents) has.content has.there;
          spot_is = refl;
        }))

    taken : (by : CallRef) (slot : Slot) → slot_in name (slots_at dir state.contents) ≡ Some slot → taker slot ≡ Some by
        → why (in_the_way by birth)
    taken by slot is takes =
        let has = has_slot (content_at dir state.contents) name slot is in
        inr (record {
          dir = dir;
          is_taken =
              record {
                content = has.content;
                here = here;
                there = has.there;
                slot = slot;
                found = has.stands;
                taken = takes;
              };
          of_id = of_birth birth (content_of_id id state.contents) has.content has.there;
          spot_is = refl;
        })

    held : (slot : Slot) → slot_in name (slots_at dir state.contents) ≡ Some slot → (by : Option CallRef)
        → taker slot ≡ by → (given : Reply)
        → unheld birth by ≡ Err given → why given
    held slot is None free given refused = cc
    held slot is (Some by) takes given refused =
        let told : in_the_way by birth ≡ given = cc in
        subst why told (taken by slot is takes)

    abbrev Tells : Reply → Type 0
    Tells told = Succeeds told of_name

    told_comes : (slot : Option Slot) → slot_in name (slots_at dir state.contents) ≡ slot
        → Comes why Tells (told_of dir name slot)
    told_comes None is = refl
    told_comes (Some (reserved by access)) is = taken by (reserved by access) is refl
    told_comes (Some (file meta kept)) is =
        behind_unit why Tells (unheld birth (holder kept)) _ (held (file meta kept) is (holder kept) refl)
        (λ free. refl)
    told_comes (Some (directory access kept)) is =
        behind_unit why Tells (unheld birth (holder kept)) _ (held (directory access kept) is (holder kept) refl)
        (λ free. record { dir = dir; same_id = refl; is_key = refl })

    in_directory : born_of (content_of_id id state.contents) ≡ Some birth
        → Came site state place ask of_name (unless_sealed birth (seal_of (content_at dir state.contents))
        >> (told_of dir name (slot_in name (slots_at dir state.contents)) >>= (λ told. done told state)))
    in_directory is_born =
        let holds = Did site state place ask of_name in
        behind_unit why holds (unless_sealed birth (seal_of (content_at dir state.contents))) _
        (sealed (seal_of (content_at dir state.contents)) refl) (λ free.
        behind why Tells holds (told_of dir name (slot_in name (slots_at dir state.contents))) _
        (told_comes (slot_in name (slots_at dir state.contents)) refl) (λ told is_told tells.
        record {
          passed =
              record {
                here = here;
                dir = dir;
                of_id = refl;
                is_born = is_born;
                free = free;
                told = told;
                is_told = is_told;
              };
          said = refl;
          did = refl;
          succeeds = tells;
        }))

  pub name_comes : (id : Id) (name : List ℕ) → Came site state place ask (request.Lookup (look.At id name))
      (lookup_at site state id name)
  name_comes id name =
      let asked = request.Lookup (look.At id name) in
      let why = Fails site state ask asked in
      let holds = Did site state place ask asked in
      behind_check why holds (is_here site id) reply.Other _ (λ elsewhere. tt) (λ here.
      behind_some why holds (born_of (content_of_id id state.contents)) reply.NoDir _ (λ none. refl) (λ birth is_born.
      in_directory id name here birth is_born))

  pub lookup_comes : (sought : LookKey) → Came site state place ask (request.Lookup sought)
      (on_lookup site state sought)
  lookup_comes look.Top = top_comes
  lookup_comes (look.At id name) = name_comes id name
