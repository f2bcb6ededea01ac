-- What a request that is replied Busy met at the server: it touches what was asked for.
use Rattle.std.proofs.Common.{◌≡◌, ◌⊎◌, inl, inr, ℕ, Bool, true, false, cond, ◌||◌, List, [], ◌∷◌, Option, Some, None, is_some, nat_cmp, refl, sym, ap, ◌∙◌, subst}
use Rattle.std.specs.BTreeMap.{is_at}
use Rattle.std.specs.Cmp.Lexicographic.{slice_cmp}
use Rattle.std.specs.List.{list_any}
use Rattle.std.proofs.lemmas.Bool.{or_left, or_right}
use Rattle.inf_base.specs.declared.caller.CallRef.{CallRef}
use Rattle.inf_base.specs.declared.directory.DirRef.{DirRef}
use Rattle.inf_base.specs.declared.entry.Entry.{Entry}
use Rattle.inf_base.specs.declared.id.Id.{Id}
use Rattle.inf_base.specs.declared.key.LookKey.{LookKey}
use Rattle.inf_base.specs.declared.key.LookKey.TheVariants as look
use Rattle.inf_base.specs.declared.triple.Triple.{Triple}
use Rattle.inf_base.specs.Content.{Content, Hold, Slot, TopAccess, reserved, file, directory}
use Rattle.inf_base.specs.Same.{dir_of, is_same_call}
use Rattle.inf_base.proofs.Same.{same_call_self}
use Rattle.inf_content.specs.Contents.{content_at, content_of_id, slots_found}
use Rattle.inf_content.specs.Order.{AreInOrder, NamesRise}
use Rattle.inf_content.specs.Slot.{holder, taker}
use Rattle.inf_content.specs.Slots.{first, first_taker, or_later, slot_in}
use Rattle.inf_laws_server.specs.Blocked.{Blocks, BlocksLookup, BlocksName, BlocksOp, IsBorne, IsLookSealed, IsLookTaken, IsSealedBy, IsTakenBy, IsTopHeld, StopsAtName, StopsAtSeal, StopsAtTarget, StopsInside}
use Rattle.inf_laws_history.specs.Flight.{asked_content, holds, if_name_taken, is_of, is_sealed_by, is_taken, name_taken, slot_taken, some_taken, target_name, touches}
use Rattle.inf_message.specs.declared.op.Op.{Op}
use Rattle.inf_message.specs.declared.op.Op.TheVariants as op
use Rattle.inf_message.specs.declared.reply.Spot.{Spot}
use Rattle.inf_message.specs.declared.reply.Spot.TheVariants as spot
use Rattle.inf_message.specs.declared.request.Request.{Request}
use Rattle.inf_message.specs.declared.request.Request.TheVariants as request
use Rattle.inf_server.specs.Chains.{before_last, last_of}
use Rattle.inf_server.specs.Removals.{seal}
use Rattle.inf_server.specs.State.{Site, State}
use Rattle.inf_laws_directory.proofs.ContentFacts.{slots_sorted}
use Rattle.inf_laws_directory.proofs.SlotFacts.{first_is_changed}

pub record HasSealed (site : Site) (state : State) (by : CallRef) : Type 0 where
  pub dir : DirRef
  pub is : IsSealedBy site state dir by

pub record HasTaken (site : Site) (state : State) (by : CallRef) : Type 0 where
  pub dir : DirRef
  pub name : List ℕ
  pub is : IsTakenBy site state dir name by

-- requests that calls send which have nothing in hand
abbrev pub IsFirst : Request → Type 0
IsFirst (request.Lookup k) = Unit {0}
IsFirst (request.Seal chain) = Unit {0}
IsFirst other_request = ⊥

-- a slot or a seal of the call is in the way
pub record IsInTheWay (site : Site) (state : State) (from : CallRef) (asked : Request) (by : CallRef) (at : Spot) : Type 0 where
  pub touched : touches by at asked state ≡ true
  pub owned : HasSealed site state by ⊎ HasTaken site state by
  pub apart : (is_same_call by from ≡ false) ⊎ IsFirst asked

-- the directory that is to be made is there already
pub record IsBornAlready (site : Site) (state : State) (asked : Request) (by : CallRef) (at : Spot) : Type 0 where
  pub birth : Triple
  pub is_make : asked ≡ request.Make birth
  pub is : IsBorne site state birth by at

abbrev pub IsBlocked : Site → State → CallRef → Request → CallRef → Spot → Type 0
IsBlocked site state from asked by at = IsInTheWay site state from asked by at ⊎ IsBornAlready site state asked by at

-- ---- what touches

pub is_of_self : (by : CallRef) → is_of by (Some by) ≡ true
is_of_self by = same_call_self by

held_takes : (by : CallRef) (held : Option Hold) → holder held ≡ Some by → holds by held ≡ true
held_takes by None is = cc
held_takes by (Some hold) is = let same : hold.by ≡ by = cc in subst (λ (c : CallRef). is_same_call c by ≡ true) (sym same) (same_call_self by)

pub takes : (by : CallRef) (slot : Slot) → taker slot ≡ Some by → is_taken by slot ≡ true
takes by (reserved other access) is = let same : other ≡ by = cc in subst (λ (c : CallRef). is_same_call c by ≡ true) (sym same) (same_call_self by)
takes by (file meta held) is = held_takes by held is
takes by (directory access held) is = held_takes by held is

pub sealed_touches : (by : CallRef) (found : Option Content) (content : Content) → found ≡ Some content → content.seal ≡ Some by → is_sealed_by by found ≡ true
sealed_touches by found content there seal = ap (is_sealed_by by) there ∙ ap (is_of by) seal ∙ is_of_self by

pub slot_touches : (by : CallRef) (name : List ℕ) (found : Option Content) (content : Content) (slot : Slot) → found ≡ Some content
    → slot_in name content.slots ≡ Some slot → taker slot ≡ Some by → name_taken by name found ≡ true
slot_touches by name found content slot there is taken = ap (name_taken by name) there ∙ ap (slot_taken by) is ∙ takes by slot taken

module _ (site : Site) (state : State) (from : CallRef) (wanted : Request) where
  abbrev Way : CallRef → Spot → Type 0
  Way = IsInTheWay site state from wanted

  from_seal : (last : Option Entry) → ((by : CallRef) → touches by spot.Sealed wanted state ≡ is_sealed_by by (asked_content state last))
      → (by : CallRef) (at : Spot) → StopsAtSeal site state from last by at → Way by at
  from_seal last reads by at stops = record {
    touched = ap (λ (s : Spot). touches by s wanted state) stops.spot_is ∙ reads by ∙ ap (λ (e : Option Entry). is_sealed_by by (asked_content state e)) stops.last
        ∙ sealed_touches by (content_at (dir_of stops.entry.access) state.contents) stops.is_sealed.content stops.is_sealed.there stops.is_sealed.seal;
    owned = inl (record { dir = dir_of stops.entry.access; is = stops.is_sealed });
    apart = inl stops.apart;
  }

  from_name : (last : Option Entry) (name : List ℕ) → ((by : CallRef) → touches by spot.Slot wanted state ≡ name_taken by name (asked_content state last))
      → (by : CallRef) (at : Spot) → StopsAtName site state from last name by at → Way by at
  from_name last name reads by at stops =
      let taken = stops.is_taken in
      record {
        touched = ap (λ (s : Spot). touches by s wanted state) stops.spot_is ∙ reads by
            ∙ ap (λ (e : Option Entry). name_taken by name (asked_content state e)) stops.last
            ∙ slot_touches by name (content_at (dir_of stops.entry.access) state.contents) taken.content taken.slot taken.there taken.found taken.taken;
        owned = inr (record { dir = dir_of stops.entry.access; name = name; is = taken });
        apart = inl stops.apart;
      }

  -- the directory asked, and a name of it
  from_either : (last : Option Entry) (name : List ℕ) → ((by : CallRef) → touches by spot.Sealed wanted state ≡ is_sealed_by by (asked_content state last))
      → ((by : CallRef) → touches by spot.Slot wanted state ≡ name_taken by name (asked_content state last))
      → (by : CallRef) (at : Spot) → BlocksName site state from last name by at → Way by at
  from_either last name seals takes by at (inl stops) = from_seal last seals by at stops
  from_either last name seals takes by at (inr stops) = from_name last name takes by at stops

-- ---- what stands inside

record HasInside (content : Content) (by : CallRef) : Type 0 where
  name : List ℕ
  slot : Slot
  stands : slot_in name content.slots ≡ Some slot
  taken : taker slot ≡ Some by

abbrev is_some_taker : Slot → Bool
is_some_taker slot = is_some (taker slot)

record IsFirstTaker (slots : List (List ℕ × Slot)) (by : CallRef) : Type 0 where
  found : List ℕ × Slot
  is : first is_some_taker slots ≡ Some found
  taken : taker found.1 ≡ Some by

first_taker_is : (slots : List (List ℕ × Slot)) (by : CallRef) → first_taker slots ≡ Some by → IsFirstTaker slots by
first_taker_is [] by is = cc
first_taker_is (e ∷ es) by is = by_taker (taker e.1) refl is (first_taker_is es by)
  where
    by_taker : (found : Option CallRef) → taker e.1 ≡ found → or_later found (first_taker es) ≡ Some by
        → (first_taker es ≡ Some by → IsFirstTaker es by) → IsFirstTaker (e ∷ es) by
    by_taker None none is later =
        let rest = later is in
        record { found = rest.found; is = ap (λ (o : Option CallRef). cond (is_some o) (Some e) (first is_some_taker es)) none ∙ rest.is; taken = rest.taken }
    by_taker (Some other) takes is later =
        record { found = e; is = ap (λ (o : Option CallRef). cond (is_some o) (Some e) (first is_some_taker es)) takes; taken = takes ∙ is }

has_inside : (content : Content) (by : CallRef) → NamesRise content.slots → first_taker content.slots ≡ Some by → HasInside content by
has_inside content by sorted is =
    let takes = first_taker_is content.slots by is in
    let stands = first_is_changed is_some_taker (λ slot. slot) content.slots takes.found sorted takes.is in
    record { name = takes.found.0; slot = takes.found.1; stands = stands.old; taken = takes.taken }

pub any_at : (P : Slot → Bool) (name : List ℕ) (slots : List (List ℕ × Slot)) (slot : Slot) → slot_in name slots ≡ Some slot → P slot ≡ true
    → list_any (λ (e : List ℕ × Slot). P e.1) slots ≡ true
any_at P name [] slot is holds_there = cc
any_at P name (e ∷ es) slot is holds_there = by_name (is_at (slice_cmp nat_cmp name) e.0) is (any_at P name es slot)
  where
    by_name : (b : Bool) → cond b (Some e.1) (slot_in name es) ≡ Some slot
        → (slot_in name es ≡ Some slot → P slot ≡ true → list_any (λ (x : List ℕ × Slot). P x.1) es ≡ true)
        → (P e.1 || list_any (λ (x : List ℕ × Slot). P x.1) es) ≡ true
    by_name true here later = let same : e.1 ≡ slot = cc in or_left (P e.1) _ (ap P same ∙ holds_there)
    by_name false here later = or_right (P e.1) _ (later here holds_there)

some_touches : (by : CallRef) (found : Option Content) (content : Content) → found ≡ Some content → HasInside content by → some_taken by found ≡ true
some_touches by found content there inside_it =
    ap (some_taken by) there ∙ any_at (is_taken by) inside_it.name content.slots inside_it.slot inside_it.stands (takes by inside_it.slot inside_it.taken)

module _ (site : Site) (state : State) (from : CallRef) where
  abbrev Blocked : Request → CallRef → Spot → Type 0
  Blocked asked = IsInTheWay site state from asked

  -- ---- the one message of a call

  op_busy : (chain : List Entry) (asked : Op) (by : CallRef) (at : Spot) → BlocksOp site state from chain asked by at
      → Blocked (request.Finish chain asked) by at
  op_busy chain (op.Create name mode) by at blocks = from_either site state from _ (last_of chain) name (λ by. refl) (λ by. refl) by at blocks
  op_busy chain (op.Stat name) by at blocks = from_either site state from _ (last_of chain) name (λ by. refl) (λ by. refl) by at blocks
  op_busy chain (op.Walk name) by at blocks = from_either site state from _ (last_of chain) name (λ by. refl) (λ by. refl) by at blocks
  op_busy chain (op.RmdirName name) by at blocks = from_either site state from _ (last_of chain) name (λ by. refl) (λ by. refl) by at blocks
  op_busy chain other_op by at blocks = absurd blocks

  -- ---- removals

  unlink_busy : (chain : List Entry) (by : CallRef) (at : Spot)
      → StopsAtSeal site state from (last_of (before_last chain)) by at ⊎ StopsAtTarget site state from chain by at → Blocked (request.Unlink chain) by at
  unlink_busy chain by at (inl stops) = from_seal site state from _ (last_of (before_last chain)) (λ by. refl) by at stops
  unlink_busy chain by at (inr target) =
      from_name site state from _ (last_of (before_last chain)) target.name
      (λ by. ap (λ (n : Option (List ℕ)). if_name_taken by n (asked_content state (last_of (before_last chain)))) (ap target_name target.last ∙ target.named))
      by at target.stops

  inside_way : (chain : List Entry) (by : CallRef) (at : Spot) → AreInOrder state.contents → StopsInside site state (last_of chain) by at
      → Blocked (request.Seal chain) by at
  inside_way chain by at ordered stops =
      let dir = dir_of stops.entry.access in
      let sorted : NamesRise stops.content.slots = subst NamesRise (ap slots_found stops.there) (slots_sorted dir state.contents ordered.names) in
      let has = has_inside stops.content by sorted stops.taken in
      record {
        touched = ap (λ (s : Spot). touches by s (request.Seal chain) state) stops.spot_is
            ∙ ap (λ (e : Option Entry). some_taken by (asked_content state e)) stops.last
            ∙ some_touches by (content_at dir state.contents) stops.content stops.there has;
        owned = inr (record {
          dir = dir;
          name = has.name;
          is = record { content = stops.content; here = stops.here; there = stops.there; slot = has.slot; found = has.stands; taken = has.taken };
        });
        apart = inr tt;
      }

  seal_busy : (chain : List Entry) (by : CallRef) (at : Spot) → AreInOrder state.contents
      → StopsAtSeal site state from (last_of chain) by at ⊎ StopsInside site state (last_of chain) by at → Blocked (request.Seal chain) by at
  seal_busy chain by at ordered (inl stops) = from_seal site state from _ (last_of chain) (λ by. refl) by at stops
  seal_busy chain by at ordered (inr stops) = inside_way chain by at ordered stops

  -- ---- lookups

  abbrev IsTopFree : Type 0
  IsTopFree = (top : TopAccess) → state.top ≡ Some top → top.held ≡ None

  top_busy : (by : CallRef) (at : Spot) → IsTopFree → IsTopHeld state by at → ⊥
  top_busy by at free stops = let none : holder stops.top.held ≡ None = ap holder (free stops.top stops.is_top) in let held = stops.held in cc

  at_busy : (id : Id) (name : List ℕ) (by : CallRef) (at : Spot) → IsLookSealed site state id by at ⊎ IsLookTaken site state id name by at
      → Blocked (request.Lookup (look.At id name)) by at
  at_busy id name by at (inl stops) = record {
    touched = ap (λ (s : Spot). touches by s (request.Lookup (look.At id name)) state) stops.spot_is
        ∙ sealed_touches by (content_of_id id state.contents) stops.is_sealed.content stops.of_id stops.is_sealed.seal;
    owned = inl (record { dir = stops.dir; is = stops.is_sealed });
    apart = inr tt;
  }
  at_busy id name by at (inr stops) =
      let taken = stops.is_taken in
      record {
        touched = ap (λ (s : Spot). touches by s (request.Lookup (look.At id name)) state) stops.spot_is
            ∙ slot_touches by name (content_of_id id state.contents) taken.content taken.slot stops.of_id taken.found taken.taken;
        owned = inr (record { dir = stops.dir; name = name; is = taken });
        apart = inr tt;
      }

  lookup_busy : (sought : LookKey) (by : CallRef) (at : Spot) → IsTopFree → BlocksLookup site state sought by at → Blocked (request.Lookup sought) by at
  lookup_busy look.Top by at free stops = absurd (top_busy by at free stops)
  lookup_busy (look.At id name) by at free stops = at_busy id name by at stops

  -- ---- all requests

  pub request_busy : (asked : Request) → AreInOrder state.contents → IsTopFree → (by : CallRef) (at : Spot) → Blocks site state from asked by at
      → IsBlocked site state from asked by at
  request_busy (request.Lookup sought) ordered free by at blocks = inl (lookup_busy sought by at free blocks)
  request_busy (request.Finish chain asked) ordered free by at blocks = inl (op_busy chain asked by at blocks)
  request_busy (request.Reserve chain name) ordered free by at blocks =
      inl (from_either site state from _ (last_of chain) name (λ by. refl) (λ by. refl) by at blocks)
  request_busy (request.Make birth) ordered free by at blocks = inr (record { birth = birth; is_make = refl; is = blocks })
  request_busy (request.Link chain name dir mode) ordered free by at blocks = inl (from_seal site state from _ (last_of chain) (λ by. refl) by at blocks)
  request_busy (request.Seal chain) ordered free by at blocks = inl (seal_busy chain by at ordered blocks)
  request_busy (request.Unlink chain) ordered free by at blocks = inl (unlink_busy chain by at blocks)
  request_busy other_request ordered free by at blocks = absurd blocks
