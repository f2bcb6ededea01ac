-- The directory asked, and what a call finds under a name of it.
use Rattle.std.proofs.Common.{◌≡◌, ℕ, Bool, true, false, cond, List, Option, Some, None, is_some, Result, Ok, Err, ok_or, refl, sym, ap, subst}
use Rattle.std.specs.List.{list_all}
use Rattle.inf_base.specs.declared.access.Access.{Access}
use Rattle.inf_base.specs.declared.caller.CallRef.{CallRef}
use Rattle.inf_base.specs.declared.directory.DirRef.{DirRef}
use Rattle.inf_base.specs.declared.entry.Entry.{Entry}
use Rattle.inf_base.specs.Checks.{◌>>=◌, ◌>>◌, check}
use Rattle.inf_base.specs.Content.{Content, Hold, Slot, reserved, file, directory}
use Rattle.inf_base.specs.Same.{dir_of, is_same_call, is_same_dir}
use Rattle.inf_content.specs.Contents.{content_at, look, seal_of, seen_in, slots_at, slots_found}
use Rattle.inf_content.specs.Slot.{holder, taker}
use Rattle.inf_content.specs.Slots.{seen_of, slot_in}
use Rattle.inf_content.specs.declared.seen.Seen.{Seen}
use Rattle.inf_content.specs.declared.seen.Seen.TheVariants as seen
use Rattle.inf_message.specs.declared.ask.Ask.{Ask}
use Rattle.inf_message.specs.declared.reply.Reply.{Reply}
use Rattle.inf_message.specs.declared.reply.Reply.TheVariants as reply
use Rattle.inf_message.specs.declared.reply.Spot.{Spot}
use Rattle.inf_message.specs.declared.reply.Spot.TheVariants as spot
use Rattle.inf_message.specs.declared.request.Request.{Request}
use Rattle.inf_server.specs.Chains.{has_entry}
use Rattle.inf_server.specs.Checks.{asked_of, unsealed}
use Rattle.inf_server.specs.Names.{found_by, in_the_way, is_missing, unless_held, unless_taken}
use Rattle.inf_server.specs.Removals.{is_the_directory}
use Rattle.inf_server.specs.State.{Site, State, is_here}
use Rattle.inf_laws_server.specs.Blocked.{Blocks, IsSealedBy, IsTakenBy, StopsAtName, StopsAtSeal}
use Rattle.inf_laws_server.specs.Passed.{IsAsked}
use Rattle.inf_laws_server.specs.Replies.{Fails, Strays, asks_chain}
use Rattle.inf_laws_server.proofs.Walking.{Anything, Comes, behind, behind_check, behind_some, behind_unit, weaken}

-- ---- the directory asked

abbrev FailsAsked : Site → State → CallRef → Option Entry → Reply → Type 0
FailsAsked site state from asked reply.Other = Unit {0}
FailsAsked site state from asked reply.Gone = Unit {0}
FailsAsked site state from asked (reply.Busy by at born) = StopsAtSeal site state from asked by at
FailsAsked site state from asked other_reply = ⊥

record HasSeal (found : Option Content) (by : CallRef) : Type 0 where
  content : Content
  there : found ≡ Some content
  seal : content.seal ≡ Some by

has_seal : (found : Option Content) (by : CallRef) → seal_of found ≡ Some by → HasSeal found by
has_seal None by is = cc
has_seal (Some content) by is = record { content = content; there = refl; seal = is }

-- a seal of another call
sealed_by_other : (site : Site) (state : State) (from : CallRef) (asked : Option Entry) (entry : Entry)
    → asked ≡ Some entry
    → is_here site entry.access.id ≡ true → (seal : Option CallRef)
    → seal_of (content_at (dir_of entry.access) state.contents) ≡ seal
    → (given : Reply) → unsealed from entry.access.born seal ≡ Err given → FailsAsked site state from asked given
sealed_by_other site state from asked entry last here None is given refused = cc
sealed_by_other site state from asked entry last here (Some sealer) is given refused =
    by_call (is_same_call sealer from) refl refused
  where
    by_call : (b : Bool) → is_same_call sealer from ≡ b → check b (reply.Busy sealer spot.Sealed entry.access.born)
        ≡ Err given
        → FailsAsked site state from asked given
    by_call true same refused = cc
    by_call false apart refused =
        let told : reply.Busy sealer spot.Sealed entry.access.born ≡ given = cc in
        let seals = has_seal (content_at (dir_of entry.access) state.contents) sealer is in
        subst (λ (r : Reply). FailsAsked site state from asked r) told (record {
          entry = entry;
          last = last;
          is_sealed = record { content = seals.content; here = here; there = seals.there; seal = seals.seal };
          spot_is = refl;
          apart = apart;
        })

module _ (site : Site) (state : State) (from : CallRef) (sought : Option Entry) (carried : List (List Entry)) where
  abbrev FailsSought : Reply → Type 0
  FailsSought = FailsAsked site state from sought

  abbrev IsSought : Entry → Type 0
  IsSought = IsAsked site state from sought carried

  asked_comes : Comes FailsSought IsSought (asked_of site state from sought carried)
  asked_comes =
      behind_some FailsSought IsSought sought reply.Other _ (λ none. tt) (λ entry last.
      behind_check FailsSought IsSought (is_here site entry.access.id) reply.Other _ (λ elsewhere. tt) (λ here.
      behind_check FailsSought IsSought (list_all has_entry carried) reply.Other _ (λ empty. tt) (λ carries.
      let found = content_at (dir_of entry.access) state.contents in
      behind_check FailsSought IsSought (is_some found) reply.Gone _ (λ gone. tt) (λ there.
      behind_unit FailsSought IsSought (unsealed from entry.access.born (seal_of found)) _
      (sealed_by_other site state from sought entry last here (seal_of found) refl)
      (λ opens. record { last = last; here = here; carries = carries; there = there; open_to = opens })))))

  pub asked : (entry : Entry) → asked_of site state from sought carried ≡ Ok entry
      → IsAsked site state from sought carried entry
  asked entry is = subst (λ (r : Result Entry Reply). Comes FailsSought IsSought r) is asked_comes

  -- and the other way round
  pub asked_again : (entry : Entry) → IsAsked site state from sought carried entry
      → asked_of site state from sought carried ≡ Ok entry
  asked_again entry is = rw (is.last, is.here, is.carries, is.there, is.open_to) refl

-- ---- what a call finds

abbrev FailsFound : Site → State → CallRef → Option Entry → List ℕ → Reply → Type 0
FailsFound site state from asked name reply.Other = Unit {0}
FailsFound site state from asked name reply.Gone = Unit {0}
FailsFound site state from asked name (reply.Busy by at born) = StopsAtName site state from asked name by at
FailsFound site state from asked name other_reply = ⊥

module _ (site : Site) (state : State) (from : CallRef) (last : Option Entry) (carried : List (List Entry))
    (name : List ℕ) (entry : Entry)
    (is_asked : IsAsked site state from last carried entry) where
  abbrev fails : Reply → Type 0
  fails = FailsFound site state from last name

  abbrev birth : ℕ
  birth = entry.access.born

  module _ (content : Content) (there : content_at (dir_of entry.access) state.contents ≡ Some content) (slot : Slot)
      (is : slot_in name content.slots ≡ Some slot) where
    taken_by : (by : CallRef) → taker slot ≡ Some by → is_same_call by from ≡ false
        → StopsAtName site state from last name by spot.Slot
    taken_by by taken apart = record {
      entry = entry;
      last = is_asked.last;
      is_taken =
          record { content = content; here = is_asked.here; there = there; slot = slot; found = is; taken = taken };
      spot_is = refl;
      apart = apart;
    }

    held_comes : (shown : Seen) (held : Option CallRef) → taker slot ≡ held
        → Comes fails Anything (unless_held from birth shown held)
    held_comes shown None none = tt
    held_comes shown (Some by) taken = by_call (is_same_call by from) refl
      where
        by_call : (b : Bool) → is_same_call by from ≡ b → Comes {A = Seen} fails Anything
            (cond b (Ok shown) (Err (in_the_way by birth)))
        by_call true same = tt
        by_call false apart = taken_by by taken apart

    reserved_comes : (other : CallRef) (b : Bool) → is_same_call other from ≡ b → taker slot ≡ Some other
        → Comes {A = Seen} fails Anything (Err (cond b reply.Other (in_the_way other birth)))
    reserved_comes other true same taken = tt
    reserved_comes other false apart taken = taken_by other taken apart

  slot_comes : (content : Content) → content_at (dir_of entry.access) state.contents ≡ Some content
      → (slot : Option Slot)
      → slot_in name content.slots ≡ slot → Comes fails Anything (unless_taken from birth (seen_of slot))
  slot_comes content there None is = tt
  slot_comes content there (Some (reserved other access)) is =
      reserved_comes content there (reserved other access) is other (is_same_call other from) refl refl
  slot_comes content there (Some (file meta held)) is =
      held_comes content there (file meta held) is _ (holder held) refl
  slot_comes content there (Some (directory access held)) is =
      held_comes content there (directory access held) is _ (holder held) refl

  content_comes : (found : Option Content) → content_at (dir_of entry.access) state.contents ≡ found
      → Comes fails Anything (unless_taken from birth (seen_in name found))
  content_comes None none = tt
  content_comes (Some content) there = slot_comes content there (slot_in name content.slots) refl

  found_comes : Comes fails Anything (found_by from (dir_of entry.access) name state.contents)
  found_comes = content_comes (content_at (dir_of entry.access) state.contents) refl

-- what a call finds is what is seen there
held_is : (by : CallRef) (born : ℕ) (shown found : Seen) (held : Option CallRef)
    → unless_held by born shown held ≡ Ok found → shown ≡ found
held_is by born shown found None is = cc
held_is by born shown found (Some owner) is = by_holder (is_same_call owner by) is
  where
    by_holder : (b : Bool) → cond b (Ok shown) (Err (in_the_way owner born)) ≡ Ok found → shown ≡ found
    by_holder true is = cc
    by_holder false is = cc

pub seen_is : (by : CallRef) (born : ℕ) (shown found : Seen) → unless_taken by born shown ≡ Ok found → shown ≡ found
seen_is by born seen.Gone found is = cc
seen_is by born seen.Missing found is = cc
seen_is by born (seen.Reserved other) found is = cc
seen_is by born (seen.File meta held) found is = held_is by born (seen.File meta held) found held is
seen_is by born (seen.Dir dir mode owner group held) found is =
    held_is by born (seen.Dir dir mode owner group held) found held is

-- nothing stands where nothing is missed
no_slot : (slot : Option Slot) → is_missing (seen_of slot) ≡ true → slot ≡ None
no_slot None is = refl
no_slot (Some (reserved by access)) is = cc
no_slot (Some (file meta held)) is = cc
no_slot (Some (directory access held)) is = cc

no_slot_in : (name : List ℕ) (found : Option Content) → is_missing (seen_in name found) ≡ true
    → slot_in name (slots_found found) ≡ None
no_slot_in name None is = cc
no_slot_in name (Some c) is = no_slot (slot_in name c.slots) is

-- the directory sought stands where it is seen
pub record HasDirectory (found : Option Slot) (sought : Access) : Type 0 where
  pub access : Access
  pub held : Option Hold
  pub stands : found ≡ Some (directory access held)
  pub is_sought : is_same_dir (dir_of access) (dir_of sought) ≡ true

directory_in : (sought : Access) (slot : Option Slot) → is_the_directory sought (seen_of slot) ≡ true
    → HasDirectory slot sought
directory_in sought None is = cc
directory_in sought (Some (reserved by other)) is = cc
directory_in sought (Some (file meta held)) is = cc
directory_in sought (Some (directory access held)) is =
    record { access = access; held = held; stands = refl; is_sought = is }

directory_found : (sought : Access) (name : List ℕ) (found : Option Content)
    → is_the_directory sought (seen_in name found) ≡ true
    → HasDirectory (slot_in name (slots_found found)) sought
directory_found sought name None is = cc
directory_found sought name (Some c) is = directory_in sought (slot_in name c.slots) is

module _ (by : CallRef) (dir : DirRef) (name : List ℕ) (contents : List Content) (found : Seen)
    (is : found_by by dir name contents ≡ Ok found) where
  was_seen : found ≡ look dir name contents
  was_seen = sym (seen_is by dir.born (look dir name contents) found is)

  pub found_missing : is_missing found ≡ true → slot_in name (slots_at dir contents) ≡ None
  found_missing missing =
      no_slot_in name (content_at dir contents) (subst (λ (s : Seen). is_missing s ≡ true) was_seen missing)

  pub found_directory : (sought : Access) → is_the_directory sought found ≡ true
      → HasDirectory (slot_in name (slots_at dir contents)) sought
  found_directory sought it =
      directory_found sought name (content_at dir contents) (subst
      (λ (s : Seen). is_the_directory sought s ≡ true) was_seen it)

-- ---- the first checks of each request to the end of a chain

module _ (site : Site) (state : State) (ask : Ask) (wanted : Request) (of_chain : asks_chain wanted ≡ true)
    (strays : Strays site wanted) where
  abbrev Why : Reply → Type 0
  Why = Fails site state ask wanted

  from_asked : (last : Option Entry) → ((by : CallRef) (at : Spot) → StopsAtSeal site state ask.from last by at
      → Blocks site state ask.from wanted by at)
      → (given : Reply) → FailsAsked site state ask.from last given → Why given
  from_asked last blocks reply.Other fails = strays
  from_asked last blocks reply.Gone fails = of_chain
  from_asked last blocks (reply.Busy by at born) fails = blocks by at fails
  from_asked last blocks other_reply fails = absurd fails

  from_found : (last : Option Entry) (name : List ℕ)
      → ((by : CallRef) (at : Spot) → StopsAtName site state ask.from last name by at
      → Blocks site state ask.from wanted by at)
      → (given : Reply) → FailsFound site state ask.from last name given → Why given
  from_found last name blocks reply.Other fails = strays
  from_found last name blocks reply.Gone fails = of_chain
  from_found last name blocks (reply.Busy by at born) fails = blocks by at fails
  from_found last name blocks other_reply fails = absurd fails

  pub at_directory : {B : Type 0} (holds : B → Type 0) (last : Option Entry) (carried : List (List Entry))
      (next : Entry → Result B Reply)
      → ((by : CallRef) (at : Spot) → StopsAtSeal site state ask.from last by at
      → Blocks site state ask.from wanted by at)
      → ((entry : Entry) → IsAsked site state ask.from last carried entry → Comes Why holds (next entry))
      → Comes Why holds (asked_of site state ask.from last carried >>= next)
  at_directory holds last carried next blocks rest =
      behind Why (IsAsked site state ask.from last carried) holds (asked_of site state ask.from last carried) next
      (weaken (FailsAsked site state ask.from last) Why (IsAsked site state ask.from last carried)
      (asked_of site state ask.from last carried)
      (from_asked last blocks) (asked_comes site state ask.from last carried))
      (λ entry is is_asked. rest entry is_asked)

  pub at_name : {B : Type 0} {carried : List (List Entry)} (holds : B → Type 0) (last : Option Entry) (name : List ℕ)
      (next : Seen → Result B Reply)
      (entry : Entry) (is_asked : IsAsked site state ask.from last carried entry)
      → ((by : CallRef) (at : Spot) → StopsAtName site state ask.from last name by at
      → Blocks site state ask.from wanted by at)
      → ((found : Seen) → found_by ask.from (dir_of entry.access) name state.contents ≡ Ok found
      → Comes Why holds (next found))
      → Comes Why holds (found_by ask.from (dir_of entry.access) name state.contents >>= next)
  at_name {carried = carried} holds last name next entry is_asked blocks rest =
      behind Why Anything holds (found_by ask.from (dir_of entry.access) name state.contents) next
      (weaken (FailsFound site state ask.from last name) Why Anything
      (found_by ask.from (dir_of entry.access) name state.contents)
      (from_found last name blocks) (found_comes site state ask.from last carried name entry is_asked))
      (λ found is any. rest found is)
