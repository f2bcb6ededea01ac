-- Where a call reserved nothing in a directory, there is nothing to be told of, and nothing changes.
use Rattle.std.proofs.Common.{◌≡◌, ℕ, ◌==◌, Bool, true, false, cond, List, [], ◌∷◌, Option, Some, None, Ok, Err, refl, ap}
use Rattle.inf_base.specs.declared.caller.Caller.{Caller}
use Rattle.inf_base.specs.declared.caller.CallRef.{CallRef}
use Rattle.inf_base.specs.declared.directory.DirRef.{DirRef}
use Rattle.inf_base.specs.declared.id.Id.{Id}
use Rattle.inf_base.specs.declared.entry.Entry.{Entry}
use Rattle.inf_base.specs.Content.{Content, Slot, reserved, file, directory}
use Rattle.inf_base.specs.Same.{dir_of, is_same_id}
use Rattle.inf_content.specs.Contents.{content_of_id, filled_at, if_born, slots_at, slots_found, with_slots_at}
use Rattle.inf_content.specs.Slot.{filled, reserves}
use Rattle.inf_content.specs.Slots.{filled_in, first, first_changed, told_of_filled}
use Rattle.inf_message.specs.declared.ask.Ask.{Ask}
use Rattle.inf_message.specs.declared.reply.Reply.TheVariants as reply
use Rattle.inf_server.specs.Births.{link}
use Rattle.inf_server.specs.Chains.{last_of}
use Rattle.inf_server.specs.Checks.{asked_of}
use Rattle.inf_server.specs.State.{Site, State}

abbrev pub Link : Type 0
Link = Option (DirRef × ℕ × Caller)

-- something is told of a slot that was reserved
told_there : (by : CallRef) (id : Id) (link : Link) (name : List ℕ) (slot : Slot) → reserves by slot ≡ true
    → told_of_filled id link (Some (name, slot)) ≡ None → ⊥
told_there by id None name (reserved other access) reserves none = cc
told_there by id (Some link) name (reserved other access) reserves none = cc
told_there by id link name (file meta held) reserves none = cc
told_there by id link name (directory access held) reserves none = cc

pub first_is_none : (by : CallRef) (id : Id) (link : Link) (slots : List (List ℕ × Slot))
    → told_of_filled id link (first (reserves by) slots) ≡ None → first (reserves by) slots ≡ None
first_is_none by id link [] told = refl
first_is_none by id link (e ∷ es) told = by_test (reserves by e.1) refl told (first_is_none by id link es)
  where
    by_test : (b : Bool) → reserves by e.1 ≡ b → told_of_filled id link (cond b (Some e) (first (reserves by) es))
        ≡ None
        → (told_of_filled id link (first (reserves by) es) ≡ None → first (reserves by) es ≡ None)
        → cond b (Some e) (first (reserves by) es) ≡ None
    by_test true has told later = absurd (told_there by id link e.0 e.1 has told)
    by_test false has told later = later told

none_changed : (test : Slot → Bool) (change : Slot → Slot) (slots : List (List ℕ × Slot)) → first test slots ≡ None
    → first_changed test change slots ≡ slots
none_changed test change [] none = refl
none_changed test change (e ∷ es) none = by_test (test e.1) none (none_changed test change es)
  where
    by_test : (b : Bool) → cond b (Some e) (first test es) ≡ None
        → (first test es ≡ None → first_changed test change es ≡ es)
        → cond b ((e.0, change e.1) ∷ es) (e ∷ first_changed test change es) ≡ e ∷ es
    by_test true none later = cc
    by_test false none later = ap (λ rest. e ∷ rest) (later none)

-- slots that a change leaves leave the content objects
slots_left : (dir : DirRef) (change : List (List ℕ × Slot) → List (List ℕ × Slot)) (contents : List Content)
    → change (slots_at dir contents) ≡ slots_at dir contents → with_slots_at dir change contents ≡ contents
slots_left dir change [] same = refl
slots_left dir change (c ∷ cs) same = by_id (is_same_id dir.id c.dir.id) same (slots_left dir change cs)
  where
    by_born : (born : Bool) → change (slots_found (cond born (Some c) None)) ≡ slots_found (cond born (Some c) None)
        → cond born (record c { slots = change c.slots }) c ∷ cs ≡ c ∷ cs
    by_born true same = ap (λ slots. record c { slots = slots } ∷ cs) same
    by_born false same = refl

    by_id : (here : Bool)
        → change (slots_found (if_born dir.born (cond here (Some c) (content_of_id dir.id cs))))
        ≡ slots_found (if_born dir.born (cond here (Some c) (content_of_id dir.id cs)))
        → (change (slots_at dir cs) ≡ slots_at dir cs → with_slots_at dir change cs ≡ cs)
        → cond here (cond (c.dir.born == dir.born) (record c { slots = change c.slots }) c ∷ cs)
        (c ∷ with_slots_at dir change cs) ≡ c ∷ cs
    by_id true same later = by_born (c.dir.born == dir.born) same
    by_id false same later = ap (λ rest. c ∷ rest) (later same)

pub nothing_filled : (dir : DirRef) (by : CallRef) (link : Link) (contents : List Content)
    → first (reserves by) (slots_at dir contents) ≡ None → filled_at dir by link contents ≡ contents
nothing_filled dir by link contents none =
    slots_left dir (filled_in by link) contents (none_changed (reserves by) (filled link) (slots_at dir contents) none)

-- what the code was told of the directory asked
abbrev pub told_link : State → Entry → Link → CallRef → Option (DirRef × Bool)
told_link state entry link by =
    told_of_filled entry.access.id link (first (reserves by) (slots_at (dir_of entry.access) state.contents))

pub link_refused : (site : Site) (state : State) (ask : Ask) (chain : List Entry) (entry : Entry) (dir : DirRef)
    (mode : ℕ)
    → asked_of site state ask.from (last_of chain) (chain ∷ []) ≡ Ok entry
    → told_link state entry (Some (dir, mode, ask.caller)) ask.from ≡ None
    → link site state ask chain dir mode ≡ Err reply.Other
link_refused site state ask chain entry dir mode asked told =
    rw (
      asked,
      first_is_none ask.from entry.access.id (Some (dir, mode, ask.caller))
          (slots_at (dir_of entry.access) state.contents) told,
    ) refl

pub nothing_linked : (state : State) (entry : Entry) (link : Link) (by : CallRef) → told_link state entry link by ≡ None
    → filled_at (dir_of entry.access) by link state.contents ≡ state.contents
nothing_linked state entry link by told =
    nothing_filled (dir_of entry.access) by link state.contents
    (first_is_none by entry.access.id link (slots_at (dir_of entry.access) state.contents) told)
