-- Directories stand where they were born: each link is of a directory that an Ask made of that very place.
use Rattle.std.proofs.Common.{◌≡◌, bytes_eq, ◌⊎◌, inl, inr, ℕ, ◌==◌, ◌&&◌, Bool, true, false, cond, if◌then◌else◌, List, [], ◌∷◌, nat_cmp, Option, Some, None, refl, sym, ◌∙◌, subst}
use Rattle.std.specs.BTreeMap.{is_at}
use Rattle.std.specs.Cmp.Lexicographic.{slice_cmp}
use Rattle.std.specs.Ordering.{match_ordering}
use Rattle.std.specs.declared.cmp.Ordering.{Ordering}
use Rattle.std.specs.declared.cmp.Ordering.TheVariants.{Less, Equal, Greater}
use Rattle.inf_base.specs.declared.caller.CallRef.{CallRef}
use Rattle.inf_base.specs.declared.directory.DirRef.{DirRef}
use Rattle.inf_base.specs.declared.entry.Entry.{Entry}
use Rattle.inf_base.specs.declared.id.Id.{Id}
use Rattle.inf_base.specs.declared.triple.Triple.TheVariants as triple
use Rattle.inf_base.specs.Content.{Content, Slot, reserved, file, directory}
use Rattle.inf_base.specs.Same.{dir_of, is_same_id}
use Rattle.inf_content.specs.Contents.{changed_at, content_at, content_of_id, dropped_at, empty_content, id_cmp, if_born, may_drop, placed, with_new, with_slots_at}
use Rattle.inf_content.specs.Slot.{filled, freed, reserves}
use Rattle.inf_content.specs.Slots.{filled_in, first, first_changed, lifted, slot_in, with_slot, without_slot}
use Rattle.inf_message.specs.declared.ask.Ask.{Ask}
use Rattle.inf_message.specs.declared.event.Event.{Event}
use Rattle.inf_message.specs.declared.reply.Reply.{Reply}
use Rattle.inf_message.specs.declared.request.Request.TheVariants as request
use Rattle.inf_message.specs.History.{Posted, asked_at}
use Rattle.inf_message.proofs.HistoryLaws.{asked_stays, asked_within}
use Rattle.inf_server.specs.Machine.{Serves}
use Rattle.inf_server.specs.State.{Site, State}
use Rattle.inf_laws_directory.proofs.Kept.{Slots}
use Rattle.inf_laws_directory.proofs.SlotFacts.{same_test}
use Rattle.inf_duty.proofs.BegunKept.{if_both}
use Rattle.inf_base.specs.declared.caller.Caller.{Caller}
use Rattle.inf_base.proofs.Same.{same_name}
use Rattle.inf_laws_server.specs.CameTo.{IsDone}
use Rattle.inf_laws_server.specs.Changes as change
use Rattle.inf_laws_server.specs.Changes.{Change, changed}
use Rattle.inf_laws_server.specs.Done.{change_of}
use Rattle.inf_laws_server.specs.Edits as edit
use Rattle.inf_laws_server.specs.Edits.{Edit, edited}
use Rattle.inf_laws_server.specs.Passed.{IsAsked}
use Rattle.inf_laws_server.proofs.ChangeFacts.{IsLinking, IsOf, change_is_of}
use Rattle.inf_laws_server.proofs.Serves.{left_or_done}
use Rattle.inf_server.specs.Chains.{last_of}

-- an Ask at this place made a directory of this name of the directory
pub record IsMadeAt (h : List Event) (born : ℕ) (parent : Id) (name : List ℕ) : Type 0 where
  pub version : ℕ
  pub posted : Posted
  pub asked : asked_at born h ≡ Some posted
  pub makes : posted.ask.request ≡ request.Make (triple.Of parent name version)

module _ (h : List Event) where
  -- where a directory stands, it was made
  abbrev pub StandsAsMade : DirRef → List ℕ → Slot → Type 0
  StandsAsMade dir name (reserved by access) = Unit {0}
  StandsAsMade dir name (file meta held) = Unit {0}
  StandsAsMade dir name (directory access held) = IsMadeAt h access.born dir.id name

  abbrev pub SlotsMade : DirRef → Slots → Type 0
  SlotsMade dir [] = Unit {0}
  SlotsMade dir (e ∷ es) = StandsAsMade dir e.0 e.1 × SlotsMade dir es

  abbrev pub AllMade : List Content → Type 0
  AllMade [] = Unit {0}
  AllMade (c ∷ cs) = SlotsMade c.dir c.slots × AllMade cs

  -- ---- slots that change

  with_made : (dir : DirRef) (name : List ℕ) (slot : Slot) (slots : Slots) → ((n : List ℕ) → StandsAsMade dir n slot) → SlotsMade dir slots
      → SlotsMade dir (with_slot name slot slots)
  with_made dir name slot [] new all = (new name, tt)
  with_made dir name slot (e ∷ es) new all = by (slice_cmp nat_cmp name e.0) (with_made dir name slot es new all.1)
    where
      by : (o : Ordering) → SlotsMade dir (with_slot name slot es)
          → SlotsMade dir (match_ordering o ((name, slot) ∷ e ∷ es) ((e.0, slot) ∷ es) (e ∷ with_slot name slot es))
      by Less later = (new name, all)
      by Equal later = (new e.0, all.1)
      by Greater later = (all.0, later)

  without_made : (dir : DirRef) (name : List ℕ) (slots : Slots) → SlotsMade dir slots → SlotsMade dir (without_slot name slots)
  without_made dir name [] all = tt
  without_made dir name (e ∷ es) all = by (is_at (slice_cmp nat_cmp name) e.0) (without_made dir name es all.1)
    where
      by : (b : Bool) → SlotsMade dir (without_slot name es) → SlotsMade dir (cond b es (e ∷ without_slot name es))
      by true later = all.1
      by false later = (all.0, later)

  freed_made : (dir : DirRef) (name : List ℕ) (by : CallRef) (slot : Slot) → StandsAsMade dir name slot → StandsAsMade dir name (freed by slot)
  freed_made dir name by (reserved other access) is = tt
  freed_made dir name by (file meta held) is = tt
  freed_made dir name by (directory access held) is = is

  lifted_made : (dir : DirRef) (by : CallRef) (slots : Slots) → SlotsMade dir slots → SlotsMade dir (lifted by slots)
  lifted_made dir by [] all = tt
  lifted_made dir by (e ∷ es) all = by_test (reserves by e.1) (lifted_made dir by es all.1)
    where
      by_test : (b : Bool) → SlotsMade dir (lifted by es) → SlotsMade dir (cond b (lifted by es) ((e.0, freed by e.1) ∷ lifted by es))
      by_test true later = later
      by_test false later = (freed_made dir e.0 by e.1 all.0, later)

  first_made : (dir : DirRef) (test : Slot → Bool) (change : Slot → Slot) (slots : Slots)
      → ((found : List ℕ × Slot) → first test slots ≡ Some found → StandsAsMade dir found.0 (change found.1)) → SlotsMade dir slots
      → SlotsMade dir (first_changed test change slots)
  first_made dir test change [] new all = tt
  first_made dir test change (e ∷ es) new all = by (test e.1) new (first_made dir test change es)
    where
      by : (b : Bool) → ((found : List ℕ × Slot) → cond b (Some e) (first test es) ≡ Some found → StandsAsMade dir found.0 (change found.1))
          → (((found : List ℕ × Slot) → first test es ≡ Some found → StandsAsMade dir found.0 (change found.1)) → SlotsMade dir es
          → SlotsMade dir (first_changed test change es))
          → SlotsMade dir (cond b ((e.0, change e.1) ∷ es) (e ∷ first_changed test change es))
      by true here later = (here e refl, all.1)
      by false here later = (all.0, later here all.1)

  -- ---- contents that change

  changed_made : (dir : DirRef) (change : Content → Content) (contents : List Content) → AllMade contents
      → ((c : Content) → content_at dir contents ≡ Some c → SlotsMade c.dir c.slots → SlotsMade (change c).dir (change c).slots)
      → AllMade (changed_at dir change contents)
  changed_made dir change [] all keeps = tt
  changed_made dir change (c ∷ cs) all keeps = by_id (is_same_id dir.id c.dir.id) keeps (changed_made dir change cs all.1)
    where
      by_birth : (b : Bool) → ((x : Content) → cond b (Some c) None ≡ Some x → SlotsMade x.dir x.slots → SlotsMade (change x).dir (change x).slots)
          → AllMade ((if b then change c else c) ∷ cs)
      by_birth true here = (here c refl all.0, all.1)
      by_birth false here = all

      by_id : (b : Bool)
          → ((x : Content) → if_born dir.born (cond b (Some c) (content_of_id dir.id cs)) ≡ Some x → SlotsMade x.dir x.slots → SlotsMade (change x).dir (change x).slots)
          → (((x : Content) → content_at dir cs ≡ Some x → SlotsMade x.dir x.slots → SlotsMade (change x).dir (change x).slots) → AllMade (changed_at dir change cs))
          → AllMade (cond b ((if c.dir.born == dir.born then change c else c) ∷ cs) (c ∷ changed_at dir change cs))
      by_id true here later = by_birth (c.dir.born == dir.born) here
      by_id false here later = (all.0, later here)

  dropped_made : (dir : DirRef) (by : CallRef) (contents : List Content) → AllMade contents → AllMade (dropped_at dir by contents)
  dropped_made dir by [] all = tt
  dropped_made dir by (c ∷ cs) all =
      if_both AllMade (is_same_id dir.id c.dir.id) (if c.dir.born == dir.born && may_drop by c then cs else c ∷ cs) (c ∷ dropped_at dir by cs)
      (if_both AllMade (c.dir.born == dir.born && may_drop by c) cs (c ∷ cs) all.1 all) (all.0, dropped_made dir by cs all.1)

  placed_made : (content : Content) (contents : List Content) → SlotsMade content.dir content.slots → AllMade contents → AllMade (placed content contents)
  placed_made content [] is all = (is, tt)
  placed_made content (c ∷ cs) is all = by (id_cmp content.dir.id c.dir.id) (placed_made content cs is all.1)
    where
      by : (o : Ordering) → AllMade (placed content cs) → AllMade (match_ordering o (content ∷ c ∷ cs) (content ∷ cs) (c ∷ placed content cs))
      by Less later = (is, all)
      by Equal later = (is, all.1)
      by Greater later = (all.0, later)

  new_made : (content : Content) (found : Option Content) (contents : List Content) → SlotsMade content.dir content.slots → AllMade contents
      → AllMade (with_new content found contents)
  new_made content None contents is all = placed_made content contents is all
  new_made content (Some kept) contents is all = all

  -- ---- what is found

  slot_made : (dir : DirRef) (name : List ℕ) (slots : Slots) (slot : Slot) → SlotsMade dir slots → slot_in name slots ≡ Some slot → StandsAsMade dir name slot
  slot_made dir name [] slot all is = cc
  slot_made dir name (e ∷ es) slot all is = by (bytes_eq name e.0) (same_test name e.0) refl is (slot_made dir name es slot all.1)
    where
      by : (b : Bool) → is_at (slice_cmp nat_cmp name) e.0 ≡ bytes_eq name e.0 → bytes_eq name e.0 ≡ b
          → cond (is_at (slice_cmp nat_cmp name) e.0) (Some e.1) (slot_in name es) ≡ Some slot
          → (slot_in name es ≡ Some slot → StandsAsMade dir name slot) → StandsAsMade dir name slot
      by true test same found later =
          let here : cond true (Some e.1) (slot_in name es) ≡ Some slot = subst (λ (x : Bool). cond x (Some e.1) (slot_in name es) ≡ Some slot) (test ∙ same) found in
          let one : e.1 ≡ slot = cc in
          subst (λ (s : Slot). StandsAsMade dir name s) one (subst (λ (n : List ℕ). StandsAsMade dir n e.1) (sym (same_name name e.0 same)) all.0)
      by false test apart found later = later (subst (λ (x : Bool). cond x (Some e.1) (slot_in name es) ≡ Some slot) (test ∙ apart) found)

  pub found_made : (id : Id) (contents : List Content) (content : Content) → AllMade contents → content_of_id id contents ≡ Some content
      → (name : List ℕ) (slot : Slot) → slot_in name content.slots ≡ Some slot → StandsAsMade content.dir name slot
  found_made id [] content all is name slot stands = cc
  found_made id (c ∷ cs) content all is name slot stands = by (is_same_id id c.dir.id) is (λ there. found_made id cs content all.1 there name slot stands)
    where
      by : (b : Bool) → cond b (Some c) (content_of_id id cs) ≡ Some content
          → (content_of_id id cs ≡ Some content → StandsAsMade content.dir name slot) → StandsAsMade content.dir name slot
      by true here later =
          let same : c ≡ content = cc in
          slot_made content.dir name content.slots slot (subst (λ (x : Content). SlotsMade x.dir x.slots) same all.0) stands
      by false here later = later here

  -- ---- a Serve

  -- what a link makes of the name that its call keeps
  abbrev pub LinksMade : Site → State → Ask → Type 0
  LinksMade site state ask =
      (chain : List Entry) (name : List ℕ) (dir : DirRef) (mode : ℕ) → ask.request ≡ request.Link chain name dir mode
      → (entry : Entry) → IsAsked site state ask.from (last_of chain) (chain ∷ []) entry → (content : Content) → content_at (dir_of entry.access) state.contents ≡ Some content
      → (found : List ℕ × Slot) → first (reserves ask.from) content.slots ≡ Some found
      → StandsAsMade content.dir found.0 (filled (Some (dir, mode, ask.caller)) found.1)

  module _ (site : Site) (state : State) (place : ℕ) (ask : Ask) (all : AllMade state.contents) (links : LinksMade site state ask) where
    fills_made : (dir : DirRef) (by : CallRef) (linked : DirRef) (mode : ℕ) (caller : Caller) → IsLinking site state ask ask.request dir by linked mode caller
        → AllMade (with_slots_at dir (filled_in by (Some (linked, mode, caller))) state.contents)
    fills_made dir by linked mode caller is =
        rw (is.in_dir, is.own, is.callers) (changed_made (dir_of is.entry.access) _ state.contents all (λ c at was.
        first_made c.dir (reserves ask.from) (filled (Some (linked, mode, ask.caller))) c.slots
        (links is.chain is.name linked mode is.is_link is.entry is.is_asked c at) was))

    edit_made : (dir : DirRef) (with : Edit) → IsOf site state place ask ask.request (change.slots dir with) → AllMade (with_slots_at dir (edited with) state.contents)
    edit_made dir (edit.puts name meta) is = changed_made dir _ state.contents all (λ c at was. with_made c.dir name _ c.slots (λ n. tt) was)
    edit_made dir (edit.keeps name by access) is = changed_made dir _ state.contents all (λ c at was. with_made c.dir name _ c.slots (λ n. tt) was)
    edit_made dir (edit.fills by linked mode caller) is = fills_made dir by linked mode caller is
    edit_made dir (edit.lifts by) is = changed_made dir _ state.contents all (λ c at was. lifted_made c.dir by c.slots was)
    edit_made dir (edit.takes name) is = changed_made dir _ state.contents all (λ c at was. without_made c.dir name c.slots was)

    change_made : (with : Change) → IsOf site state place ask ask.request with → AllMade (changed with state).contents
    change_made change.none is = all
    change_made (change.slots dir with) is = edit_made dir with is
    change_made (change.comes id born birth by) is = new_made (empty_content id born birth by) (content_of_id id state.contents) state.contents tt all
    change_made (change.goes dir by) is = dropped_made dir by state.contents all
    change_made (change.seals dir by) is = changed_made dir _ state.contents all (λ c at was. was)
    change_made (change.unseals dir by) is = changed_made dir _ state.contents all (λ c at was. was)
    change_made (change.forgets parent dir) is = all

    pub served_made : (given : Reply) (new : State) → Serves site state place ask given new → AllMade new.contents
    served_made given new serves = by (left_or_done site state place ask given new serves)
      where
        by : (new ≡ state) ⊎ IsDone site state place ask ask.request given new → AllMade new.contents
        by (inl same) = subst (λ (s : State). AllMade s.contents) (sym same) all
        by (inr is) =
            subst (λ (s : State). AllMade s.contents) (sym is.did)
            (change_made (change_of site state place ask ask.request is.passed) (change_is_of site state place ask ask.request is.passed))

-- ---- histories

pub at_stays : (e : Event) (h : List Event) (born : ℕ) (parent : Id) (name : List ℕ) → IsMadeAt h born parent name → IsMadeAt (e ∷ h) born parent name
at_stays e h born parent name is = record {
  version = is.version;
  posted = is.posted;
  asked = asked_stays born e h (asked_within born is.posted h is.asked).within ∙ is.asked;
  makes = is.makes;
}

stands_still : (e : Event) (h : List Event) (dir : DirRef) (name : List ℕ) (slot : Slot) → StandsAsMade h dir name slot → StandsAsMade (e ∷ h) dir name slot
stands_still e h dir name (reserved by access) is = tt
stands_still e h dir name (file meta held) is = tt
stands_still e h dir name (directory access held) is = at_stays e h access.born dir.id name is

slots_still : (e : Event) (h : List Event) (dir : DirRef) (slots : Slots) → SlotsMade h dir slots → SlotsMade (e ∷ h) dir slots
slots_still e h dir [] all = tt
slots_still e h dir (x ∷ xs) all = (stands_still e h dir x.0 x.1 all.0, slots_still e h dir xs all.1)

pub made_still : (e : Event) (h : List Event) (contents : List Content) → AllMade h contents → AllMade (e ∷ h) contents
made_still e h [] all = tt
made_still e h (c ∷ cs) all = (slots_still e h c.dir c.slots all.0, made_still e h cs all.1)
