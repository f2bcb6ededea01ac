-- A content object that comes with a Serve was born at its Ask.
use Rattle.std.proofs.Common.{⊎_elim, ◌≡◌, ◌⊎◌, inl, inr, ℕ, ◌==◌, ◌&&◌, Bool, true, false, cond, List, [], ◌∷◌, Option, Some, None, is_some, refl, sym, ap, ◌∙◌, subst}
use Rattle.std.specs.Option.{option_map}
use Rattle.inf_base.specs.declared.caller.CallRef.{CallRef}
use Rattle.inf_base.specs.declared.directory.DirRef.{DirRef}
use Rattle.inf_base.specs.declared.id.Id.{Id}
use Rattle.inf_base.specs.declared.triple.Triple.{Triple}
use Rattle.inf_base.specs.Content.{Content}
use Rattle.inf_base.specs.Same.{is_same_id}
use Rattle.inf_content.specs.Contents.{changed_at, content_at, content_of_id, dropped_at, empty_content, if_born, made_at, may_drop, may_drop_found, placed, with_new, with_slots_at}
use Rattle.inf_content.specs.Order.{AreInOrder, IdentifiersRise}
use Rattle.inf_message.specs.declared.ask.Ask.{Ask}
use Rattle.inf_message.specs.declared.reply.Reply.{Reply}
use Rattle.inf_message.specs.declared.request.Request.{Request}
use Rattle.inf_message.specs.declared.request.Request.TheVariants as request
use Rattle.inf_server.specs.Machine.{Serves}
use Rattle.inf_server.specs.State.{Site, State}
use Rattle.inf_laws_server.specs.CameTo.{IsDone}
use Rattle.inf_laws_server.specs.Changes as change
use Rattle.inf_laws_server.specs.Changes.{Change, changed}
use Rattle.inf_laws_server.specs.Done.{change_of}
use Rattle.inf_laws_server.specs.Edits.{Slots, edited}
use Rattle.inf_laws_server.proofs.ChangeFacts.{IsOf, change_is_of}
use Rattle.inf_laws_server.proofs.Serves.{left_or_done}
use Rattle.inf_laws_directory.specs.Born.{IsBornBy}
use Rattle.inf_laws_directory.specs.Objects.{Objects, Service, content_in, site_in, with_state}
use Rattle.inf_laws_directory.proofs.ContentFacts.{changed_apart, changed_here, dropped_apart, with_changed}
use Rattle.inf_laws_directory.proofs.Kept.{dropped_here, each_content, each_dir, placed_elsewhere}

-- a request to make a directory
record IsMade (asked : Request) : Type 0 where
  birth : Triple
  is_make : asked ≡ request.Make birth

-- a directory whose content object is there now had one before
abbrev BringNone : List Content → List Content → Type 0
BringNone old new = (dir : DirRef) → is_some (content_at dir new) ≡ true → is_some (content_at dir old) ≡ true

some_changed : (change : Content → Content) (found : Option Content) → is_some (option_map change found) ≡ is_some found
some_changed change None = refl
some_changed change (Some c) = refl

changed_bring_none : (dir : DirRef) (change : Content → Content) (keeps : (c : Content) → (change c).dir ≡ c.dir) (contents : List Content)
    → BringNone contents (changed_at dir change contents)
changed_bring_none dir change keeps contents =
    each_dir dir (λ (d : DirRef). is_some (content_at d (changed_at dir change contents)) ≡ true → is_some (content_at d contents) ≡ true)
    (λ there. sym (some_changed change (content_at dir contents)) ∙ sym (ap is_some (changed_here dir change keeps contents)) ∙ there)
    (λ other apart there. sym (ap is_some (changed_apart dir change keeps other contents apart)) ∙ there)

slots_bring_none : (dir : DirRef) (change : Slots → Slots) (contents : List Content) → BringNone contents (with_slots_at dir change contents)
slots_bring_none dir change contents = changed_bring_none dir (with_changed change) (λ c. refl) contents

-- what a call may not drop stays
dropped_stays : (dir : DirRef) (by : CallRef) (contents : List Content) → may_drop_found by (content_at dir contents) ≡ false
    → is_some (content_at dir (dropped_at dir by contents)) ≡ true → is_some (content_at dir contents) ≡ true
dropped_stays dir by [] may there = there
dropped_stays dir by (c ∷ cs) may there = by_id (is_same_id dir.id c.dir.id) refl may there (dropped_stays dir by cs)
  where
    by_drop : (born allowed : Bool) → may_drop by c ≡ allowed → is_same_id dir.id c.dir.id ≡ true → (c.dir.born == dir.born) ≡ born
        → may_drop_found by (cond born (Some c) None) ≡ false
        → is_some (content_at dir (cond (born && allowed) cs (c ∷ cs))) ≡ true → is_some (cond born (Some c) None) ≡ true
    by_drop true allowed allows same births may there = refl
    by_drop false allowed allows same births may there = rw (same, births) at there

    by_id : (b : Bool) → is_same_id dir.id c.dir.id ≡ b
        → may_drop_found by (if_born dir.born (cond b (Some c) (content_of_id dir.id cs))) ≡ false
        → is_some (content_at dir (cond b (cond (c.dir.born == dir.born && may_drop by c) cs (c ∷ cs)) (c ∷ dropped_at dir by cs))) ≡ true
        → (may_drop_found by (content_at dir cs) ≡ false → is_some (content_at dir (dropped_at dir by cs)) ≡ true → is_some (content_at dir cs) ≡ true)
        → is_some (if_born dir.born (cond b (Some c) (content_of_id dir.id cs))) ≡ true
    by_id true same may there later = by_drop (c.dir.born == dir.born) (may_drop by c) refl same refl may there
    by_id false apart may there later = later may (rw apart at there)

dropped_bring_none : (dir : DirRef) (by : CallRef) (contents : List Content) → IdentifiersRise contents → BringNone contents (dropped_at dir by contents)
dropped_bring_none dir by contents sorted =
    each_dir dir (λ (d : DirRef). is_some (content_at d (dropped_at dir by contents)) ≡ true → is_some (content_at d contents) ≡ true)
    (by_drop (may_drop_found by (content_at dir contents)) refl)
    (λ other apart there. sym (ap is_some (dropped_apart dir other by contents sorted apart)) ∙ there)
  where
    by_drop : (b : Bool) → may_drop_found by (content_at dir contents) ≡ b → is_some (content_at dir (dropped_at dir by contents)) ≡ true
        → is_some (content_at dir contents) ≡ true
    by_drop true may there = let gone : false ≡ true = sym (ap is_some (dropped_here dir by contents sorted may)) ∙ there in cc
    by_drop false may there = dropped_stays dir by contents may there

made_brings : (id : Id) (born : ℕ) (asked : Triple) (by : CallRef) (contents : List Content) (dir : DirRef)
    → is_some (content_at dir (made_at id born asked by contents)) ≡ true → (is_some (content_at dir contents) ≡ true) ⊎ (dir.born ≡ born)
made_brings id born asked by contents dir = by_kept (content_of_id id contents) refl
  where
    by_kept : (kept : Option Content) → content_of_id id contents ≡ kept
        → is_some (content_at dir (with_new (empty_content id born asked by) kept contents)) ≡ true
        → (is_some (content_at dir contents) ≡ true) ⊎ (dir.born ≡ born)
    by_kept None none =
        let content = empty_content id born asked by in
        each_dir content.dir (λ (d : DirRef). is_some (content_at d (placed content contents)) ≡ true → (is_some (content_at d contents) ≡ true) ⊎ (d.born ≡ born))
        (λ there. inr refl)
        (λ other apart there. inl (sym (ap is_some (placed_elsewhere content contents none other apart)) ∙ there)) dir
    by_kept (Some kept) is = λ there. inl there

-- what a change brings
module _ (site : Site) (state : State) (place : ℕ) (ask : Ask) (asked : Request) (ordered : AreInOrder state.contents) where
  -- it was there, or is born at this place, of a request to make it
  abbrev Brings : Change → DirRef → Type 0
  Brings with dir = is_some (content_at dir (changed with state).contents) ≡ true
      → (is_some (content_at dir state.contents) ≡ true) ⊎ ((dir.born ≡ place) × IsMade asked)

  change_brings : (with : Change) → IsOf site state place ask asked with → (dir : DirRef) → Brings with dir
  change_brings change.none is dir there = inl there
  change_brings (change.slots at with) is dir there = inl (slots_bring_none at (edited with) state.contents dir there)
  change_brings (change.comes id born birth by) is dir there =
      ⊎_elim inl (λ at_birth. inr (at_birth ∙ is.at_place, record { birth = birth; is_make = is.is_make }))
      (made_brings id born birth by state.contents dir there)
  change_brings (change.goes at by) is dir there = inl (dropped_bring_none at by state.contents ordered.identifiers dir there)
  change_brings (change.seals at by) is dir there = inl (changed_bring_none at _ (λ c. refl) state.contents dir there)
  change_brings (change.unseals at by) is dir there = inl (changed_bring_none at _ (λ c. refl) state.contents dir there)
  change_brings (change.forgets parent at) is dir there = inl there

module _ (service : Service) (objects : Objects) (number place : ℕ) (ask : Ask) (given : Reply) (new : State)
    (ordered : AreInOrder (objects number).contents) (serves : Serves (site_in service number) (objects number) place ask given new) where
  abbrev site : Site
  site = site_in service number

  abbrev IsBornHere : DirRef → Type 0
  IsBornHere dir = (dir.born ≡ place) × IsBornBy ask.request given

  -- a Make that is done says so
  born_by : (asked : Request) → IsDone site (objects number) place ask asked given new → IsMade asked → IsBornBy asked given
  born_by asked is made = record {
    birth = made.birth;
    is_make = made.is_make;
    is_done = (subst (λ (r : Request). IsDone site (objects number) place ask r given new) made.is_make is).said;
  }

  born_at : (dir : DirRef) → is_some (content_at dir new.contents) ≡ true → (is_some (content_at dir (objects number).contents) ≡ true) ⊎ IsBornHere dir
  born_at dir there = by (left_or_done site (objects number) place ask given new serves)
    where
      by : (new ≡ objects number) ⊎ IsDone site (objects number) place ask ask.request given new
          → (is_some (content_at dir (objects number).contents) ≡ true) ⊎ IsBornHere dir
      by (inl same) = inl (subst (λ (s : State). is_some (content_at dir s.contents) ≡ true) same there)
      by (inr is) =
          ⊎_elim inl (λ made. inr (made.0, born_by ask.request is made.1))
          (change_brings site (objects number) place ask ask.request ordered (change_of site (objects number) place ask ask.request is.passed)
          (change_is_of site (objects number) place ask ask.request is.passed) dir
          (subst (λ (s : State). is_some (content_at dir s.contents) ≡ true) is.did there))

  pub born_at_the_ask : (dir : DirRef) → is_some (content_in service (with_state number new objects) dir) ≡ true
      → (is_some (content_in service objects dir) ≡ true) ⊎ IsBornHere dir
  born_at_the_ask dir = each_content service objects number new
      (λ (was now : Option Content). is_some now ≡ true → (is_some was ≡ true) ⊎ IsBornHere dir) dir
      (λ here. born_at dir) (λ elsewhere there. inl there)
