-- What is seen of the directories of a service once the content object of one has changed.
use Rattle.std.proofs.Common.{◌≡◌, ℕ, ◌&&◌, Bool, true, false, List, [], Option, Some, None, is_some, refl, sym, ap, ◌∙◌, subst}
use Rattle.std.specs.Option.{option_map}
use Rattle.std.specs.Str.{bytes_eq}
use Rattle.inf_base.specs.declared.directory.DirRef.{DirRef}
use Rattle.inf_base.specs.Content.{Content}
use Rattle.inf_base.specs.Same.{is_same_dir}
use Rattle.inf_base.proofs.Same.{same_dir}
use Rattle.inf_content.specs.Contents.{slots_at, slots_found}
use Rattle.inf_content.specs.Slots.{slot_in}
use Rattle.inf_server.specs.State.{State, is_here}
use Rattle.inf_laws_directory.specs.Changes.{AllStay, LooksAsBefore, Puts, Takes, is_at}
use Rattle.inf_laws_directory.specs.Objects.{Objects, Service, content_in, site_in, slots_kept, with_state}
use Rattle.inf_laws_directory.specs.Serves.{IsUnseen, directories_after}
use Rattle.inf_laws_directory.specs.Things.{Directories, HasContent, Thing, thing_in, thing_under}
use Rattle.inf_laws_directory.proofs.ContentFacts.{with_changed}
use Rattle.inf_laws_directory.proofs.Kept.{Becomes, HasChanged, Slots, content_here, each_dir, slots_become}

-- what stands under a name of what was found
abbrev pub thing_found : List ℕ → Option Content → Option Thing
thing_found name found = thing_in (slot_in name (slots_found found))

-- the same content object looks the same
pub looks_as_found : (old new : Directories) (dir : DirRef) → new dir ≡ old dir → LooksAsBefore old new dir
looks_as_found old new dir same = record {
  things = λ name. ap (thing_found name) same;
  stays = λ there. ap is_some same ∙ there;
}

pub still_there : (change : Content → Content) (found : Option Content) → is_some found ≡ true → is_some (option_map change found) ≡ true
still_there change None there = there
still_there change (Some c) there = refl

-- one content object became another
module _ (service : Service) (old new : Objects) (dir : DirRef) (now : Option Content) (becomes : Becomes service old new dir now)
    (stays : is_some (content_in service old dir) ≡ true → is_some now ≡ true) where
  abbrev before : Directories
  before = content_in service old

  abbrev after : Directories
  after = content_in service new

  all_stay : AllStay before after
  all_stay = each_dir dir (λ (d : DirRef). HasContent before d → HasContent after d)
      (λ there. ap is_some becomes.here ∙ stays there) (λ other apart there. ap is_some (becomes.others other apart) ∙ there)

  pub unseen_so : ((name : List ℕ) → thing_found name now ≡ thing_found name (before dir)) → IsUnseen before after
  unseen_so same = each_dir dir (λ (d : DirRef). LooksAsBefore before after d)
      (record { things = λ name. ap (thing_found name) becomes.here ∙ same name; stays = all_stay dir })
      (λ other apart. looks_as_found before after other (becomes.others other apart))

  module _ (name : List ℕ)
      (others : (other : List ℕ) → bytes_eq name other ≡ false → thing_found other now ≡ thing_found other (before dir)) where
    others_stay : (other_dir : DirRef) (other : List ℕ) → is_at dir name other_dir other ≡ false
        → thing_under other other_dir after ≡ thing_under other other_dir before
    others_stay other_dir other apart = by (is_same_dir dir other_dir) refl apart
      where
        by : (b : Bool) → is_same_dir dir other_dir ≡ b → (b && bytes_eq name other) ≡ false
            → thing_under other other_dir after ≡ thing_under other other_dir before
        by true is apart =
            subst (λ (d : DirRef). thing_under other d after ≡ thing_under other d before) (same_dir dir other_dir is)
            (ap (thing_found other) becomes.here ∙ others other apart)
        by false is apart = ap (thing_found other) (becomes.others other_dir is)

    pub put_so : (thing : Thing) → thing_found name (before dir) ≡ None → thing_found name now ≡ Some thing
        → Puts before after dir name thing
    put_so thing free here = record {
      free = free;
      here = ap (thing_found name) becomes.here ∙ here;
      others = others_stay;
      stay = all_stay;
    }

    pub taken_so : thing_found name now ≡ None → Takes before after dir name
    taken_so gone = record { gone = ap (thing_found name) becomes.here ∙ gone; others = others_stay; stay = all_stay }

-- the slots of a directory that is kept here are those that its server has
pub slots_here : (service : Service) (objects : Objects) (number : ℕ) (state : State) (dir : DirRef) → is_here (site_in service number) dir.id ≡ true
    → slots_kept service objects dir ≡ slots_at dir (objects number).contents
slots_here service objects number state dir here = ap slots_found (content_here service objects number state dir here)

changed_found : (change : Slots → Slots) (found : Option Content) → (found ≡ None → change [] ≡ [])
    → slots_found (option_map (with_changed change) found) ≡ change (slots_found found)
changed_found change None nothing = sym (nothing refl)
changed_found change (Some c) nothing = refl

-- what a request on one server did to all directories, by what it did to the slots of one
module _ (service : Service) (objects : Objects) (number : ℕ) (state : State) (dir : DirRef) (change : Slots → Slots)
    (has : HasChanged (site_in service number) (objects number) state dir change) where
  abbrev old_slots : Slots
  old_slots = slots_at dir (objects number).contents

  abbrev old_dirs : Directories
  old_dirs = content_in service objects

  abbrev next : Objects
  next = with_state number state objects

  abbrev now_there : Option Content
  now_there = option_map (with_changed change) (old_dirs dir)

  becomes_so : Becomes service objects next dir now_there
  becomes_so = slots_become service objects number state dir change has

  stays_so : is_some (old_dirs dir) ≡ true → is_some now_there ≡ true
  stays_so = still_there (with_changed change) (old_dirs dir)

  was_so : (name : List ℕ) → thing_found name (old_dirs dir) ≡ thing_in (slot_in name old_slots)
  was_so name = ap (λ (slots : Slots). thing_in (slot_in name slots)) (slots_here service objects number state dir has.here)

  now_so : (name : List ℕ) → thing_found name now_there ≡ thing_in (slot_in name (change old_slots))
  now_so name =
      ap (λ (found : Option Content). thing_found name (option_map (with_changed change) found)) (content_here service objects number state dir has.here)
      ∙ ap (λ (slots : Slots). thing_in (slot_in name slots)) (changed_found change _ has.nothing)

  pub unseen_by : ((name : List ℕ) → thing_in (slot_in name (change old_slots)) ≡ thing_in (slot_in name old_slots))
      → IsUnseen old_dirs (directories_after service objects number state)
  unseen_by same =
      unseen_so service objects next dir now_there becomes_so stays_so (λ name. now_so name ∙ (same name ∙ sym (was_so name)))

  module _ (name : List ℕ)
      (others : (other : List ℕ) → bytes_eq name other ≡ false → thing_in (slot_in other (change old_slots)) ≡ thing_in (slot_in other old_slots)) where
    others_so : (other : List ℕ) → bytes_eq name other ≡ false → thing_found other now_there ≡ thing_found other (old_dirs dir)
    others_so other apart = now_so other ∙ (others other apart ∙ sym (was_so other))

    pub put_by : (thing : Thing) → thing_in (slot_in name old_slots) ≡ None → thing_in (slot_in name (change old_slots)) ≡ Some thing
        → Puts old_dirs (directories_after service objects number state) dir name thing
    put_by thing free here =
        put_so service objects next dir now_there becomes_so stays_so name others_so thing (was_so name ∙ free) (now_so name ∙ here)

    pub taken_by : thing_in (slot_in name (change old_slots)) ≡ None
        → Takes old_dirs (directories_after service objects number state) dir name
    taken_by gone = taken_so service objects next dir now_there becomes_so stays_so name others_so (now_so name ∙ gone)

-- what changes in a content object beside its slots is not seen
pub unseen_beside_slots : (service : Service) (objects : Objects) (number : ℕ) (state : State) (dir : DirRef) (change : Content → Content)
    → ((c : Content) → (change c).slots ≡ c.slots) → Becomes service objects (with_state number state objects) dir (option_map change (content_in service objects dir))
    → IsUnseen (content_in service objects) (directories_after service objects number state)
unseen_beside_slots service objects number state dir change keeps becomes =
    unseen_so service objects (with_state number state objects) dir (option_map change (content_in service objects dir)) becomes
    (still_there change (content_in service objects dir))
    (λ name. ap (λ (slots : Slots). thing_in (slot_in name slots)) (same (content_in service objects dir)))
  where
    same : (found : Option Content) → slots_found (option_map change found) ≡ slots_found found
    same None = refl
    same (Some c) = keeps c
