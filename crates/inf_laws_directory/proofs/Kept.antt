-- What the content object of each directory is once the state of one server has changed.
use Rattle.std.proofs.Common.{◌≡◌, ℕ, ◌==◌, ◌&&◌, Bool, true, false, cond, List, [], ◌∷◌, Option, Some, None, refl, sym, ap, ◌∙◌, subst}
use Rattle.std.specs.Cmp.Lexicographic.{slice_cmp}
use Rattle.std.specs.Option.{option_map}
use Rattle.std.specs.Ordering.{nat_cmp}
use Rattle.std.proofs.lemmas.Bool.{both_ways}
use Rattle.std.proofs.lemmas.Bool.Decides.{Decides-eqb}
use Rattle.std.proofs.lemmas.Map.Keys.{sorted_head, sorted_tail}
use Rattle.inf_base.specs.declared.caller.CallRef.{CallRef}
use Rattle.inf_base.specs.declared.directory.DirRef.{DirRef}
use Rattle.inf_base.specs.declared.id.Id.{Id}
use Rattle.inf_base.specs.declared.triple.Triple.{Triple}
use Rattle.inf_base.specs.Content.{Content, Slot}
use Rattle.inf_base.specs.Identity.{server_of}
use Rattle.inf_base.specs.Same.{is_same_dir, is_same_id}
use Rattle.inf_base.proofs.Same.{same_dir, same_id, same_id_self}
use Rattle.inf_content.specs.Contents.{changed_at, content_at, content_of_id, dropped_at, empty_content, if_born, made_at, may_drop, may_drop_found, placed, with_new, with_slots_at}
use Rattle.inf_server.specs.State.{Site, State, is_here}
use Rattle.inf_laws_directory.specs.Objects.{Objects, Service, content_in, site_in, with_state}
use Rattle.inf_content.specs.Order.{AreInOrder, IdentifiersRise}
use Rattle.inf_laws_directory.proofs.ContentFacts.{absent_id, bytes_of, changed_apart, changed_here, dropped_apart, placed_apart, placed_here, with_changed}

abbrev pub Slots : Type 0
Slots = List (List ℕ × Slot)

-- a request changed the slots of one directory that is kept here
pub record HasChanged (site : Site) (old new : State) (dir : DirRef) (change : Slots → Slots) : Type 0 where
  pub here : is_here site dir.id ≡ true
  pub nothing : content_at dir old.contents ≡ None → change [] ≡ []
  pub contents : new.contents ≡ with_slots_at dir change old.contents

-- the content object of one directory is this now, and those of all others are as before
pub record Becomes (service : Service) (old new : Objects) (dir : DirRef) (now : Option Content) : Type 0 where
  pub here : content_in service new dir ≡ now
  pub others : (other : DirRef) → is_same_dir dir other ≡ false → content_in service new other ≡ content_in service old other

-- what holds of a directory, and of all others, holds of each
pub each_dir : (dir : DirRef) (P : DirRef → Type 0) → P dir → ((other : DirRef) → is_same_dir dir other ≡ false → P other) → (other : DirRef) → P other
each_dir dir P here others other = by (is_same_dir dir other) refl
  where
    by : (b : Bool) → is_same_dir dir other ≡ b → P other
    by true is = subst P (same_dir dir other is) here
    by false is = others other is

-- one content object made, where none of its identifier is kept
module _ (content : Content) (contents : List Content) (none : content_of_id content.dir.id contents ≡ None) where
  placed_at : content_at content.dir (placed content contents) ≡ Some content
  placed_at =
      let new = placed_here content contents in
      let born : (content.dir.born == content.dir.born) ≡ true = (Decides-eqb _ _).1 refl in
      rw (new, born) refl

  pub placed_elsewhere : (other : DirRef) → is_same_dir content.dir other ≡ false → content_at other (placed content contents) ≡ content_at other contents
  placed_elsewhere other apart = by (is_same_id other.id content.dir.id) refl
    where
      by : (b : Bool) → is_same_id other.id content.dir.id ≡ b → content_at other (placed content contents) ≡ content_at other contents
      by true same =
          let is : content.dir.id ≡ other.id = sym (same_id other.id content.dir.id same) in
          let new : content_of_id other.id (placed content contents) ≡ Some content = subst (λ (x : Id). content_of_id x (placed content contents) ≡ Some content) is (placed_here content contents) in
          let old : content_of_id other.id contents ≡ None = subst (λ (x : Id). content_of_id x contents ≡ None) is none in
          let ids : is_same_id content.dir.id other.id ≡ true = subst (λ (x : Id). is_same_id content.dir.id x ≡ true) is (same_id_self content.dir.id) in
          let births : (content.dir.born == other.born) ≡ false = rw ids at apart in
          rw (new, old, births) refl
      by false apart_ids = ap (λ (o : Option Content). if_born other.born o) (placed_apart content other.id contents apart_ids)

-- the content object of a directory dropped, where the call may
pub dropped_here : (dir : DirRef) (by : CallRef) (contents : List Content) → IdentifiersRise contents
    → may_drop_found by (content_at dir contents) ≡ true → content_at dir (dropped_at dir by contents) ≡ None
dropped_here dir by [] sorted may = cc
dropped_here dir by (c ∷ cs) sorted may =
    by_id (is_same_id dir.id c.dir.id) refl may (dropped_here dir by cs (sorted_tail (slice_cmp nat_cmp) c.dir.id.bytes (bytes_of cs) sorted))
  where
    none_later : is_same_id dir.id c.dir.id ≡ true → content_at dir cs ≡ None
    none_later same =
        let none : content_of_id dir.id cs ≡ None = subst (λ (x : Id). content_of_id x cs ≡ None) (sym (same_id dir.id c.dir.id same)) (absent_id c.dir.id cs (sorted_head (slice_cmp nat_cmp) c.dir.id.bytes (bytes_of cs) sorted)) in
        rw none refl

    by_drop : (born allowed : Bool) → (c.dir.born == dir.born) ≡ born → may_drop by c ≡ allowed → is_same_id dir.id c.dir.id ≡ true
        → may_drop_found by (cond born (Some c) None) ≡ true
        → content_at dir (cond (born && allowed) cs (c ∷ cs)) ≡ None
    by_drop true true births allows same drops = none_later same
    by_drop true false births allows same drops = absurd (both_ways _ allows drops)
    by_drop false allowed births allows same drops = cc

    by_id : (b : Bool) → is_same_id dir.id c.dir.id ≡ b
        → may_drop_found by (if_born dir.born (cond b (Some c) (content_of_id dir.id cs))) ≡ true
        → (may_drop_found by (content_at dir cs) ≡ true → content_at dir (dropped_at dir by cs) ≡ None)
        → content_at dir (cond b (cond (c.dir.born == dir.born && may_drop by c) cs (c ∷ cs)) (c ∷ dropped_at dir by cs)) ≡ None
    by_id true same drops later = by_drop (c.dir.born == dir.born) (may_drop by c) refl refl same drops
    by_id false apart drops later = rw apart (later drops)

-- one server's state changed
module _ (service : Service) (objects : Objects) (number : ℕ) (state : State) where
  abbrev contents : List Content
  contents = (objects number).contents

  abbrev next : Objects
  next = with_state number state objects

  -- what holds of the directories of that server, and of those that stay, holds of all
  pub each_content : (P : Option Content → Option Content → Type 0) (dir : DirRef)
      → (server_of dir.id service.servers ≡ number → P (content_at dir contents) (content_at dir state.contents))
      → ((server_of dir.id service.servers ≡ number → ⊥) → P (content_in service objects dir) (content_in service objects dir))
      → P (content_in service objects dir) (content_in service next dir)
  each_content P dir here elsewhere = by (server_of dir.id service.servers == number) refl
    where
      by : (b : Bool) → (server_of dir.id service.servers == number) ≡ b
          → P (content_in service objects dir) (content_at dir (cond b state (objects (server_of dir.id service.servers))).contents)
      by true is =
          let same : server_of dir.id service.servers ≡ number = (Decides-eqb _ _).0 is in
          subst (λ (n : ℕ). P (content_at dir (objects n).contents) (content_at dir state.contents)) (sym same) (here same)
      by false is = elsewhere (λ same. both_ways _ is ((Decides-eqb _ _).1 same))

  -- at a directory that is kept here
  module _ (dir : DirRef) (here : is_here (site_in service number) dir.id ≡ true) where
    kept_here : server_of dir.id service.servers ≡ number
    kept_here = sym ((Decides-eqb number (server_of dir.id service.servers)).0 here)

    pub content_here : content_in service objects dir ≡ content_at dir contents
    content_here = ap (λ (n : ℕ). content_at dir (objects n).contents) kept_here

    pub becomes : (now : Option Content) → content_at dir state.contents ≡ now
        → ((other : DirRef) → is_same_dir dir other ≡ false → content_at other state.contents ≡ content_at other contents)
        → Becomes service objects next dir now
    becomes now is others = record {
      here = each_content (λ (old new : Option Content). new ≡ now) dir (λ same. is) (λ elsewhere. absurd (elsewhere kept_here));
      others = λ other apart. each_content (λ (old new : Option Content). new ≡ old) other (λ same. others other apart) (λ elsewhere. refl);
    }

    -- its content object changed, which it stays
    pub changed_becomes : (change : Content → Content) → ((c : Content) → (change c).dir ≡ c.dir)
        → state.contents ≡ changed_at dir change contents
        → Becomes service objects next dir (option_map change (content_in service objects dir))
    changed_becomes change keeps is =
        becomes _
        (ap (λ (cs : List Content). content_at dir cs) is ∙ changed_here dir change keeps contents ∙ ap (λ (o : Option Content). option_map change o) (sym content_here))
        (λ other apart. ap (λ (cs : List Content). content_at other cs) is ∙ changed_apart dir change keeps other contents apart)

    -- dropped
    pub dropped_becomes : (by : CallRef) → AreInOrder contents → may_drop_found by (content_in service objects dir) ≡ true
        → state.contents ≡ dropped_at dir by contents
        → Becomes service objects next dir None
    dropped_becomes by ordered may is =
        becomes None
        (ap (λ (cs : List Content). content_at dir cs) is ∙ dropped_here dir by contents ordered.identifiers (subst (λ (o : Option Content). may_drop_found by o ≡ true) content_here may))
        (λ other apart. ap (λ (cs : List Content). content_at other cs) is ∙ dropped_apart dir other by contents ordered.identifiers apart)

  -- the slots of one directory changed
  pub slots_become : (dir : DirRef) (change : Slots → Slots) → HasChanged (site_in service number) (objects number) state dir change
      → Becomes service objects next dir (option_map (with_changed change) (content_in service objects dir))
  slots_become dir change has = changed_becomes dir has.here (with_changed change) (λ c. refl) has.contents

  -- made, where none of its identifier is kept
  pub made_becomes : (id : Id) (born : ℕ) (asked : Triple) (by : CallRef) → is_here (site_in service number) id ≡ true
      → content_of_id id contents ≡ None → state.contents ≡ made_at id born asked by contents
      → Becomes service objects next (record { id = id; born = born }) (Some (empty_content id born asked by))
  made_becomes id born asked by here none is =
      let content = empty_content id born asked by in
      let placed_so : state.contents ≡ placed content contents = is ∙ ap (λ (o : Option Content). with_new content o contents) none in
      becomes content.dir here (Some content)
      (ap (λ (cs : List Content). content_at content.dir cs) placed_so ∙ placed_at content contents none)
      (λ other apart. ap (λ (cs : List Content). content_at other cs) placed_so ∙ placed_elsewhere content contents none other apart)
