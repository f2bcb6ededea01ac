-- What the slots of each directory are once the content objects of a server have changed.
use Rattle.std.proofs.Common.{◌≡◌, ℕ, ◌==◌, ◌&&◌, Bool, true, false, cond, List, [], ◌∷◌, map, All, Option, Some, None, refl, sym, ap, ◌∙◌, subst}
use Rattle.std.specs.Cmp.Lexicographic.{slice_cmp}
use Rattle.std.specs.List.Sorted.{IsStrictlySortedBy}
use Rattle.std.specs.List.{AllByRecursion}
use Rattle.std.specs.Option.{option_map}
use Rattle.std.specs.Ordering.{nat_cmp, match_ordering, is_eq}
use Rattle.std.specs.declared.cmp.Ordering.{Ordering}
use Rattle.std.specs.declared.cmp.Ordering.TheVariants.{Less, Equal, Greater}
use Rattle.std.proofs.lemmas.List.Elements.{All-head, All-tail}
use Rattle.std.proofs.lemmas.Map.Keys.{sorted_head, sorted_tail}
use Rattle.std.proofs.lemmas.Map.Text.{is_eq-slice_cmp}
use Rattle.inf_base.specs.declared.caller.CallRef.{CallRef}
use Rattle.inf_base.specs.declared.directory.DirRef.{DirRef}
use Rattle.inf_base.specs.declared.id.Id.{Id}
use Rattle.inf_base.specs.Content.{Content, Slot}
use Rattle.inf_base.specs.Same.{is_same_dir, is_same_id}
use Rattle.inf_base.proofs.Same.{same_dir, same_id, same_id_self}
use Rattle.inf_content.specs.Contents.{changed_at, content_at, content_of_id, dropped_at, id_cmp, if_born, may_drop, placed, slots_at, slots_found}
use Rattle.inf_content.specs.Order.{IdentifiersRise}
use Rattle.inf_laws_directory.proofs.SlotFacts.{AreSorted}

-- the content objects are in the order of their identifiers, which are told apart by their bytes
pub same_id_test : (a b : Id) → is_eq (id_cmp a b) ≡ is_same_id a b
same_id_test a b = is_eq-slice_cmp a.bytes b.bytes

same_id_back : (a b : Id) → is_same_id a b ≡ true → is_same_id b a ≡ true
same_id_back a b same = subst (λ (x : Id). is_same_id b x ≡ true) (sym (same_id a b same)) (same_id_self b)

births_apart : (a b : DirRef) → is_same_dir a b ≡ false → is_same_id b.id a.id ≡ true → (a.born == b.born) ≡ false
births_apart a b apart ids = let back = same_id_back b.id a.id ids in rw back at apart

-- a content object of another directory stands in the way only of one of its own identifier
pub passed_over : (other : DirRef) (c : Content) (cs : List Content) → is_same_dir c.dir other ≡ false
    → content_at other (c ∷ cs) ≡ cond (is_same_id other.id c.dir.id) None (content_at other cs)
passed_over other c cs apart = by (is_same_id other.id c.dir.id) (births_apart c.dir other apart)
  where
    by : (b : Bool) → (b ≡ true → (c.dir.born == other.born) ≡ false)
        → if_born other.born (cond b (Some c) (content_of_id other.id cs)) ≡ cond b None (content_at other cs)
    by true births = let apart = births refl in rw apart refl
    by false births = refl

same_front : (born : ℕ) (c : Content) (b : Bool) (found changed : Option Content) → if_born born changed ≡ if_born born found
    → if_born born (cond b (Some c) changed) ≡ if_born born (cond b (Some c) found)
same_front born c true found changed later = refl
same_front born c false found changed later = later

-- a change of one content object, which leaves it the same directory
module _ (dir : DirRef) (change : Content → Content) (keeps : (c : Content) → (change c).dir ≡ c.dir) where
  pub changed_here : (contents : List Content) → content_at dir (changed_at dir change contents) ≡ option_map change (content_at dir contents)
  changed_here [] = refl
  changed_here (c ∷ cs) = by (is_same_id dir.id c.dir.id) refl (changed_here cs)
    where
      by_born : (b : Bool) → (c.dir.born == dir.born) ≡ b → is_same_id dir.id c.dir.id ≡ true
          → content_at dir (cond b (change c) c ∷ cs) ≡ option_map change (content_at dir (c ∷ cs))
      by_born true born here =
          let ids : is_same_id dir.id (change c).dir.id ≡ true = subst (λ (d : DirRef). is_same_id dir.id d.id ≡ true) (sym (keeps c)) here in
          let births : ((change c).dir.born == dir.born) ≡ true = subst (λ (d : DirRef). (d.born == dir.born) ≡ true) (sym (keeps c)) born in
          rw (ids, births, here, born) refl
      by_born false born here = rw (here, born) refl

      by : (b : Bool) → is_same_id dir.id c.dir.id ≡ b → content_at dir (changed_at dir change cs) ≡ option_map change (content_at dir cs)
          → content_at dir (cond b (cond (c.dir.born == dir.born) (change c) c ∷ cs) (c ∷ changed_at dir change cs)) ≡ option_map change (content_at dir (c ∷ cs))
      by true here later = by_born (c.dir.born == dir.born) refl here
      by false apart later = rw apart later

  pub changed_apart : (other : DirRef) (contents : List Content) → is_same_dir dir other ≡ false
      → content_at other (changed_at dir change contents) ≡ content_at other contents
  changed_apart other [] apart = refl
  changed_apart other (c ∷ cs) apart = by (is_same_id dir.id c.dir.id) refl (changed_apart other cs apart)
    where
      by_born : (b : Bool) → (c.dir.born == dir.born) ≡ b → is_same_id c.dir.id dir.id ≡ true
          → content_at other (cond b (change c) c ∷ cs) ≡ content_at other (c ∷ cs)
      by_born true born here =
          let is : c.dir ≡ dir = same_dir c.dir dir (rw (here, born) refl) in
          let old : is_same_dir c.dir other ≡ false = subst (λ (d : DirRef). is_same_dir d other ≡ false) (sym is) apart in
          let new : is_same_dir (change c).dir other ≡ false = subst (λ (d : DirRef). is_same_dir d other ≡ false) (sym (keeps c)) old in
          passed_over other (change c) cs new
          ∙ ap (λ (d : DirRef). cond (is_same_id other.id d.id) None (content_at other cs)) (keeps c)
          ∙ sym (passed_over other c cs old)
      by_born false born here = refl

      by : (b : Bool) → is_same_id dir.id c.dir.id ≡ b → content_at other (changed_at dir change cs) ≡ content_at other cs
          → content_at other (cond b (cond (c.dir.born == dir.born) (change c) c ∷ cs) (c ∷ changed_at dir change cs)) ≡ content_at other (c ∷ cs)
      by true here later = by_born (c.dir.born == dir.born) refl (same_id_back dir.id c.dir.id here)
      by false here later = same_front other.born c (is_same_id other.id c.dir.id) (content_of_id other.id cs) (content_of_id other.id (changed_at dir change cs)) later

abbrev pub with_changed : (List (List ℕ × Slot) → List (List ℕ × Slot)) → Content → Content
with_changed change c = record c { slots = change c.slots }

-- one more content object
module _ (content : Content) where
  pub placed_here : (cs : List Content) → content_of_id content.dir.id (placed content cs) ≡ Some content
  placed_here [] = rw (same_id_self content.dir.id) refl
  placed_here (c ∷ cs) = by (id_cmp content.dir.id c.dir.id) (sym (same_id_test content.dir.id c.dir.id)) (placed_here cs)
    where
      by : (o : Ordering) → is_same_id content.dir.id c.dir.id ≡ is_eq o → content_of_id content.dir.id (placed content cs) ≡ Some content
          → content_of_id content.dir.id (match_ordering o (content ∷ c ∷ cs) (content ∷ cs) (c ∷ placed content cs)) ≡ Some content
      by Less test later = rw (same_id_self content.dir.id) refl
      by Equal test later = rw (same_id_self content.dir.id) refl
      by Greater test later = rw test later

  pub placed_apart : (id : Id) (cs : List Content) → is_same_id id content.dir.id ≡ false → content_of_id id (placed content cs) ≡ content_of_id id cs
  placed_apart id [] apart = rw apart refl
  placed_apart id (c ∷ cs) apart = by (id_cmp content.dir.id c.dir.id) (sym (same_id_test content.dir.id c.dir.id)) (placed_apart id cs apart)
    where
      by : (o : Ordering) → is_same_id content.dir.id c.dir.id ≡ is_eq o → content_of_id id (placed content cs) ≡ content_of_id id cs
          → content_of_id id (match_ordering o (content ∷ c ∷ cs) (content ∷ cs) (c ∷ placed content cs)) ≡ content_of_id id (c ∷ cs)
      by Less test later = rw apart refl
      by Equal test later =
          let here : is_same_id id c.dir.id ≡ false = subst (λ (x : Id). is_same_id id x ≡ false) (same_id content.dir.id c.dir.id test) apart in
          rw (apart, here) refl
      by Greater test later = ap (λ (o : Option Content). cond (is_same_id id c.dir.id) (Some c) o) later

-- a directory dropped, where no two have one identifier
abbrev pub bytes_of : List Content → List (List ℕ)
bytes_of cs = map (λ (c : Content). c.dir.id.bytes) cs

pub absent_id : (id : Id) (cs : List Content) → AllByRecursion (λ (other : List ℕ). slice_cmp nat_cmp id.bytes other ≡ Less) (bytes_of cs) → content_of_id id cs ≡ None
absent_id id [] before = refl
absent_id id (c ∷ cs) before =
    let apart : is_same_id id c.dir.id ≡ false = sym (same_id_test id c.dir.id) ∙ ap is_eq before.0 in
    rw apart (absent_id id cs before.1)

pub dropped_apart : (dir other : DirRef) (by : CallRef) (contents : List Content)
    → IdentifiersRise contents → is_same_dir dir other ≡ false
    → content_at other (dropped_at dir by contents) ≡ content_at other contents
dropped_apart dir other by [] sorted apart = refl
dropped_apart dir other by (c ∷ cs) sorted apart =
    by_id (is_same_id dir.id c.dir.id) refl (dropped_apart dir other by cs (sorted_tail (slice_cmp nat_cmp) c.dir.id.bytes (bytes_of cs) sorted) apart)
  where
    none_later : (b : Bool) → is_same_id other.id c.dir.id ≡ b → content_at other cs ≡ cond b None (content_at other cs)
    none_later true same =
        let none : content_of_id other.id cs ≡ None = subst (λ (x : Id). content_of_id x cs ≡ None) (sym (same_id other.id c.dir.id same)) (absent_id c.dir.id cs (sorted_head (slice_cmp nat_cmp) c.dir.id.bytes (bytes_of cs) sorted)) in
        rw none refl
    none_later false same = refl

    by_drop : (born allowed : Bool) → (c.dir.born == dir.born) ≡ born → is_same_id c.dir.id dir.id ≡ true
        → content_at other (cond (born && allowed) cs (c ∷ cs)) ≡ content_at other (c ∷ cs)
    by_drop true true births here =
        let is : c.dir ≡ dir = same_dir c.dir dir (rw (here, births) refl) in
        let old : is_same_dir c.dir other ≡ false = subst (λ (d : DirRef). is_same_dir d other ≡ false) (sym is) apart in
        none_later (is_same_id other.id c.dir.id) refl ∙ sym (passed_over other c cs old)
    by_drop true false births here = refl
    by_drop false allowed births here = refl

    by_id : (b : Bool) → is_same_id dir.id c.dir.id ≡ b → content_at other (dropped_at dir by cs) ≡ content_at other cs
        → content_at other (cond b (cond (c.dir.born == dir.born && may_drop by c) cs (c ∷ cs)) (c ∷ dropped_at dir by cs)) ≡ content_at other (c ∷ cs)
    by_id true here later = by_drop (c.dir.born == dir.born) (may_drop by c) refl (same_id_back dir.id c.dir.id here)
    by_id false here later = same_front other.born c (is_same_id other.id c.dir.id) (content_of_id other.id cs) (content_of_id other.id (dropped_at dir by cs)) later

-- the names of a directory are in order where those of each content object are
pub slots_sorted : (dir : DirRef) (contents : List Content) → All (λ (c : Content). AreSorted c.slots) contents → AreSorted (slots_at dir contents)
unfolding IsStrictlySortedBy
slots_sorted dir [] all = tt
slots_sorted dir (c ∷ cs) all = by (is_same_id dir.id c.dir.id) (slots_sorted dir cs (All-tail (λ (x : Content). AreSorted x.slots) c cs all))
  where
    by_born : (b : Bool) → AreSorted (slots_found (cond b (Some c) None))
    by_born true = All-head (λ (x : Content). AreSorted x.slots) c cs all
    by_born false = tt

    by : (b : Bool) → AreSorted (slots_at dir cs) → AreSorted (slots_found (if_born dir.born (cond b (Some c) (content_of_id dir.id cs))))
    by true later = by_born (c.dir.born == dir.born)
    by false later = later
