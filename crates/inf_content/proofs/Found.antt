-- Content objects as they are kept, found and changed.
use Rattle.std.proofs.Common.{◌≡◌, ℕ, Bool, true, false, cond, ◌&&◌, ◌==◌, List, [], ◌∷◌, Option, Some, None, is_some, MutBor, refl, sym, ap, ◌∙◌, subst}
use Rattle.std.specs.BTreeMap.{insert_entry, is_at}
use Rattle.std.specs.Map.{lookup, remove_entry, set_value}
use Rattle.std.specs.Option.{OnSome, option_copied_mut, option_map}
use Rattle.std.specs.Ordering.{match_ordering}
use Rattle.std.specs.declared.cmp.Ordering.{Ordering}
use Rattle.std.specs.declared.cmp.Ordering.TheVariants.{Less, Equal, Greater}
use Rattle.std.proofs.lemmas.Map.Lookups.{exact_bytes}
use Rattle.std.proofs.lemmas.Map.Steps.{set_value_same}
use Rattle.std.proofs.lemmas.Map.Text.{is_eq-slice_cmp}
use Rattle.inf_base.specs.declared.caller.CallRef.{CallRef}
use Rattle.inf_base.specs.declared.directory.DirRef.{DirRef}
use Rattle.inf_base.specs.declared.id.Id.{Id}
use Rattle.inf_base.specs.declared.triple.Triple.{Triple}
use Rattle.inf_base.specs.Content.{Content, Slot}
use Rattle.inf_base.specs.Same.{is_same_id}
use Rattle.inf_base.proofs.Same.{same_id}
use Rattle.inf_content.specs.declared.object.Object.{Object}
use Rattle.inf_content.specs.Contents.{changed_at, content_at, content_of_id, dropped_at, empty_content, id_cmp, if_born, made_at, may_drop, may_drop_found, placed, slots_at, slots_found, with_new, with_slots_at}
use Rattle.inf_content.specs.Objects.{contents_of, whole, with_object_at}

abbrev id_from : List ℕ → Id
id_from bytes = record { bytes = bytes }

-- the map finds by the order, and the definitions by the bytes
pub same_test : (a b : Id) → is_at (id_cmp a) b ≡ is_same_id a b
same_test a b = is_eq-slice_cmp a.bytes b.bytes

of_id_step : (b : Bool) (id : Id) (e : Id × Object) (later : Option Content) (found : Option Object)
    → (b ≡ true → id ≡ e.0) → later ≡ option_map (whole id) found
    → cond b (Some (whole e.0 e.1)) later ≡ option_map (whole id) (cond b (Some e.1) found)
of_id_step true id e later found same rest = let is : id ≡ e.0 = same refl in rw is refl
of_id_step false id e later found same rest = rest

pub content_of_id-kept : (id : Id) (es : List (Id × Object))
    → content_of_id id (contents_of es) ≡ option_map (whole id) (lookup (is_at (id_cmp id)) es)
content_of_id-kept id [] = refl
content_of_id-kept id (e ∷ es) =
    rw (same_test id e.0) (of_id_step (is_same_id id e.0) id e _ _ (same_id id e.0) (content_of_id-kept id es))

-- what the map finds of an identifier, as contracts see it
pub shown_of_id : (id : Id) (es : List (Id × Object)) (cs : List Content) (found : Option Object) → contents_of es ≡ cs
    → found ≡ lookup (is_at (id_cmp id)) es → option_map (whole id) found ≡ content_of_id id cs
shown_of_id id es cs found view at = ap (option_map (whole id)) at ∙ sym (content_of_id-kept id es) ∙ ap (content_of_id id) view

-- what the map finds of an identifier is the directory, where it was born then
found_of_id : (dir : DirRef) (es : List (Id × Object)) (v : Object) → lookup (is_at (id_cmp dir.id)) es ≡ Some v
    → content_of_id dir.id (contents_of es) ≡ Some (whole dir.id v)
found_of_id dir es v at = content_of_id-kept dir.id es ∙ ap (option_map (whole dir.id)) at

found_if_born : (dir : DirRef) (es : List (Id × Object)) (v : Object) → lookup (is_at (id_cmp dir.id)) es ≡ Some v
    → content_at dir (contents_of es) ≡ cond (v.born == dir.born) (Some (whole dir.id v)) None
found_if_born dir es v at = ap (if_born dir.born) (found_of_id dir es v at)

pub none_found : (dir : DirRef) (es : List (Id × Object)) → lookup (is_at (id_cmp dir.id)) es ≡ None → None ≡ content_at dir (contents_of es)
none_found dir es at = sym (ap (if_born dir.born) (content_of_id-kept dir.id es ∙ ap (option_map (whole dir.id)) at))

pub found_so : (born : Bool) (dir : DirRef) (es : List (Id × Object)) (v : Object) → lookup (is_at (id_cmp dir.id)) es ≡ Some v → (v.born == dir.born) ≡ born
    → cond born (Some (whole dir.id v)) None ≡ content_at dir (contents_of es)
found_so born dir es v at is = sym (found_if_born dir es v at ∙ ap (λ (b : Bool). cond b (Some (whole dir.id v)) None) is)

-- a directory that is there, changed as its object is
changed_step : (b : Bool) (dir : DirRef) (change : Content → Content) (id : Id) (o v w : Object) (es written : List (Id × Object)) (later : Option Object) (changed : List Content)
    → (v.born == dir.born) ≡ true → whole id w ≡ change (whole id v)
    → cond b (Some o) later ≡ Some v → (later ≡ Some v → contents_of written ≡ changed)
    → contents_of (cond b ((id, w) ∷ es) ((id, o) ∷ written))
    ≡ cond b (cond (o.born == dir.born) (change (whole id o)) (whole id o) ∷ contents_of es) (whole id o ∷ changed)
changed_step true dir change id o v w es written later changed born is at rest = let same : o ≡ v = cc in rw (same, born, is) refl
changed_step false dir change id o v w es written later changed born is at rest = ap (λ xs. whole id o ∷ xs) (rest at)

changed_at-kept : (dir : DirRef) (change : Content → Content) (es : List (Id × Object)) (v w : Object)
    → (v.born == dir.born) ≡ true → ((id : Id) → whole id w ≡ change (whole id v)) → lookup (is_at (id_cmp dir.id)) es ≡ Some v
    → contents_of (set_value (is_at (id_cmp dir.id)) es w) ≡ changed_at dir change (contents_of es)
changed_at-kept dir change [] v w born is at = refl
changed_at-kept dir change (e ∷ es) v w born is at =
    rw (same_test dir.id e.0) (changed_step (is_same_id dir.id e.0) dir change e.0 e.1 v w es _ _ _ born (is e.0) (rw (same_test dir.id e.0) at at) (changed_at-kept dir change es v w born is))

-- an object written in its place
pub written : (dir : DirRef) (es : List (Id × Object)) (v w : Object) → lookup (is_at (id_cmp dir.id)) es ≡ Some v → (v.born == dir.born) ≡ true
    → contents_of (set_value (is_at (id_cmp dir.id)) es w) ≡ with_object_at dir w (contents_of es)
written dir es v w at born = changed_at-kept dir (λ (c : Content). whole c.dir.id w) es v w born (λ id. refl) at

-- and written back as it was
pub written_back : (dir : DirRef) (es : List (Id × Object)) (v : Object) → lookup (is_at (id_cmp dir.id)) es ≡ Some v
    → contents_of (set_value (is_at (id_cmp dir.id)) es v) ≡ contents_of es
written_back dir es v at = ap contents_of (set_value_same (is_at (id_cmp dir.id)) es v at)

-- a change counts only where the directory is
agrees_born_step : (b : Bool) (f g : Content → Content) (c found : Content) (cs : List Content) → cond b (Some c) None ≡ Some found → f found ≡ g found
    → cond b (f c) c ∷ cs ≡ cond b (g c) c ∷ cs
agrees_born_step true f g c found cs is same = let it : c ≡ found = cc in rw it (ap (λ x. x ∷ cs) same)
agrees_born_step false f g c found cs is same = refl

agrees_step : (b : Bool) (dir : DirRef) (f g : Content → Content) (c found : Content) (cs by_f by_g : List Content) (later : Option Content)
    → if_born dir.born (cond b (Some c) later) ≡ Some found → f found ≡ g found → (if_born dir.born later ≡ Some found → by_f ≡ by_g)
    → cond b (cond (c.dir.born == dir.born) (f c) c ∷ cs) (c ∷ by_f) ≡ cond b (cond (c.dir.born == dir.born) (g c) c ∷ cs) (c ∷ by_g)
agrees_step true dir f g c found cs by_f by_g later is same rest = agrees_born_step (c.dir.born == dir.born) f g c found cs is same
agrees_step false dir f g c found cs by_f by_g later is same rest = ap (λ xs. c ∷ xs) (rest is)

changed_at-agrees : (dir : DirRef) (f g : Content → Content) (found : Content) (cs : List Content) → content_at dir cs ≡ Some found → f found ≡ g found
    → changed_at dir f cs ≡ changed_at dir g cs
changed_at-agrees dir f g found [] is same = refl
changed_at-agrees dir f g found (c ∷ cs) is same =
    agrees_step (is_same_id dir.id c.dir.id) dir f g c found cs _ _ _ is same (λ later. changed_at-agrees dir f g found cs later same)

-- a directory that is not there is not changed
gone_born_step : (b : Bool) (change : Content → Content) (c : Content) (cs : List Content)
    → is_some (cond b (Some c) None) ≡ false → cond b (change c) c ∷ cs ≡ c ∷ cs
gone_born_step true change c cs h = cc
gone_born_step false change c cs h = refl

gone_step : (b : Bool) (dir : DirRef) (change : Content → Content) (c : Content) (cs changed : List Content) (later : Option Content)
    → is_some (if_born dir.born (cond b (Some c) later)) ≡ false → (is_some (if_born dir.born later) ≡ false → changed ≡ cs)
    → cond b (cond (c.dir.born == dir.born) (change c) c ∷ cs) (c ∷ changed) ≡ c ∷ cs
gone_step true dir change c cs changed later h rest = gone_born_step (c.dir.born == dir.born) change c cs h
gone_step false dir change c cs changed later h rest = ap (λ xs. c ∷ xs) (rest h)

pub changed_at-gone : (dir : DirRef) (change : Content → Content) (cs : List Content)
    → is_some (content_at dir cs) ≡ false → changed_at dir change cs ≡ cs
changed_at-gone dir change [] h = refl
changed_at-gone dir change (c ∷ cs) h =
    gone_step (is_same_id dir.id c.dir.id) dir change c cs _ _ h (changed_at-gone dir change cs)

unchanged : (dir : DirRef) (cs : List Content) → changed_at dir (λ c. c) cs ≡ cs
unchanged dir [] = refl
unchanged dir (c ∷ cs) = by (is_same_id dir.id c.dir.id) (c.dir.born == dir.born) (unchanged dir cs)
  where
    by : (here born : Bool) → changed_at dir (λ (x : Content). x) cs ≡ cs
        → cond here (cond born c c ∷ cs) (c ∷ changed_at dir (λ (x : Content). x) cs) ≡ c ∷ cs
    by true true later = refl
    by true false later = refl
    by false born later = ap (λ xs. c ∷ xs) later

-- ---- what was lent of a directory
module _ (dir : DirRef) (es : List (Id × Object)) (cs : List Content) (lent : Option (MutBor Object)) (view : contents_of es ≡ cs)
    (found : option_map (whole dir.id) (option_copied_mut lent) ≡ content_at dir (contents_of es)) where
  content_is : (shown : Option Object) → option_copied_mut lent ≡ shown → content_at dir cs ≡ option_map (whole dir.id) shown
  content_is shown is = sym (subst (λ (xs : List Content). option_map (whole dir.id) (option_copied_mut lent) ≡ content_at dir xs) view found) ∙ ap (option_map (whole dir.id)) is

  -- none, where it is not there
  pub none_changed : lent ≡ None → (change : Content → Content) (new : List (Id × Object)) → contents_of new ≡ contents_of es
      → contents_of new ≡ changed_at dir change cs
  none_changed is change new same = same ∙ view ∙ sym (changed_at-gone dir change cs (ap is_some (content_is None (ap option_copied_mut is))))

  module _ (object : MutBor Object) (is : lent ≡ Some object) where
    there : content_at dir cs ≡ Some (whole dir.id object.now)
    there = content_is (Some object.now) (ap option_copied_mut is)

    pub slots_there : slots_at dir cs ≡ object.now.slots
    slots_there = ap slots_found there

    pub changed_there : (change : Content → Content) (w : Object) (new : List (Id × Object))
        → OnSome lent (contents_of new ≡ with_object_at dir w (contents_of es)) → whole dir.id w ≡ change (whole dir.id object.now)
        → contents_of new ≡ changed_at dir change cs
    changed_there change w new ends same =
        subst (λ (o : Option (MutBor Object)). OnSome o (contents_of new ≡ with_object_at dir w (contents_of es))) is ends
        ∙ ap (with_object_at dir w) view ∙ changed_at-agrees dir (λ (c : Content). whole c.dir.id w) change (whole dir.id object.now) cs there same

    pub slots_changed_there : (change : List (List ℕ × Slot) → List (List ℕ × Slot)) (slots : List (List ℕ × Slot)) (new : List (Id × Object))
        → OnSome lent (contents_of new ≡ with_object_at dir (record object.now { slots = slots }) (contents_of es)) → slots ≡ change object.now.slots
        → contents_of new ≡ with_slots_at dir change cs
    slots_changed_there change slots new ends same =
        changed_there (λ (c : Content). record c { slots = change c.slots }) (record object.now { slots = slots }) new ends
        (ap (λ (ss : List (List ℕ × Slot)). whole dir.id (record object.now { slots = ss })) same)

    -- slots that stay as they were
    pub same_there : (slots : List (List ℕ × Slot)) (new : List (Id × Object))
        → OnSome lent (contents_of new ≡ with_object_at dir (record object.now { slots = slots }) (contents_of es)) → slots ≡ object.now.slots
        → contents_of new ≡ cs
    same_there slots new ends same =
        slots_changed_there (λ ss. ss) slots new ends same ∙ unchanged dir cs

-- a directory dropped, as its object is
may_drop_step : (b : Bool) (by : CallRef) (c : Content) → may_drop_found by (cond b (Some c) None) ≡ (b && may_drop by c)
may_drop_step true by c = refl
may_drop_step false by c = refl

cond_map : (b : Bool) (c : Content) (xs ys : List Content) → c ∷ cond b xs ys ≡ cond b (c ∷ xs) (c ∷ ys)
cond_map true c xs ys = refl
cond_map false c xs ys = refl

drop_step : (same b : Bool) (dir : DirRef) (by : CallRef) (id : Id) (o : Object) (es removed : List (Id × Object)) (later : Option Content) (dropped : List Content)
    → may_drop_found by (if_born dir.born (cond same (Some (whole id o)) later)) ≡ b
    → (may_drop_found by (if_born dir.born later) ≡ b → dropped ≡ cond b (contents_of removed) (contents_of es))
    → cond same (cond (o.born == dir.born && may_drop by (whole id o)) (contents_of es) (whole id o ∷ contents_of es)) (whole id o ∷ dropped)
    ≡ cond b (contents_of (cond same es ((id, o) ∷ removed))) (whole id o ∷ contents_of es)
drop_step true b dir by id o es removed later dropped h rest =
    ap (λ t. cond t (contents_of es) (whole id o ∷ contents_of es)) (sym (may_drop_step (o.born == dir.born) by (whole id o)) ∙ h)
drop_step false b dir by id o es removed later dropped h rest =
    ap (λ xs. whole id o ∷ xs) (rest h) ∙ cond_map b (whole id o) (contents_of removed) (contents_of es)

dropped_at-kept : (b : Bool) (dir : DirRef) (by : CallRef) (es : List (Id × Object))
    → may_drop_found by (content_at dir (contents_of es)) ≡ b
    → dropped_at dir by (contents_of es) ≡ cond b (contents_of (remove_entry (is_at (id_cmp dir.id)) es)) (contents_of es)
dropped_at-kept true dir by [] h = refl
dropped_at-kept false dir by [] h = refl
dropped_at-kept b dir by (e ∷ es) h =
    rw (same_test dir.id e.0) (drop_step (is_same_id dir.id e.0) b dir by e.0 e.1 es _ _ _ h (dropped_at-kept b dir by es))

pub dropped_at-found : (b : Bool) (dir : DirRef) (by : CallRef) (es : List (Id × Object)) (cs : List Content)
    → contents_of es ≡ cs → may_drop_found by (content_at dir cs) ≡ b
    → dropped_at dir by cs ≡ cond b (contents_of (remove_entry (is_at (id_cmp dir.id)) es)) cs
dropped_at-found b dir by es cs view h =
    subst (λ (xs : List Content). may_drop_found by (content_at dir xs) ≡ b → dropped_at dir by xs ≡ cond b (contents_of (remove_entry (is_at (id_cmp dir.id)) es)) xs) view (dropped_at-kept b dir by es) h

-- a directory added, as its object is
placed_step : (o : Ordering) (id : Id) (object : Object) (e : Id × Object) (es inserted : List (Id × Object)) (put : List Content)
    → (o ≡ Equal → id ≡ e.0) → put ≡ contents_of inserted
    → contents_of (match_ordering o ((id, object) ∷ e ∷ es) ((e.0, object) ∷ es) (e ∷ inserted))
    ≡ match_ordering o (whole id object ∷ whole e.0 e.1 ∷ contents_of es) (whole id object ∷ contents_of es) (whole e.0 e.1 ∷ put)
placed_step Less id object e es inserted put same is = refl
placed_step Equal id object e es inserted put same is = ap (λ k. whole k object ∷ contents_of es) (sym (same refl))
placed_step Greater id object e es inserted put same is = ap (λ xs. whole e.0 e.1 ∷ xs) (sym is)

pub placed-kept : (id : Id) (object : Object) (es : List (Id × Object))
    → contents_of (insert_entry id_cmp es id object) ≡ placed (whole id object) (contents_of es)
placed-kept id object [] = refl
placed-kept id object (e ∷ es) =
    placed_step (id_cmp id e.0) id object e es _ _ (λ h. ap id_from (exact_bytes id.bytes e.0.bytes h)) (sym (placed-kept id object es))

pub made_at-new : (id : Id) (born : ℕ) (triple : Triple) (by : CallRef) (es : List (Id × Object)) (cs : List Content) (slots : List (List ℕ × Slot))
    → contents_of es ≡ cs → slots ≡ [] → content_of_id id cs ≡ None
    → contents_of (insert_entry id_cmp es id (record { born = born; triple = triple; maker = by; seal = None; slots = slots })) ≡ made_at id born triple by cs
made_at-new id born triple by es cs slots view empty absent =
    let content = empty_content id born triple by in
    placed-kept id (record { born = born; triple = triple; maker = by; seal = None; slots = slots }) es
    ∙ ap (λ (ss : List (List ℕ × Slot)). placed (whole id (record { born = born; triple = triple; maker = by; seal = None; slots = ss })) (contents_of es)) empty
    ∙ ap (placed content) view
    ∙ ap (λ (o : Option Content). with_new content o cs) (sym absent)
