-- The content objects of a server, in the order of their identifiers: one definition for each call.
use Rattle.std.specs.Prelude.{ℕ, ◌==◌, Bool, false, ◌&&◌, ◌||◌, if◌then◌else◌, List, [], ◌∷◌, Option, Some, None}
use Rattle.std.specs.Cmp.Lexicographic.{slice_cmp}
use Rattle.std.specs.declared.cmp.Ordering.{Ordering}
use Rattle.std.specs.Ordering.{nat_cmp, match_ordering}
use Rattle.inf_base.specs.declared.access.Access.{Access}
use Rattle.inf_base.specs.declared.caller.Caller.{Caller}
use Rattle.inf_base.specs.declared.caller.CallRef.{CallRef}
use Rattle.inf_base.specs.declared.directory.DirRef.{DirRef}
use Rattle.inf_base.specs.declared.file.FileMeta.{FileMeta}
use Rattle.inf_base.specs.declared.id.Id.{Id}
use Rattle.inf_base.specs.declared.triple.Triple.{Triple}
use Rattle.inf_base.specs.Content.{Content, Slot, reserved, file}
use Rattle.inf_base.specs.Same.{is_same_call, is_same_id, is_same_triple}
use Rattle.inf_content.specs.declared.made.Made.{Made}
use Rattle.inf_content.specs.declared.made.Made.TheVariants as made
use Rattle.inf_content.specs.declared.seen.Seen.{Seen}
use Rattle.inf_content.specs.declared.seen.Seen.TheVariants as seen
use Rattle.inf_content.specs.Slot.{held_slot, with_meta}
use Rattle.inf_content.specs.Slots.{access_of, changed_slot, erased, filled_in, lifted, seen_of, settled_in, slot_in, with_slot, without_slot}

-- identifiers are in the order of their bytes
abbrev pub id_cmp : Id → Id → Ordering
id_cmp a b = slice_cmp nat_cmp a.bytes b.bytes

-- the content object of an identifier, whenever it was born
abbrev pub content_of_id : Id → List Content → Option Content
content_of_id id [] = None
content_of_id id (c ∷ cs) = if is_same_id id c.dir.id then Some c else content_of_id id cs

-- a content object, if it was born then
abbrev pub if_born : ℕ → Option Content → Option Content
if_born born None = None
if_born born (Some c) = if c.dir.born == born then Some c else None

-- the content object of a directory, by its identifier and its birth
abbrev pub content_at : DirRef → List Content → Option Content
content_at dir contents = if_born dir.born (content_of_id dir.id contents)

-- the content objects with the one of a directory changed; where the directory is not there, as they are
abbrev pub changed_at : DirRef → (Content → Content) → List Content → List Content
changed_at dir change [] = []
changed_at dir change (c ∷ cs) =
    if is_same_id dir.id c.dir.id then (if c.dir.born == dir.born then change c else c) ∷ cs
    else c ∷ changed_at dir change cs

-- the same, with its slots changed
abbrev pub with_slots_at : DirRef → (List (List ℕ × Slot) → List (List ℕ × Slot)) → List Content → List Content
with_slots_at dir change contents = changed_at dir (λ (c : Content). record c { slots = change c.slots }) contents

-- the content objects with one more, in its place by identifier
abbrev pub placed : Content → List Content → List Content
placed content [] = content ∷ []
placed content (c ∷ cs) =
    match_ordering (id_cmp content.dir.id c.dir.id) (content ∷ c ∷ cs) (content ∷ cs) (c ∷ placed content cs)

-- an empty directory
abbrev pub empty_content : Id → ℕ → Triple → CallRef → Content
empty_content id born asked by =
    record { dir = record { id = id; born = born }; triple = asked; maker = by; seal = None; slots = [] }

-- the call that sealed it, or else the one that made it
abbrev pub bearer_or : CallRef → Option CallRef → CallRef
bearer_or maker None = maker
bearer_or maker (Some sealer) = sealer

-- the call that is in the way of making the directory again
abbrev pub bearer : Content → CallRef
bearer content = bearer_or content.maker content.seal

-- what is found of a directory
abbrev pub seen_in : List ℕ → Option Content → Seen
seen_in name None = seen.Gone
seen_in name (Some c) = seen_of (slot_in name c.slots)

-- what is seen of a name of a directory
abbrev pub look : DirRef → List ℕ → List Content → Seen
look dir name contents = seen_in name (content_at dir contents)

-- the access object under a name of what is found of a directory
abbrev pub access_found : List ℕ → Option Content → Option Access
access_found name None = None
access_found name (Some c) = access_of (slot_in name c.slots)

-- the seal of what is found of a directory
abbrev pub seal_of : Option Content → Option CallRef
seal_of None = None
seal_of (Some c) = c.seal

-- the birth of what is found of an identifier
abbrev pub born_of : Option Content → Option ℕ
born_of None = None
born_of (Some c) = Some c.dir.born

-- the slots of a directory; none where it is not there
abbrev pub slots_found : Option Content → List (List ℕ × Slot)
slots_found None = []
slots_found (Some c) = c.slots

-- the slots of a directory, by its identifier and its birth
abbrev pub slots_at : DirRef → List Content → List (List ℕ × Slot)
slots_at dir contents = slots_found (content_at dir contents)

-- a name reserved for a directory to come
abbrev pub reserved_at : DirRef → List ℕ → CallRef → Access → List Content → List Content
reserved_at dir name by access contents = with_slots_at dir (with_slot name (reserved by access)) contents

-- a file put under a name
abbrev pub with_file_at : DirRef → List ℕ → FileMeta → List Content → List Content
with_file_at dir name meta contents = with_slots_at dir (with_slot name (file meta None)) contents

-- a file's metadata changed
abbrev pub with_meta_at : DirRef → List ℕ → FileMeta → List Content → List Content
with_meta_at dir name meta contents = with_slots_at dir (changed_slot name (with_meta meta)) contents

-- a slot removed
abbrev pub without_slot_at : DirRef → List ℕ → List Content → List Content
without_slot_at dir name contents = with_slots_at dir (without_slot name) contents

-- a slot held, with the mode to come
abbrev pub held_at : DirRef → List ℕ → CallRef → Option ℕ → List Content → List Content
held_at dir name by mode contents = with_slots_at dir (changed_slot name (held_slot by mode)) contents

-- what the call reserved first made a directory
abbrev pub filled_at : DirRef → CallRef → Option (DirRef × ℕ × Caller) → List Content → List Content
filled_at dir by link contents = with_slots_at dir (filled_in by link) contents

-- what the call held first settled
abbrev pub settled_at : DirRef → CallRef → List Content → List Content
settled_at dir by contents = with_slots_at dir (settled_in by) contents

-- each hold and each reservation of the call lifted
abbrev pub lifted_at : DirRef → CallRef → List Content → List Content
lifted_at dir by contents = with_slots_at dir (lifted by) contents

-- the first slot removed that is to go for the call
abbrev pub erased_at : DirRef → CallRef → List Content → List Content
erased_at dir by contents = with_slots_at dir (erased by) contents

-- a directory sealed
abbrev pub sealed_at : DirRef → CallRef → List Content → List Content
sealed_at dir by contents = changed_at dir (λ (c : Content). record c { seal = Some by }) contents

-- whether it is this call
abbrev pub is_call : CallRef → Option CallRef → Bool
is_call by None = false
is_call by (Some other) = is_same_call other by

-- a seal of another call stays
abbrev pub seal_left : CallRef → Option CallRef → Option CallRef
seal_left by seal = if is_call by seal then None else seal

-- the call's own seal lifted
abbrev pub unsealed_at : DirRef → CallRef → List Content → List Content
unsealed_at dir by contents = changed_at dir (λ (c : Content). record c { seal = seal_left by c.seal }) contents

-- a call may drop what it sealed or made
abbrev pub may_drop : CallRef → Content → Bool
may_drop by c = is_call by c.seal || is_same_call c.maker by

-- whether a call may drop what is found of a directory
abbrev pub may_drop_found : CallRef → Option Content → Bool
may_drop_found by None = false
may_drop_found by (Some c) = may_drop by c

-- a directory dropped, if the call may
abbrev pub dropped_at : DirRef → CallRef → List Content → List Content
dropped_at dir by [] = []
dropped_at dir by (c ∷ cs) =
    if is_same_id dir.id c.dir.id then (if c.dir.born == dir.born && may_drop by c then cs else c ∷ cs)
    else c ∷ dropped_at dir by cs

-- what comes of making a directory of this triple, where another is kept, of that triple and that call
abbrev pub made_beside : Triple → Triple → CallRef → Made
made_beside asked kept by = if is_same_triple kept asked then made.Bearer by else made.Clash kept

-- what comes of making a directory of this triple, by what is kept of its identifier
abbrev pub made_of : Triple → Option Content → Made
made_of asked None = made.New
made_of asked (Some c) = made_beside asked c.triple (bearer c)

-- a content object is added only where none of its identifier is kept
abbrev pub with_new : Content → Option Content → List Content → List Content
with_new content None contents = placed content contents
with_new content (Some kept) contents = contents

-- a directory made
abbrev pub made_at : Id → ℕ → Triple → CallRef → List Content → List Content
made_at id born asked by contents = with_new (empty_content id born asked by) (content_of_id id contents) contents
