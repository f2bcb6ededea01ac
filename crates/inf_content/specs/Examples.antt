-- Small content objects, on which the definitions of calls are computed.
use Rattle.std.specs.Prelude.{ℕ, List, [], ◌∷◌, codes, replicate, Some, None}
use Rattle.inf_base.specs.declared.access.Access.{Access}
use Rattle.inf_base.specs.declared.caller.Caller.{Caller}
use Rattle.inf_base.specs.declared.caller.CallRef.{CallRef}
use Rattle.inf_base.specs.declared.directory.DirRef.{DirRef}
use Rattle.inf_base.specs.declared.file.FileMeta.{FileMeta}
use Rattle.inf_base.specs.declared.id.Id.{Id}
use Rattle.inf_base.specs.declared.triple.Triple.TheVariants as triple
use Rattle.inf_base.specs.Content.{Content, Slot, file}
use Rattle.inf_content.specs.Contents.{empty_content}

abbrev pub low_id : Id
low_id = record { bytes = replicate 32 0 }

abbrev pub high_id : Id
high_id = record { bytes = 1 ∷ replicate 31 0 }

abbrev pub dir : DirRef
dir = record { id = low_id; born = 3 }

-- of the same identifier, and born later
abbrev pub later_dir : DirRef
later_dir = record { id = low_id; born = 4 }

abbrev pub call : CallRef
call = record { client = 0; number = 1 }

abbrev pub other_call : CallRef
other_call = record { client = 1; number = 1 }

abbrev pub a : List ℕ
a = codes "a"

abbrev pub b : List ℕ
b = codes "b"

abbrev pub c : List ℕ
c = codes "c"

abbrev pub meta : FileMeta
meta = record { mode = 0o640; owner = 0; group = 0; length = 0 }

-- a directory that was made in `dir` as `a`
abbrev pub access : Access
access = record { id = high_id; born = 5; mode = 0o755; owner = 7; group = 7; birth = triple.Of low_id (codes "a") 0 }

-- a directory that moves, with the mode and the owner that it is to have
abbrev pub moved : DirRef
moved = record { id = low_id; born = 9 }

abbrev pub owner : Caller
owner = record { uid = 1; gid = 2 }

-- `dir` alone, with these slots
abbrev pub holding : List (List ℕ × Slot) → List Content
holding slots = record (empty_content low_id 3 triple.Root call) { slots = slots } ∷ []

abbrev pub empty : List Content
empty = holding []

-- a file under a name, held by a call with no mode to come
abbrev pub held_file : CallRef → Slot
held_file by = file meta (Some (record { by = by; mode = None }))

-- the same with a mode to come
abbrev pub changing_file : CallRef → ℕ → Slot
changing_file by mode = file meta (Some (record { by = by; mode = Some mode }))
