-- Small paths, on which the definition is computed. An identifier is here the very message that it is the digest of.
use Rattle.std.specs.Prelude.{ℕ, List, [], ◌∷◌, codes}
use Rattle.inf_base.specs.declared.access.Access.{Access}
use Rattle.inf_base.specs.declared.caller.CallRef.{CallRef}
use Rattle.inf_base.specs.declared.directory.DirRef.{DirRef}
use Rattle.inf_base.specs.declared.entry.Entry.{Entry}
use Rattle.inf_base.specs.declared.id.Id.{Id}
use Rattle.inf_base.specs.declared.key.Key.TheVariants as key
use Rattle.inf_base.specs.declared.key.LookKey.TheVariants as look
use Rattle.inf_base.specs.declared.triple.Triple.TheVariants as triple
use Rattle.inf_base.specs.Identity.{identity}
use Rattle.inf_message.specs.declared.reply.Reply.{Reply}
use Rattle.inf_message.specs.declared.reply.Reply.TheVariants as reply
use Rattle.inf_message.specs.declared.reply.Spot.TheVariants as spot
use Rattle.inf_resolve.specs.declared.known.Known.{Known}
use Rattle.inf_resolve.specs.declared.resolved.Resolved.{Resolved}
use Rattle.inf_resolve.specs.declared.resolved.Resolved.TheVariants as comes
use Rattle.inf_resolve.specs.Known.{told_entry}
use Rattle.inf_resolve.specs.Resolved.{resolved}

abbrev pub plain : List ℕ → Id
plain message = record { bytes = message }

abbrev pub root : Id
root = plain []

abbrev pub a : List ℕ
a = codes "a"

abbrev pub b : List ℕ
b = codes "b"

abbrev pub c : List ℕ
c = codes "c"

-- what is made under a name in the directory of an identifier, with this version
abbrev pub made : Id → List ℕ → ℕ → Id
made id name version = identity plain (triple.Of id name version)

-- what becomes of an attempt at one path, and at two
abbrev pub one_path : List (List ℕ) → List Known → Resolved
one_path names known = resolved plain root (record { old = names; new = [] }) known

abbrev pub two_paths : List (List ℕ) → List (List ℕ) → List Known → Resolved
two_paths old new known = resolved plain root (record { old = old; new = new }) known

abbrev pub dir : Id → ℕ → DirRef
dir id born = record { id = id; born = born }

abbrev pub top : DirRef
top = dir root 0

abbrev pub access : DirRef → Access
access d = record { id = d.id; born = d.born; mode = 0o755; owner = 0; group = 0; birth = triple.Root }

-- the root, and a name in a directory, as they are told at a place
abbrev pub told_root : ℕ → Known
told_root place = record { key = look.Top; reply = reply.Found key.Top (access top); place = place }

abbrev pub root_entry : ℕ → Entry
root_entry place = told_entry key.Top (access top) place

abbrev pub told_dir : DirRef → List ℕ → DirRef → ℕ → Known
told_dir above name found place =
    record { key = look.At above.id name; reply = reply.Found (key.At above name) (access found); place = place }

abbrev pub entry_in : DirRef → List ℕ → DirRef → ℕ → Entry
entry_in above name found place = told_entry (key.At above name) (access found) place

-- any other reply for the root, and to a lookup in the directory of an identifier
abbrev pub told_of_root : Reply → ℕ → Known
told_of_root given place = record { key = look.Top; reply = given; place = place }

abbrev pub told : Id → List ℕ → Reply → ℕ → Known
told id name given place = record { key = look.At id name; reply = given; place = place }

abbrev pub other_call : CallRef
other_call = record { client = 1; number = 1 }

-- another call is in the way in a directory of that birth
abbrev pub busy : ℕ → Reply
busy born = reply.Busy other_call spot.Slot born

-- one path leads from the root, which was told at a place, along these entries, and leaves these names
abbrev pub leads : ℕ → List Entry → List (List ℕ) → Resolved
leads place entries left =
    comes.Leads (record { chain = root_entry place ∷ entries; left = left })
    (record { chain = root_entry place ∷ []; left = [] })

-- `a` in the root, as it is predicted, and born at 7
abbrev pub first : DirRef
first = dir (made root a 0) 7

-- `b` in that, as it is predicted; and the second that was made there
abbrev pub second : DirRef
second = dir (made (made root a 0) b 0) 9

abbrev pub later : DirRef
later = dir (made (made root a 0) b 1) 11
