-- What an attempt was told, by key, and what that says behind a directory.
use Rattle.std.specs.Prelude.{ℕ, ◌==◌, ◌&&◌, Bool, true, false, if◌then◌else◌, List, Option, Some, None}
use Rattle.std.specs.List.{find}
use Rattle.std.specs.Str.{bytes_eq}
use Rattle.inf_base.specs.declared.access.Access.{Access}
use Rattle.inf_base.specs.declared.caller.CallRef.{CallRef}
use Rattle.inf_base.specs.declared.directory.DirRef.{DirRef}
use Rattle.inf_base.specs.declared.entry.Entry.{Entry}
use Rattle.inf_base.specs.declared.id.Id.{Id}
use Rattle.inf_base.specs.declared.key.Key.{Key}
use Rattle.inf_base.specs.declared.key.Key.TheVariants as key
use Rattle.inf_base.specs.declared.key.LookKey.{LookKey}
use Rattle.inf_base.specs.declared.key.LookKey.TheVariants as look
use Rattle.inf_base.specs.Same.{is_same_dir, is_same_id}
use Rattle.inf_message.specs.declared.reply.Reply.{Reply}
use Rattle.inf_message.specs.declared.reply.Reply.TheVariants as reply
use Rattle.inf_resolve.specs.declared.known.Known.{Known}

-- keys are the same if they name the same directory and the same name in it
abbrev pub is_same_key : LookKey → LookKey → Bool
is_same_key look.Top look.Top = true
is_same_key look.Top (look.At dir name) = false
is_same_key (look.At dir name) look.Top = false
is_same_key (look.At dir name) (look.At other_dir other_name) = is_same_id dir other_dir && bytes_eq name other_name

-- what was told under a key, which is asked once in an attempt
abbrev pub told_under : LookKey → List Known → Option Known
told_under wanted known = find (λ (x : Known). is_same_key wanted x.key) known

-- what was told of a name in the directory of an identifier
abbrev pub told_at : List Known → Id → List ℕ → Option Known
told_at known id name = told_under (look.At id name) known

-- an access object as it was told, with the place of the Serve as its stamp
abbrev pub told_entry : Key → Access → ℕ → Entry
told_entry k access place = record { key = k; access = access; stamp = place }

-- whether an access object of this key stands in that directory, by identifier and birth
abbrev pub links_to : DirRef → Key → Bool
links_to dir key.Top = false
links_to dir (key.At other name) = is_same_dir other dir

-- the entry that goes on behind a directory, if a reply tells one that links to it
abbrev pub entry_behind : DirRef → Option Known → Option Entry
entry_behind dir None = None
entry_behind dir (Some told) = of told.reply
  where
    of : Reply → Option Entry
    of (reply.Found k access) = if links_to dir k then Some (told_entry k access told.place) else None
    of any_reply = None

-- the change that is in the way behind a directory, and where this was told: not one of a directory of another birth
abbrev pub busy_behind : DirRef → Option Known → Option (CallRef × ℕ)
busy_behind dir None = None
busy_behind dir (Some told) = of told.reply
  where
    of : Reply → Option (CallRef × ℕ)
    of (reply.Busy by at born) = if born == dir.born then Some (by, told.place) else None
    of any_reply = None
