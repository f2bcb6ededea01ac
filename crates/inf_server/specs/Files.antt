-- What the one message of a call does with what stands under a name: the checks in their order, one line each.
use Rattle.std.specs.Prelude.{ℕ, List, [], ◌∷◌, Result, Ok, Err}
use Rattle.inf_base.specs.declared.caller.Caller.{Caller}
use Rattle.inf_base.specs.declared.entry.Entry.{Entry}
use Rattle.inf_base.specs.declared.errno.Errno.TheVariants as errno
use Rattle.inf_base.specs.declared.file.FileMeta.{FileMeta}
use Rattle.inf_base.specs.declared.item.Kind.TheVariants as kind
use Rattle.inf_base.specs.Checks.{◌>>=◌, ◌>>◌, check}
use Rattle.inf_base.specs.Same.{dir_of}
use Rattle.inf_content.specs.Contents.{with_file_at}
use Rattle.inf_content.specs.declared.seen.Seen.{Seen}
use Rattle.inf_content.specs.declared.seen.Seen.TheVariants as seen
use Rattle.inf_message.specs.declared.ask.Ask.{Ask}
use Rattle.inf_message.specs.declared.reply.Reply.{Reply}
use Rattle.inf_message.specs.declared.reply.Reply.TheVariants as reply
use Rattle.inf_server.specs.Chains.{last_of}
use Rattle.inf_server.specs.Checks.{asked_of, searched, writable}
use Rattle.inf_server.specs.Names.{found_by, is_missing}
use Rattle.inf_server.specs.Response.{Response, done}
use Rattle.inf_server.specs.State.{Site, State, with_contents}

-- a new file is empty, and the caller's
abbrev pub new_file : Caller → ℕ → FileMeta
new_file caller mode = record { mode = mode; owner = caller.uid; group = caller.gid; length = 0 }

abbrev pub create : Site → State → Ask → List Entry → List ℕ → ℕ → Result Response Reply
create site state ask chain name mode = do
  entry ← asked_of site state ask.from (last_of chain) (chain ∷ [])
  searched ask.caller chain
  writable ask.caller entry
  found ← found_by ask.from (dir_of entry.access) name state.contents
  check (is_missing found) (reply.Refused errno.EEXIST)
  let contents = with_file_at (dir_of entry.access) name (new_file ask.caller mode) state.contents
  done reply.Fine (with_contents contents state)

-- what is told of what was found; a directory has length 0
abbrev pub stat_of : Seen → Result Reply Reply
stat_of seen.Gone = Err reply.Gone
stat_of seen.Missing = Err (reply.Refused errno.ENOENT)
stat_of (seen.Reserved other) = Err reply.Other
stat_of (seen.File meta held) = Ok (reply.Stat kind.File meta)
stat_of (seen.Dir dir mode owner group held) =
    Ok (reply.Stat kind.Dir (record { mode = mode; owner = owner; group = group; length = 0 }))

abbrev pub stat : Site → State → Ask → List Entry → List ℕ → Result Response Reply
stat site state ask chain name = do
  entry ← asked_of site state ask.from (last_of chain) (chain ∷ [])
  searched ask.caller chain
  found ← found_by ask.from (dir_of entry.access) name state.contents
  told ← stat_of found
  done told state

-- why a path cannot go on from here; where a directory stands, it could have gone on
abbrev pub no_directory : Seen → Reply
no_directory seen.Gone = reply.Gone
no_directory seen.Missing = reply.Refused errno.ENOENT
no_directory (seen.Reserved other) = reply.Other
no_directory (seen.File meta held) = reply.Refused errno.ENOTDIR
no_directory (seen.Dir dir mode owner group held) = reply.Other

-- the walk ends at this name
abbrev pub walk : Site → State → Ask → List Entry → List ℕ → Result Response Reply
walk site state ask chain name = do
  entry ← asked_of site state ask.from (last_of chain) (chain ∷ [])
  searched ask.caller chain
  found ← found_by ask.from (dir_of entry.access) name state.contents
  Err (no_directory found)

-- the removal of a directory that is none
abbrev pub rmdir_name : Site → State → Ask → List Entry → List ℕ → Result Response Reply
rmdir_name site state ask chain name = do
  entry ← asked_of site state ask.from (last_of chain) (chain ∷ [])
  searched ask.caller chain
  writable ask.caller entry
  found ← found_by ask.from (dir_of entry.access) name state.contents
  Err (no_directory found)
