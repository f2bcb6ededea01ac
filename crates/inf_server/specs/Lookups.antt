-- Lookups: what is told of an access object.
use Rattle.std.specs.Prelude.{ℕ, List, Option, Some, None, Result, Ok, Err}
use Rattle.std.specs.Option.{ok_or}
use Rattle.inf_base.specs.declared.caller.CallRef.{CallRef}
use Rattle.inf_base.specs.declared.directory.DirRef.{DirRef}
use Rattle.inf_base.specs.declared.id.Id.{Id}
use Rattle.inf_base.specs.declared.key.Key.TheVariants as key
use Rattle.inf_base.specs.Checks.{◌>>=◌, ◌>>◌, check}
use Rattle.inf_base.specs.Content.{Slot, reserved, file, directory}
use Rattle.inf_content.specs.Contents.{born_of, content_at, content_of_id, seal_of, slots_at}
use Rattle.inf_content.specs.Slot.{holder}
use Rattle.inf_content.specs.Slots.{slot_in}
use Rattle.inf_message.specs.declared.reply.Reply.{Reply}
use Rattle.inf_message.specs.declared.reply.Reply.TheVariants as reply
use Rattle.inf_message.specs.declared.reply.Spot.TheVariants as spot
use Rattle.inf_server.specs.Names.{in_the_way}
use Rattle.inf_server.specs.Response.{Response, done}
use Rattle.inf_server.specs.State.{Site, State, is_here, root_id}

-- a lookup is told nothing of what is held, whoever holds it
abbrev pub unheld : ℕ → Option CallRef → Result (Unit {0}) Reply
unheld born None = Ok tt
unheld born (Some by) = Err (in_the_way by born)

abbrev pub lookup_top : Site → State → Result Response Reply
lookup_top site state = do
  check (is_here site (root_id site)) reply.Other
  top ← ok_or state.top reply.Other
  unheld 0 (holder top.held)
  done (reply.Found key.Top top.access) state

-- nor of what stands in a sealed directory, whoever sealed it
abbrev pub unless_sealed : ℕ → Option CallRef → Result (Unit {0}) Reply
unless_sealed born None = Ok tt
unless_sealed born (Some sealer) = Err (reply.Busy sealer spot.Sealed born)

-- what is told of what stands under a name of a directory
abbrev pub told_of : DirRef → List ℕ → Option Slot → Result Reply Reply
told_of dir name None = Ok (reply.Absent dir.born)
told_of dir name (Some (reserved by access)) = Err (in_the_way by dir.born)
told_of dir name (Some (file meta held)) = do
  unheld dir.born (holder held)
  Ok (reply.IsFile dir.born)
told_of dir name (Some (directory access held)) = do
  unheld dir.born (holder held)
  Ok (reply.Found (key.At dir name) access)

-- the directory is asked for by its identifier alone, whenever it was born
abbrev pub lookup_at : Site → State → Id → List ℕ → Result Response Reply
lookup_at site state id name = do
  check (is_here site id) reply.Other
  born ← ok_or (born_of (content_of_id id state.contents)) reply.NoDir
  let dir : DirRef = record { id = id; born = born }
  unless_sealed born (seal_of (content_at dir state.contents))
  told ← told_of dir name (slot_in name (slots_at dir state.contents))
  done told state
