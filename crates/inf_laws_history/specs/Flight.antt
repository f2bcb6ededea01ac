-- Changes in flight: what of a call stands at a server, and how it touches another call.
use Rattle.std.specs.Prelude.{◌≡◌, ℕ, ◌≤◌, ◌<◌, Bool, true, false, not, ◌&&◌, ◌||◌, List, [], ◌∷◌, Option, Some, None, is_none}
use Rattle.std.specs.List.{list_any}
use Rattle.inf_base.specs.declared.caller.CallRef.{CallRef}
use Rattle.inf_base.specs.declared.directory.DirRef.{DirRef}
use Rattle.inf_base.specs.declared.entry.Entry.{Entry}
use Rattle.inf_base.specs.declared.key.LookKey.TheVariants as look
use Rattle.inf_base.specs.Changes.{AdmittedChange}
use Rattle.inf_base.specs.Content.{Content, Hold, Slot, TopAccess, reserved, file, directory}
use Rattle.inf_base.specs.Marks.{Mark}
use Rattle.inf_base.specs.declared.triple.Triple.{Triple}
use Rattle.inf_base.specs.Same.{dir_of, is_same_call, is_same_dir, is_same_triple}
use Rattle.inf_content.specs.Contents.{content_at, content_of_id}
use Rattle.inf_content.specs.Slots.{slot_in}
use Rattle.inf_laws_history.specs.Legal.{server_after}
use Rattle.inf_duty.specs.World.{World}
use Rattle.inf_message.specs.declared.event.Event.{Event}
use Rattle.inf_message.specs.declared.event.Event.TheVariants as event
use Rattle.inf_message.specs.declared.op.Op.{Op}
use Rattle.inf_message.specs.declared.op.Op.TheVariants as op
use Rattle.inf_message.specs.declared.reply.Reply.TheVariants as reply
use Rattle.inf_message.specs.declared.reply.Spot.{Spot}
use Rattle.inf_message.specs.declared.reply.Spot.TheVariants as spot
use Rattle.inf_message.specs.declared.request.Request.{Request}
use Rattle.inf_message.specs.declared.request.Request.TheVariants as request
use Rattle.inf_message.specs.History.{Posted, asked_at}
use Rattle.inf_server.specs.Chains.{before_last, last_of}
use Rattle.inf_server.specs.Removals.{name_in}
use Rattle.inf_server.specs.State.{State}

abbrev pub holds : CallRef → Option Hold → Bool
holds by None = false
holds by (Some hold) = is_same_call hold.by by

abbrev pub is_of : CallRef → Option CallRef → Bool
is_of by None = false
is_of by (Some other) = is_same_call other by

-- held or reserved by the call
abbrev pub is_taken : CallRef → Slot → Bool
is_taken by (reserved other access) = is_same_call other by
is_taken by (file meta held) = holds by held
is_taken by (directory access held) = holds by held

abbrev pub is_taken_at_top : CallRef → Option TopAccess → Bool
is_taken_at_top by None = false
is_taken_at_top by (Some top) = holds by top.held

-- ---- what stands of a call

abbrev pub links : DirRef → Request → Bool
links dir (request.Link chain name linked mode) = is_same_dir dir linked
links dir other_request = false

abbrev pub links_by : DirRef → Option Posted → Bool
links_by dir None = false
links_by dir (Some posted) = links dir posted.ask.request

-- whether the directory was linked to a name
abbrev pub was_linked : DirRef → List Event → Bool
was_linked dir [] = false
was_linked dir (event.Serve number ask_place reply.Fine ∷ h) = links_by dir (asked_at ask_place h) || was_linked dir h
was_linked dir (other_event ∷ h) = was_linked dir h

-- the call made the directory, and it has no name yet
abbrev pub is_unlinked : CallRef → List Event → Content → Bool
is_unlinked by h content = is_same_call content.maker by && not (was_linked content.dir h)

abbrev pub changes_in : CallRef → List Event → Content → Bool
changes_in by h content =
    is_of by content.seal || list_any (λ e. is_taken by e.1) content.slots || is_unlinked by h content

-- a hold, a reservation, a seal, an unlinked directory, a pending mark or an admitted change of the call
abbrev pub stands : CallRef → List Event → State → Bool
stands by h state =
    is_taken_at_top by state.top
    || list_any (changes_in by h) state.contents
    || list_any (λ (m : Mark). not m.is_finished && is_same_call m.by by) state.marks
    || list_any (λ (a : AdmittedChange). is_same_call a.by by) state.changes

-- a change of the call is in flight at a server, or at the coordinator, whose number is that of the servers, where
-- there are any
pub record InFlight (world : World) (h : List Event) (by : CallRef) : Type 0 where
  pub server : ℕ
  pub known : 0 < world.setup.servers → server ≤ world.setup.servers
  pub change : stands by h (server_after world server h) ≡ true

-- ---- how a change touches another call, by the spot that a Busy reply names

abbrev pub is_sealed_by : CallRef → Option Content → Bool
is_sealed_by by None = false
is_sealed_by by (Some content) = is_of by content.seal

abbrev pub slot_taken : CallRef → Option Slot → Bool
slot_taken by None = false
slot_taken by (Some slot) = is_taken by slot

abbrev pub name_taken : CallRef → List ℕ → Option Content → Bool
name_taken by name None = false
name_taken by name (Some content) = slot_taken by (slot_in name content.slots)

abbrev pub asked_content : State → Option Entry → Option Content
asked_content state None = None
asked_content state (Some entry) = content_at (dir_of entry.access) state.contents

abbrev pub some_taken : CallRef → Option Content → Bool
some_taken by None = false
some_taken by (Some content) = list_any (λ e. is_taken by e.1) content.slots

-- the name that the deciding message asks for, of the kinds that clients send
abbrev pub asked_name : Op → Option (List ℕ)
asked_name (op.Create name mode) = Some name
asked_name (op.Stat name) = Some name
asked_name (op.Walk name) = Some name
asked_name (op.RmdirName name) = Some name
asked_name other_op = None

-- the name of the directory that is to be removed, which ends the chain
abbrev pub target_name : Option Entry → Option (List ℕ)
target_name None = None
target_name (Some target) = name_in target.key

abbrev pub if_name_taken : CallRef → Option (List ℕ) → Option Content → Bool
if_name_taken by None content = false
if_name_taken by (Some name) content = name_taken by name content

-- it is the content object of this very birth, sealed by the call, or made by it and not sealed
abbrev pub bears : CallRef → Triple → Content → Bool
bears by birth content =
    is_same_triple birth content.triple
    && (is_of by content.seal || (is_none content.seal && is_same_call content.maker by))

-- a hold or reservation on the name asked, the hold on the root's access object, one on a name in the directory that is
-- to be sealed, the seal of the directory asked, or the content object of the very directory that is to be made
abbrev pub touches : CallRef → Spot → Request → State → Bool
touches by spot.Slot (request.Lookup look.Top) state = is_taken_at_top by state.top
touches by spot.Slot (request.Lookup (look.At id name)) state = name_taken by name (content_of_id id state.contents)
touches by spot.Slot (request.Finish chain asked) state =
    if_name_taken by (asked_name asked) (asked_content state (last_of chain))
touches by spot.Slot (request.Reserve chain name) state = name_taken by name (asked_content state (last_of chain))
touches by spot.Slot (request.Unlink chain) state =
    if_name_taken by (target_name (last_of chain)) (asked_content state (last_of (before_last chain)))
touches by spot.Inside (request.Seal chain) state = some_taken by (asked_content state (last_of chain))
touches by spot.Sealed (request.Lookup (look.At id name)) state = is_sealed_by by (content_of_id id state.contents)
touches by spot.Sealed (request.Finish chain asked) state = is_sealed_by by (asked_content state (last_of chain))
touches by spot.Sealed (request.Reserve chain name) state = is_sealed_by by (asked_content state (last_of chain))
touches by spot.Sealed (request.Link chain name dir mode) state = is_sealed_by by (asked_content state (last_of chain))
touches by spot.Sealed (request.Seal chain) state = is_sealed_by by (asked_content state (last_of chain))
touches by spot.Sealed (request.Unlink chain) state =
    is_sealed_by by (asked_content state (last_of (before_last chain)))
touches by spot.Bearer (request.Make birth) state = list_any (bears by birth) state.contents
touches by any_spot any_request state = false
