-- What a call in a phase may send, and its phase once that was served.
use Rattle.std.specs.Prelude.{◌≡◌, ℕ, List, Option, Some, None}
use Rattle.inf_base.specs.declared.access.Access.{Access}
use Rattle.inf_base.specs.declared.directory.DirRef.{DirRef}
use Rattle.inf_base.specs.declared.entry.Entry.{Entry}
use Rattle.inf_base.specs.declared.key.Key.{Key}
use Rattle.inf_base.specs.declared.key.Key.TheVariants as key
use Rattle.inf_base.specs.declared.triple.Triple.TheVariants as triple
use Rattle.inf_base.specs.Identity.{identity}
use Rattle.inf_base.specs.Same.{dir_of}
use Rattle.inf_message.specs.declared.reply.Reply.{Reply}
use Rattle.inf_message.specs.declared.reply.Reply.TheVariants as reply
use Rattle.inf_message.specs.declared.request.Request.{Request}
use Rattle.inf_message.specs.declared.request.Request.TheVariants as request
use Rattle.inf_server.specs.Chains.{before_last, last_of}
use Rattle.inf_laws_directory.specs.At.{At}
use Rattle.inf_laws_directory.specs.Objects.{Service}
use Rattle.inf_laws_directory.specs.Phases.{Phase, has_made, has_reserved, has_sealed, has_unlinked, idle}

-- a reservation that was made, where the chain has a last entry
abbrev pub reserved_at_end : Option Entry → Phase → List ℕ → ℕ → Phase
reserved_at_end None phase name version = phase
reserved_at_end (Some last) phase name version =
    has_reserved (dir_of last.access) name (triple.Of last.access.id name version)

-- a seal that was set on the directory that ends the chain, behind the one before it
abbrev pub sealed_under : Option Entry → Phase → Key → Access → Phase
sealed_under None phase asked access = phase
sealed_under (Some parent) phase key.Top access = phase
sealed_under (Some parent) phase (key.At dir name) access = has_sealed (dir_of parent.access) name (dir_of access)

abbrev pub sealed_at_end : Option Entry → Option Entry → Phase → Phase
sealed_at_end parent None phase = phase
sealed_at_end parent (Some target) phase = sealed_under parent phase target.key target.access

abbrev pub unlinked_at_end : Option Entry → Phase → Phase
unlinked_at_end None phase = phase
unlinked_at_end (Some target) phase = has_unlinked (dir_of target.access)

abbrev pub after_drop : Phase → Phase
after_drop (has_made parent name birth made) = has_reserved parent name birth
after_drop other_phase = idle

abbrev pub after_make : Service → At → Phase → Phase
after_make service at (has_reserved parent name birth) =
    has_made parent name birth (record { id = identity service.digest birth; born = at.ask_place })
after_make service at other_phase = other_phase

-- by the Serve, the request and the reply
abbrev pub next_phase : Service → At → Phase → Request → Reply → Phase
next_phase service at phase (request.Reserve chain name) (reply.Reserved version) =
    reserved_at_end (last_of chain) phase name version
next_phase service at phase (request.Make birth) reply.Fine = after_make service at phase
next_phase service at phase (request.Link chain name dir mode) reply.Fine = idle
next_phase service at phase (request.Cancel dir) reply.Fine = idle
next_phase service at phase (request.Drop dir) reply.Fine = after_drop phase
next_phase service at phase (request.Seal chain) reply.Fine =
    sealed_at_end (last_of (before_last chain)) (last_of chain) phase
next_phase service at phase (request.Unlink chain) reply.Fine = unlinked_at_end (last_of chain) phase
next_phase service at phase (request.Unseal dir) reply.Fine = idle
next_phase service at phase any_request any_reply = phase

-- the chain ends in this directory
abbrev pub EndsIn : Option Entry → DirRef → Type 0
EndsIn None dir = ⊥
EndsIn (Some last) dir = dir_of last.access ≡ dir

-- a call with nothing in hand looks, finishes, reserves, seals or forgets; one that has something in hand goes on with
-- it, or lets it go. No such request is bound to a server or to a place
abbrev pub Fits : At → Phase → Request → Type 0
Fits at idle (request.Lookup asked) = Unit {0}
Fits at idle (request.Finish chain asked) = Unit {0}
Fits at idle (request.Reserve chain name) = Unit {0}
Fits at idle (request.Seal chain) = Unit {0}
Fits at idle (request.Forget parent dir) = Unit {0}
Fits at (has_reserved parent name birth) (request.Make asked) = asked ≡ birth
Fits at (has_reserved parent name birth) (request.Cancel dir) = dir ≡ parent
Fits at (has_made parent name birth made) (request.Link chain asked dir mode) =
    EndsIn (last_of chain) parent × (asked ≡ name) × (dir ≡ made)
Fits at (has_made parent name birth made) (request.Drop dir) = dir ≡ made
Fits at (has_sealed parent name target) (request.Unlink chain) =
    EndsIn (last_of (before_last chain)) parent × EndsIn (last_of chain) target
Fits at (has_sealed parent name target) (request.Unseal dir) = dir ≡ target
Fits at (has_unlinked target) (request.Drop dir) = dir ≡ target
Fits at any_phase any_request = ⊥
