-- Why a call is answered Again: the change in flight that touched it; and why IdClash: two births with one identifier.
use Rattle.std.specs.Prelude.{◌≡◌, ◌≢◌, ℕ, suc, nat_lt, true, if◌then◌else◌, List, [], ◌∷◌, length, Some}
use Rattle.inf_base.specs.declared.access.Access.{Access}
use Rattle.inf_base.specs.declared.caller.CallRef.{CallRef}
use Rattle.inf_base.specs.declared.id.Id.{Id}
use Rattle.inf_base.specs.declared.key.Key.{Key}
use Rattle.inf_base.specs.declared.key.LookKey.TheVariants as look
use Rattle.inf_base.specs.declared.triple.Triple.{Triple}
use Rattle.inf_base.specs.Content.{Content}
use Rattle.inf_base.specs.Identity.{identity}
use Rattle.inf_content.specs.Contents.{content_of_id}
use Rattle.inf_laws_directory.specs.At.{At}
use Rattle.inf_laws_history.specs.Flight.{InFlight, touches}
use Rattle.inf_laws_history.specs.Legal.{server_after}
use Rattle.inf_laws_history.specs.UnderWay.{WasUnderWay}
use Rattle.inf_duty.specs.After.{client_after}
use Rattle.inf_duty.specs.ClientState.{ClientState, call_ref}
use Rattle.inf_duty.specs.World.{World}
use Rattle.inf_message.specs.declared.call_result.CallResult.{CallResult}
use Rattle.inf_message.specs.declared.event.Event.{Event}
use Rattle.inf_message.specs.declared.event.Event.TheVariants as event
use Rattle.inf_message.specs.declared.reply.Reply.{Reply}
use Rattle.inf_message.specs.declared.reply.Reply.TheVariants as reply
use Rattle.inf_message.specs.declared.reply.Spot.{Spot}
use Rattle.inf_message.specs.declared.request.Request.TheVariants as request
use Rattle.inf_message.specs.History.{Posted, asked_at, event_at}
use Rattle.inf_server.specs.State.{State}

-- the events of smaller places
abbrev pub before : ℕ → List Event → List Event
before place [] = []
before place (e ∷ h) = if nat_lt (suc (length h)) place then e ∷ h else before place h

-- the history has this Serve: at its place the server replied so to this Ask, which stands before
pub record HasServe (h : List Event) (at : At) (posted : Posted) (given : Reply) : Type 0 where
  pub told : event_at at.serve_place h ≡ Some (event.Serve at.number at.ask_place given)
  pub asked : asked_at at.ask_place (before at.serve_place h) ≡ Some posted

-- a client has made an Ask in this attempt of this call, counted from 1, and is still in it
pub record IsInAttempt (s : ClientState) (call : CallRef) (attempt : ℕ) : Type 0 where
  pub is_call : call_ref s ≡ call
  pub is_attempt : s.counts.attempts ≡ attempt
  pub is_begun : s.counts.is_begun ≡ true

-- A server told an Ask of the call of the directory of this identifier and birth: the entry that stands before in the
-- call's chain. That was in the same attempt as the Serve at this place. Either of the two Serves may stand first: the
-- lookups of a round are served in any order, and one may be made by a predicted identifier, of which a later round
-- tells.
pub record IsBehindEntry (world : World) (h : List Event) (call : CallRef) (place : ℕ) (id : Id)
    (born : ℕ) : Type 0 where
  pub at : At
  pub posted : Posted
  pub key : Key
  pub access : Access
  pub served : HasServe h at posted (reply.Found key access)
  pub own : posted.ask.from ≡ call
  pub same_id : access.id ≡ id
  pub same_born : access.born ≡ born
  -- just before either Serve the client was in the same attempt
  pub attempt : ℕ
  pub told_in : IsInAttempt (client_after world call.client (before at.serve_place h)) call attempt
  pub counts_in : IsInAttempt (client_after world call.client (before place h)) call attempt

-- the call of this result was answered Again, for it met a change of this other call
pub record IsAgainBecause (world : World) (h : List Event) (results : List CallResult) (result : CallResult)
    (by : CallRef) : Type 0 where
  -- the result has the place of a Serve
  pub at : At
  pub placed : result.place ≡ Some at.serve_place
  -- there a server replied to an Ask of the call that a change of the other call is in the way, at this spot
  pub spot : Spot
  pub born : ℕ
  pub posted : Posted
  pub served : HasServe h at posted (reply.Busy by spot born)
  pub own : posted.ask.from ≡ result.call
  -- a lookup under a name counts only where the same attempt was told of its directory, by this birth
  pub behind : (id : Id) (name : List ℕ) → posted.ask.request ≡ request.Lookup (look.At id name)
      → IsBehindEntry world h result.call at.serve_place id born
  -- the other call is another client's
  pub other : by.client ≢ result.call.client
  -- by its result it was under way
  pub under_way : WasUnderWay world results at.serve_place by
  -- just before, a change of it was in flight
  pub in_flight : InFlight world (before at.serve_place h) by
  -- and at the server that replied it touched what was asked for, at the spot told
  pub touched : touches by spot posted.ask.request (server_after world at.number (before at.serve_place h)) ≡ true

-- the server keeps a directory of this identifier, and it is of this birth
pub record KeepsBirth (state : State) (id : Id) (birth : Triple) : Type 0 where
  pub content : Content
  pub found : content_of_id id state.contents ≡ Some content
  pub is_born : content.triple ≡ birth

-- the call of this result was answered IdClash, for the directory that it was to make has the identifier of another
pub record IsClashBecause (world : World) (h : List Event) (result : CallResult) (own kept : Triple) : Type 0 where
  -- the result has the place of a Serve
  pub at : At
  pub placed : result.place ≡ Some at.serve_place
  -- there a server replied that it keeps a directory of the other birth, to an Ask of the call to make that of its own
  pub posted : Posted
  pub served : HasServe h at posted (reply.Clash kept)
  pub caller : posted.ask.from ≡ result.call
  pub makes : posted.ask.request ≡ request.Make own
  -- the births differ, and their identifiers are equal
  pub unlike : own ≢ kept
  pub clash : identity world.digest own ≡ identity world.digest kept
  -- and just before, that server kept the directory of the other one
  pub keeps : KeepsBirth (server_after world at.number (before at.serve_place h)) (identity world.digest own) kept
