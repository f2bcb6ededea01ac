-- What stands in the way of a request that is replied Busy.
use Rattle.std.specs.Prelude.{◌≡◌, ◌⊎◌, ℕ, true, false, List, Option, Some}
use Rattle.inf_base.specs.declared.caller.CallRef.{CallRef}
use Rattle.inf_base.specs.declared.directory.DirRef.{DirRef}
use Rattle.inf_base.specs.declared.entry.Entry.{Entry}
use Rattle.inf_base.specs.declared.id.Id.{Id}
use Rattle.inf_base.specs.declared.key.LookKey.{LookKey}
use Rattle.inf_base.specs.declared.key.LookKey.TheVariants as look
use Rattle.inf_base.specs.declared.triple.Triple.{Triple}
use Rattle.inf_base.specs.Content.{Content, Slot, TopAccess}
use Rattle.inf_base.specs.Identity.{identity}
use Rattle.inf_base.specs.Same.{dir_of, is_same_call, is_same_triple}
use Rattle.inf_content.specs.Contents.{bearer, content_at, content_of_id, slots_at}
use Rattle.inf_content.specs.Slot.{holder, taker}
use Rattle.inf_content.specs.Slots.{first_taker, slot_in}
use Rattle.inf_message.specs.declared.op.Op.{Op}
use Rattle.inf_message.specs.declared.op.Op.TheVariants as op
use Rattle.inf_message.specs.declared.reply.Spot.{Spot}
use Rattle.inf_message.specs.declared.reply.Spot.TheVariants as spot
use Rattle.inf_message.specs.declared.request.Request.{Request}
use Rattle.inf_message.specs.declared.request.Request.TheVariants as request
use Rattle.inf_server.specs.Chains.{before_last, last_of}
use Rattle.inf_server.specs.Removals.{name_in}
use Rattle.inf_server.specs.State.{Site, State, is_here}

-- the directory is kept here, and sealed by the call
pub record IsSealedBy (site : Site) (state : State) (dir : DirRef) (by : CallRef) : Type 0 where
  pub content : Content
  pub here : is_here site dir.id ≡ true
  pub there : content_at dir state.contents ≡ Some content
  pub seal : content.seal ≡ Some by

-- a name of a directory that is kept here is held or reserved by the call
pub record IsTakenBy (site : Site) (state : State) (dir : DirRef) (name : List ℕ) (by : CallRef) : Type 0 where
  pub content : Content
  pub here : is_here site dir.id ≡ true
  pub there : content_at dir state.contents ≡ Some content
  pub slot : Slot
  pub found : slot_in name content.slots ≡ Some slot
  pub taken : taker slot ≡ Some by

-- ---- at the directory asked

-- another call sealed it
pub record StopsAtSeal (site : Site) (state : State) (from : CallRef) (asked : Option Entry) (by : CallRef)
    (at : Spot) : Type 0 where
  pub entry : Entry
  pub last : asked ≡ Some entry
  pub is_sealed : IsSealedBy site state (dir_of entry.access) by
  pub spot_is : at ≡ spot.Sealed
  pub apart : is_same_call by from ≡ false

-- another call holds or reserved the name
pub record StopsAtName (site : Site) (state : State) (from : CallRef) (asked : Option Entry) (name : List ℕ)
    (by : CallRef) (at : Spot) : Type 0 where
  pub entry : Entry
  pub last : asked ≡ Some entry
  pub is_taken : IsTakenBy site state (dir_of entry.access) name by
  pub spot_is : at ≡ spot.Slot
  pub apart : is_same_call by from ≡ false

-- a call holds or reserved a name in it
pub record StopsInside (site : Site) (state : State) (asked : Option Entry) (by : CallRef) (at : Spot) : Type 0 where
  pub entry : Entry
  pub last : asked ≡ Some entry
  pub here : is_here site entry.access.id ≡ true
  pub content : Content
  pub there : content_at (dir_of entry.access) state.contents ≡ Some content
  pub taken : first_taker content.slots ≡ Some by
  pub spot_is : at ≡ spot.Inside

-- ---- at a lookup, whoever asks

pub record IsTopHeld (state : State) (by : CallRef) (at : Spot) : Type 0 where
  pub top : TopAccess
  pub is_top : state.top ≡ Some top
  pub held : holder top.held ≡ Some by
  pub spot_is : at ≡ spot.Slot

pub record IsLookSealed (site : Site) (state : State) (id : Id) (by : CallRef) (at : Spot) : Type 0 where
  pub dir : DirRef
  pub is_sealed : IsSealedBy site state dir by
  pub of_id : content_of_id id state.contents ≡ Some is_sealed.content
  pub spot_is : at ≡ spot.Sealed

pub record IsLookTaken (site : Site) (state : State) (id : Id) (name : List ℕ) (by : CallRef) (at : Spot) : Type 0 where
  pub dir : DirRef
  pub is_taken : IsTakenBy site state dir name by
  pub of_id : content_of_id id state.contents ≡ Some is_taken.content
  pub spot_is : at ≡ spot.Slot

abbrev pub BlocksLookup : Site → State → LookKey → CallRef → Spot → Type 0
BlocksLookup site state look.Top by at = IsTopHeld state by at
BlocksLookup site state (look.At id name) by at =
    IsLookSealed site state id by at ⊎ IsLookTaken site state id name by at

-- ---- where a directory is made

-- it is there already: its sealer or maker is in the way
pub record IsBorne (site : Site) (state : State) (birth : Triple) (by : CallRef) (at : Spot) : Type 0 where
  pub content : Content
  pub here : is_here site (identity site.digest birth) ≡ true
  pub there : content_of_id (identity site.digest birth) state.contents ≡ Some content
  pub same : is_same_triple content.triple birth ≡ true
  pub bearer_is : bearer content ≡ by
  pub spot_is : at ≡ spot.Bearer

-- ---- by kind

-- a seal, or what another call does with the name
abbrev pub BlocksName : Site → State → CallRef → Option Entry → List ℕ → CallRef → Spot → Type 0
BlocksName site state from asked name by at =
    StopsAtSeal site state from asked by at ⊎ StopsAtName site state from asked name by at

-- the name that a directory has which is to be unlinked
pub record StopsAtTarget (site : Site) (state : State) (from : CallRef) (chain : List Entry) (by : CallRef)
    (at : Spot) : Type 0 where
  pub target : Entry
  pub last : last_of chain ≡ Some target
  pub name : List ℕ
  pub named : name_in target.key ≡ Some name
  pub stops : StopsAtName site state from (last_of (before_last chain)) name by at

abbrev pub BlocksOp : Site → State → CallRef → List Entry → Op → CallRef → Spot → Type 0
BlocksOp site state from chain (op.Create name mode) by at = BlocksName site state from (last_of chain) name by at
BlocksOp site state from chain (op.Stat name) by at = BlocksName site state from (last_of chain) name by at
BlocksOp site state from chain (op.Walk name) by at = BlocksName site state from (last_of chain) name by at
BlocksOp site state from chain (op.RmdirName name) by at = BlocksName site state from (last_of chain) name by at
BlocksOp site state from chain other_op by at = ⊥

abbrev pub Blocks : Site → State → CallRef → Request → CallRef → Spot → Type 0
Blocks site state from (request.Lookup sought) by at = BlocksLookup site state sought by at
Blocks site state from (request.Finish chain with) by at = BlocksOp site state from chain with by at
Blocks site state from (request.Reserve chain name) by at = BlocksName site state from (last_of chain) name by at
Blocks site state from (request.Make birth) by at = IsBorne site state birth by at
Blocks site state from (request.Link chain name dir mode) by at = StopsAtSeal site state from (last_of chain) by at
Blocks site state from (request.Seal chain) by at =
    StopsAtSeal site state from (last_of chain) by at ⊎ StopsInside site state (last_of chain) by at
Blocks site state from (request.Unlink chain) by at =
    StopsAtSeal site state from (last_of (before_last chain)) by at ⊎ StopsAtTarget site state from chain by at
Blocks site state from other_request by at = ⊥
