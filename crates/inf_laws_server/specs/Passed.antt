-- What has passed where a request is done: the equations of its checks, a record for each kind.
use Rattle.std.specs.Prelude.{◌≡◌, ℕ, true, List, [], ◌∷◌, Option, Some, None, is_some, Ok}
use Rattle.std.specs.List.{list_all}
use Rattle.inf_base.specs.declared.access.Access.{Access}
use Rattle.inf_base.specs.declared.caller.CallRef.{CallRef}
use Rattle.inf_base.specs.declared.directory.DirRef.{DirRef}
use Rattle.inf_base.specs.declared.entry.Entry.{Entry}
use Rattle.inf_base.specs.declared.file.FileMeta.{FileMeta}
use Rattle.inf_base.specs.declared.id.Id.{Id}
use Rattle.inf_base.specs.declared.item.Kind.{Kind}
use Rattle.inf_base.specs.declared.key.LookKey.{LookKey}
use Rattle.inf_base.specs.declared.key.LookKey.TheVariants as look
use Rattle.inf_base.specs.declared.triple.Triple.{Triple}
use Rattle.inf_base.specs.Content.{Hold, TopAccess, directory}
use Rattle.inf_base.specs.Identity.{identity}
use Rattle.inf_base.specs.Same.{dir_of}
use Rattle.inf_content.specs.Contents.{born_of, content_at, content_of_id, seal_of, slots_at}
use Rattle.inf_content.specs.Slot.{holder, reserves}
use Rattle.inf_content.specs.Slots.{first, slot_in}
use Rattle.inf_content.specs.declared.seen.Seen.{Seen}
use Rattle.inf_message.specs.declared.ask.Ask.{Ask}
use Rattle.inf_message.specs.declared.op.Op.{Op}
use Rattle.inf_message.specs.declared.op.Op.TheVariants as op
use Rattle.inf_message.specs.declared.reply.Reply.{Reply}
use Rattle.inf_message.specs.declared.reply.Reply.TheVariants as reply
use Rattle.inf_message.specs.declared.request.Request.{Request}
use Rattle.inf_message.specs.declared.request.Request.TheVariants as request
use Rattle.inf_perm.specs.declared.want.Want.TheVariants as want
use Rattle.inf_server.specs.Chains.{before_last, has_entry, last_of}
use Rattle.inf_server.specs.Checks.{lets, unsealed}
use Rattle.inf_server.specs.Files.{stat_of}
use Rattle.inf_server.specs.Lookups.{told_of, unheld, unless_sealed}
use Rattle.inf_server.specs.Names.{found_by}
use Rattle.inf_server.specs.Removals.{name_in}
use Rattle.inf_server.specs.State.{Site, State, is_here, root_id}

-- the directory asked is kept here, and is there, and no other call sealed it; the chains carried with it have entries
pub record IsAsked (site : Site) (state : State) (by : CallRef) (asked : Option Entry) (carried : List (List Entry))
    (entry : Entry) : Type 0 where
  pub last : asked ≡ Some entry
  pub here : is_here site entry.access.id ≡ true
  pub carries : list_all has_entry carried ≡ true
  pub there : is_some (content_at (dir_of entry.access) state.contents) ≡ true
  pub open_to : unsealed by entry.access.born (seal_of (content_at (dir_of entry.access) state.contents)) ≡ Ok tt

-- ---- lookups

pub record MayTellTop (site : Site) (state : State) : Type 0 where
  pub here : is_here site (root_id site) ≡ true
  pub top : TopAccess
  pub is_top : state.top ≡ Some top
  pub free : unheld 0 (holder top.held) ≡ Ok tt

pub record MayTell (site : Site) (state : State) (id : Id) (name : List ℕ) : Type 0 where
  pub here : is_here site id ≡ true
  pub dir : DirRef
  pub of_id : dir.id ≡ id
  pub is_born : born_of (content_of_id id state.contents) ≡ Some dir.born
  pub free : unless_sealed dir.born (seal_of (content_at dir state.contents)) ≡ Ok tt
  pub told : Reply
  pub is_told : told_of dir name (slot_in name (slots_at dir state.contents)) ≡ Ok told

abbrev pub PassedLookup : Site → State → LookKey → Type 0
PassedLookup site state look.Top = MayTellTop site state
PassedLookup site state (look.At id name) = MayTell site state id name

-- ---- what stands under a name of the directory asked

-- the name is free, and the caller may write
pub record MayPut (site : Site) (state : State) (ask : Ask) (chain : List Entry) (name : List ℕ) : Type 0 where
  pub entry : Entry
  pub is_asked : IsAsked site state ask.from (last_of chain) (chain ∷ []) entry
  pub search : list_all (lets ask.caller want.Search) chain ≡ true
  pub write : lets ask.caller want.Write entry ≡ true
  pub free : slot_in name (slots_at (dir_of entry.access) state.contents) ≡ None

pub record MayStat (site : Site) (state : State) (ask : Ask) (chain : List Entry) (name : List ℕ) : Type 0 where
  pub entry : Entry
  pub is_asked : IsAsked site state ask.from (last_of chain) (chain ∷ []) entry
  pub search : list_all (lets ask.caller want.Search) chain ≡ true
  pub found : Seen
  pub is_found : found_by ask.from (dir_of entry.access) name state.contents ≡ Ok found
  pub kind : Kind
  pub meta : FileMeta
  pub is_told : stat_of found ≡ Ok (reply.Stat kind meta)

-- a walk ends in a refusal, and so does the removal of a directory that is none
abbrev pub PassedOp : Site → State → Ask → List Entry → Op → Type 0
PassedOp site state ask chain (op.Create name mode) = MayPut site state ask chain name
PassedOp site state ask chain (op.Stat name) = MayStat site state ask chain name
PassedOp site state ask chain other_op = ⊥

-- ---- what makes and removes directories

-- nothing of its identifier is there
pub record MayMake (site : Site) (state : State) (birth : Triple) : Type 0 where
  pub here : is_here site (identity site.digest birth) ≡ true
  pub is_new : content_of_id (identity site.digest birth) state.contents ≡ None

pub record MayLink (site : Site) (state : State) (ask : Ask) (chain : List Entry) : Type 0 where
  pub entry : Entry
  pub is_asked : IsAsked site state ask.from (last_of chain) (chain ∷ []) entry
  pub kept : is_some (first (reserves ask.from) (slots_at (dir_of entry.access) state.contents)) ≡ true

-- what cleans up asks for nothing but that the directory is kept here
pub record IsKept (site : Site) (id : Id) : Type 0 where
  pub here : is_here site id ≡ true

pub record MaySeal (site : Site) (state : State) (ask : Ask) (chain : List Entry) : Type 0 where
  pub parent : Entry
  pub above : last_of (before_last chain) ≡ Some parent
  pub entry : Entry
  pub is_asked : IsAsked site state ask.from (last_of chain) (chain ∷ []) entry
  pub search : list_all (lets ask.caller want.Search) (before_last chain) ≡ true
  pub write : lets ask.caller want.Write parent ≡ true
  pub empty : slots_at (dir_of entry.access) state.contents ≡ []

-- the directory that ends the chain stands under its name in the one before it
pub record MayUnlink (site : Site) (state : State) (ask : Ask) (chain : List Entry) : Type 0 where
  pub target : Entry
  pub last : last_of chain ≡ Some target
  pub name : List ℕ
  pub named : name_in target.key ≡ Some name
  pub entry : Entry
  pub is_asked : IsAsked site state ask.from (last_of (before_last chain)) (chain ∷ []) entry
  pub access : Access
  pub held : Option Hold
  pub stands : slot_in name (slots_at (dir_of entry.access) state.contents) ≡ Some (directory access held)
  pub same : dir_of access ≡ dir_of target.access

abbrev pub Passed : Site → State → Ask → Request → Type 0
Passed site state ask (request.Lookup sought) = PassedLookup site state sought
Passed site state ask (request.Finish chain with) = PassedOp site state ask chain with
Passed site state ask (request.Reserve chain name) = MayPut site state ask chain name
Passed site state ask (request.Make birth) = MayMake site state birth
Passed site state ask (request.Link chain name dir mode) = MayLink site state ask chain
Passed site state ask (request.Cancel dir) = IsKept site dir.id
Passed site state ask (request.Drop dir) = IsKept site dir.id
Passed site state ask (request.Seal chain) = MaySeal site state ask chain
Passed site state ask (request.Unseal dir) = IsKept site dir.id
Passed site state ask (request.Unlink chain) = MayUnlink site state ask chain
Passed site state ask (request.Forget parent dir) = IsKept site parent
Passed site state ask other_request = ⊥
