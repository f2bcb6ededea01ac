-- Why a request is refused, where it is.
use Rattle.std.specs.Prelude.{◌≡◌, ◌⊎◌, ℕ, true, false, List, [], ◌∷◌, Option, Some, Ok, Err}
use Rattle.std.specs.List.{list_all}
use Rattle.inf_base.specs.declared.entry.Entry.{Entry}
use Rattle.inf_base.specs.declared.errno.Errno.{Errno}
use Rattle.inf_base.specs.declared.errno.Errno.TheVariants as errno
use Rattle.inf_base.specs.Same.{dir_of}
use Rattle.inf_content.specs.Contents.{slots_at}
use Rattle.inf_content.specs.Slots.{has_free}
use Rattle.inf_content.specs.declared.seen.Seen.{Seen}
use Rattle.inf_message.specs.declared.ask.Ask.{Ask}
use Rattle.inf_message.specs.declared.op.Op.{Op}
use Rattle.inf_message.specs.declared.op.Op.TheVariants as op
use Rattle.inf_message.specs.declared.reply.Reply.TheVariants as reply
use Rattle.inf_message.specs.declared.request.Request.{Request}
use Rattle.inf_message.specs.declared.request.Request.TheVariants as request
use Rattle.inf_perm.specs.declared.want.Want.TheVariants as want
use Rattle.inf_server.specs.Chains.{before_last, last_of}
use Rattle.inf_server.specs.Checks.{lets}
use Rattle.inf_server.specs.Files.{no_directory, stat_of}
use Rattle.inf_server.specs.Names.{found_by, is_missing}
use Rattle.inf_server.specs.State.{Site, State}
use Rattle.inf_laws_server.specs.Passed.{IsAsked}

-- a directory along the chain does not let the caller search
pub record IsClosed (site : Site) (state : State) (ask : Ask) (asked : Option Entry) (carried : List (List Entry))
    (along : List Entry) (error : Errno) : Type 0 where
  pub entry : Entry
  pub is_asked : IsAsked site state ask.from asked carried entry
  pub closed : list_all (lets ask.caller want.Search) along ≡ false
  pub error_is : error ≡ errno.EACCES

-- the directory that is to be changed does not let the caller write
pub record IsUnwritable (site : Site) (state : State) (ask : Ask) (asked : Option Entry) (carried : List (List Entry))
    (along : List Entry) (error : Errno) : Type 0 where
  pub entry : Entry
  pub is_asked : IsAsked site state ask.from asked carried entry
  pub search : list_all (lets ask.caller want.Search) along ≡ true
  pub written : Entry
  pub ends : last_of along ≡ Some written
  pub closed : lets ask.caller want.Write written ≡ false
  pub error_is : error ≡ errno.EACCES

-- what was found under the name of the directory asked
pub record IsDeniedBy (site : Site) (state : State) (ask : Ask) (chain : List Entry) (name : List ℕ)
    (may : Entry → Type 0)
    (says : Seen → Errno → Type 0) (error : Errno) : Type 0 where
  pub entry : Entry
  pub is_asked : IsAsked site state ask.from (last_of chain) (chain ∷ []) entry
  pub search : list_all (lets ask.caller want.Search) chain ≡ true
  pub allowed : may entry
  pub found : Seen
  pub is_found : found_by ask.from (dir_of entry.access) name state.contents ≡ Ok found
  pub denies : says found error

-- something stands in the directory that is to be removed
pub record IsFull (site : Site) (state : State) (ask : Ask) (chain : List Entry) (error : Errno) : Type 0 where
  pub entry : Entry
  pub is_asked : IsAsked site state ask.from (last_of chain) (chain ∷ []) entry
  pub search : list_all (lets ask.caller want.Search) (before_last chain) ≡ true
  pub written : Entry
  pub ends : last_of (before_last chain) ≡ Some written
  pub write : lets ask.caller want.Write written ≡ true
  pub full : has_free (slots_at (dir_of entry.access) state.contents) ≡ true
  pub error_is : error ≡ errno.ENOTEMPTY

-- whoever may search may look
abbrev pub MayLook : Entry → Type 0
MayLook entry = Unit {0}

abbrev pub MayAlsoWrite : Ask → Entry → Type 0
MayAlsoWrite ask entry = lets ask.caller want.Write entry ≡ true

-- the name is taken
abbrev pub SaysTaken : Seen → Errno → Type 0
SaysTaken found error = (is_missing found ≡ false) × (error ≡ errno.EEXIST)

abbrev pub SaysNothing : Seen → Errno → Type 0
SaysNothing found error = stat_of found ≡ Err (reply.Refused error)

abbrev pub SaysNoDirectory : Seen → Errno → Type 0
SaysNoDirectory found error = no_directory found ≡ reply.Refused error

-- a name that is to be free
abbrev pub DeniesName : Site → State → Ask → List Entry → List ℕ → Errno → Type 0
DeniesName site state ask chain name error =
    IsClosed site state ask (last_of chain) (chain ∷ []) chain error
    ⊎ IsUnwritable site state ask (last_of chain) (chain ∷ []) chain error
    ⊎ IsDeniedBy site state ask chain name (MayAlsoWrite ask) SaysTaken error

abbrev pub DeniesOp : Site → State → Ask → List Entry → Op → Errno → Type 0
DeniesOp site state ask chain (op.Create name mode) error = DeniesName site state ask chain name error
DeniesOp site state ask chain (op.Stat name) error =
    IsClosed site state ask (last_of chain) (chain ∷ []) chain error
    ⊎ IsDeniedBy site state ask chain name MayLook SaysNothing error
DeniesOp site state ask chain (op.Walk name) error =
    IsClosed site state ask (last_of chain) (chain ∷ []) chain error
    ⊎ IsDeniedBy site state ask chain name MayLook SaysNoDirectory error
DeniesOp site state ask chain (op.RmdirName name) error =
    IsClosed site state ask (last_of chain) (chain ∷ []) chain error
    ⊎ IsUnwritable site state ask (last_of chain) (chain ∷ []) chain error
    ⊎ IsDeniedBy site state ask chain name (MayAlsoWrite ask) SaysNoDirectory error
DeniesOp site state ask chain other_op error = ⊥

-- a directory that is not to be removed, in the one above it
pub record DeniesSeal (site : Site) (state : State) (ask : Ask) (chain : List Entry) (error : Errno) : Type 0 where
  pub parent : Entry
  pub above : last_of (before_last chain) ≡ Some parent
  pub because : IsClosed site state ask (last_of chain) (chain ∷ []) (before_last chain) error
      ⊎ IsUnwritable site state ask (last_of chain) (chain ∷ []) (before_last chain) error
      ⊎ IsFull site state ask chain error

abbrev pub Denies : Site → State → Ask → Request → Errno → Type 0
Denies site state ask (request.Finish chain with) error = DeniesOp site state ask chain with error
Denies site state ask (request.Reserve chain name) error = DeniesName site state ask chain name error
Denies site state ask (request.Seal chain) error = DeniesSeal site state ask chain error
Denies site state ask other_request error = ⊥
