-- What a request may be replied: the success of its kind, or why it fails.
use Rattle.std.specs.Prelude.{◌≡◌, ◌⊎◌, ℕ, Bool, true, false, List, Some}
use Rattle.inf_base.specs.declared.directory.DirRef.{DirRef}
use Rattle.inf_base.specs.declared.id.Id.{Id}
use Rattle.inf_base.specs.declared.key.Key.{Key}
use Rattle.inf_base.specs.declared.key.Key.TheVariants as key
use Rattle.inf_base.specs.declared.key.LookKey.{LookKey}
use Rattle.inf_base.specs.declared.key.LookKey.TheVariants as look
use Rattle.inf_base.specs.declared.triple.Triple.{Triple}
use Rattle.inf_base.specs.Content.{Content}
use Rattle.inf_base.specs.Identity.{identity}
use Rattle.inf_base.specs.Same.{is_same_triple}
use Rattle.inf_content.specs.Contents.{content_of_id}
use Rattle.inf_message.specs.declared.ask.Ask.{Ask}
use Rattle.inf_message.specs.declared.op.Op.{Op}
use Rattle.inf_message.specs.declared.op.Op.TheVariants as op
use Rattle.inf_message.specs.declared.reply.Reply.{Reply}
use Rattle.inf_message.specs.declared.reply.Reply.TheVariants as reply
use Rattle.inf_message.specs.declared.request.Request.{Request}
use Rattle.inf_message.specs.declared.request.Request.TheVariants as request
use Rattle.inf_server.specs.Machine.{is_change}
use Rattle.inf_server.specs.State.{Site, State, is_here}
use Rattle.inf_laws_server.specs.Blocked.{Blocks}
use Rattle.inf_laws_server.specs.Denied.{Denies}

-- ---- successes

-- the key is this name in a directory of this identifier, whenever it was born
pub record IsKeyIn (id : Id) (name : List ℕ) (told : Key) : Type 0 where
  pub dir : DirRef
  pub same_id : dir.id ≡ id
  pub is_key : told ≡ key.At dir name

-- the key is of what was looked up
abbrev pub IsKeyOf : LookKey → Key → Type 0
IsKeyOf look.Top told = told ≡ key.Top
IsKeyOf (look.At id name) told = IsKeyIn id name told

-- lookups alone tell of access objects
abbrev pub FindsUnder : Key → Request → Type 0
FindsUnder told (request.Lookup sought) = IsKeyOf sought told
FindsUnder told other_request = ⊥

-- or that under a name there is none
abbrev pub looks_up_name : Request → Bool
looks_up_name (request.Lookup look.Top) = false
looks_up_name (request.Lookup (look.At id name)) = true
looks_up_name other_request = false

abbrev pub is_reservation : Request → Bool
is_reservation (request.Reserve chain name) = true
is_reservation other_request = false

abbrev pub is_look_op : Op → Bool
is_look_op (op.Stat name) = true
is_look_op other_op = false

abbrev pub is_look : Request → Bool
is_look (request.Finish chain with) = is_look_op with
is_look other_request = false

-- what has nothing to tell
abbrev pub is_plain_op : Op → Bool
is_plain_op (op.Create name mode) = true
is_plain_op other_op = false

abbrev pub is_plain : Request → Bool
is_plain (request.Finish chain with) = is_plain_op with
is_plain (request.Make birth) = true
is_plain other_request = is_change other_request

abbrev pub Succeeds : Reply → Request → Type 0
Succeeds (reply.Found told access) asked = FindsUnder told asked
Succeeds (reply.Absent born) asked = looks_up_name asked ≡ true
Succeeds (reply.IsFile born) asked = looks_up_name asked ≡ true
Succeeds (reply.Reserved version) asked = is_reservation asked ≡ true
Succeeds (reply.Stat kind meta) asked = is_look asked ≡ true
Succeeds reply.Fine asked = is_plain asked ≡ true
Succeeds other_reply asked = ⊥

-- where something changed, it is said that all went well, or which version was reserved
abbrev pub TellsOfNoChange : Reply → Type 0
TellsOfNoChange reply.Fine = ⊥
TellsOfNoChange (reply.Reserved version) = ⊥
TellsOfNoChange other_reply = Unit {0}

-- ---- failures

abbrev pub is_failure : Reply → Bool
is_failure reply.NoDir = true
is_failure reply.Gone = true
is_failure (reply.Stale hits) = true
is_failure (reply.Busy by at born) = true
is_failure reply.Other = true
is_failure reply.NoMem = true
is_failure (reply.Clash kept) = true
is_failure (reply.Refused error) = true
is_failure other_reply = false

-- what asks a directory at the end of a chain
abbrev pub asks_chain : Request → Bool
asks_chain (request.Finish chain with) = true
asks_chain (request.Reserve chain name) = true
asks_chain (request.Link chain name dir mode) = true
asks_chain (request.Seal chain) = true
asks_chain (request.Unlink chain) = true
asks_chain other_request = false

-- what cleans up strays only where the directory is not kept here
abbrev pub Strays : Site → Request → Type 0
Strays site (request.Cancel dir) = is_here site dir.id ≡ false
Strays site (request.Drop dir) = is_here site dir.id ≡ false
Strays site (request.Unseal dir) = is_here site dir.id ≡ false
Strays site (request.Forget parent dir) = is_here site parent ≡ false
Strays site other_request = Unit {0}

-- another directory has the identifier
pub record IsOther (site : Site) (state : State) (birth kept : Triple) : Type 0 where
  pub content : Content
  pub here : is_here site (identity site.digest birth) ≡ true
  pub there : content_of_id (identity site.digest birth) state.contents ≡ Some content
  pub apart : is_same_triple content.triple birth ≡ false
  pub kept_is : content.triple ≡ kept

abbrev pub Clashes : Site → State → Request → Triple → Type 0
Clashes site state (request.Make birth) kept = IsOther site state birth kept
Clashes site state other_request kept = ⊥

-- a row for each failure that the checks give; that memory is wanted is none of them
abbrev pub Fails : Site → State → Ask → Request → Reply → Type 0
Fails site state ask asked reply.Other = Strays site asked
Fails site state ask asked reply.Gone = asks_chain asked ≡ true
Fails site state ask asked reply.NoDir = looks_up_name asked ≡ true
Fails site state ask asked (reply.Refused error) = Denies site state ask asked error
Fails site state ask asked (reply.Busy by at born) = Blocks site state ask.from asked by at
Fails site state ask asked (reply.Clash kept) = Clashes site state asked kept
Fails site state ask asked other_reply = ⊥
