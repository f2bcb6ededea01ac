-- Changes of a server's state: what each keeps, and of which request it is.
use Rattle.std.proofs.Common.{◌≡◌, ℕ, Bool, true, false, List, [], ◌∷◌, Some, refl}
use Rattle.inf_base.specs.declared.caller.CallRef.{CallRef}
use Rattle.inf_base.specs.declared.caller.Caller.{Caller}
use Rattle.inf_base.specs.declared.directory.DirRef.{DirRef}
use Rattle.inf_base.specs.declared.entry.Entry.{Entry}
use Rattle.inf_base.specs.declared.id.Id.{Id}
use Rattle.inf_base.specs.declared.triple.Triple.{Triple}
use Rattle.inf_base.specs.Identity.{identity}
use Rattle.inf_base.specs.Same.{dir_of}
use Rattle.inf_content.specs.Contents.{with_slots_at}
use Rattle.inf_content.specs.Order.{AreInOrder}
use Rattle.inf_content.proofs.Ordered.{dropped_in_order, filled_in_order, lifted_in_order, made_in_order, reserved_in_order, sealed_in_order, unsealed_in_order, with_file_in_order, without_slot_in_order}
use Rattle.inf_message.specs.declared.ask.Ask.{Ask}
use Rattle.inf_message.specs.declared.op.Op.{Op}
use Rattle.inf_message.specs.declared.op.Op.TheVariants as op
use Rattle.inf_message.specs.declared.reply.Reply.{Reply}
use Rattle.inf_message.specs.declared.reply.Reply.TheVariants as reply
use Rattle.inf_message.specs.declared.request.Request.{Request}
use Rattle.inf_message.specs.declared.request.Request.TheVariants as request
use Rattle.inf_server.specs.Chains.{last_of}
use Rattle.inf_server.specs.State.{Site, State}
use Rattle.inf_laws_server.specs.Changes as change
use Rattle.inf_laws_server.specs.Changes.{Change, changed}
use Rattle.inf_laws_server.specs.Done.{answer_of, answer_of_op, change_of, change_of_op}
use Rattle.inf_laws_server.specs.Edits as edit
use Rattle.inf_laws_server.specs.Edits.{Edit, edited}
use Rattle.inf_laws_server.specs.Replies.{TellsOfNoChange}
use Rattle.inf_laws_server.specs.Passed.{IsAsked, Passed, PassedOp}

-- ---- what a change keeps

pub edited_in_order : (dir : DirRef) (with : Edit) (state : State) → AreInOrder state.contents
    → AreInOrder (with_slots_at dir (edited with) state.contents)
edited_in_order dir (edit.puts name meta) state ordered = with_file_in_order dir name meta state.contents ordered
edited_in_order dir (edit.keeps name by access) state ordered =
    reserved_in_order dir name by access state.contents ordered
edited_in_order dir (edit.fills by linked mode caller) state ordered =
    filled_in_order dir by (Some (linked, mode, caller)) state.contents ordered
edited_in_order dir (edit.lifts by) state ordered = lifted_in_order dir by state.contents ordered
edited_in_order dir (edit.takes name) state ordered = without_slot_in_order dir name state.contents ordered

pub changed_in_order : (with : Change) (state : State) → AreInOrder state.contents
    → AreInOrder (changed with state).contents
changed_in_order change.none state ordered = ordered
changed_in_order (change.slots dir with) state ordered = edited_in_order dir with state ordered
changed_in_order (change.comes id born birth by) state ordered = made_in_order id born birth by state.contents ordered
changed_in_order (change.goes dir by) state ordered = dropped_in_order dir by state.contents ordered
changed_in_order (change.seals dir by) state ordered = sealed_in_order dir by state.contents ordered
changed_in_order (change.unseals dir by) state ordered = unsealed_in_order dir by state.contents ordered
changed_in_order (change.forgets parent dir) state ordered = ordered

pub changed_top : (with : Change) (state : State) → (changed with state).top ≡ state.top
changed_top change.none state = refl
changed_top (change.slots dir with) state = refl
changed_top (change.comes id born birth by) state = refl
changed_top (change.goes dir by) state = refl
changed_top (change.seals dir by) state = refl
changed_top (change.unseals dir by) state = refl
changed_top (change.forgets parent dir) state = refl

-- ---- of which request a change is

pub record IsMaking (site : Site) (place : ℕ) (ask : Ask) (asked : Request) (id : Id) (born : ℕ) (birth : Triple)
    (by : CallRef) : Type 0 where
  pub is_make : asked ≡ request.Make birth
  pub identifies : id ≡ identity site.digest birth
  pub at_place : born ≡ place
  pub own : by ≡ ask.from

pub record IsLinking (site : Site) (state : State) (ask : Ask) (asked : Request) (dir : DirRef) (by : CallRef)
    (linked : DirRef) (mode : ℕ) (caller : Caller) : Type 0 where
  pub chain : List Entry
  pub name : List ℕ
  pub is_link : asked ≡ request.Link chain name linked mode
  pub entry : Entry
  pub is_asked : IsAsked site state ask.from (last_of chain) (chain ∷ []) entry
  pub in_dir : dir ≡ dir_of entry.access
  pub own : by ≡ ask.from
  pub callers : caller ≡ ask.caller

abbrev EditsOf : Site → State → Ask → Request → DirRef → Edit → Type 0
EditsOf site state ask asked dir (edit.fills by linked mode caller) =
    IsLinking site state ask asked dir by linked mode caller
EditsOf site state ask asked dir other_edit = Unit {0}

abbrev pub IsOf : Site → State → ℕ → Ask → Request → Change → Type 0
IsOf site state place ask asked (change.comes id born birth by) = IsMaking site place ask asked id born birth by
IsOf site state place ask asked (change.slots dir with) = EditsOf site state ask asked dir with
IsOf site state place ask asked other_change = Unit {0}

module _ (site : Site) (state : State) (place : ℕ) (ask : Ask) where
  of_op : (chain : List Entry) (with : Op) (passed : PassedOp site state ask chain with)
      → IsOf site state place ask (request.Finish chain with) (change_of_op site state ask chain with passed)
  of_op chain (op.Create name mode) passed = tt
  of_op chain other_op passed = tt

  pub change_is_of : (asked : Request) (passed : Passed site state ask asked)
      → IsOf site state place ask asked (change_of site state place ask asked passed)
  change_is_of (request.Finish chain with) passed = of_op chain with passed
  change_is_of (request.Make birth) passed = record { is_make = refl; identifies = refl; at_place = refl; own = refl }
  change_is_of (request.Link chain name dir mode) passed = record {
    chain = chain;
    name = name;
    is_link = refl;
    entry = passed.entry;
    is_asked = passed.is_asked;
    in_dir = refl;
    own = refl;
    callers = refl;
  }
  change_is_of other_request passed = tt

-- ---- what tells of no change

module _ (site : Site) (state : State) (place : ℕ) (ask : Ask) where
  quiet_op : (chain : List Entry) (with : Op) (passed : PassedOp site state ask chain with)
      → TellsOfNoChange (answer_of_op site state ask chain with passed)
      → change_of_op site state ask chain with passed ≡ change.none
  quiet_op chain (op.Create name mode) passed quiet = absurd quiet
  quiet_op chain other_op passed quiet = refl

  pub quiet_changes_none : (asked : Request) (passed : Passed site state ask asked)
      → TellsOfNoChange (answer_of site state ask asked passed)
      → change_of site state place ask asked passed ≡ change.none
  quiet_changes_none (request.Lookup sought) passed quiet = refl
  quiet_changes_none (request.Finish chain with) passed quiet = quiet_op chain with passed quiet
  quiet_changes_none other_request passed quiet = absurd quiet
