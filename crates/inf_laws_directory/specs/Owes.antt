-- What a Serve owes: a request that was made for a call, by entries that were told, answers it as the tree does.
use Rattle.std.specs.Prelude.{◌≡◌, ℕ, List, [], ◌∷◌, ◌++◌, Some, Ok}
use Rattle.inf_base.specs.declared.access.Access.{Access}
use Rattle.inf_base.specs.declared.answer.Answer.{Answer}
use Rattle.inf_base.specs.declared.answer.Answer.TheVariants as answer
use Rattle.inf_base.specs.declared.call.Call.{Call}
use Rattle.inf_base.specs.declared.call.Call.TheVariants as call
use Rattle.inf_base.specs.declared.caller.Caller.{Caller}
use Rattle.inf_base.specs.declared.entry.Entry.{Entry}
use Rattle.inf_base.specs.Path.{path_of}
use Rattle.inf_message.specs.declared.op.Op.{Op}
use Rattle.inf_message.specs.declared.op.Op.TheVariants as op
use Rattle.inf_message.specs.declared.reply.Reply.{Reply}
use Rattle.inf_message.specs.declared.reply.Reply.TheVariants as reply
use Rattle.inf_message.specs.declared.request.Request.{Request}
use Rattle.inf_message.specs.declared.request.Request.TheVariants as request
use Rattle.inf_server.specs.Chains.{before_last, last_of}
use Rattle.inf_tree.specs.Tree.{Node}
use Rattle.inf_laws_directory.specs.Answers.{IsCallOn}
use Rattle.inf_laws_directory.specs.At.{At}
use Rattle.inf_laws_directory.specs.Objects.{Objects, Service}
use Rattle.inf_laws_directory.specs.Phases.{Phases}
use Rattle.inf_laws_directory.specs.Replays.{IsPathOf, IsRefused, MayWrite}
use Rattle.inf_laws_directory.specs.Standing.{Decides, GoesOnOlder, IsToldAlong}

-- the chain was told, and leads to the directory in which the last name of the path is
pub record IsAimed (service : Service) (objects : Objects) (root : Access) (phases : Phases) (text name : List ℕ)
    (chain : List Entry) : Type 0 where
  pub path : List (List ℕ)
  pub told : IsToldAlong service objects root phases path chain
  pub names : IsPathOf text path name

-- the same, of a name behind which the path goes on
pub record IsStopped (service : Service) (objects : Objects) (root : Access) (phases : Phases) (asked : Call)
    (name : List ℕ) (chain : List Entry) : Type 0 where
  pub text : List ℕ
  pub path : List (List ℕ)
  pub next : List ℕ
  pub rest : List (List ℕ)
  pub told : IsToldAlong service objects root phases path chain
  pub on : IsCallOn text asked
  pub names : path_of text ≡ Ok (path ++ name ∷ next ∷ rest)

-- the chain was told, and leads to the directory itself
pub record IsAimedAt (service : Service) (objects : Objects) (root : Access) (phases : Phases) (text : List ℕ)
    (chain : List Entry) : Type 0 where
  pub path : List (List ℕ)
  pub name : List ℕ
  pub told : IsToldAlong service objects root phases (path ++ name ∷ []) chain
  pub names : IsPathOf text path name

-- the caller may write where the chain ends
pub record MayWriteAt (caller : Caller) (chain : List Entry) : Type 0 where
  pub last : Entry
  pub ends : last_of chain ≡ Some last
  pub may : MayWrite caller chain last

-- the one message of a call is made for it
abbrev pub AimsWith : Service → Objects → Access → Phases → Call → List Entry → Op → Type 0
AimsWith service objects root phases (call.Create text mode) chain (op.Create name asked) =
    (asked ≡ mode) × IsAimed service objects root phases text name chain
AimsWith service objects root phases (call.Stat text) chain (op.Stat name) =
    IsAimed service objects root phases text name chain
AimsWith service objects root phases (call.Rmdir text) chain (op.RmdirName name) =
    IsAimed service objects root phases text name chain
AimsWith service objects root phases asked chain (op.Walk name) = IsStopped service objects root phases asked name chain
AimsWith service objects root phases asked chain any_op = ⊥

-- the request is made for the call; what permission a link or an unlink rests on, an earlier request asked for
abbrev pub Aims : Service → Objects → Access → Phases → Caller → Call → Request → Type 0
Aims service objects root phases caller asked (request.Finish chain with) =
    AimsWith service objects root phases asked chain with
Aims service objects root phases caller (call.Mkdir text mode) (request.Reserve chain name) =
    IsAimed service objects root phases text name chain
Aims service objects root phases caller (call.Mkdir text mode) (request.Link chain name dir asked) =
    (asked ≡ mode) × IsAimed service objects root phases text name chain × MayWriteAt caller chain
Aims service objects root phases caller (call.Rmdir text) (request.Seal chain) =
    IsAimedAt service objects root phases text chain
Aims service objects root phases caller (call.Rmdir text) (request.Unlink chain) =
    IsAimedAt service objects root phases text chain × MayWriteAt caller (before_last chain)
Aims service objects root phases caller asked (request.Lookup k) = Unit {0}
Aims service objects root phases caller asked (request.Make birth) = Unit {0}
Aims service objects root phases caller asked (request.Cancel dir) = Unit {0}
Aims service objects root phases caller asked (request.Drop dir) = Unit {0}
Aims service objects root phases caller asked (request.Unseal dir) = Unit {0}
Aims service objects root phases caller asked (request.Forget parent dir) = Unit {0}
Aims service objects root phases caller asked any_request = ⊥

-- the moment of a Serve: what stood before and after it
pub record Moment : Type 0 where
  pub service : Service
  pub at : At
  pub old : Objects
  pub new : Objects
  pub root : Access
  pub tree : Node
  pub before : Phases
  pub after : Phases

abbrev pub Goes : Moment → Type 0
Goes m = GoesOnOlder m.service m.at.ask_place m.old m.new m.root m.tree m.before m.after

abbrev pub Settles : Moment → Caller → Call → Answer → Type 0
Settles m caller asked given = Decides m.service m.old m.new m.root m.tree m.before m.after caller asked given

-- the reply to the one message of a call
abbrev pub OwesWith : Moment → Caller → Call → Op → Reply → Type 0
OwesWith m caller asked (op.Create name mode) reply.Fine = Settles m caller asked answer.Done
OwesWith m caller asked (op.Stat name) (reply.Stat kind meta) = Settles m caller asked (answer.Stat kind meta)
OwesWith m caller asked any_op any_reply = Goes m

-- what decides the call decides it as the tree does; what is refused is refused by the tree; all else is not seen
abbrev pub Owes : Moment → Caller → Call → Request → Reply → Type 0
Owes m caller asked any_request (reply.Refused error) = IsRefused m.tree caller asked error × Goes m
Owes m caller asked (request.Finish chain with) given = OwesWith m caller asked with given
Owes m caller asked (request.Link chain name dir mode) reply.Fine = Settles m caller asked answer.Done
Owes m caller asked (request.Unlink chain) reply.Fine = Settles m caller asked answer.Done
Owes m caller asked any_request any_reply = Goes m
