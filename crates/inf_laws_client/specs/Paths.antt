-- Flows that follow the path of their call.
use Rattle.std.specs.Prelude.{◌≡◌, ℕ, List, [], ◌∷◌, ◌++◌, Ok}
use Rattle.inf_base.specs.declared.call.Call.{Call}
use Rattle.inf_base.specs.declared.call.Call.TheVariants as call
use Rattle.inf_base.specs.declared.entry.Entry.{Entry}
use Rattle.inf_base.specs.Path.{path_of}
use Rattle.inf_message.specs.declared.op.Op.{Op}
use Rattle.inf_message.specs.declared.op.Op.TheVariants as op
use Rattle.inf_flow_dir.specs.declared.dir_flow.DirFlow.TheVariants as dir_flow
use Rattle.inf_flow_file.specs.declared.file_flow.FileFlow.TheVariants as file_flow
use Rattle.inf_duty.specs.declared.flow.Flow.TheVariants as flow
use Rattle.inf_message.specs.declared.turn.Turn.TheVariants as turn
use Rattle.inf_duty.specs.ClientState.{ClientState, Stage, act}
use Rattle.inf_duty.specs.Course.{text_of}
use Rattle.inf_duty.specs.declared.flow.Flow.{Flow}
use Rattle.inf_message.specs.declared.turn.Turn.{Turn}
use Rattle.inf_duty.specs.Keeps.{AnySteps, StageFits}
use Rattle.inf_laws_client.specs.Told.{IsToldAsAsked, name_of}

abbrev pub names_in : List Entry → List (List ℕ)
names_in [] = []
names_in (e ∷ es) = name_of e.key ∷ names_in es

-- the names along a chain: those of the entries behind the root's
abbrev pub names_of : List Entry → List (List ℕ)
names_of [] = []
names_of (e ∷ es) = names_in es

-- ---- where a flow stands on the path

-- the chain leads to the directory before the last name
pub record NamesLast (asked : Call) (of : List ℕ → Call) (chain : List Entry) (name : List ℕ) : Type 0 where
  pub text : List ℕ
  pub is : asked ≡ of text
  pub names : path_of text ≡ Ok (names_of chain ++ name ∷ [])

-- the chain leads along the whole path
pub record NamesAll (asked : Call) (of : List ℕ → Call) (chain : List Entry) : Type 0 where
  pub text : List ℕ
  pub is : asked ≡ of text
  pub names : path_of text ≡ Ok (names_of chain)

-- the chain leads to a name that is not the last
pub record StopsBefore (asked : Call) (chain : List Entry) (name : List ℕ) : Type 0 where
  pub next : List ℕ
  pub rest : List (List ℕ)
  pub names : path_of (text_of asked) ≡ Ok (names_of chain ++ name ∷ next ∷ rest)

abbrev pub OpFollows : Call → List Entry → Op → Type 0
OpFollows asked chain (op.Create name mode) = NamesLast asked (λ text. call.Create text mode) chain name
OpFollows asked chain (op.Stat name) = NamesLast asked call.Stat chain name
OpFollows asked chain (op.RmdirName name) = NamesLast asked call.Rmdir chain name
OpFollows asked chain (op.Walk name) = StopsBefore asked chain name
OpFollows asked chain any_op = ⊥

abbrev pub Follows : Call → Flow → Type 0
Follows asked (flow.File (file_flow.Finishes chain what)) = OpFollows asked chain what
Follows asked (flow.Dir (dir_flow.Reserves chain name mode)) = NamesLast asked (λ text. call.Mkdir text mode) chain name
Follows asked (flow.Dir (dir_flow.Makes chain name mode version id)) =
    NamesLast asked (λ text. call.Mkdir text mode) chain name
Follows asked (flow.Dir (dir_flow.Links chain name mode version dir)) =
    NamesLast asked (λ text. call.Mkdir text mode) chain name
Follows asked (flow.Dir (dir_flow.Seals chain)) = NamesAll asked call.Rmdir chain
Follows asked (flow.Dir (dir_flow.Unlinks chain)) = NamesAll asked call.Rmdir chain

abbrev pub StageFollows : Call → Stage → Type 0
StageFollows asked (act step) = Follows asked step
StageFollows asked other = Unit {0}

-- where the attempt goes on, it does with a flow on the path
abbrev pub TurnFollows : Call → Turn Flow → Type 0
TurnFollows asked (turn.GoesOn next) = Follows asked next
TurnFollows asked (turn.WindsUp ending more) = Unit {0}

-- ---- clients

abbrev pub FlowFollows : List Call → Flow → Type 0
FlowFollows [] step = ⊥
FlowFollows (asked ∷ calls) step = Follows asked step

abbrev pub StandsOnPath : List Call → Stage → Type 0
StandsOnPath calls stage = StageFits (FlowFollows calls) AnySteps stage

-- a flow stands on the path of the call under way
pub record KeepsToPath (s : ClientState) : Type 0 where
  pub as_asked : IsToldAsAsked s
  pub stands : StandsOnPath s.left s.stage
