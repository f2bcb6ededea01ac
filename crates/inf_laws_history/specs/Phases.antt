-- What a client's call has in hand, by the stage that it has come to.
use Rattle.std.specs.Prelude.{◌≡◌, ℕ, List, [], ◌∷◌}
use Rattle.inf_base.specs.declared.caller.Caller.{Caller}
use Rattle.inf_base.specs.declared.directory.DirRef.{DirRef}
use Rattle.inf_base.specs.declared.entry.Entry.{Entry}
use Rattle.inf_base.specs.declared.id.Id.{Id}
use Rattle.inf_base.specs.Identity.{server_of}
use Rattle.inf_flow_dir.specs.declared.dir_flow.DirFlow.TheVariants as dir_flow
use Rattle.inf_flow_file.specs.declared.file_flow.FileFlow.TheVariants as file_flow
use Rattle.inf_duty.specs.declared.flow.Flow.TheVariants as flow
use Rattle.inf_duty.specs.ClientState.{Stage, act, compose, round, winds}
use Rattle.inf_duty.specs.Flow.{HasBirthId}
use Rattle.inf_duty.specs.declared.flow.Flow.{Flow}
use Rattle.inf_message.specs.Chain.{last_dir, way_to}
use Rattle.inf_message.specs.Who.{Who, birth_of}
use Rattle.inf_laws_directory.specs.Owes.{MayWriteAt}
use Rattle.inf_laws_directory.specs.Phases.{Phase, has_made, has_reserved, has_sealed, has_unlinked, idle}
use Rattle.inf_message.specs.declared.request.Request.{Request}
use Rattle.inf_message.specs.declared.request.Request.TheVariants as request
use Rattle.inf_message.specs.declared.step.Message.{Message}
use Rattle.inf_server.specs.Chains.{before_last}

-- ---- clean-ups

abbrev pub to_server_of : ℕ → Id → Request → Message
to_server_of servers id asked = record { number = server_of id servers; request = asked }

pub record Forgets (servers : ℕ) (m : Message) : Type 0 where
  pub parent : Id
  pub dir : DirRef
  pub is : m ≡ to_server_of servers parent (request.Forget parent dir)

-- the message lifts what is in hand, or the newest of it
abbrev pub IsLiftedBy : ℕ → Phase → Message → Type 0
IsLiftedBy servers idle m = Forgets servers m
IsLiftedBy servers (has_reserved parent name birth) m = m ≡ to_server_of servers parent.id (request.Cancel parent)
IsLiftedBy servers (has_made parent name birth made) m = m ≡ to_server_of servers made.id (request.Drop made)
IsLiftedBy servers (has_sealed parent name target) m = m ≡ to_server_of servers target.id (request.Unseal target)
IsLiftedBy servers (has_unlinked target) m = m ≡ to_server_of servers target.id (request.Drop target)

-- what is in hand once it was lifted
abbrev pub lifted : Phase → Phase
lifted (has_made parent name birth made) = has_reserved parent name birth
lifted other_phase = idle

-- steps of one message each lift all that is in hand, one after another
abbrev pub Lifts : ℕ → Phase → List (List Message) → Type 0
Lifts servers phase [] = phase ≡ idle
Lifts servers phase ((m ∷ []) ∷ later) = IsLiftedBy servers phase m × Lifts servers (lifted phase) later
Lifts servers phase other_steps = ⊥

-- ---- stages

pub record SealsIn (chain : List Entry) (phase : Phase) : Type 0 where
  pub name : List ℕ
  pub is : phase ≡ has_sealed (last_dir (way_to chain)) name (last_dir chain)

abbrev pub FlowHas : Who → Flow → Phase → Type 0
FlowHas who (flow.File (file_flow.Finishes chain what)) phase = phase ≡ idle
FlowHas who (flow.Dir (dir_flow.Reserves chain name mode)) phase = phase ≡ idle
FlowHas who (flow.Dir (dir_flow.Makes chain name mode version id)) phase =
    phase ≡ has_reserved (last_dir chain) name (birth_of who chain name version)
FlowHas who (flow.Dir (dir_flow.Links chain name mode version dir)) phase =
    phase ≡ has_made (last_dir chain) name (birth_of who chain name version) dir
FlowHas who (flow.Dir (dir_flow.Seals chain)) phase = phase ≡ idle
FlowHas who (flow.Dir (dir_flow.Unlinks chain)) phase = SealsIn chain phase

-- a flow carries the identifier that its birth is given
abbrev pub HasPhase : (List ℕ → Id) → Who → Stage → Phase → Type 0
HasPhase digest who compose phase = phase ≡ idle
HasPhase digest who (round keys) phase = phase ≡ idle
HasPhase digest who (act step) phase = FlowHas who step phase × HasBirthId digest who step
HasPhase digest who (winds ending ms later) phase = Lifts who.servers phase (ms ∷ later)

-- what a flow that goes on rests on: an earlier message asked whether the caller may write
abbrev pub FlowMay : Caller → Flow → Type 0
FlowMay caller (flow.Dir (dir_flow.Makes chain name mode version id)) = MayWriteAt caller chain
FlowMay caller (flow.Dir (dir_flow.Links chain name mode version dir)) = MayWriteAt caller chain
FlowMay caller (flow.Dir (dir_flow.Unlinks chain)) = MayWriteAt caller (before_last chain)
FlowMay caller other_flow = Unit {0}

abbrev pub StageMay : Caller → Stage → Type 0
StageMay caller (act step) = FlowMay caller step
StageMay caller other_stage = Unit {0}
