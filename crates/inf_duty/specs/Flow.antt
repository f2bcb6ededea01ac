-- The flows of calls: each of them by the crate of its kind.
use Rattle.std.specs.Prelude.{◌≡◌, ℕ, List, []}
use Rattle.inf_base.specs.declared.id.Id.{Id}
use Rattle.inf_base.specs.Identity.{identity}
use Rattle.inf_duty.specs.declared.flow.Flow.{Flow}
use Rattle.inf_duty.specs.declared.flow.Flow.TheVariants as flow
use Rattle.inf_flow_dir.specs.declared.dir_flow.DirFlow.TheVariants as dir_flow
use Rattle.inf_flow_dir.specs.DirFlow.{after as after_dir, after_reply as dir_reply, clean_up as dir_clean_up, group as dir_group}
use Rattle.inf_flow_file.specs.FileFlow.{after as after_file, after_reply as file_reply, group as file_group}
use Rattle.inf_message.specs.Sent.{Sent}
use Rattle.inf_message.specs.declared.reply.Reply.{Reply}
use Rattle.inf_message.specs.declared.step.Message.{Message}
use Rattle.inf_message.specs.declared.turn.Turn.{Turn}
use Rattle.inf_message.specs.Turn.{turn_as}
use Rattle.inf_message.specs.Who.{Who, birth_of}

-- the messages of a flow's step
abbrev pub messages_of : Who → Flow → List Message
messages_of who (flow.File step) = file_group who step
messages_of who (flow.Dir step) = dir_group who step

-- what is cleaned up, step after step, where one does not succeed, or is not taken for want of memory
abbrev pub clean_up : Who → Flow → List (List Message)
clean_up who (flow.File step) = []
clean_up who (flow.Dir step) = dir_clean_up who step

-- what comes of a step, once its messages were answered
abbrev pub after_act : (List ℕ → Id) → Who → Flow → List Sent → Turn Flow
after_act digest who (flow.File step) sent = turn_as flow.File (after_file step sent)
after_act digest who (flow.Dir step) sent = turn_as flow.Dir (after_dir digest who step sent)

-- the same by the answer that decides it: the place of the Ask, that of its Serve, and the reply
abbrev pub after_reply : (List ℕ → Id) → Who → Flow → ℕ → ℕ → Reply → Turn Flow
after_reply digest who (flow.File step) ask_place place given = turn_as flow.File (file_reply step ask_place place given)
after_reply digest who (flow.Dir step) ask_place place given =
    turn_as flow.Dir (dir_reply digest who step ask_place place given)

-- the identifier of a directory to come is the identity of its birth
abbrev pub HasBirthId : (List ℕ → Id) → Who → Flow → Type 0
HasBirthId digest who (flow.Dir (dir_flow.Makes chain name mode version id)) =
    id ≡ identity digest (birth_of who chain name version)
HasBirthId digest who (flow.Dir (dir_flow.Links chain name mode version made)) =
    made.id ≡ identity digest (birth_of who chain name version)
HasBirthId digest who other = Unit {0}
