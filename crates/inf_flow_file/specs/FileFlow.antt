-- The flow of a call that one message decides.
use Rattle.std.specs.Prelude.{ℕ, List, [], ◌∷◌}
use Rattle.inf_base.specs.declared.answer.Answer.TheVariants as answer
use Rattle.inf_flow_file.specs.declared.file_flow.FileFlow.{FileFlow}
use Rattle.inf_flow_file.specs.declared.file_flow.FileFlow.TheVariants as file_flow
use Rattle.inf_message.specs.declared.op.Op.TheVariants as op
use Rattle.inf_message.specs.declared.reply.Reply.{Reply}
use Rattle.inf_message.specs.declared.reply.Reply.TheVariants as reply
use Rattle.inf_message.specs.declared.request.Request.TheVariants as request
use Rattle.inf_message.specs.declared.step.Message.{Message}
use Rattle.inf_message.specs.declared.turn.Turn.{Turn}
use Rattle.inf_message.specs.Sent.{Sent, deciding}
use Rattle.inf_message.specs.Turn.{after_deciding, done, ends, fails}
use Rattle.inf_message.specs.Who.{Who, last_id, to}

abbrev pub message_of : Who → FileFlow → Message
message_of who (file_flow.Finishes chain asked) = to who (last_id who chain) (request.Finish chain asked)

abbrev pub group : Who → FileFlow → List Message
group who flow = message_of who flow ∷ []

-- by the place of the Ask, that of its Serve, and the reply; there is nothing to clean up
abbrev pub after_reply : FileFlow → ℕ → ℕ → Reply → Turn FileFlow
after_reply (file_flow.Finishes chain (op.Create name mode)) ask_place place reply.Fine = done place []
after_reply (file_flow.Finishes chain (op.Stat name)) ask_place place (reply.Stat kind meta) =
    ends (answer.Stat kind meta) place
after_reply flow ask_place place given = fails [] place given

-- what comes of the group, once it was answered
abbrev pub after : FileFlow → List Sent → Turn FileFlow
after flow sent = after_deciding (after_reply flow) (deciding sent)
