use Rattle.std.proofs.Common.{◌≡◌}
use Rattle.std.specs.Prelude.{vec_capacity}
use Rattle.inf_duty.proofs.RecordFacts.{HasNoted}
use Rattle.inf_message.specs.Heard.{heard}
use Rattle.inf_message.specs.History.{told_reply}
use Rattle.inf_duty.proofs.recording.record_answer.Given as goal

abbrev pub invariant-loop-index : goal.invariant-loop-index
invariant-loop-index l =
    HasNoted l.ask_place (told_reply l.serve_place (heard l.reply)) l.initial.sent.items l.sent.items l.index
    × (vec_capacity l.sent ≡ vec_capacity l.initial.sent)
