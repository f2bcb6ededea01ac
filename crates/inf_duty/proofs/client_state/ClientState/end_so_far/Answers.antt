use Rattle.std.proofs.Common.{◌≡◌, ◌<◌, [], length, ap, ◌∙◌}
use Rattle.inf_duty.specs.Outcome.{results_of}
use Rattle.inf_duty.specs.ClientState.{ClientState, compose, ended}
use Rattle.inf_duty.proofs.AnswerFacts.{some_left}
use Rattle.inf_duty.proofs.ResultFacts.{ended_one}
use Rattle.inf_duty.proofs.client_state.ClientState.end_so_far.Goals as goal

pub returns-clause-results : goal.returns-clause-results
returns-clause-results c =
    let before : ClientState = c.args.self.now in
    let after : c.take_so_far-answer.new.self ≡ record before { stage = compose; sent = [] } = c.take_so_far-answer.ensures.after in
    let left : 0 < length before.left = some_left c.is_over.result before.left c.is_over.ensures c.if-is_over.false in
    ap results_of (c.end.ensures ∙ ap (ended _ _) after) ∙ ended_one before _ _ left c.requires c.take_so_far-answer.ensures.so_far
