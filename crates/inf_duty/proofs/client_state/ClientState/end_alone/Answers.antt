use Rattle.std.proofs.Common.{◌∙◌}
use Rattle.inf_duty.specs.ClientState.{act}
use Rattle.inf_message.specs.History.{told_reply}
use Rattle.inf_message.specs.Turn.{turn_as}
use Rattle.inf_duty.proofs.AnswerFacts.{ends_alone}
use Rattle.inf_duty.proofs.client_state.ClientState.end_alone.Goals as goal

pub returns-clause-ok : goal.returns-clause-ok
returns-clause-ok g c =
    c.follow.ensures
    ∙ ends_alone (g.R.IdRule.digest_of c.args.rule.now) c.args.self.now _ c.count_serve.new.self
    (turn_as act c.in_ok-turn.turn)
    c.args.ask_place (told_reply c.args.serve_place c.args.reply.now) c.requires.alone c.requires.here c.requires.stage
    c.in_ok-turn.ensures.turn (c.self.view_is ∙ c.take_answer.ensures.after) c.count_serve.ensures
