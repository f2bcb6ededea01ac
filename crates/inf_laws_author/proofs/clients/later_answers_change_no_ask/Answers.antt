use Rattle.inf_laws_author.proofs.LaterAnswers.{duty_stays, stays_or_waits}
use Rattle.inf_laws_author.proofs.clients.later_answers_change_no_ask.Goals as goal

pub returns-clause-duty : goal.returns-clause-duty
returns-clause-duty c = duty_stays

pub returns-clause-waits : goal.returns-clause-waits
returns-clause-waits c = stays_or_waits
