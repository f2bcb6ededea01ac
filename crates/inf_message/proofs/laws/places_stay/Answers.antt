use Rattle.inf_message.proofs.HistoryLaws.{asked_stays, event_stays}
use Rattle.inf_message.proofs.laws.places_stay.Goals as goal

pub returns-clause-events : goal.returns-clause-events
returns-clause-events c = event_stays

pub returns-clause-asks : goal.returns-clause-asks
returns-clause-asks c = asked_stays
