use Rattle.inf_message.proofs.HistoryLaws.{asked_is_event, asked_within, event_is_asked}
use Rattle.inf_message.proofs.laws.asks_have_places.Goals as goal

pub returns-clause-counted : goal.returns-clause-counted
returns-clause-counted c place p h found = (asked_within place p h found).counted

pub returns-clause-within : goal.returns-clause-within
returns-clause-within c place p h found = (asked_within place p h found).within

pub returns-clause-event : goal.returns-clause-event
returns-clause-event c = asked_is_event

pub returns-clause-found : goal.returns-clause-found
returns-clause-found c = event_is_asked
