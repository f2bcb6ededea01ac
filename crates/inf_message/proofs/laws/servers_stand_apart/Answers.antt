use Rattle.inf_message.proofs.HistoryLaws.{serves_apart, serves_own}
use Rattle.inf_message.proofs.laws.servers_stand_apart.Goals as goal

pub returns-clause-another : goal.returns-clause-another
returns-clause-another c = serves_apart

pub returns-clause-own : goal.returns-clause-own
returns-clause-own c = serves_own
