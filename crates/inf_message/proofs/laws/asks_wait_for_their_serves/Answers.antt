use Rattle.inf_message.proofs.ClientLaws.{trips_stay, waits_newly, waits_no_more}
use Rattle.inf_message.proofs.laws.asks_wait_for_their_serves.Goals as goal

pub returns-clause-no_trip : goal.returns-clause-no_trip
returns-clause-no_trip c = trips_stay

pub returns-clause-waits : goal.returns-clause-waits
returns-clause-waits c = waits_newly

pub returns-clause-served : goal.returns-clause-served
returns-clause-served c = waits_no_more
