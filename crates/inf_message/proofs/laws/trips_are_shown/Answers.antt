use Rattle.inf_message.proofs.ClientLaws.{trips_are_shown, waiting_are_made}
use Rattle.inf_message.proofs.laws.trips_are_shown.Goals as goal

pub returns-clause-trips : goal.returns-clause-trips
returns-clause-trips c = trips_are_shown

pub returns-clause-waiting : goal.returns-clause-waiting
returns-clause-waiting c = waiting_are_made
