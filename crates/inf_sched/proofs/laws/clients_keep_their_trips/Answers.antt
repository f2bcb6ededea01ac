use Rattle.inf_sched.proofs.ShownFacts.{trips_same}
use Rattle.inf_sched.proofs.laws.clients_keep_their_trips.Goals as goal

pub returns : goal.returns
returns c world h clients client a are at = trips_same world h clients client a are at
