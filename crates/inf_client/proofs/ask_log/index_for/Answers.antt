use Rattle.std.proofs.Common.{arith, rules}
use Rattle.inf_client.proofs.Places.{earlier_too}
use Rattle.inf_client.proofs.ask_log.index_for.Goals as goal

pub returns-else-place-trips-clause-earlier : goal.returns-else-place-trips-clause-earlier
returns-else-place-trips-clause-earlier c =
    earlier_too c.args.place c.args.trips.now c.loop-index.index c.index-trips-index.result c.requires (omega arith) (omega arith) (search rules) (search rules)
