use Rattle.inf_message.proofs.ClientLaws.{asks_apart, serve_apart}
use Rattle.inf_message.proofs.laws.clients_stand_apart.Goals as goal

pub returns-clause-ask : goal.returns-clause-ask
returns-clause-ask c = asks_apart

pub returns-clause-serve : goal.returns-clause-serve
returns-clause-serve c = serve_apart
