use Rattle.inf_laws_history.proofs.DrivenFacts.{idle_stays}
use Rattle.inf_laws_history.proofs.laws.idle_clients_stay.Goals as goal

pub returns : goal.returns
returns c = idle_stays
