use Rattle.inf_laws_history.proofs.DrivenFacts.{fresh}
use Rattle.inf_laws_history.proofs.laws.new_places_are_fresh.Goals as goal

pub returns : goal.returns
returns c = λ world h legal client. fresh world h client
