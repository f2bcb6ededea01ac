use Rattle.inf_laws_history.proofs.OwnPlaces.{results_have_own_places}
use Rattle.inf_laws_history.proofs.laws.results_have_own_places.Goals as goal

pub returns : goal.returns
returns c world h results legal out = results_have_own_places world h results out
