use Rattle.inf_laws_history.proofs.OwnHistory.{shows_state}
use Rattle.inf_laws_history.proofs.laws.own_asks_show_the_client.Goals as goal

pub returns : goal.returns
returns c = shows_state
