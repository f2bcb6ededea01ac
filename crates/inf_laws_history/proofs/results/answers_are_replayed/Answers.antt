use Rattle.inf_laws_history.proofs.ReplayedAnswers.{results_are_counted}
use Rattle.inf_laws_history.proofs.results.answers_are_replayed.Goals as goal

pub returns : goal.returns
returns c world h results legal out = results_are_counted world h results out
