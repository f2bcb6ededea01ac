use Rattle.inf_laws_history.proofs.ReplayedCounts.{none_left_out}
use Rattle.inf_laws_history.proofs.results.as_many_replay_as_were_decided.Goals as goal

pub returns : goal.returns
returns c world h results legal out = none_left_out world h results out
