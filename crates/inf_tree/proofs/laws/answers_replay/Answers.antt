use Rattle.inf_tree.proofs.Replays.{Replays-answers_to}
use Rattle.inf_tree.proofs.laws.answers_replay.Goals as goal

pub returns : goal.returns
returns c = Replays-answers_to
