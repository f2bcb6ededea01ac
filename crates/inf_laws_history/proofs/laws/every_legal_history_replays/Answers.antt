use Rattle.inf_laws_history.proofs.Ordered.{all_replay}
use Rattle.inf_laws_history.proofs.laws.every_legal_history_replays.Goals as goal

pub returns : goal.returns
returns c = λ world h legal. all_replay world h (c.every_legal_history_keeps.ensures world h legal).replays
