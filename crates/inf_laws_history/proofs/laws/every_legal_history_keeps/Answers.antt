use Rattle.inf_laws_history.proofs.HistoryFacts.{every_history}
use Rattle.inf_laws_history.proofs.laws.every_legal_history_keeps.Goals as goal

pub returns : goal.returns
returns c = λ world h legal.
    every_history c.the_opening_stands.ensures c.the_root_stays.ensures.opening world c.what_is_served_stands.ensures h legal
