use Rattle.inf_laws_history.proofs.DrivenFacts.{others_stay}
use Rattle.inf_laws_history.proofs.laws.others_stay.Goals as goal

pub returns : goal.returns
returns c = λ world h legal client number ask_place given posted made unlike. others_stay world h client number ask_place given posted made unlike
