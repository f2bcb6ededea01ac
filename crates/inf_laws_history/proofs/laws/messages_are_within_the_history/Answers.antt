use Rattle.inf_laws_history.proofs.DrivenFacts.{messages_within}
use Rattle.inf_laws_history.proofs.laws.messages_are_within_the_history.Goals as goal

pub returns : goal.returns
returns c = λ world h legal client. messages_within world h client
