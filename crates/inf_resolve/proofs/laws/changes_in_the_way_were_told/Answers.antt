use Rattle.inf_resolve.proofs.InTheWayFacts.{change_was_told}
use Rattle.inf_resolve.proofs.laws.changes_in_the_way_were_told.Goals as goal

pub returns : goal.returns
returns c = change_was_told
