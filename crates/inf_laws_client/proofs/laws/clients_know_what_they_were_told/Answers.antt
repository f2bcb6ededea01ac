use Rattle.inf_laws_client.specs.Told.{IsAmong}
use Rattle.inf_laws_client.proofs.KnowsFacts.{begun_knows, composed_knows, given_up_knows, idle_knows, placed_knows, served_knows, weaker_knows}
use Rattle.inf_laws_client.proofs.laws.clients_know_what_they_were_told.Goals as goal

pub returns-clause-start : goal.returns-clause-start
returns-clause-start c = λ told_so who calls. idle_knows (IsAmong told_so) who calls

pub returns-clause-composing : goal.returns-clause-composing
returns-clause-composing c = λ digest told_so s knows. composed_knows digest (IsAmong told_so) s knows

pub returns-clause-giving_up : goal.returns-clause-giving_up
returns-clause-giving_up c = λ told_so s knows. given_up_knows (IsAmong told_so) s knows

pub returns-clause-beginning : goal.returns-clause-beginning
returns-clause-beginning c = λ digest told_so s ask knows. begun_knows digest (IsAmong told_so) ask s knows

pub returns-clause-asking : goal.returns-clause-asking
returns-clause-asking c = λ told_so s place number ask knows is. placed_knows (IsAmong told_so) place number ask s knows is

pub returns-clause-telling : goal.returns-clause-telling
returns-clause-telling c = λ digest told_so s place told knows tells now. served_knows digest (IsAmong told_so) place told s knows tells now

pub returns-clause-more : goal.returns-clause-more
returns-clause-more c = λ told_so others s more knows. weaker_knows (IsAmong told_so) (IsAmong others) more s knows
