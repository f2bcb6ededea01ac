use Rattle.inf_laws_client.proofs.PathFacts.{after_act_follows, begins_on_path}
use Rattle.inf_laws_client.proofs.laws.flows_follow_paths.Goals as goal

pub returns-clause-begins : goal.returns-clause-begins
returns-clause-begins c = λ digest root asked course known found fits. begins_on_path digest root asked course known found fits

pub returns-clause-goes_on : goal.returns-clause-goes_on
returns-clause-goes_on c = λ digest who asked flow sent is. after_act_follows digest asked who flow sent is
