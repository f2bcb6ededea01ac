use Rattle.inf_laws_directory.proofs.Chains.{comes, reaches}
use Rattle.inf_laws_directory.proofs.stands.walks_follow_chains.Goals as goal

pub returns-clause-reaches : goal.returns-clause-reaches
returns-clause-reaches c = reaches

pub returns-clause-comes : goal.returns-clause-comes
returns-clause-comes c = λ dirs root tree caller path chain last stands. comes dirs root tree caller path chain last stands.shows
