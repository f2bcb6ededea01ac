use Rattle.inf_laws_directory.proofs.Along.{created, made}
use Rattle.inf_laws_directory.proofs.answers.creations_follow_chains.Goals as goal

pub returns-clause-files : goal.returns-clause-files
returns-clause-files c = λ dirs root tree caller text path name mode chain last stands leads ends names.
    created dirs root tree caller path name chain last stands leads ends text names mode

pub returns-clause-directories : goal.returns-clause-directories
returns-clause-directories c = λ dirs root tree caller text path name mode chain last stands leads ends names.
    made dirs root tree caller path name chain last stands leads ends text names mode
