use Rattle.inf_laws_directory.proofs.Along.{looked}
use Rattle.inf_laws_directory.proofs.answers.looks_follow_chains.Goals as goal

pub returns : goal.returns
returns c = λ dirs root tree caller text path name chain last stands leads ends names.
    looked dirs root tree caller path name chain last stands leads ends text names
