use Rattle.inf_laws_directory.proofs.Along.{empty_removed, file_stays, full_stays, nothing_removed, unwritten}
use Rattle.inf_laws_directory.proofs.answers.removals_follow_chains.Goals as goal

pub returns-clause-unwritten : goal.returns-clause-unwritten
returns-clause-unwritten c = λ dirs root tree caller text path name chain last stands leads ends names closed.
    unwritten dirs root tree caller path name chain last stands leads ends text names closed

pub returns-clause-of_nothing : goal.returns-clause-of_nothing
returns-clause-of_nothing c = λ dirs root tree caller text path name chain last stands leads ends names is.
    nothing_removed dirs root tree caller path name chain last stands leads ends text names is

pub returns-clause-of_files : goal.returns-clause-of_files
returns-clause-of_files c = λ dirs root tree caller text path name chain last meta stands leads ends names is.
    file_stays dirs root tree caller path name chain last stands leads ends text names meta is

pub returns-clause-of_full : goal.returns-clause-of_full
returns-clause-of_full c = λ dirs root tree caller text path name inner chain last full thing stands leads ends names is inside.
    full_stays dirs root tree caller path name chain last stands leads ends text names full inner thing is inside

pub returns-clause-of_empty : goal.returns-clause-of_empty
returns-clause-of_empty c = λ dirs root tree caller text path name chain last empty stands leads ends names is nothing.
    empty_removed dirs root tree caller path name chain last stands leads ends text names empty is nothing
