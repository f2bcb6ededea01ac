use Rattle.inf_laws_directory.proofs.Along.{stops_at_file, stops_at_nothing, unsearched}
use Rattle.inf_laws_directory.proofs.answers.paths_stop_at_chains.Goals as goal

pub returns-clause-at_nothing : goal.returns-clause-at_nothing
returns-clause-at_nothing c = λ dirs root tree caller asked text path rest name next chain last stands leads ends on names is.
    stops_at_nothing dirs root tree caller path name chain last stands leads ends next rest asked text on names is

pub returns-clause-at_files : goal.returns-clause-at_files
returns-clause-at_files c = λ dirs root tree caller asked text path rest name next chain last meta stands leads ends on names is.
    stops_at_file dirs root tree caller path name chain last stands leads ends next rest asked text on names meta is

pub returns-clause-unsearched : goal.returns-clause-unsearched
returns-clause-unsearched c = λ dirs root tree caller asked text path rest name chain last stands leads ends.
    unsearched dirs root tree caller path name chain last stands leads ends rest asked text
