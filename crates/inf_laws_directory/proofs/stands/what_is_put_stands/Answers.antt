use Rattle.inf_laws_directory.proofs.Edits.{directory_stands, file_stands}
use Rattle.inf_laws_directory.proofs.stands.what_is_put_stands.Goals as goal

pub returns-clause-files : goal.returns-clause-files
returns-clause-files c = λ old new root access tree path name meta stands reached. file_stands old new root access tree path name stands reached meta

pub returns-clause-directories : goal.returns-clause-directories
returns-clause-directories c = λ old new root access made tree path name stands reached. directory_stands old new root access tree path name stands reached made
