use Rattle.inf_laws_directory.proofs.Edits.{taken_stands}
use Rattle.inf_laws_directory.proofs.stands.what_is_taken_stands.Goals as goal

pub returns : goal.returns
returns c = λ old new root access gone tree path name trees stands reached. taken_stands old new root access tree path name stands reached gone trees
