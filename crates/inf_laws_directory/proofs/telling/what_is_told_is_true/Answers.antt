use Rattle.inf_laws_directory.proofs.Lookups.{there_is_told}
use Rattle.inf_laws_directory.proofs.ServedReplies.{found_there}
use Rattle.inf_laws_directory.proofs.telling.what_is_told_is_true.Goals as goal

pub returns : goal.returns
returns c = λ service objects at root phases ask k access new stands serves.
    there_is_told service objects root phases k access
    (found_there service objects at.number at.ask_place root ask k access new stands serves)
