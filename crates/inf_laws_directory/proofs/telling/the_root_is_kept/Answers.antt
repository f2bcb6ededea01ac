use Rattle.inf_laws_directory.proofs.TopStays.{no_other_kept, root_kept}
use Rattle.inf_laws_directory.proofs.telling.the_root_is_kept.Goals as goal

pub returns-clause-root : goal.returns-clause-root
returns-clause-root c = λ service objects at root ask given new stands serves.
    root_kept service objects root at.number at.ask_place ask given new stands serves

pub returns-clause-alone : goal.returns-clause-alone
returns-clause-alone c = λ service objects at root ask given new stands serves.
    no_other_kept service objects root at.number at.ask_place ask given new stands serves
