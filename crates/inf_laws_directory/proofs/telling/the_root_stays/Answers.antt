use Rattle.inf_laws_directory.proofs.TopStays.{no_other, root_opens, top_stays}
use Rattle.inf_laws_directory.proofs.telling.the_root_stays.Goals as goal

pub returns-clause-opening : goal.returns-clause-opening
returns-clause-opening c = λ service. root_opens service

pub returns-clause-next : goal.returns-clause-next
returns-clause-next c = λ site state place ask. top_stays site state ask place

pub returns-clause-alone : goal.returns-clause-alone
returns-clause-alone c = λ service objects root stands. no_other service objects root stands
