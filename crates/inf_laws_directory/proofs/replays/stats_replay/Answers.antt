use Rattle.inf_base.specs.declared.answer.Answer.TheVariants as answer
use Rattle.inf_base.specs.declared.call.Call.TheVariants as call
use Rattle.inf_laws_directory.specs.Objects.{content_in, site_in}
use Rattle.inf_laws_directory.proofs.Replayed.{answers_so, stat_refused, stat_told}
use Rattle.inf_laws_server.proofs.Came.{failed}
use Rattle.inf_laws_directory.proofs.ServedKinds.{looked}
use Rattle.inf_laws_server.proofs.Files.{stat_comes}
use Rattle.inf_message.specs.declared.reply.Reply.TheVariants as reply
use Rattle.inf_laws_directory.proofs.replays.stats_replay.Goals as goal

pub returns-clause-told : goal.returns-clause-told
returns-clause-told c = λ service objects number root tree phases ask text path name chain last done kind meta at names is given.
    answers_so tree ask.caller (call.Stat text) (answer.Stat kind meta) root (content_in service objects) tree
    (stat_told service objects number root tree ask path chain last at name text names done kind meta
    (looked (site_in service number) (objects number) ask done chain name is) given) at.stands

pub returns-clause-refused : goal.returns-clause-refused
returns-clause-refused c = λ service objects number root tree phases ask text path name chain last error at names is.
    stat_refused service objects number root tree ask path chain last at name text names error
    (failed (site_in service number) (objects number) 0 ask _ _ (stat_comes (site_in service number) (objects number) 0 ask chain name) (reply.Refused error) is)
