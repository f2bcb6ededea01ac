use Rattle.inf_laws_directory.proofs.Replayed.{rmdir_name_refused}
use Rattle.inf_laws_server.proofs.Came.{failed}
use Rattle.inf_laws_directory.specs.Objects.{site_in}
use Rattle.inf_laws_server.proofs.Files.{rmdir_name_comes}
use Rattle.inf_message.specs.declared.reply.Reply.TheVariants as reply
use Rattle.inf_laws_directory.proofs.replays.removals_of_no_directory_replay.Goals as goal

pub returns : goal.returns
returns c = λ service objects number root tree phases ask text path name chain last error at names is.
    rmdir_name_refused service objects number root tree ask path chain last at name text names error
    (failed (site_in service number) (objects number) 0 ask _ _ (rmdir_name_comes (site_in service number) (objects number) 0 ask chain name) (reply.Refused error) is)
