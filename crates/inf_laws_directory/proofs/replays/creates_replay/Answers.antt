use Rattle.inf_laws_directory.specs.Serves.{directories_after}
use Rattle.inf_laws_directory.proofs.Replayed.{create_refused, file_created, may_create}
use Rattle.inf_laws_directory.proofs.ServedKinds.{created}
use Rattle.inf_laws_server.proofs.Came.{failed}
use Rattle.inf_laws_directory.specs.Objects.{site_in}
use Rattle.inf_laws_server.proofs.Files.{create_comes}
use Rattle.inf_message.specs.declared.reply.Reply.TheVariants as reply
use Rattle.inf_laws_directory.proofs.replays.creates_replay.Goals as goal

pub returns-clause-done : goal.returns-clause-done
returns-clause-done c = λ service objects number root tree phases ask text path name mode chain last done at names is.
    let may = may_create service objects number root tree ask path chain last at name text names
    (created (site_in service number) (objects number) ask done chain name mode is).passed in
    file_created service objects number root tree ask path chain last at name text names mode (directories_after service objects number done.state) may
    (c.creating_puts_a_file.ensures service objects number ask chain last name mode done is at.ends)

pub returns-clause-refused : goal.returns-clause-refused
returns-clause-refused c = λ service objects number root tree phases ask text path name mode chain last error at names is.
    create_refused service objects number root tree ask path chain last at name text names mode error
    (failed (site_in service number) (objects number) 0 ask _ _ (create_comes (site_in service number) (objects number) 0 ask chain name mode) (reply.Refused error) is)
