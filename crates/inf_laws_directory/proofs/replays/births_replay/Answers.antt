use Rattle.inf_laws_directory.specs.Serves.{directories_after}
use Rattle.inf_laws_directory.proofs.Replayed.{directory_linked, reserve_refused}
use Rattle.inf_laws_server.proofs.Came.{failed}
use Rattle.inf_laws_directory.specs.Objects.{site_in}
use Rattle.inf_laws_server.proofs.Births.{reserve_comes}
use Rattle.inf_message.specs.declared.reply.Reply.TheVariants as reply
use Rattle.inf_laws_directory.proofs.replays.births_replay.Goals as goal

pub returns-clause-refused : goal.returns-clause-refused
returns-clause-refused c = λ service objects number root tree phases ask text path name mode chain last error at names is.
    reserve_refused service objects number root tree ask path chain last at name text names mode error
    (failed (site_in service number) (objects number) 0 ask _ _ (reserve_comes (site_in service number) (objects number) 0 ask chain name) (reply.Refused error) is)

pub returns-clause-linked : goal.returns-clause-linked
returns-clause-linked c = λ service objects number root tree phases ask text path name mode chain last dir by access done at names may ordered fresh at_first is.
    directory_linked service objects number root tree ask path chain last at name text names mode dir access (directories_after service objects number done.state) may fresh
    (c.linking_puts_a_directory.ensures service objects number ask chain last dir mode name by access done ordered is at.ends at_first)
