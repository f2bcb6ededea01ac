use Rattle.inf_laws_directory.specs.Serves.{directories_after}
use Rattle.inf_laws_directory.proofs.ReplayedRemovals.{directory_unlinked, seal_refused}
use Rattle.inf_laws_server.proofs.Came.{failed}
use Rattle.inf_laws_directory.specs.Objects.{site_in}
use Rattle.inf_laws_server.proofs.Removals.{seal_comes}
use Rattle.inf_message.specs.declared.reply.Reply.TheVariants as reply
use Rattle.inf_laws_directory.proofs.replays.removals_replay.Goals as goal

pub returns-clause-refused : goal.returns-clause-refused
returns-clause-refused c = λ service objects number root tree phases ask text path name chain parent target error above at names ordered is.
    seal_refused service objects number root tree ask text path name chain parent target above at names ordered error
    (failed (site_in service number) (objects number) 0 ask _ _ (seal_comes (site_in service number) (objects number) 0 ask chain) (reply.Refused error) is)

pub returns-clause-unlinked : goal.returns-clause-unlinked
returns-clause-unlinked c = λ service objects number root tree phases ask text path name chain parent target dir done above at names may ordered at_name empty is.
    directory_unlinked service objects number root tree ask text path name chain parent target above at names (directories_after service objects number done.state) may empty
    (c.unlinking_takes_the_directory.ensures.takes service objects number ask chain target parent dir name done ordered is at.ends at_name above.ends)
