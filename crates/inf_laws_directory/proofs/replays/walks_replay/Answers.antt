use Rattle.std.proofs.Common.{refl}
use Rattle.inf_base.specs.declared.call.Call.TheVariants as call
use Rattle.inf_laws_directory.proofs.Replayed.{walk_refused}
use Rattle.inf_laws_server.proofs.Came.{failed}
use Rattle.inf_laws_directory.specs.Objects.{site_in}
use Rattle.inf_laws_server.proofs.Files.{walk_comes}
use Rattle.inf_message.specs.declared.reply.Reply.TheVariants as reply
use Rattle.inf_laws_directory.proofs.replays.walks_replay.Goals as goal

pub returns-clause-creates : goal.returns-clause-creates
returns-clause-creates c = λ service objects number root tree phases ask text path rest name next mode chain last error at names is.
    walk_refused service objects number root tree ask path chain last at name (call.Create text mode) text refl next rest names error
    (failed (site_in service number) (objects number) 0 ask _ _ (walk_comes (site_in service number) (objects number) 0 ask chain name) (reply.Refused error) is)

pub returns-clause-stats : goal.returns-clause-stats
returns-clause-stats c = λ service objects number root tree phases ask text path rest name next chain last error at names is.
    walk_refused service objects number root tree ask path chain last at name (call.Stat text) text refl next rest names error
    (failed (site_in service number) (objects number) 0 ask _ _ (walk_comes (site_in service number) (objects number) 0 ask chain name) (reply.Refused error) is)

pub returns-clause-mkdirs : goal.returns-clause-mkdirs
returns-clause-mkdirs c = λ service objects number root tree phases ask text path rest name next mode chain last error at names is.
    walk_refused service objects number root tree ask path chain last at name (call.Mkdir text mode) text refl next rest names error
    (failed (site_in service number) (objects number) 0 ask _ _ (walk_comes (site_in service number) (objects number) 0 ask chain name) (reply.Refused error) is)

pub returns-clause-rmdirs : goal.returns-clause-rmdirs
returns-clause-rmdirs c = λ service objects number root tree phases ask text path rest name next chain last error at names is.
    walk_refused service objects number root tree ask path chain last at name (call.Rmdir text) text refl next rest names error
    (failed (site_in service number) (objects number) 0 ask _ _ (walk_comes (site_in service number) (objects number) 0 ask chain name) (reply.Refused error) is)
