use Rattle.inf_base.specs.declared.answer.Answer.TheVariants as answer
use Rattle.inf_base.specs.declared.call.Call.TheVariants as call
use Rattle.inf_laws_directory.specs.Objects.{site_in, with_state}
use Rattle.inf_laws_directory.proofs.StandingFacts.{asked_at, decides}
use Rattle.inf_laws_directory.proofs.DeniedEnds.{asked_if_put}
use Rattle.inf_laws_directory.proofs.ServedKinds.{created}
use Rattle.inf_laws_server.proofs.Came.{failed}
use Rattle.inf_laws_server.proofs.Files.{create_comes}
use Rattle.inf_message.specs.declared.reply.Reply.TheVariants as reply
use Rattle.inf_laws_directory.proofs.served.served_creations_stand.Goals as goal

pub returns-clause-done : goal.returns-clause-done
returns-clause-done c = λ service objects number root tree phases ask text path name mode chain done standing at_idle told names is.
    let put = (created (site_in service number) (objects number) ask done chain name mode is).passed in
    let last = put.entry in
    let at = asked_at service objects number root tree phases ask.from path chain last standing at_idle told put.is_asked in
    decides service objects (with_state number done.state objects) root tree phases phases ask.caller (call.Create text mode) answer.Done standing.sorted
    (c.creates_replay.ensures.done service objects number root tree phases ask text path name mode chain last done at names is)
    (c.creating_keeps.ensures service objects number root phases ask path chain name mode done standing.owned at_idle at.leads is)

pub returns-clause-refused : goal.returns-clause-refused
returns-clause-refused c = λ service objects number root tree phases ask text path name mode chain error standing at_idle told names is.
    let site = site_in service number in
    let first = asked_if_put site (objects number) ask chain name error
    (failed site (objects number) 0 ask _ _ (create_comes site (objects number) 0 ask chain name mode) (reply.Refused error) is) in
    let at = asked_at service objects number root tree phases ask.from path chain first.value standing at_idle told first.is_asked in
    c.creates_replay.ensures.refused service objects number root tree phases ask text path name mode chain first.value error at names is
