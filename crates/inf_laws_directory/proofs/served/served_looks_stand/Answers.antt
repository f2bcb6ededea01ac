use Rattle.inf_base.specs.declared.answer.Answer.TheVariants as answer
use Rattle.inf_base.specs.declared.call.Call.TheVariants as call
use Rattle.inf_tree.specs.Apply.{apply}
use Rattle.inf_laws_directory.specs.Objects.{content_in, site_in, with_state}
use Rattle.inf_laws_directory.proofs.Replayed.{walk_refused}
use Rattle.inf_laws_directory.proofs.SameContents.{kept_stay, nothing_seen}
use Rattle.inf_laws_directory.proofs.StandingFacts.{asked_at, decides, looks_same}
use Rattle.inf_laws_directory.proofs.DeniedEnds.{asked_if_look, asked_if_none, asked_if_walk}
use Rattle.inf_laws_directory.proofs.ServedKinds.{looked}
use Rattle.std.proofs.Common.{ap}
use Rattle.inf_laws_server.proofs.Came.{failed}
use Rattle.inf_server.specs.State.{State}
use Rattle.inf_laws_server.proofs.Files.{rmdir_name_comes, stat_comes, walk_comes}
use Rattle.inf_message.specs.declared.reply.Reply.TheVariants as reply
use Rattle.inf_laws_directory.proofs.served.served_looks_stand.Goals as goal

pub returns-clause-told : goal.returns-clause-told
returns-clause-told c = λ service objects number root tree phases ask text path name chain done kind meta standing at_idle told names is given.
    let site = site_in service number in
    let next = with_state number done.state objects in
    let was_looked = looked site (objects number) ask done chain name is in
    let first = was_looked.passed in
    let same = ap (λ (s : State). s.contents) was_looked.did in
    let at = asked_at service objects number root tree phases ask.from path chain first.entry standing at_idle told first.is_asked in
    let answers = c.stats_replay.ensures.told service objects number root tree phases ask text path name chain first.entry done kind meta at names is given in
    let stands = c.unseen_changes_stand.ensures (content_in service objects) (content_in service next) root (apply tree ask.caller (call.Stat text)).tree
    answers.stands (looks_same service objects next root (nothing_seen service objects number done.state same)) in
    decides service objects next root tree phases phases ask.caller (call.Stat text) (answer.Stat kind meta) standing.sorted
    (record { answered = answers.answered; stands = stands }) (kept_stay service objects number done.state same root phases standing.owned)

pub returns-clause-not_told : goal.returns-clause-not_told
returns-clause-not_told c = λ service objects number root tree phases ask text path name chain error standing at_idle told names is.
    let site = site_in service number in
    let first = asked_if_look site (objects number) ask chain name error
    (failed site (objects number) 0 ask _ _ (stat_comes site (objects number) 0 ask chain name) (reply.Refused error) is) in
    let at = asked_at service objects number root tree phases ask.from path chain first.value standing at_idle told first.is_asked in
    c.stats_replay.ensures.refused service objects number root tree phases ask text path name chain first.value error at names is

pub returns-clause-stopped : goal.returns-clause-stopped
returns-clause-stopped c = λ service objects number root tree phases ask asked text path rest name next chain error standing at_idle told on names is.
    let site = site_in service number in
    let first = asked_if_walk site (objects number) ask chain name error
    (failed site (objects number) 0 ask _ _ (walk_comes site (objects number) 0 ask chain name) (reply.Refused error) is) in
    let at = asked_at service objects number root tree phases ask.from path chain first.value standing at_idle told first.is_asked in
    walk_refused service objects number root tree ask path chain first.value at name asked text on next rest names error
    (failed site (objects number) 0 ask _ _ (walk_comes site (objects number) 0 ask chain name) (reply.Refused error) is)

pub returns-clause-no_directory : goal.returns-clause-no_directory
returns-clause-no_directory c = λ service objects number root tree phases ask text path name chain error standing at_idle told names is.
    let site = site_in service number in
    let first = asked_if_none site (objects number) ask chain name error
    (failed site (objects number) 0 ask _ _ (rmdir_name_comes site (objects number) 0 ask chain name) (reply.Refused error) is) in
    let at = asked_at service objects number root tree phases ask.from path chain first.value standing at_idle told first.is_asked in
    c.removals_of_no_directory_replay.ensures service objects number root tree phases ask text path name chain first.value error at names is
