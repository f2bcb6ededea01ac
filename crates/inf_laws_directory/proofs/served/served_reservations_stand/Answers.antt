use Rattle.inf_base.specs.declared.triple.Triple.TheVariants as triple
use Rattle.inf_base.specs.Same.{dir_of}
use Rattle.inf_laws_directory.specs.Objects.{content_in, site_in, with_state}
use Rattle.inf_laws_directory.specs.Phases.{has_reserved, with_phase}
use Rattle.inf_laws_directory.proofs.StandingFacts.{asked_at, goes_on_unseen, looks_same}
use Rattle.inf_laws_directory.proofs.DeniedEnds.{asked_if_put}
use Rattle.inf_laws_directory.proofs.ServedKinds.{reserved_name}
use Rattle.inf_laws_server.proofs.Came.{failed}
use Rattle.inf_laws_server.proofs.Births.{reserve_comes}
use Rattle.inf_message.specs.declared.reply.Reply.TheVariants as reply
use Rattle.inf_laws_directory.proofs.served.served_reservations_stand.Goals as goal

pub returns-clause-done : goal.returns-clause-done
returns-clause-done c = λ service objects number version root tree phases ask path name chain last done standing at_idle told ends is reserved.
    let next = with_state number done.state objects in
    let put = (reserved_name (site_in service number) (objects number) ask done chain name is).passed in
    let at = asked_at service objects number root tree phases ask.from path chain put.entry standing at_idle told put.is_asked in
    goes_on_unseen service objects next root tree phases
    (with_phase ask.from (has_reserved (dir_of last.access) name (triple.Of last.access.id name version)) phases) standing.sorted
    (c.unseen_changes_stand.ensures (content_in service objects) (content_in service next) root tree standing.stands
    (looks_same service objects next root (c.preparing_is_unseen.ensures.reserving service objects number ask chain name done is)))
    (c.reserving_keeps.ensures service objects number version root phases ask path chain last name done standing.owned at_idle at.leads ends is reserved)

pub returns-clause-refused : goal.returns-clause-refused
returns-clause-refused c = λ service objects number root tree phases ask text path name mode chain error standing at_idle told names is.
    let site = site_in service number in
    let first = asked_if_put site (objects number) ask chain name error
    (failed site (objects number) 0 ask _ _ (reserve_comes site (objects number) 0 ask chain name) (reply.Refused error) is) in
    let at = asked_at service objects number root tree phases ask.from path chain first.value standing at_idle told first.is_asked in
    c.births_replay.ensures.refused service objects number root tree phases ask text path name mode chain first.value error at names is
