use Rattle.std.proofs.Common.{◌∷◌, [], ◌++◌}
use Rattle.inf_base.specs.Same.{dir_of}
use Rattle.inf_message.specs.declared.reply.Reply.TheVariants as reply
use Rattle.inf_server.specs.Chains.{before_last}
use Rattle.inf_laws_directory.specs.Objects.{content_in, site_in, with_state}
use Rattle.inf_laws_directory.specs.Phases.{has_sealed, with_phase}
use Rattle.inf_laws_directory.proofs.ChainEnds.{leads_before}
use Rattle.inf_laws_directory.proofs.StandingFacts.{asked_at, goes_on_unseen, is_at, looks_same}
use Rattle.inf_laws_server.proofs.Came.{failed}
use Rattle.inf_laws_server.proofs.Removals.{seal_comes}
use Rattle.inf_laws_directory.proofs.DeniedEnds.{asked_if_seal}
use Rattle.inf_laws_directory.proofs.ServedKinds.{sealed_so}
use Rattle.inf_laws_directory.proofs.served.served_seals_stand.Goals as goal

pub returns-clause-done : goal.returns-clause-done
returns-clause-done c = λ service objects number root tree phases ask path name chain parent target done standing at_idle told at_last at_parent is.
    let next = with_state number done.state objects in
    let first = (sealed_so (site_in service number) (objects number) ask done chain is).passed in
    let at = asked_at service objects number root tree phases ask.from (path ++ name ∷ []) chain first.entry standing at_idle told first.is_asked in
    goes_on_unseen service objects next root tree phases
    (with_phase ask.from (has_sealed (dir_of parent.access) name (dir_of target.access)) phases) standing.sorted
    (c.unseen_changes_stand.ensures (content_in service objects) (content_in service next) root tree standing.stands
    (looks_same service objects next root (c.preparing_is_unseen.ensures.sealing service objects number ask chain done is)))
    (c.sealing_keeps.ensures service objects number root phases ask path chain parent target name done standing.owned at_idle at.leads at_last at_parent is)

pub returns-clause-refused : goal.returns-clause-refused
returns-clause-refused c = λ service objects number root tree phases ask text path name chain error standing at_idle told names is.
    let site = site_in service number in
    let dirs = content_in service objects in
    let denied = failed site (objects number) 0 ask _ _ (seal_comes site (objects number) 0 ask chain) (reply.Refused error) is in
    let first = asked_if_seal site (objects number) ask chain error denied in
    let at = asked_at service objects number root tree phases ask.from (path ++ name ∷ []) chain first.value standing at_idle told first.is_asked in
    let at_parent = is_at service objects root tree phases path (before_last chain) denied.parent standing (leads_before dirs name root path chain at.leads) denied.above in
    c.removals_replay.ensures.refused service objects number root tree phases ask text path name chain denied.parent first.value error at_parent at names (standing.owned.order number) is
