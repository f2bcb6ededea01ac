use Rattle.std.proofs.Common.{◌∷◌, [], ◌++◌, ap, ◌∙◌, subst}
use Rattle.inf_base.specs.declared.answer.Answer.TheVariants as answer
use Rattle.inf_base.specs.declared.call.Call.TheVariants as call
use Rattle.inf_base.specs.Same.{dir_of}
use Rattle.inf_content.specs.Contents.{slots_found}
use Rattle.inf_server.specs.Chains.{before_last}
use Rattle.inf_laws_directory.specs.Objects.{content_in, with_state}
use Rattle.inf_laws_directory.specs.Owned.{Has, KeepsSealed}
use Rattle.inf_laws_directory.specs.Phases.{Phase, has_unlinked, with_phase}
use Rattle.inf_laws_directory.proofs.ChainEnds.{last_key, leads_before}
use Rattle.inf_laws_directory.proofs.StandingFacts.{decides, is_at, nothing_stands, sealed_leads}
use Rattle.inf_laws_directory.proofs.served.served_unlinks_stand.Goals as goal

pub returns : goal.returns
returns c = λ service objects number root tree phases ask text path name chain parent target done standing at_sealed at_last at_parent told names may is.
    let dirs = content_in service objects in
    let removed = dir_of target.access in
    let sealed : KeepsSealed service objects ask.from removed = (subst (λ (phase : Phase). Has service objects ask.from phase) at_sealed (standing.owned.has ask.from)).0 in
    let leads = sealed_leads service objects root tree phases ask.from path name name chain parent target standing at_sealed told at_last in
    let at = is_at service objects root tree phases (path ++ name ∷ []) chain target standing leads at_last in
    let above = is_at service objects root tree phases path (before_last chain) parent standing (leads_before dirs name root path chain leads) at_parent in
    let keyed = last_key name target parent path chain told.links at_last at_parent in
    let empty = nothing_stands service objects removed (ap slots_found sealed.there ∙ sealed.slots) in
    decides service objects (with_state number done.state objects) root tree phases (with_phase ask.from (has_unlinked removed) phases)
    ask.caller (call.Rmdir text) answer.Done standing.sorted
    (c.removals_replay.ensures.unlinked service objects number root tree phases ask text path name chain parent target (dir_of parent.access) done above at names may
    (standing.owned.order number) keyed empty is)
    (c.unlinking_keeps.ensures service objects number root phases ask chain parent target (dir_of parent.access) name done standing.owned at_sealed at_last keyed at_parent is)
