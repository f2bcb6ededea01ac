use Rattle.std.proofs.Common.{◌≡◌, [], ◌∷◌, is_some, refl, sym, ap, subst}
use Rattle.inf_base.specs.declared.answer.Answer.TheVariants as answer
use Rattle.inf_base.specs.declared.call.Call.TheVariants as call
use Rattle.inf_base.specs.declared.directory.DirRef.{DirRef}
use Rattle.inf_base.specs.Same.{dir_of}
use Rattle.inf_content.specs.Contents.{slots_found}
use Rattle.inf_server.specs.Chains.{last_of}
use Rattle.inf_laws_directory.specs.Objects.{content_in, kept_with, site_in, slots_kept, with_state}
use Rattle.inf_laws_directory.specs.Owned.{Has}
use Rattle.inf_laws_directory.specs.Phases.{IsLoose, IsReserving, Phase, has_made, idle, with_phase}
use Rattle.inf_laws_directory.proofs.ContentFacts.{slots_sorted}
use Rattle.inf_laws_directory.proofs.OwnSlots.{first_own}
use Rattle.inf_laws_directory.proofs.StandingFacts.{decides, is_at, nothing_stands}
use Rattle.inf_laws_directory.proofs.Unreached.{unreached}
use Rattle.inf_laws_directory.proofs.ServedKinds.{linked_so}
use Rattle.inf_laws_server.proofs.Asked.{asked_again}
use Rattle.inf_laws_directory.proofs.served.served_links_stand.Goals as goal

pub returns : goal.returns
returns c = λ service objects number root tree phases ask text path name mode chain last birth made done standing at_last at_made told names may is.
    let dirs = content_in service objects in
    let dir = dir_of last.access in
    let owned = standing.owned in
    let put = (linked_so (site_in service number) (objects number) ask done chain name made mode is).passed in
    let leads = c.chains_are_true.ensures service objects number root phases ask.from path chain put.entry owned told.told told.links
    (asked_again (site_in service number) (objects number) ask.from (last_of chain) (chain ∷ []) put.entry put.is_asked)
    (λ unlinked. (cc (at_made, unlinked))) in
    let at = is_at service objects root tree phases path chain last standing leads at_last in
    let has : Has service objects ask.from (has_made dir name birth made) = subst (λ (phase : Phase). Has service objects ask.from phase) at_made (owned.has ask.from) in
    let loose : IsLoose (phases ask.from) made = subst (λ (phase : Phase). IsLoose phase made) (sym at_made) refl in
    let not_root : dir_of root ≡ made → ⊥ = λ same. owned.root_apart ask.from (subst (λ (d : DirRef). IsLoose (phases ask.from) d) (sym same) loose) in
    let own = first_own ask.from name has.0.access (slots_kept service objects dir) (slots_sorted dir (kept_with service objects dir.id) (owned.order _).names) has.0.slot
    (λ other access kept. (subst (λ (phase : Phase). IsReserving phase dir other) at_made (owned.reservations dir other ask.from access kept)).1) in
    decides service objects (with_state number done.state objects) root tree phases (with_phase ask.from idle phases)
    ask.caller (call.Mkdir text mode) answer.Done standing.sorted
    (c.births_replay.ensures.linked service objects number root tree phases ask text path name mode chain last made ask.from has.0.access done at names may
    (owned.order number) (record { unreached = unreached dirs root made not_root has.3; there = ap is_some has.1; empty = nothing_stands service objects made (ap slots_found has.1) }) own is)
    (c.linking_keeps.ensures service objects number mode root phases ask chain last name birth made done owned at_last at_made is)
