use Rattle.std.proofs.Common.{ap, refl, subst, sym}
use Rattle.inf_laws_directory.specs.Objects.{content_in, site_in, with_state}
use Rattle.inf_laws_directory.specs.Phases.{IsLoose, Phase, has_reserved, idle, with_phase}
use Rattle.inf_laws_directory.proofs.SameContents.{nothing_seen}
use Rattle.inf_laws_directory.proofs.StandingFacts.{goes_on_unseen, looks_same, looks_same_beside, loose_unreached}
use Rattle.inf_server.specs.State.{State}
use Rattle.inf_laws_directory.proofs.ServedKinds.{forgot}
use Rattle.inf_laws_directory.proofs.served.served_clean_ups_stand.Goals as goal

pub returns-clause-made_dropped : goal.returns-clause-made_dropped
returns-clause-made_dropped c = λ service objects number root tree phases ask parent made name birth done standing at_made is.
    let next = with_state number done.state objects in
    let owned = standing.owned in
    let loose : IsLoose (phases ask.from) made = subst (λ (phase : Phase). IsLoose phase made) (sym at_made) refl in
    goes_on_unseen service objects next root tree phases (with_phase ask.from (has_reserved parent name birth) phases) standing.sorted
    (c.unseen_changes_stand.ensures (content_in service objects) (content_in service next) root tree standing.stands
    (looks_same_beside service objects next root made (loose_unreached service objects root phases owned ask.from made loose)
    (c.dropping_leaves_others.ensures service objects number ask made done (owned.order number) is)))
    (c.undoing_keeps.ensures.dropped service objects number root phases ask parent made name birth done owned at_made is)

pub returns-clause-cancelled : goal.returns-clause-cancelled
returns-clause-cancelled c = λ service objects number root tree phases ask parent name birth done standing at_reserved is.
    let next = with_state number done.state objects in
    let owned = standing.owned in
    goes_on_unseen service objects next root tree phases (with_phase ask.from idle phases) standing.sorted
    (c.unseen_changes_stand.ensures (content_in service objects) (content_in service next) root tree standing.stands
    (looks_same service objects next root (c.preparing_is_unseen.ensures.cancelling service objects number ask parent done (owned.order number) is)))
    (c.undoing_keeps.ensures.cancelled service objects number root phases ask parent name birth done owned at_reserved is)

pub returns-clause-dropped : goal.returns-clause-dropped
returns-clause-dropped c = λ service objects number root tree phases ask target done standing at_unlinked is.
    let next = with_state number done.state objects in
    let owned = standing.owned in
    let loose : IsLoose (phases ask.from) target = subst (λ (phase : Phase). IsLoose phase target) (sym at_unlinked) refl in
    goes_on_unseen service objects next root tree phases (with_phase ask.from idle phases) standing.sorted
    (c.unseen_changes_stand.ensures (content_in service objects) (content_in service next) root tree standing.stands
    (looks_same_beside service objects next root target (loose_unreached service objects root phases owned ask.from target loose)
    (c.dropping_leaves_others.ensures service objects number ask target done (owned.order number) is)))
    (c.ending_keeps.ensures.dropped service objects number root phases ask target done owned at_unlinked is)

pub returns-clause-unsealed : goal.returns-clause-unsealed
returns-clause-unsealed c = λ service objects number root tree phases ask parent target name done standing at_sealed is.
    let next = with_state number done.state objects in
    goes_on_unseen service objects next root tree phases (with_phase ask.from idle phases) standing.sorted
    (c.unseen_changes_stand.ensures (content_in service objects) (content_in service next) root tree standing.stands
    (looks_same service objects next root (c.preparing_is_unseen.ensures.unsealing service objects number ask target done is)))
    (c.ending_keeps.ensures.unsealed service objects number root phases ask parent target name done standing.owned at_sealed is)

pub returns-clause-forgotten : goal.returns-clause-forgotten
returns-clause-forgotten c = λ service objects number root tree phases ask parent target done standing is.
    let next = with_state number done.state objects in
    goes_on_unseen service objects next root tree phases phases standing.sorted
    (c.unseen_changes_stand.ensures (content_in service objects) (content_in service next) root tree standing.stands
    (looks_same service objects next root (nothing_seen service objects number done.state (ap (λ (s : State). s.contents) (forgot (site_in service number) (objects number) ask done parent target is).did))))
    (c.ending_keeps.ensures.forgotten service objects number root phases ask parent target done standing.owned is)
