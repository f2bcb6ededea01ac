use Rattle.inf_laws_directory.specs.Objects.{content_in, with_state}
use Rattle.inf_laws_directory.proofs.StandingFacts.{looks_same}
use Rattle.inf_laws_directory.proofs.served.served_makes_stand.Goals as goal

pub returns : goal.returns
returns c = λ service objects at root tree phases ask parent name birth done standing at_reserved unborn is.
    let next = with_state at.number done.state objects in
    let keeps = c.making_keeps.ensures service objects at root phases ask parent name birth done standing.owned
    at_reserved unborn is in
    let stands = c.unseen_changes_stand.ensures (content_in service objects) (content_in service next) root tree standing.stands
    (looks_same service objects next root
    (c.preparing_is_unseen.ensures.making service objects at ask birth done is)) in
    record { standing = record { sorted = standing.sorted; stands = stands; owned = keeps.owned }; keeps = keeps }
