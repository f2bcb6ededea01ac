use Rattle.inf_laws_directory.specs.Objects.{site_in}
use Rattle.inf_laws_directory.proofs.ServedReplies.{reserved_may_write, sealed_may_write}
use Rattle.inf_laws_directory.proofs.telling.permissions_are_asked_first.Goals as goal

pub returns-clause-reservations : goal.returns-clause-reservations
returns-clause-reservations c = λ service at state new ask given chain name version serves asked reserved.
    reserved_may_write (site_in service at.number) state at.ask_place ask given new serves chain name
    version asked reserved

pub returns-clause-seals : goal.returns-clause-seals
returns-clause-seals c = λ service at state new ask given chain serves asked done.
    sealed_may_write (site_in service at.number) state at.ask_place ask given new serves chain asked done
