use Rattle.inf_laws_directory.proofs.ServedReplies.{cancel_fine, drop_fine, forget_fine, unseal_fine}
use Rattle.inf_laws_directory.proofs.born.clean_ups_are_done.Goals as goal

pub returns-clause-cancels : goal.returns-clause-cancels
returns-clause-cancels c = λ service at state new ask given dir serves asked here.
    cancel_fine service at.number state at.ask_place ask given new serves dir asked here

pub returns-clause-drops : goal.returns-clause-drops
returns-clause-drops c = λ service at state new ask given dir serves asked here.
    drop_fine service at.number state at.ask_place ask given new serves dir asked here

pub returns-clause-unseals : goal.returns-clause-unseals
returns-clause-unseals c = λ service at state new ask given dir serves asked here.
    unseal_fine service at.number state at.ask_place ask given new serves dir asked here

pub returns-clause-forgets : goal.returns-clause-forgets
returns-clause-forgets c = λ service at state new ask given parent dir serves asked here.
    forget_fine service at.number state at.ask_place ask given new serves parent dir asked here
