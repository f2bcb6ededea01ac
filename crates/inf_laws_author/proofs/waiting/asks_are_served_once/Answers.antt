use Rattle.inf_laws_author.proofs.ServedOnce.{no_more_serves, served_once}
use Rattle.inf_laws_author.proofs.waiting.asks_are_served_once.Goals as goal

pub returns-clause-once : goal.returns-clause-once
returns-clause-once c = served_once

pub returns-clause-counted : goal.returns-clause-counted
returns-clause-counted c = no_more_serves
