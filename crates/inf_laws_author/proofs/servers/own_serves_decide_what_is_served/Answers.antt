use Rattle.inf_laws_author.proofs.ServedOnce.{may_serve_too, same_server}
use Rattle.inf_laws_author.proofs.servers.own_serves_decide_what_is_served.Goals as goal

pub returns-clause-state : goal.returns-clause-state
returns-clause-state c = same_server

pub returns-clause-next : goal.returns-clause-next
returns-clause-next c = may_serve_too
