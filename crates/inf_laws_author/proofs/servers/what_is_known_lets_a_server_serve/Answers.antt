use Rattle.inf_laws_author.proofs.ServedOnce.{may_serve_known}
use Rattle.inf_laws_author.proofs.servers.what_is_known_lets_a_server_serve.Goals as goal

pub returns : goal.returns
returns c = may_serve_known
