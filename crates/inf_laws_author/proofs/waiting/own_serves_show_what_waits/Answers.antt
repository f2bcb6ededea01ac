use Rattle.inf_laws_author.proofs.ServedOnce.{shown_by_its_server}
use Rattle.inf_laws_author.proofs.waiting.own_serves_show_what_waits.Goals as goal

pub returns : goal.returns
returns c = shown_by_its_server
