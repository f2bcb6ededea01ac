use Rattle.inf_sched.proofs.ShownFacts.{asks_show}
use Rattle.inf_sched.proofs.laws.kept_asks_show_the_client.Goals as goal

pub returns : goal.returns
returns c world h clients client a legal are at = asks_show world h clients client a legal are at
