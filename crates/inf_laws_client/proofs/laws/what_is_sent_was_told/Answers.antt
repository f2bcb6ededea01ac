use Rattle.inf_laws_client.specs.Told.{IsAmong}
use Rattle.inf_laws_client.proofs.KnowsFacts.{sends}
use Rattle.inf_laws_client.proofs.laws.what_is_sent_was_told.Goals as goal

pub returns : goal.returns
returns c = λ told_so s number ask knows is. sends (IsAmong told_so) number ask s knows is
