use Rattle.std.proofs.Common.{◌∙◌}
use Rattle.inf_client.proofs.LogFacts.{trips_shown}
use Rattle.inf_client.proofs.ask_log.AskLog.trips.Goals as goal

pub returns : goal.returns
returns c = c.as_slice.ensures.value ∙ trips_shown _ c.self.inside.waiting.items c.self.inside.room _ c.self.view_is
