use Rattle.std.proofs.Common.{ap, ◌∙◌}
use Rattle.std.specs.List.{list_any}
use Rattle.inf_client.specs.AskLog.{is_at}
use Rattle.inf_client.proofs.LogFacts.{waits_shown}
use Rattle.inf_client.proofs.ask_log.AskLog.waits_at.Goals as goal

pub returns : goal.returns
returns c =
    c.has_place.ensures ∙ ap (list_any (is_at c.args.place)) c.as_slice.ensures.value
    ∙ waits_shown c.self.inside.trips.items c.self.inside.waiting.items c.self.inside.room _ c.self.view_is c.args.place
