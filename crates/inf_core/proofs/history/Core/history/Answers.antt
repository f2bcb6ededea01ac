use Rattle.std.proofs.Common.{subst}
use Rattle.inf_core.specs.Core.{Running, world_in}
use Rattle.inf_laws_history.specs.Replayed.{AllReplay}
use Rattle.inf_core.proofs.history.Core.history.Goals as goal

pub returns-clause-replays : goal.returns-clause-replays
returns-clause-replays g c =
    subst (λ (v : Running _). AllReplay (world_in g.R.IdRule.digest_of v) v.history) c.self.view_is (c.every_legal_history_replays.ensures _ _ c.self.invariant.legal)
