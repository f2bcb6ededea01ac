use Rattle.std.proofs.Common.{◌∙◌, sym}
use Rattle.inf_resolve.proofs.AskedFacts.{rounds_ask}
use Rattle.inf_duty.proofs.client_state.ClientState.take_up.Goals as goal

-- src/client_state/asking.rt:99:37
pub open_round-requires-clause-asks : goal.open_round-requires-clause-asks
open_round-requires-clause-asks g c =
    rounds_ask (g.R.IdRule.digest_of c.args.rule.now) c.root-root.result c.in-Some.course.looked c.as_slice.result.now c.in-Asks.keys
    (sym c.in_ok-keys.ensures ∙ c.in-Asks.is)
