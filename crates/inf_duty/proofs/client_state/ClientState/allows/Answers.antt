use Rattle.inf_duty.proofs.BeginFacts.{found_decides}
use Rattle.inf_duty.proofs.client_state.ClientState.allows.Goals as goal

pub returns : goal.returns
returns g c =
    found_decides (g.R.IdRule.digest_of c.args.rule.now) c.args.number c.args.ask.now c.args.self c.begin.new.self c.is_next.result
    c.in_ok-begin.ensures.ok c.is_next.ensures
