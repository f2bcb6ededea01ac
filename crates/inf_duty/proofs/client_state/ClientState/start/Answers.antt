use Rattle.std.proofs.Common.{sym, arith}
use Rattle.inf_duty.proofs.StartFacts.{calls_within}
use Rattle.inf_duty.proofs.client_state.ClientState.start.Goals as goal

pub idle-requires : goal.idle-requires
idle-requires g c =
    let within = calls_within c.args.setup.now.clients c.args.client c.in-Some.line.now (sym c.in-Some.ensures) in
    rw c.in_ok-try_clone-in-Some.ensures (omega (arith, within, c.requires.few_calls))
