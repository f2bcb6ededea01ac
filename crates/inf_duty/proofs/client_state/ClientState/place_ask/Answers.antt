use Rattle.std.proofs.Common.{◌<◌, length, subst, sym, arith}
use Rattle.std.specs.Prelude.{vec_capacity}
use Rattle.inf_duty.specs.ClientState.{ClientState}
use Rattle.inf_duty.specs.Group.{group}
use Rattle.inf_duty.specs.Standing.{stage_of}
use Rattle.inf_duty.proofs.FewFacts.{group_fits}
use Rattle.inf_duty.proofs.client_state.ClientState.place_ask.Goals as goal

pub push_reserved-requires : goal.push_reserved-requires
push_reserved-requires c =
    let kept = c.self.invariant in
    let who = c.self.inside.who in
    let stands = c.self.inside.stands in
    let fits = group_fits who stands (vec_capacity c.self.inside.sent) kept.some_servers kept.steps_fit kept.servers_fit kept.asks_fit in
    let next : length c.self.inside.sent.items < length (group who (stage_of stands)) =
    subst (λ (s : ClientState). length s.sent < length (group s.who s.stage)) (sym c.self.view_is) c.requires.next in
    omega (arith, fits, next, c.self.inside.sent.ok.0)
