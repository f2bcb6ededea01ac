use Rattle.std.proofs.Common.{◌≡◌, true, false, sym, ◌∙◌, rules}
use Rattle.inf_client.specs.Group.{IsPassed}
use Rattle.inf_client.proofs.WayFacts.{passed_room, way_ends, way_found, way_goes}
use Rattle.inf_duty.specs.Duty.{has_ask}
use Rattle.inf_client.proofs.group.next_group.Goals as goal

pub returns-in-Some-clause-begun : goal.returns-in-Some-clause-begun
returns-in-Some-clause-begun g c =
    let digest = g.R.IdRule.digest_of c.args.rule.now in
    let asks : has_ask c.loop-group.state ≡ true = c.loop-group.invariant.3 in
    way_found digest c.args.state.now c.loop-group.state c.attempt.new.state c.in-Some.group.ask c.loop-group.invariant.0 c.requires.between asks c.in-Some.ensures.found

pub loop-group-preserved : goal.loop-group-preserved
loop-group-preserved g c =
    let digest = g.R.IdRule.digest_of c.args.rule.now in
    let passed : IsPassed c.loop-group.state c.attempt.new.state = c.attempt.ensures.passed c.in_default.is in
    let way = way_goes digest c.args.state.now c.loop-group.state c.attempt.new.state c.loop-group.invariant.0 c.loop-group.invariant.3 passed in
    let again : c.has_ask.result ≡ true = search rules in (
      way,
      c.attempt.ensures.same c.in_default.is ∙ c.loop-group.invariant.1,
      passed_room c.loop-group.state c.attempt.new.state c.attempt.new.log.room passed,
      sym c.has_ask.ensures.value ∙ again,
      c.has_ask.ensures.asking digest way.between again,
    )

-- no call is left that asks
pub returns-then-not-has_ask-clause-gave_up : goal.returns-then-not-has_ask-clause-gave_up
returns-then-not-has_ask-clause-gave_up g c none =
    let digest = g.R.IdRule.digest_of c.args.rule.now in
    let passed : IsPassed c.loop-group.state c.attempt.new.state = c.attempt.ensures.passed c.in_default.is in
    let way = way_goes digest c.args.state.now c.loop-group.state c.attempt.new.state c.loop-group.invariant.0 c.loop-group.invariant.3 passed in
    let over : c.has_ask.result ≡ false = search rules in
    way_ends digest c.args.state.now c.attempt.new.state way (sym c.has_ask.ensures.value ∙ over)
