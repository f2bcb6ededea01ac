use Rattle.std.proofs.Common.{◌≡◌, ℕ, arith, ◌+◌, [], subst, sym}
use Rattle.inf_core.specs.Core.{AreStanding}
use Rattle.inf_duty.specs.World.{world_by}
use Rattle.inf_core.proofs.CoreFacts.{opened, standing_more}
use Rattle.inf_core.proofs.history.open_servers.Goals as goal

pub loop-number-preserved : goal.loop-number-preserved
loop-number-preserved g c =
    let new = c.in_ok-new.field-0 in
    let said = c.in_ok-new.ensures in
    let is = opened g.R.IdRule.digest_of c.args.setup.now c.args.rule new c.loop-number.number said.rule said.number said.servers said.state in
    subst (AreStanding (world_by (g.R.IdRule.digest_of c.args.rule) c.args.setup.now) c.args.rule [] (c.loop-number.number + 1)) (sym c.in_ok-push.ensures.items)
    (standing_more g.R.IdRule.digest_of c.args.setup.now c.args.rule [] c.loop-number.number c.loop-number.servers.items new is c.loop-number.invariant)

pub returns : goal.returns
returns g c =
    let new = c.in_ok-new-2.field-0 in
    let said = c.in_ok-new-2.ensures in
    let all : c.loop-number.number ≡ c.args.setup.now.servers = omega arith in
    let is = opened g.R.IdRule.digest_of c.args.setup.now c.args.rule new c.args.setup.now.servers said.rule said.number said.servers said.state in
    let before = subst (λ (many : ℕ). AreStanding (world_by (g.R.IdRule.digest_of c.args.rule) c.args.setup.now) c.args.rule [] many c.loop-number.servers.items) all c.loop-number.invariant in
    subst (AreStanding (world_by (g.R.IdRule.digest_of c.args.rule) c.args.setup.now) c.args.rule [] (c.args.setup.now.servers + 1)) (sym c.in_ok-push-2.ensures.items)
    (standing_more g.R.IdRule.digest_of c.args.setup.now c.args.rule [] c.args.setup.now.servers c.loop-number.servers.items new is before)
