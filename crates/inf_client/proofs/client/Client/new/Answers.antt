use Rattle.inf_client.proofs.ClientFacts.{kept_start}
use Rattle.inf_duty.specs.World.{world_by}
use Rattle.inf_client.proofs.client.Client.new.Goals as goal

pub invariant_of-result : goal.invariant_of-result
invariant_of-result g c =
    kept_start (world_by (g.R.IdRule.digest_of c.args.rule.now) c.args.setup.now) c.args.client c.in_ok-state.state c.in_ok-with_capacity.field-0
    c.new.result.items c.in_ok-state.ensures c.in_ok-with_capacity.ensures c.new.ensures.items
