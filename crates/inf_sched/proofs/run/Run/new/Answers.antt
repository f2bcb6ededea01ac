use Rattle.std.proofs.Common.{◌≡◌, ◌+◌, length, [], refl, sym, ap, subst, ◌∙◌, rules}
use Rattle.inf_core.specs.Core.{Running, world_in}
use Rattle.inf_duty.specs.World.{world_by}
use Rattle.inf_sched.specs.Run.{AreEmpty, AreOpening, IsKept, Playing, scene_of}
use Rattle.inf_sched.proofs.OpeningFacts.{kept_opening, opening_scene}
use Rattle.inf_sched.proofs.RunFacts.{kept_behind, seen_behind}
use Rattle.inf_sched.proofs.run.Run.new.Goals as goal

pub invariant_of-result : goal.invariant_of-result
invariant_of-result g c =
    let askers : AreEmpty (length c.args.setup.clients) c.in_ok-by_client.by_client.items = search rules in
    let servers : AreEmpty (c.args.setup.servers + 1) c.in_ok-to_server.to_server.items = search rules in
    let clients : AreOpening (world_by (g.R.IdRule.digest_of c.args.rule) c.args.setup) (length c.args.setup.clients) c.in_ok-clients.clients.items = search rules in
    let is : c.in_ok-core.core ≡ record { rule = c.args.rule; setup = c.args.setup; history = [] } = search rules in
    kept_behind g.R.IdRule.digest_of _ _ c.in_ok-new.ensures.ok
    (subst (λ (k : Running _). IsKept (world_in g.R.IdRule.digest_of k) k.history c.in_ok-clients.clients.items c.in_ok-to_server.to_server.items c.in_ok-by_client.by_client.items) (sym is)
    (kept_opening (world_by (g.R.IdRule.digest_of c.args.rule) c.args.setup) [] c.in_ok-clients.clients.items c.in_ok-to_server.to_server.items c.in_ok-by_client.by_client.items
    c.requires.some_servers refl clients servers askers))

pub returns-clause-opening : goal.returns-clause-opening
returns-clause-opening g c =
    let clients : AreOpening (world_by (g.R.IdRule.digest_of c.args.rule) c.args.setup) (length c.args.setup.clients) c.in_ok-clients.clients.items = search rules in
    let is : c.in_ok-core.core ≡ record { rule = c.args.rule; setup = c.args.setup; history = [] } = search rules in
    ap (λ (v : Playing _). scene_of v) (seen_behind _ _ _ c.in_ok-new.ensures.ok refl)
    ∙ opening_scene (world_by (g.R.IdRule.digest_of c.args.rule) c.args.setup) c.in_ok-core.core.history c.in_ok-clients.clients.items (ap (λ (k : Running _). k.history) is) clients
