use Rattle.std.proofs.Common.{◌≡◌, length, subst, rules, IfOk}
use Rattle.inf_core.specs.Core.{world_in}
use Rattle.inf_order.specs.declared.moves.Move.TheVariants as move
use Rattle.inf_sched.specs.Moves.{ByMove}
use Rattle.inf_sched.specs.Run.{scene_of}
use Rattle.inf_sched.proofs.MovingFacts.{named_client, named_server}
use Rattle.inf_sched.proofs.moving.one.Goals as goal

pub returns-in-Step-clause-made : goal.returns-in-Step-clause-made
returns-in-Step-clause-made g c =
    let is : move.Step c.in-Step.client ≡ c.args.next = search rules in
    subst (λ m. IfOk c.step.result (λ after. ByMove (world_in g.R.IdRule.digest_of c.args.run.core) m (scene_of c.args.run) (scene_of after))) is
    c.step.ensures.step

pub returns-in-Alone-clause-made : goal.returns-in-Alone-clause-made
returns-in-Alone-clause-made g c =
    let is : move.Alone c.in-Alone.client ≡ c.args.next = search rules in
    subst (λ m. IfOk c.call.result (λ after. ByMove (world_in g.R.IdRule.digest_of c.args.run.core) m (scene_of c.args.run) (scene_of after))) is
    c.call.ensures.call

pub serve-requires-clause-server : goal.serve-requires-clause-server
serve-requires-clause-server g c =
    let is : move.Serve c.in-Serve.number c.in-Serve.client ≡ c.args.next = search rules in
    named_server c.args.run.core.setup.servers (length c.args.run.core.setup.clients) c.in-Serve.number c.in-Serve.client c.args.next is c.requires.named

pub serve-requires-clause-client : goal.serve-requires-clause-client
serve-requires-clause-client g c =
    let is : move.Serve c.in-Serve.number c.in-Serve.client ≡ c.args.next = search rules in
    named_client c.args.run.core.setup.servers (length c.args.run.core.setup.clients) c.in-Serve.number c.in-Serve.client c.args.next is c.requires.named

pub returns-in-Serve-clause-made : goal.returns-in-Serve-clause-made
returns-in-Serve-clause-made g c =
    let is : move.Serve c.in-Serve.number c.in-Serve.client ≡ c.args.next = search rules in
    subst (λ m. IfOk c.serve.result (λ after. ByMove (world_in g.R.IdRule.digest_of c.args.run.core) m (scene_of c.args.run) (scene_of after))) is
    c.serve.ensures.serve

pub returns-in-Rest-clause-made : goal.returns-in-Rest-clause-made
returns-in-Rest-clause-made g c =
    let is : move.Rest ≡ c.args.next = search rules in
    subst (λ m. IfOk c.rest.result (λ after. ByMove (world_in g.R.IdRule.digest_of c.args.run.core) m (scene_of c.args.run) (scene_of after))) is
    c.rest.ensures.rest
