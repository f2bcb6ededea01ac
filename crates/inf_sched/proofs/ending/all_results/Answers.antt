use Rattle.std.proofs.Common.{◌≡◌, ◌∙◌, ap, sym, rules, map-id}
use Rattle.std.specs.List.{flat_map}
use Rattle.std.proofs.lemmas.Iterator.Adapters.{YieldsList-from_vec}
use Rattle.std.proofs.lemmas.Iterator.Consumers.{YieldsList-end}
use Rattle.inf_sched.specs.Run.{results_of_client}
use Rattle.inf_sched.proofs.ending.all_results.Goals as goal

pub returns : goal.returns
returns c =
    let end = YieldsList-end (YieldsList-from_vec {s = c.into_iter-client-iterator.result} c.args.clients.items (search rules) (search rules))
    c.loop-client.yielded c.loop-client.client-iterator c.loop-client.yielded_by c.next.result c.next.new.self c.in-None.is c.next.ensures.steps in
    let all : c.loop-client.yielded ≡ c.args.clients.items = sym (map-id c.loop-client.yielded) ∙ end.0 in
    c.loop-client.invariant ∙ ap (λ cs. flat_map results_of_client cs) all
