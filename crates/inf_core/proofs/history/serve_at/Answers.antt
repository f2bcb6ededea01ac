use Rattle.inf_core.proofs.CoreFacts.{served_at}
use Rattle.inf_core.proofs.history.serve_at.Goals as goal

pub returns : goal.returns
returns g c server found same =
    served_at g.R.IdRule.digest_of c.args.servers.now.items c.args.number c.args.ask_place c.args.ask.now c.serve.result c.index_mut.result.now server c.serve.new.self c.index_mut.ensures.value found same c.serve.ensures.serves c.serve.ensures.same
