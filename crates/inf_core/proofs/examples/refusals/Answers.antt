use Rattle.std.proofs.Common.{◌≡◌, List, [], ◌∷◌, ◌++◌, ap, subst, sym, ⊎_elim}
use Rattle.inf_core.specs.Examples as example
use Rattle.inf_laws_history.specs.Legal.{server_after}
use Rattle.inf_laws_history.specs.Sites.{site_of}
use Rattle.inf_message.specs.declared.call_result.CallResult.{CallResult}
use Rattle.inf_message.specs.declared.reply.Reply.TheVariants as reply
use Rattle.inf_message.specs.History.{Posted, posted_ask}
use Rattle.inf_server.specs.Machine.{Serves}
use Rattle.inf_server.specs.Response.{Response}
use Rattle.inf_core.proofs.examples.refusals.Goals as goal

pub returns-clause-early_ask : goal.returns-clause-early_ask
returns-clause-early_ask c = λ legal. let duty = legal.1.duty in absurd (cc)

pub returns-clause-other_reply : goal.returns-clause-other_reply
returns-clause-other_reply c = λ legal.
    let Served : Posted → Type 0 =
    λ (p : Posted). Serves (site_of example.world 0) (server_after example.world 0 (example.first_events 2)) 1 p.ask reply.Fine legal.1.after in
    let same : posted_ask 0 (example.ask 0 example.look_up_top) ≡ legal.1.posted = cc in
    let told = ap (λ (r : Response). r.reply) (subst Served (sym same) legal.1.reply) in
    absurd (cc)

pub returns-clause-served_twice : goal.returns-clause-served_twice
returns-clause-served_twice c = λ legal. let waits = legal.1.waits in absurd (cc)

nothing_of_one : (mine others : List CallResult) (r : CallResult) → [] ≡ mine ++ others → mine ≡ r ∷ [] → ⊥
nothing_of_one mine others r all one = let joined = subst (λ (rs : List CallResult). [] ≡ rs ++ others) one all in absurd (cc)

pub returns-clause-left_out : goal.returns-clause-left_out
returns-clause-left_out c = λ out. ⊎_elim (λ one. nothing_of_one out.mine out.others _ out.all one) (λ one. nothing_of_one out.mine out.others _ out.all one.1) out.agrees
