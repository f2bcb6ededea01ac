use Rattle.std.proofs.Common.{true, false, [], ◌∷◌, refl, inl, inr, lit<}
use Rattle.inf_laws_history.specs.Legal.{server_after}
use Rattle.inf_message.specs.declared.reply.Reply.TheVariants as reply
use Rattle.inf_message.specs.History.{posted_ask}
use Rattle.inf_sched.specs.Examples.{a_steps, ask, first_events, look_up_top, wanted_by_server, world}
use Rattle.inf_sched.specs.Scene.{Scene}
use Rattle.inf_sched.proofs.StraightLaws.{is_straight}
use Rattle.inf_sched.proofs.examples.wanting.Goals as goal

asked_once : Scene
asked_once = record { history = first_events 1; gone = false ∷ false ∷ [] }

pub returns-clause-by_client : goal.returns-clause-by_client
returns-clause-by_client c =
    let gone : Scene = record { history = []; gone = true ∷ false ∷ [] } in
    record {
      scene = gone;
      moves = record { between = gone; first = inl (inr (record { can = refl; between = refl; free = refl; gone = refl })); later = refl };
      made = refl;
      counted = refl;
    }

pub returns-clause-by_server : goal.returns-clause-by_server
unfolding asked_once
returns-clause-by_server c =
    let served : Scene = record { history = wanted_by_server; gone = false ∷ false ∷ [] } in
    record {
      scene = served;
      moves = record {
        between = asked_once;
        first = inl (inl (record { number = 0; ask = ask 0 look_up_top; here = refl; own = refl; may = record { client = lit< tt; duty = refl }; joins = refl }));
        later = record {
          between = served;
          first = record {
            given = reply.NoMem;
            may = record { posted = posted_ask 0 (ask 0 look_up_top); made = refl; to = refl; waits = refl; after = server_after world 0 (first_events 1); reply = (refl, refl) };
            joins = refl;
          };
          later = refl;
        };
      };
      made = refl;
      counted = refl;
    }

pub returns-clause-silent : goal.returns-clause-silent
returns-clause-silent c = λ calm.
    let made = (is_straight world (a_steps ∷ []) [] _ calm).made in
    absurd (cc)
