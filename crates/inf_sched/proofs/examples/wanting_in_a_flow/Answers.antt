use Rattle.std.proofs.Common.{◌≡◌, ℕ, ◌-◌, false, List, [], ◌∷◌, drop, refl, inl, lit<, Some}
use Rattle.inf_duty.specs.After.{client_after}
use Rattle.inf_duty.specs.Duty.{Duty}
use Rattle.inf_laws_history.specs.Legal.{MayServe, server_after}
use Rattle.inf_laws_history.specs.Sites.{site_of}
use Rattle.inf_message.specs.declared.event.Event.{Event}
use Rattle.inf_message.specs.declared.reply.Reply.{Reply}
use Rattle.inf_message.specs.declared.reply.Reply.TheVariants as reply
use Rattle.inf_message.specs.declared.request.Request.{Request}
use Rattle.inf_message.specs.History.{asked_at, is_served, posted_ask}
use Rattle.inf_sched.specs.Examples.{a_steps, ask, asks, cancel_d, found_top, lifted, look_up_top, mkdir_world, reserve_d, serves_0}
use Rattle.inf_sched.specs.Moves.{ByMove}
use Rattle.inf_order.specs.declared.moves.Move.{Move}
use Rattle.inf_sched.specs.Order.{ByMoves}
use Rattle.inf_sched.specs.Scene.{Scene, opening}
use Rattle.inf_server.specs.Machine.{Serves, machine}
use Rattle.inf_server.specs.State.{State}
use Rattle.inf_sched.proofs.examples.wanting_in_a_flow.Goals as goal

abbrev scene : List Event → Scene
scene h = record { history = h; gone = false ∷ [] }

-- the first so many events
abbrev first : ℕ → List Event
first count = drop (6 - count) lifted

asking : (h : List Event) (asked : Request) → Duty mkdir_world.digest (client_after mkdir_world 0 h) 0 (ask 0 asked)
    → ByMove mkdir_world a_steps (scene h) (scene (asks 0 asked ∷ h))
asking h asked duty = inl (inl (record { number = 0; ask = ask 0 asked; here = refl; own = refl; may = record { client = lit< tt; duty = duty }; joins = refl }))

abbrev behind : List Event → ℕ → Request → State
behind h place asked = (machine (site_of mkdir_world 0) (server_after mkdir_world 0 h) place (ask 0 asked)).state

serving : (h : List Event) (place : ℕ) (asked : Request) (given : Reply) → asked_at place h ≡ Some (posted_ask 0 (ask 0 asked)) → is_served place h ≡ false
    → Serves (site_of mkdir_world 0) (server_after mkdir_world 0 h) place (ask 0 asked) given (behind h place asked) → MayServe mkdir_world h 0 place given
serving h place asked given made waits serves =
    record { posted = posted_ask 0 (ask 0 asked); made = made; to = refl; waits = waits; after = behind h place asked; reply = serves }

-- the first five moves lead to the Ask that lifts
led : (moves : List Move) (last : Scene) → ByMoves mkdir_world moves (scene (first 5)) last
    → ByMoves mkdir_world (a_steps ∷ serves_0 ∷ a_steps ∷ serves_0 ∷ a_steps ∷ moves) (opening mkdir_world) last
led moves last rest = record {
  between = scene (first 1);
  first = asking (first 0) look_up_top refl;
  later = record {
    between = scene (first 2);
    first = record { given = found_top; may = serving (first 1) 1 look_up_top found_top refl refl refl; joins = refl };
    later = record {
      between = scene (first 3);
      first = asking (first 2) reserve_d refl;
      later = record {
        between = scene (first 4);
        first = record { given = reply.Reserved 0; may = serving (first 3) 3 reserve_d (reply.Reserved 0) refl refl refl; joins = refl };
        later = record { between = scene (first 5); first = asking (first 4) cancel_d refl; later = rest };
      };
    };
  };
}

pub returns-clause-asked : goal.returns-clause-asked
returns-clause-asked c = record { scene = scene (first 5); moves = led [] (scene (first 5)) refl; made = refl; counted = refl }

pub returns-clause-served : goal.returns-clause-served
returns-clause-served c = record {
  scene = scene lifted;
  moves = led (serves_0 ∷ []) (scene lifted) (record {
    between = scene lifted;
    first = record { given = reply.Fine; may = serving (first 5) 5 cancel_d reply.Fine refl refl refl; joins = refl };
    later = refl;
  });
  made = refl;
  counted = refl;
}
