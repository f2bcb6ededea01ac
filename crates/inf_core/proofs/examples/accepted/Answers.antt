use Rattle.std.proofs.Common.{[], ◌∷◌, refl, inl, lit<}
use Rattle.inf_base.specs.declared.errno.Errno.TheVariants as errno
use Rattle.inf_core.specs.Examples as example
use Rattle.inf_laws_history.specs.Legal.{MayAsk, MayServe, server_after}
use Rattle.inf_laws_history.specs.Sites.{site_of}
use Rattle.inf_message.specs.declared.reply.Reply.TheVariants as reply
use Rattle.inf_message.specs.History.{posted_ask}
use Rattle.inf_server.specs.Machine.{machine}
use Rattle.inf_core.proofs.examples.accepted.Goals as goal

-- the ask of a client after so many events
asks_0 : MayAsk example.world (example.first_events 0) 0 (example.ask 0 example.look_up_top)
asks_0 = record { client = lit< tt; duty = refl }

asks_1 : MayAsk example.world (example.first_events 1) 0 (example.ask 1 example.look_up_top)
asks_1 = record { client = lit< tt; duty = refl }

serves_2 : MayServe example.world (example.first_events 2) 0 1 example.found_top
serves_2 = record { posted = posted_ask 0 (example.ask 0 example.look_up_top); made = refl; to = refl; waits = refl; after = server_after example.world 0 (example.first_events 2); reply = refl }

serves_3 : MayServe example.world (example.first_events 3) 0 2 example.found_top
serves_3 = record { posted = posted_ask 0 (example.ask 1 example.look_up_top); made = refl; to = refl; waits = refl; after = server_after example.world 0 (example.first_events 3); reply = refl }

asks_4 : MayAsk example.world (example.first_events 4) 0 (example.ask 0 example.create_f)
asks_4 = record { client = lit< tt; duty = refl }

asks_5 : MayAsk example.world (example.first_events 5) 0 (example.ask 1 example.stat_f)
asks_5 = record { client = lit< tt; duty = refl }

serves_6 : MayServe example.world (example.first_events 6) 0 6 (reply.Refused errno.ENOENT)
serves_6 = record { posted = posted_ask 0 (example.ask 1 example.stat_f); made = refl; to = refl; waits = refl; after = server_after example.world 0 (example.first_events 6); reply = refl }

serves_7 : MayServe example.world (example.first_events 7) 0 5 reply.Fine
serves_7 = record { posted = posted_ask 0 (example.ask 0 example.create_f); made = refl; to = refl; waits = refl; after = (machine (site_of example.world 0) (server_after example.world 0 (example.first_events 7)) 5 (example.ask 0 example.create_f)).state; reply = refl }

pub returns-clause-legal : goal.returns-clause-legal
returns-clause-legal c = ((((((((tt, asks_0), asks_1), serves_2), serves_3), asks_4), asks_5), serves_6), serves_7)

pub returns-clause-outcome : goal.returns-clause-outcome
returns-clause-outcome c = record {
  mine = example.result 0 example.done 8 1 ∷ [];
  others = example.result 1 example.missing 7 2 ∷ [];
  all = refl;
  agrees = inl refl;
  later = record { mine = example.result 1 example.missing 7 2 ∷ []; others = []; all = refl; agrees = inl refl; later = refl };
}
