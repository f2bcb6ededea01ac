use Rattle.std.proofs.Common.{◌≡◌, List, [], ◌∷◌, ◌++◌, refl, inl, ap, ◌∙◌, ⊎_elim, lit<}
use Rattle.inf_base.specs.declared.answer.Answer.TheVariants as answer
use Rattle.inf_base.specs.declared.key.LookKey.TheVariants as look
use Rattle.inf_core.specs.Examples as example
use Rattle.inf_laws_history.specs.Legal.{MayAsk, MayServe, server_after}
use Rattle.inf_message.specs.declared.call_result.CallResult.{CallResult}
use Rattle.inf_message.specs.declared.event.Event.{Event}
use Rattle.inf_message.specs.declared.reply.Reply.TheVariants as reply
use Rattle.inf_message.specs.declared.request.Request.TheVariants as request
use Rattle.inf_message.specs.History.{posted_ask}
use Rattle.std.specs.Prelude.{codes, drop, ◌-◌, ℕ}
use Rattle.inf_core.proofs.examples.half_rounds.Goals as goal

abbrev first_events : ℕ → List Event
first_events count = drop (3 - count) example.half_answered

asks_top : MayAsk example.deep_world (first_events 0) 0 (example.ask 0 example.look_up_top)
asks_top = record { client = lit< tt; duty = refl }

asks_at : MayAsk example.deep_world (first_events 1) 0 (example.ask 0 (request.Lookup (look.At example.zero_id (codes "d"))))
asks_at = record { client = lit< tt; duty = refl }

serves : MayServe example.deep_world (first_events 2) 0 1 reply.NoMem
serves = record {
  posted = posted_ask 0 (example.ask 0 example.look_up_top);
  made = refl;
  to = refl;
  waits = refl;
  after = server_after example.deep_world 0 (first_events 2);
  reply = (refl, refl);
}

pub returns-clause-legal : goal.returns-clause-legal
returns-clause-legal c = (((tt, asks_top), asks_at), serves)

pub returns-clause-outcome : goal.returns-clause-outcome
returns-clause-outcome c = record { mine = example.wants_memory ∷ []; others = []; all = refl; agrees = inl refl; later = refl }

first_of : (mine others : List CallResult) (r s : CallResult) → r ∷ [] ≡ mine ++ others → mine ≡ s ∷ [] → r ≡ s
first_of mine others r s all one =
    let joined : r ∷ [] ≡ (s ∷ []) ++ others = all ∙ ap (λ (rs : List CallResult). rs ++ others) one in cc

unlike : example.still_open ≡ example.wants_memory → ⊥
unlike same = let other : answer.Unanswered ≡ answer.NoMemory = ap (λ (r : CallResult). r.answer) same in absurd (cc)

pub returns-clause-no_other : goal.returns-clause-no_other
returns-clause-no_other c = λ out.
    ⊎_elim
    (λ one. unlike (first_of out.mine out.others _ _ out.all one))
    (λ gave. let sent = gave.0 in absurd (cc))
    out.agrees
