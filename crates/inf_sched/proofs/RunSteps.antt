-- Each step can be made without want of memory.
use Rattle.std.proofs.Common.{◌≡◌, ℕ, suc, ◌<◌, Bool, true, false, cond, eqb, not, ◌&&◌, List, [], ◌∷◌, length, Option, Some, refl, sym, ap, subst, ◌∙◌}
use Rattle.inf_base.specs.declared.id.Id.{Id}
use Rattle.std.specs.List.{list_any}
use Rattle.std.proofs.lemmas.Bool.Decides.{Decides-eqb}
use Rattle.inf_base.specs.declared.caller.CallRef.{CallRef}
use Rattle.inf_duty.specs.ClientState.{ClientState}
use Rattle.inf_message.specs.Sent.{Sent}
use Rattle.inf_message.specs.Who.{Who}
use Rattle.inf_duty.specs.Duty.{Duty, Next, asked, asks, begun, is_over, next_step, waits}
use Rattle.inf_duty.specs.After.{client_after}
use Rattle.inf_duty.specs.Turn.{told_in}
use Rattle.inf_duty.specs.World.{World}
use Rattle.inf_laws_history.specs.Legal.{server_after}
use Rattle.inf_laws_history.specs.Sites.{site_of}
use Rattle.inf_laws_history.proofs.ClientSteps.{who_after}
use Rattle.inf_laws_history.proofs.PendingFacts.{goes}
use Rattle.inf_message.specs.declared.ask.Ask.{Ask}
use Rattle.inf_message.specs.declared.event.Event.{Event}
use Rattle.inf_message.specs.declared.event.Event.TheVariants as event
use Rattle.inf_message.specs.declared.reply.Reply.{Reply}
use Rattle.inf_message.specs.declared.reply.Reply.TheVariants as reply
use Rattle.inf_message.specs.History.{Posted, Told, posted_ask, told_reply}
use Rattle.inf_sched.specs.Laws.{is_no_mem, wanted}
use Rattle.inf_sched.specs.Scene.{Scene, MakesAsk, MakesServe, can_ask, client_in, is_ask, planned, planned_from}
use Rattle.inf_sched.specs.Straight.{reply_to, with_ask, with_event, with_next_ask, with_serve}
use Rattle.inf_sched.specs.Waiting.{IsWaiting, Posting, oldest}
use Rattle.inf_sched.proofs.RunQueues.{waiting_found}
use Rattle.inf_sched.proofs.BuiltFacts.{neither}
use Rattle.inf_sched.proofs.CalmFacts.{ShowsNoWant, after_planned, after_served, begun_planned, plain_after, plain_in, plain_recorded, plain_told}
use Rattle.inf_laws_server.proofs.Serves.{machine_serves, machine_wants_none}
use Rattle.inf_sched.proofs.StraightSteps.{IsCalm, asking_of, asks_within}
use Rattle.inf_server.specs.Machine.{machine}

-- a reply that is another than that memory is wanted
plain_reply : (given : Reply) → (given ≡ reply.NoMem → ⊥) → is_no_mem given ≡ false
plain_reply reply.NoMem not = absurd (not refl)
plain_reply other_reply not = refl

-- the new scene comes about so, and nothing has wanted memory
pub record Comes (world : World) (By : Scene → Type 0) (new : Scene) : Type 0 where
  pub by : By new
  pub calm : IsCalm world new

-- ---- an Ask

planned_who : (digest : List ℕ → Id) (sent : List Sent) (s : ClientState) → (planned_from digest sent s).who ≡ s.who
planned_who digest [] s = refl
planned_who digest (x ∷ sent) s = refl

here_of : (a b : Bool) → (not a && b) ≡ true → a ≡ false
here_of true b e = absurd (cc)
here_of false b e = refl

next_comes : (world : World) (client : ℕ) (old : Scene) (number : ℕ) (ask : Ask) → can_ask world old client ≡ true → next_step (planned world.digest (client_in world old client)) ≡ asks number ask → IsCalm world old → Comes world (MakesAsk world client old) (with_event (event.Ask number ask) old)
next_comes world client old number ask can next calm =
    let s : ClientState = client_in world old client in
    let own : ask.from.client ≡ client =
    ap (λ (call : CallRef). call.client) (goes (planned world.digest s) number ask next).from
    ∙ ap (λ (w : Who). w.client) (planned_who world.digest s.sent s ∙ who_after world old.history client) in
    let finds : begun world.digest ask s.sent s ≡ planned world.digest s = begun_planned world.digest s number ask s.sent refl next in
    let duty : Duty world.digest s number ask = ap next_step finds ∙ next in
    let within : client < length world.setup.clients = asks_within world client old.history (asking_of _ _ can) in
    record {
      by = record {
        number = number;
        ask = ask;
        here = here_of _ _ can;
        own = own;
        may = record {
          client = subst (λ c. c < length world.setup.clients) (sym own) within;
          duty = subst (λ c. Duty world.digest (client_after world c old.history) number ask) (sym own) duty;
        };
        joins = refl;
      };
      calm = record {
        sized = calm.sized;
        here = calm.here;
        replies = calm.replies;
        answers = λ each inside. answers own (asked_none s finds (calm.answers client within)) each inside (eqb ask.from.client each) refl;
      };
    }
  where
    asked_none : (s : ClientState) → begun world.digest ask s.sent s ≡ planned world.digest s → ShowsNoWant s → ShowsNoWant (asked world.digest (suc (length old.history)) ask s)
    asked_none s finds none =
        let now : ShowsNoWant (begun world.digest ask s.sent s) = subst ShowsNoWant (sym finds) (after_planned world.digest s.sent s none) in
        record { results = now.results; stage = now.stage }

    answers : ask.from.client ≡ client → ShowsNoWant (asked world.digest (suc (length old.history)) ask (client_in world old client)) → (each : ℕ) → each < length world.setup.clients → (b : Bool) → eqb ask.from.client each ≡ b → ShowsNoWant (cond b (asked world.digest (suc (length old.history)) ask (client_in world old each)) (client_in world old each))
    answers own none each inside false apart = calm.answers each inside
    answers own none each inside true same =
        subst (λ c. ShowsNoWant (asked world.digest (suc (length old.history)) ask (client_in world old c))) (sym own ∙ (Decides-eqb ask.from.client each).0 same) none

pub ask_comes : (world : World) (client : ℕ) (old : Scene) → can_ask world old client ≡ true → IsCalm world old → Comes world (MakesAsk world client old) (with_next_ask world client old)
ask_comes world client old can calm = by (next_step (planned world.digest (client_in world old client))) refl (asking_of _ _ can)
  where
    by : (next : Next) → next_step (planned world.digest (client_in world old client)) ≡ next → is_ask next ≡ true → Comes world (MakesAsk world client old) (with_ask next old)
    by (asks number ask) is asking = next_comes world client old number ask can is calm
    by waits is asking = absurd (cc)
    by is_over is asking = absurd (cc)

-- ---- a Serve

served_calm : (world : World) (client place : ℕ) (given : Reply) (h : List Event) → is_no_mem given ≡ false → list_any wanted h ≡ false → ShowsNoWant (client_after world client h) → ShowsNoWant (client_after world client (event.Serve client place given ∷ h))
served_calm world client place given h plain earlier none =
    let s : ClientState = client_after world client h in
    let told : Told = told_reply (suc (length h)) given in
    after_served world.digest place told s
    (plain_recorded place (told_in s told) s.sent (plain_in s told (plain_told (suc (length h)) given plain))
    (plain_after world client h earlier))
    none

pub serve_comes : (world : World) (fits : Posting → Bool) (old : Scene) (p : Posting) → oldest fits old.history ≡ Some p → IsCalm world old → Comes world (MakesServe world p.number p.place old) (with_serve world p old)
serve_comes world fits old p is calm =
    let h : List Event = old.history in
    let at : IsWaiting h p = waiting_found fits h p is in
    let posted : Posted = posted_ask p.number at.ask in
    let given : Reply = (machine (site_of world p.number) (server_after world p.number h) p.place posted.ask).reply in
    let plain : is_no_mem given ≡ false = plain_reply _ (machine_wants_none (site_of world p.number) (server_after world p.number h) p.place posted.ask) in
    subst (λ (asking : Option Posted). Comes world (MakesServe world p.number p.place old) (with_event (event.Serve p.number p.place (reply_to world p.number p.place h asking)) old)) (sym at.asked)
    (record {
      by = record {
        given = given;
        may = record {
          posted = posted;
          made = at.asked;
          to = refl;
          waits = at.open_yet;
          after = (machine (site_of world p.number) (server_after world p.number h) p.place posted.ask).state;
          reply = machine_serves (site_of world p.number) (server_after world p.number h) p.place posted.ask;
        };
        joins = refl;
      };
      calm = record {
        sized = calm.sized;
        here = calm.here;
        replies = neither (is_no_mem given) (list_any wanted h) plain calm.replies;
        answers = λ each inside. served_calm world each p.place given h plain calm.replies (calm.answers each inside);
      };
    })
