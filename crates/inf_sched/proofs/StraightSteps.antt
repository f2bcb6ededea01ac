-- Where nothing wants memory, each step is the one step that there is.
use Rattle.std.proofs.Common.{◌≡◌, ℕ, suc, ◌<◌, Bool, true, false, cond, eqb, not, ◌&&◌, List, [], ◌∷◌, length, slice_get, slice_set, Option, Some, None, refl, sym, ap, subst, ◌∙◌, arith, ⊎_elim}
use Rattle.inf_base.specs.declared.id.Id.{Id}
use Rattle.std.specs.List.{list_any}
use Rattle.std.proofs.lemmas.Bool.Decides.{Decides-eqb}
use Rattle.std.proofs.lemmas.List.{length-set}
use Rattle.std.proofs.lemmas.Option.{slice_get_within}
use Rattle.inf_base.specs.declared.setup.ClientLine.{ClientLine}
use Rattle.inf_duty.specs.ClientState.{ClientState, rest_of}
use Rattle.inf_message.specs.Sent.{Sent}
use Rattle.inf_duty.specs.Duty.{Duty, Next, asked, asks, next_in, next_step}
use Rattle.inf_duty.specs.After.{client_after}
use Rattle.inf_duty.specs.Start.{starting}
use Rattle.inf_laws_history.specs.Legal.{server_after}
use Rattle.inf_duty.specs.World.{World}
use Rattle.inf_laws_history.specs.Sites.{site_of}
use Rattle.inf_duty.proofs.BegunKept.{if_both}
use Rattle.inf_laws_history.proofs.ClientSteps.{Lasts, begun_lasts, served_lasts}
use Rattle.inf_message.specs.declared.ask.Ask.{Ask}
use Rattle.inf_message.specs.declared.event.Event.{Event}
use Rattle.inf_message.specs.declared.event.Event.TheVariants as event
use Rattle.inf_message.specs.declared.reply.Reply.{Reply}
use Rattle.inf_message.specs.declared.reply.Reply.TheVariants as reply
use Rattle.inf_message.specs.History.{asked_at, told_reply}
use Rattle.inf_sched.specs.Laws.{is_no_mem, wanted}
use Rattle.inf_sched.specs.Scene.{Scene, Asks, GivesUp, MakesAsk, MakesServe, can_ask, client_in, is_ask, is_gone, is_set, planned, planned_from}
use Rattle.inf_sched.specs.Straight.{reply_to, with_ask, with_event, with_next_ask, with_serve}
use Rattle.inf_sched.specs.Waiting.{Posting}
use Rattle.inf_sched.proofs.BuiltFacts.{false_before, false_behind}
use Rattle.inf_sched.proofs.CalmFacts.{ShowsNoWant, before_asked, before_served, is_planned}
use Rattle.inf_laws_history.proofs.ByIndex.{got_set}
use Rattle.inf_server.specs.Machine.{Serves, machine}
use Rattle.inf_server.specs.Response.{Response}
use Rattle.inf_server.specs.State.{Site, State}

-- nothing has wanted memory so far
pub record IsCalm (world : World) (scene : Scene) : Type 0 where
  pub sized : length scene.gone ≡ length world.setup.clients
  pub here : (client : ℕ) → client < length world.setup.clients → is_gone scene client ≡ false
  pub replies : list_any wanted scene.history ≡ false
  pub answers : (client : ℕ) → client < length world.setup.clients → ShowsNoWant (client_in world scene client)

-- the old scene leads to the new one, which is the one that is made
pub record Leads (world : World) (old new made : Scene) : Type 0 where
  pub calm : IsCalm world old
  pub same : new ≡ made

-- ---- an Ask

asking_calm : (world : World) (client : ℕ) (old new : Scene) → MakesAsk world client old new → IsCalm world new → IsCalm world old
asking_calm world client old new makes calm =
    let now : IsCalm world (record { history = event.Ask makes.number makes.ask ∷ old.history; gone = old.gone }) = subst (IsCalm world) makes.joins calm in
    record {
      sized = now.sized;
      here = now.here;
      replies = now.replies;
      answers = λ each within.
          let s : ClientState = client_in world old each in
          if_both (λ t. ShowsNoWant t → ShowsNoWant s) (eqb makes.ask.from.client each) (asked world.digest (suc (length old.history)) makes.ask s) s
          (before_asked world.digest (suc (length old.history)) makes.ask s) (λ none. none) (now.answers each within);
    }

-- the client could make its next ask, and made it
pub record MadeNext (world : World) (client : ℕ) (old new : Scene) : Type 0 where
  pub can : can_ask world old client ≡ true
  pub leads : Leads world old new (with_next_ask world client old)

made_next : (world : World) (client : ℕ) (old new : Scene) → MakesAsk world client old new → IsCalm world new → MadeNext world client old new
made_next world client old new makes calm =
    let number : ℕ = makes.number in
    let ask : Ask = makes.ask in
    let s : ClientState = client_in world old client in
    let duty : Duty world.digest s number ask = subst (λ c. Duty world.digest (client_after world c old.history) number ask) makes.own makes.may.duty in
    let now : IsCalm world (record { history = event.Ask number ask ∷ old.history; gone = old.gone }) = subst (IsCalm world) makes.joins calm in
    let own : eqb ask.from.client client ≡ true = (Decides-eqb ask.from.client client).1 makes.own in
    let shown : ShowsNoWant (cond (eqb ask.from.client client) (asked world.digest (suc (length old.history)) ask s) s) =
    now.answers client (subst (λ c. c < length world.setup.clients) makes.own makes.may.client) in
    let none : ShowsNoWant (asked world.digest (suc (length old.history)) ask s) =
    subst (λ b. ShowsNoWant (cond b (asked world.digest (suc (length old.history)) ask s) s)) own shown in
    let next : next_step (planned world.digest s) ≡ asks number ask = is_planned world.digest s number ask s.sent duty (record { results = none.results; stage = none.stage }) in
    record {
      can = can_make (is_gone old client) (next_step (planned world.digest s)) number ask makes.here next;
      leads = record { calm = asking_calm world client old new makes calm; same = makes.joins ∙ ap (λ n. with_ask n old) (sym next) };
    }
  where
    can_make : (gone : Bool) (next : Next) (number : ℕ) (ask : Ask) → gone ≡ false → next ≡ asks number ask → (not gone && is_ask next) ≡ true
    can_make true next number ask here is = absurd (cc)
    can_make false next number ask here is = ap is_ask is

-- ---- no client is gone

none_last : (digest : List ℕ → Id) → Lasts digest (λ s. s.left ≡ [])
none_last digest = record {
  composing = λ s none. none;
  ending = λ given place s none. ap rest_of none;
  again = λ s none. none;
  going_on = λ next s none. none;
  learning = λ known s none. none;
}

starting_none : (world : World) (client : ℕ) (line : Option ClientLine) → line ≡ None → (starting world client line).left ≡ []
starting_none world client None is = refl
starting_none world client (Some line) is = absurd (cc)

-- a client that the setup does not have has no calls
none_left : (world : World) (client : ℕ) (h : List Event) → slice_get world.setup.clients client ≡ None → (client_after world client h).left ≡ []
none_left world client [] is = starting_none world client (slice_get world.setup.clients client) is
none_left world client (event.Ask number ask ∷ h) is =
    let s : ClientState = client_after world client h in
    if_both (λ (t : ClientState). t.left ≡ []) (eqb ask.from.client client) (asked world.digest (suc (length h)) ask s) s
    (begun_lasts world.digest (λ t. t.left ≡ []) (none_last world.digest) ask s.sent s (none_left world client h is)) (none_left world client h is)
none_left world client (event.Serve number ask_place given ∷ h) is =
    served_lasts world.digest (λ t. t.left ≡ []) (none_last world.digest) (λ place told t none. none) ask_place (told_reply (suc (length h)) given) (client_after world client h)
    (none_left world client h is)

planned_left : (digest : List ℕ → Id) (sent : List Sent) (s : ClientState) → (planned_from digest sent s).left ≡ s.left
planned_left digest [] s = refl
planned_left digest (x ∷ sent) s = refl

pub asking_of : (a b : Bool) → (a && b) ≡ true → b ≡ true
asking_of true b e = e
asking_of false b e = absurd (cc)

-- a client that has an ask to make is there
pub asks_within : (world : World) (client : ℕ) (h : List Event) → is_ask (next_step (planned world.digest (client_after world client h))) ≡ true → client < length world.setup.clients
asks_within world client h asking = by (slice_get world.setup.clients client) refl
  where
    s : ClientState
    s = client_after world client h

    by : (line : Option ClientLine) → slice_get world.setup.clients client ≡ line → client < length world.setup.clients
    by None at =
        let none : (planned world.digest s).left ≡ [] = planned_left world.digest s.sent s ∙ none_left world client h at in
        let over : is_ask (next_step (planned world.digest s)) ≡ false = ap (λ calls. is_ask (next_in (planned world.digest s) calls)) none in
        absurd (cc)
    by (Some line) at = slice_get_within world.setup.clients client line at

none_gives_up : (world : World) (client : ℕ) (old new : Scene) → GivesUp world client old new → IsCalm world new → ⊥
none_gives_up world client old new gives calm =
    let now : IsCalm world (record { history = old.history; gone = slice_set old.gone client true }) = subst (IsCalm world) gives.gone calm in
    let asking : is_ask (next_step (planned world.digest (client_in world old client))) ≡ true = asking_of (not (is_gone old client)) _ gives.can in
    let within : client < length world.setup.clients = asks_within world client old.history asking in
    let size : length (slice_set old.gone client true) ≡ length old.gone = length-set old.gone client true in
    let sized : length (slice_set old.gone client true) ≡ length world.setup.clients = now.sized in
    let set = ap is_set (got_set old.gone client true (omega arith)) in
    let here : is_set (slice_get (slice_set old.gone client true) client) ≡ false = now.here client within in
    cc

pub asks_lead : (world : World) (client : ℕ) (old new : Scene) → Asks world client old new → IsCalm world new → MadeNext world client old new
asks_lead world client old new made calm =
    ⊎_elim (λ makes. made_next world client old new makes calm) (λ gives. absurd (none_gives_up world client old new gives calm)) made

-- ---- a Serve

-- a server that does not want memory replies as the machine
plain_reply : (site : Site) (before : State) (place : ℕ) (ask : Ask) (given : Reply) (after : State) → is_no_mem given ≡ false → Serves site before place ask given after → given ≡ (machine site before place ask).reply
plain_reply site before place ask reply.NoMem after plain serves = absurd (cc)
plain_reply site before place ask any_reply after plain serves = ap (λ (r : Response). r.reply) serves

pub serve_leads : (world : World) (p : Posting) (old new : Scene) → MakesServe world p.number p.place old new → IsCalm world new → Leads world old new (with_serve world p old)
serve_leads world p old new makes calm =
    let h : List Event = old.history in
    let given : Reply = makes.given in
    let now : IsCalm world (record { history = event.Serve p.number p.place given ∷ h; gone = old.gone }) = subst (IsCalm world) makes.joins calm in
    let is : given ≡ reply_to world p.number p.place h (asked_at p.place h) =
    plain_reply (site_of world p.number) (server_after world p.number h) p.place makes.may.posted.ask given makes.may.after (false_before _ _ now.replies) makes.may.reply
    ∙ ap (reply_to world p.number p.place h) (sym makes.may.made) in
    record {
      calm = record {
        sized = now.sized;
        here = now.here;
        replies = false_behind (is_no_mem given) _ now.replies;
        answers = λ each within. before_served world.digest p.place (told_reply (suc (length h)) given) (client_in world old each) (now.answers each within);
      };
      same = makes.joins ∙ ap (λ r. with_event (event.Serve p.number p.place r) old) is;
    }
