-- What comes of serving an Ask.
use Rattle.std.proofs.Common.{◌≡◌, ℕ, suc, Bool, true, false, List, [], ◌∷◌, length, Option, Some, IsSome, refl, sym, ap, subst, ◌∙◌}
use Rattle.inf_base.specs.declared.call.Call.{Call}
use Rattle.inf_duty.specs.ClientState.{ClientState}
use Rattle.inf_duty.specs.Turn.{served}
use Rattle.inf_message.specs.Sent.{has_place}
use Rattle.inf_duty.specs.Outcome.{all_given_up}
use Rattle.inf_base.specs.declared.id.Id.{Id}
use Rattle.inf_core.specs.Core.{IsSameRun, IsServedNext, Running, world_in}
use Rattle.inf_laws_history.specs.Legal.{Legal, MayServe}
use Rattle.inf_duty.specs.After.{client_after}
use Rattle.inf_duty.specs.World.{World}
use Rattle.inf_duty.proofs.BegunKept.{kept_all_given_up}
use Rattle.inf_laws_history.proofs.ClientSteps.{Lasts, lasts_kept, served_apart}
use Rattle.inf_laws_history.proofs.DrivenFacts.{idle_stays}
use Rattle.inf_message.specs.declared.event.Event.{Event}
use Rattle.inf_message.specs.declared.event.Event.TheVariants as event
use Rattle.inf_message.specs.declared.reply.Reply.{Reply}
use Rattle.inf_message.specs.History.{Posted, asked_at, posted_ask, told_reply}
use Rattle.inf_client.specs.AskLog.{told_log}
use Rattle.inf_client.specs.Client.{Client, client_with}
use Rattle.inf_sched.specs.Run.{HasServed, IsClient, IsGivenUp, IsStateOf}
use Rattle.inf_sched.specs.Waiting.{IsWaiting, Posting}

between_lasts : (digest : List ℕ → Id) → Lasts digest (λ s. s.sent ≡ [])
between_lasts digest = record {
  composing = λ s between. between;
  ending = λ given place s between. refl;
  again = λ s between. refl;
  going_on = λ next s between. refl;
  learning = λ known s between. between;
}

all_between : (digest : List ℕ → Id) (left : List Call) (s : ClientState) → s.sent ≡ [] → (all_given_up left s).sent ≡ []
all_between digest left s between = kept_all_given_up digest (λ t. t.sent ≡ []) (lasts_kept digest (λ t. t.sent ≡ []) (between_lasts digest)) left s between

some_there : {A : Type 0} (o : Option A) (x : A) → o ≡ Some x → IsSome o
some_there o x same = subst (λ p. IsSome p) (sym same) refl

pub waiting_asked : (h : List Event) (p : Posting) → IsWaiting h p → IsSome (asked_at p.place h)
waiting_asked h p waits = some_there (asked_at p.place h) (posted_ask p.number waits.ask) waits.asked

-- the server that the Ask was made to
to_server : (world : World) (h : List Event) (p : Posting) (number : ℕ) (given : Reply) → IsWaiting h p → MayServe world h number p.place given → number ≡ p.number
to_server world h p number given waits may =
    let same : Some may.posted ≡ Some (posted_ask p.number waits.ask) = sym may.made ∙ waits.asked in
    let posted : may.posted ≡ posted_ask p.number waits.ask = cc in
    sym may.to ∙ ap (λ (q : Posted). q.number) posted

-- a client that gave up what it had left is told of nothing that it waits for
served_state : (world : World) (h : List Event) (client number place : ℕ) (given : Reply) (g : Bool) (state : ClientState)
    → IsStateOf g (client_after world client h) state
    → IsStateOf g (client_after world client (event.Serve number place given ∷ h)) (served world.digest place (told_reply (suc (length h)) given) state)
served_state world h client number place given false state is = ap (served world.digest place (told_reply (suc (length h)) given)) is
served_state world h client number place given true state is =
    let s : ClientState = client_after world client h in
    let stays : client_after world client (event.Serve number place given ∷ h) ≡ s = idle_stays world h client number place given is.between in
    let state_between : state.sent ≡ [] = ap (λ (t : ClientState). t.sent) is.all ∙ all_between world.digest s.left s is.between in
    subst (λ t. IsGivenUp t (served world.digest place (told_reply (suc (length h)) given) state)) (sym stays)
    (record { between = is.between; all = untold state state_between ∙ is.all })
  where
    untold : (t : ClientState) → t.sent ≡ [] → served world.digest place (told_reply (suc (length h)) given) t ≡ t
    untold t between = served_apart world.digest place (told_reply (suc (length h)) given) t (ap (has_place place) between)

pub has_served : (world : World) (p : Posting) (h after : List Event) (place : ℕ) (given : Reply) (a b : Client) → IsWaiting h p
    → IsClient (client_after world p.client h) a → place ≡ suc (length h) → IsServedNext world h after p.place given → Legal world after
    → b ≡ client_with (served world.digest p.place (told_reply place given) a.state) a.gone (told_log p.place (told_reply place given) a.log) a.handed
    → HasServed world p h after a b
has_served world p h after place given a b waits is newest next legal telling =
    let number : next.number ≡ p.number = to_server world h p next.number given waits next.may in
    let joins : after ≡ event.Serve p.number p.place given ∷ h = next.joins ∙ ap (λ n. event.Serve n p.place given ∷ h) number in
    let told : b ≡ client_with (served world.digest p.place (told_reply (suc (length h)) given) a.state) a.gone (told_log p.place (told_reply (suc (length h)) given) a.log) a.handed =
    telling ∙ ap (λ n. client_with (served world.digest p.place (told_reply n given) a.state) a.gone (told_log p.place (told_reply n given) a.log) a.handed) newest in
    record {
      given = given;
      may = subst (λ n. MayServe world h n p.place given) number next.may;
      joins = joins;
      same_gone = ap (λ (x : Client). x.gone) told;
      same_handed = ap (λ (x : Client). x.handed) told;
      asks = ap (λ (x : Client). x.log.asks) told;
      is_client = subst (λ x. IsClient (client_after world p.client after) x) (sym told)
          (subst (λ g. IsStateOf a.gone (client_after world p.client g) (served world.digest p.place (told_reply (suc (length h)) given) a.state)) (sym joins)
          (served_state world h p.client p.number p.place given a.gone a.state is));
      legal = legal;
    }

pub same_world : {R : Type 0} (digest_of : R → List ℕ → Id) (old new : Running R) → IsSameRun old new → world_in digest_of new ≡ world_in digest_of old
same_world digest_of old new same = rw (same.rule, same.setup) refl
