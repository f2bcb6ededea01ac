-- What a client asks at its places is its group, in every legal history.
use Rattle.std.proofs.Common.{◌≡◌, ℕ, suc, ◌∙◌, eqb, List, [], ◌∷◌, length, slice_get, Option, Some, None, refl, subst, Bool, true, false, cond}
use Rattle.inf_base.specs.declared.id.Id.{Id}
use Rattle.std.proofs.lemmas.Bool.Decides.{Decides-eqb}
use Rattle.inf_base.specs.declared.setup.ClientLine.{ClientLine}
use Rattle.inf_duty.specs.After.{client_after}
use Rattle.inf_duty.specs.Duty.{Duty, asked, begun}
use Rattle.inf_duty.specs.Start.{starting, who_in, nobody}
use Rattle.inf_duty.specs.World.{World}
use Rattle.inf_duty.specs.ClientState.{ClientState}
use Rattle.inf_laws_client.proofs.AskedFacts.{begun_asks, idle_asks, placed_asks, served_asks, weaker_asks}
use Rattle.inf_laws_client.specs.Asked.{AsksItsGroup}
use Rattle.inf_laws_history.specs.Legal.{Legal, MayAsk}
use Rattle.inf_laws_history.specs.Objects.{WasAskedIn}
use Rattle.inf_message.specs.declared.ask.Ask.{Ask}
use Rattle.inf_message.specs.declared.event.Event.{Event}
use Rattle.inf_message.specs.declared.event.Event.TheVariants as event
use Rattle.inf_message.specs.declared.reply.Reply.{Reply}
use Rattle.inf_message.specs.declared.request.Request.{Request}
use Rattle.inf_message.specs.History.{posted_ask, told_reply}
use Rattle.inf_message.proofs.HistoryLaws.{asked_newest, asked_stays, asked_within}

-- what was asked stays so
pub asked_in_stays : (h : List Event) (e : Event) (place : ℕ) (asked : Request) → WasAskedIn h place asked → WasAskedIn (e ∷ h) place asked
asked_in_stays h e place asked was = record {
  posted = was.posted;
  found = asked_stays place e h (asked_within place was.posted h was.found).within ∙ was.found;
  is = was.is;
}

pub group_starts : (world : World) (client : ℕ) (line : Option ClientLine) → AsksItsGroup (WasAskedIn []) (starting world client line)
group_starts world client None = idle_asks (WasAskedIn []) (who_in world client nobody) []
group_starts world client (Some line) = idle_asks (WasAskedIn []) (who_in world client line.caller) line.calls

pub group_stays : (h : List Event) (e : Event) (s : ClientState) → AsksItsGroup (WasAskedIn h) s → AsksItsGroup (WasAskedIn (e ∷ h)) s
group_stays h e s asks = weaker_asks (WasAskedIn h) (WasAskedIn (e ∷ h)) (asked_in_stays h e) s asks

pub group_asked : (digest : List ℕ → Id) (h : List Event) (number : ℕ) (ask : Ask) (s : ClientState) → Duty digest s number ask → AsksItsGroup (WasAskedIn h) s
    → AsksItsGroup (WasAskedIn (event.Ask number ask ∷ h)) (asked digest (suc (length h)) ask s)
group_asked digest h number ask s duty asks =
    placed_asks (WasAskedIn (event.Ask number ask ∷ h)) (suc (length h)) number ask (begun digest ask s.sent s)
    (begun_asks digest (WasAskedIn (event.Ask number ask ∷ h)) ask s (group_stays h (event.Ask number ask) s asks))
    duty
    (record { posted = posted_ask number ask; found = asked_newest number ask h; is = refl })

pub asks_group_ask : (world : World) (h : List Event) (number : ℕ) (ask : Ask) → MayAsk world h number ask
    → ((client : ℕ) → AsksItsGroup (WasAskedIn h) (client_after world client h))
    → (client : ℕ) → AsksItsGroup (WasAskedIn (event.Ask number ask ∷ h)) (client_after world client (event.Ask number ask ∷ h))
asks_group_ask world h number ask may asks client = by (eqb ask.from.client client) refl
  where
    by : (b : Bool) → eqb ask.from.client client ≡ b
        → AsksItsGroup (WasAskedIn (event.Ask number ask ∷ h)) (cond b (asked world.digest (suc (length h)) ask (client_after world client h)) (client_after world client h))
    by true same =
        group_asked world.digest h number ask (client_after world client h)
        (subst (λ c. Duty world.digest (client_after world c h) number ask) ((Decides-eqb ask.from.client client).0 same) may.duty) (asks client)
    by false unlike = group_stays h (event.Ask number ask) (client_after world client h) (asks client)

pub asks_group_serve : (world : World) (h : List Event) (number ask_place : ℕ) (given : Reply)
    → ((client : ℕ) → AsksItsGroup (WasAskedIn h) (client_after world client h))
    → (client : ℕ) → AsksItsGroup (WasAskedIn (event.Serve number ask_place given ∷ h)) (client_after world client (event.Serve number ask_place given ∷ h))
asks_group_serve world h number ask_place given asks client =
    served_asks world.digest (WasAskedIn (event.Serve number ask_place given ∷ h)) ask_place (told_reply (suc (length h)) given) (client_after world client h)
    (group_stays h (event.Serve number ask_place given) (client_after world client h) (asks client))

pub asks_group : (world : World) (h : List Event) → Legal world h → (client : ℕ) → AsksItsGroup (WasAskedIn h) (client_after world client h)
asks_group world [] legal client = group_starts world client (slice_get world.setup.clients client)
asks_group world (event.Ask number ask ∷ h) legal client = asks_group_ask world h number ask legal.1 (asks_group world h legal.0) client
asks_group world (event.Serve number ask_place given ∷ h) legal client = asks_group_serve world h number ask_place given (asks_group world h legal.0) client
