-- A client follows its own events alone.
use Rattle.std.proofs.Common.{◌≡◌, ℕ, suc, Bool, true, false, cond, eqb, List, [], ◌∷◌, length, refl, sym, ap, ◌∙◌}
use Rattle.std.proofs.lemmas.Bool.Decides.{Decides-eqb}
use Rattle.inf_duty.specs.After.{client_after}
use Rattle.inf_duty.specs.Duty.{asked}
use Rattle.inf_duty.specs.Start.{start}
use Rattle.inf_duty.specs.World.{World}
use Rattle.inf_duty.specs.ClientState.{ClientState}
use Rattle.inf_duty.specs.Turn.{served}
use Rattle.inf_message.specs.Sent.{has_place}
use Rattle.inf_laws_author.proofs.Tests.{unless_true}
use Rattle.inf_laws_author.specs.OwnEvents.{is_by, own_events}
use Rattle.inf_laws_history.proofs.ClientSteps.{IsAskedBy, served_apart, waits_for_own}
use Rattle.inf_message.specs.declared.event.Event.{Event}
use Rattle.inf_message.specs.declared.event.Event.TheVariants as event
use Rattle.inf_message.specs.History.{Told, asked_at, told_reply}

abbrev follow : World → ℕ × Event → ClientState → ClientState
follow world (place, event.Ask number ask) s = asked world.digest place ask s
follow world (place, event.Serve number ask_place given) s =
    served world.digest ask_place (told_reply place given) s

abbrev follow_all : World → ℕ → List (ℕ × Event) → ClientState
follow_all world client [] = start world client
follow_all world client (e ∷ es) = follow world e (follow_all world client es)

-- nobody waits for an Ask that is not its own
waits_not : (world : World) (client place : ℕ) (h : List Event) → is_by client (asked_at place h) ≡ false
    → has_place place (client_after world client h).sent ≡ false
waits_not world client place h another =
    unless_true _ (λ here.
    let is : IsAskedBy client place h = waits_for_own world client place h here in
    let made = (Decides-eqb is.posted.ask.from.client client).1 is.by_client in
    let own : is_by client (asked_at place h) ≡ true = ap (is_by client) is.asked ∙ made in
    let never : ⊥ = cc in
    never)

follows_own : (world : World) (client : ℕ) (h : List Event)
    → client_after world client h ≡ follow_all world client (own_events client h)
follows_own world client [] = refl
follows_own world client (event.Ask number ask ∷ h) = by (follows_own world client h) (eqb ask.from.client client)
  where
    own : List (ℕ × Event)
    own = (suc (length h), event.Ask number ask) ∷ own_events client h

    by : client_after world client h ≡ follow_all world client (own_events client h) → (b : Bool)
        → cond b (asked world.digest (suc (length h)) ask (client_after world client h)) (client_after world client h)
        ≡ follow_all world client (cond b own (own_events client h))
    by before true = ap (asked world.digest (suc (length h)) ask) before
    by before false = before
follows_own world client (event.Serve number ask_place given ∷ h) =
    by (follows_own world client h) (is_by client (asked_at ask_place h)) refl
  where
    own : List (ℕ × Event)
    own = (suc (length h), event.Serve number ask_place given) ∷ own_events client h

    told : Told
    told = told_reply (suc (length h)) given

    by : client_after world client h ≡ follow_all world client (own_events client h) → (b : Bool)
        → is_by client (asked_at ask_place h) ≡ b
        → served world.digest ask_place told (client_after world client h)
        ≡ follow_all world client (cond b own (own_events client h))
    by before true is = ap (served world.digest ask_place told) before
    by before false another =
        served_apart world.digest ask_place told (client_after world client h)
        (waits_not world client ask_place h another)
        ∙ before

pub same_client : (world : World) (client : ℕ) (h g : List Event) → own_events client h ≡ own_events client g
    → client_after world client h ≡ client_after world client g
same_client world client h g same =
    follows_own world client h ∙ ap (follow_all world client) same ∙ sym (follows_own world client g)
