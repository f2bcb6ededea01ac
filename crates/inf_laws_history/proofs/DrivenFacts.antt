-- What a driver of clients rests on: whom an event changes, that a new place is fresh, and how far the counts go.
use Rattle.std.proofs.Common.{◌≡◌, ◌≢◌, ℕ, suc, ◌≤◌, Bool, true, false, eqb, List, [], ◌∷◌, length, slice_get, Option, Some, None, refl, ap, ◌∙◌, arith}
use Rattle.inf_base.specs.declared.id.Id.{Id}
use Rattle.inf_base.specs.declared.setup.ClientLine.{ClientLine}
use Rattle.inf_duty.specs.After.{client_after}
use Rattle.inf_duty.specs.Duty.{asked, begun}
use Rattle.inf_duty.specs.Start.{starting}
use Rattle.inf_duty.specs.World.{World}
use Rattle.inf_duty.specs.ClientState.{ClientState}
use Rattle.inf_duty.specs.Turn.{served}
use Rattle.inf_message.specs.Sent.{has_place}
use Rattle.inf_message.specs.declared.ask.Ask.{Ask}
use Rattle.inf_message.specs.declared.event.Event.{Event}
use Rattle.inf_message.specs.declared.event.Event.TheVariants as event
use Rattle.inf_message.specs.declared.reply.Reply.{Reply}
use Rattle.inf_message.specs.History.{Posted, asked_at, told_reply}
use Rattle.inf_message.proofs.HistoryLaws.{asked_within}
use Rattle.inf_duty.proofs.BegunKept.{if_both}
use Rattle.inf_laws_history.proofs.ClientSteps.{IsAskedBy, Lasts, begun_lasts, served_apart, served_lasts, waits_for_own}

unless_true : (b : Bool) → (b ≡ true → ⊥) → b ≡ false
unless_true true never = absurd (never refl)
unless_true false never = refl

-- ---- whom a Serve changes

-- nobody but the client that asked waits for an Ask
pub waits_not : (world : World) (h : List Event) (client ask_place : ℕ) (posted : Posted) → asked_at ask_place h ≡ Some posted
    → posted.ask.from.client ≢ client → has_place ask_place (client_after world client h).sent ≡ false
waits_not world h client ask_place posted made unlike =
    unless_true _ (λ here.
    let is : IsAskedBy client ask_place h = waits_for_own world client ask_place h here in
    let at : asked_at ask_place h ≡ Some is.posted = is.asked in
    let same : posted ≡ is.posted = cc in
    unlike (ap (λ (p : Posted). p.ask.from.client) same ∙ is.by_client))

pub others_stay : (world : World) (h : List Event) (client number ask_place : ℕ) (given : Reply) (posted : Posted) → asked_at ask_place h ≡ Some posted
    → posted.ask.from.client ≢ client → client_after world client (event.Serve number ask_place given ∷ h) ≡ client_after world client h
others_stay world h client number ask_place given posted made unlike =
    served_apart world.digest ask_place (told_reply (suc (length h)) given) (client_after world client h)
    (waits_not world h client ask_place posted made unlike)

pub idle_stays : (world : World) (h : List Event) (client number ask_place : ℕ) (given : Reply) → (client_after world client h).sent ≡ []
    → client_after world client (event.Serve number ask_place given ∷ h) ≡ client_after world client h
idle_stays world h client number ask_place given none =
    served_apart world.digest ask_place (told_reply (suc (length h)) given) (client_after world client h) (ap (has_place ask_place) none)

-- ---- places

-- nobody waits for an Ask at a place that is still to come
pub fresh : (world : World) (h : List Event) (client : ℕ) → has_place (suc (length h)) (client_after world client h).sent ≡ false
fresh world h client =
    unless_true _ (λ here.
    let is : IsAskedBy client (suc (length h)) h = waits_for_own world client (suc (length h)) h here in
    let within = (asked_within (suc (length h)) is.posted h is.asked).within in
    let never : ⊥ = omega arith in
    never)

-- ---- counts

abbrev Counts : ℕ → ClientState → Type 0
Counts most s = s.counts.messages ≤ most

counts_last : (digest : List ℕ → Id) (most : ℕ) → Lasts digest (Counts most)
counts_last digest most = record {
  composing = λ s within. within;
  ending = λ given place s within. omega arith;
  again = λ s within. within;
  going_on = λ next s within. within;
  learning = λ known s within. within;
}

asked_counts : (digest : List ℕ → Id) (most place : ℕ) (ask : Ask) (s : ClientState) → Counts most s → Counts (suc most) (asked digest place ask s)
asked_counts digest most place ask s within =
    let before : Counts most (begun digest ask s.sent s) = begun_lasts digest (Counts most) (counts_last digest most) ask s.sent s within in
    omega arith

starting_counts : (world : World) (client : ℕ) (line : Option ClientLine) → Counts 0 (starting world client line)
starting_counts world client None = omega arith
starting_counts world client (Some line) = omega arith

one_more : (most : ℕ) (s : ClientState) → Counts most s → Counts (suc most) s
one_more most s within = omega arith

-- a call has made no more Asks than there are events
pub messages_within : (world : World) (h : List Event) (client : ℕ) → (client_after world client h).counts.messages ≤ length h
messages_within world [] client = starting_counts world client (slice_get world.setup.clients client)
messages_within world (event.Ask number ask ∷ h) client =
    if_both (Counts (suc (length h))) (eqb ask.from.client client) _ _
    (asked_counts world.digest (length h) (suc (length h)) ask (client_after world client h) (messages_within world h client))
    (one_more (length h) (client_after world client h) (messages_within world h client))
messages_within world (event.Serve number ask_place given ∷ h) client =
    one_more (length h) (served world.digest ask_place (told_reply (suc (length h)) given) (client_after world client h))
    (served_lasts world.digest (Counts (length h)) (counts_last world.digest (length h)) (λ place told s within. within) ask_place (told_reply (suc (length h)) given)
    (client_after world client h) (messages_within world h client))
