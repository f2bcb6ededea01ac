-- What one event does to a client: its cases, what every step keeps, and that only the Asks of a client are waited for.
use Rattle.std.proofs.Common.{◌≡◌, ℕ, suc, ◌||◌, Bool, true, false, cond, eqb, List, [], ◌∷◌, ◌++◌, length, map, slice_get, Option, Some, None, refl, sym, ap, ap₂, ◌∙◌, subst}
use Rattle.inf_base.specs.declared.id.Id.{Id}
use Rattle.std.proofs.lemmas.Bool.Decides.{Decides-eqb}
use Rattle.inf_base.specs.declared.answer.Answer.{Answer}
use Rattle.inf_base.specs.declared.answer.Answer.TheVariants as answer
use Rattle.inf_base.specs.declared.setup.ClientLine.{ClientLine}
use Rattle.inf_duty.specs.After.{client_after}
use Rattle.inf_duty.specs.Duty.{asked, begun, given_up, given_up_in}
use Rattle.inf_duty.specs.Start.{start, starting, who_in}
use Rattle.inf_duty.specs.World.{World}
use Rattle.inf_duty.proofs.BegunKept.{IsKept, if_both, kept_begun}
use Rattle.inf_message.specs.declared.ending.Ending.TheVariants as ending
use Rattle.inf_message.specs.declared.turn.Turn.TheVariants as turn
use Rattle.inf_duty.specs.ClientState.{ClientState, Stage, act, begins_again, compose, ended, round, winds, wound}
use Rattle.inf_duty.specs.Flow.{clean_up}
use Rattle.inf_duty.specs.Group.{composed}
use Rattle.inf_duty.specs.Turn.{after_group, after_record, is_complete, learned, recorded, served, settled, told_by, told_in, turn_at, turned}
use Rattle.inf_message.specs.Sent.{Sent, has_place, told_at}
use Rattle.inf_message.specs.declared.ending.Ending.{Ending}
use Rattle.inf_message.specs.declared.turn.Turn.{Turn}
use Rattle.inf_laws_history.specs.Decisions.{decided_at_stage, decided_for, decided_if, decided_when}
use Rattle.inf_message.specs.declared.ask.Ask.{Ask}
use Rattle.inf_message.specs.declared.event.Event.{Event}
use Rattle.inf_message.specs.declared.event.Event.TheVariants as event
use Rattle.inf_message.specs.declared.step.Message.{Message}
use Rattle.inf_message.specs.History.{Posted, Told, asked_at, posted_ask, told_reply}
use Rattle.inf_message.proofs.HistoryLaws.{asked_newest, asked_stays, asked_within}
use Rattle.inf_tree.specs.Replay.{Decided}
use Rattle.inf_resolve.specs.declared.known.Known.{Known}

-- ---- a property that ends, new attempts, clean-ups and new stages keep

pub record Lasts (digest : List ℕ → Id) (P : ClientState → Type 0) : Type 0 where
  pub composing : (s : ClientState) → P s → P (composed digest s)
  pub ending : (given : Answer) (place : Option ℕ) (s : ClientState) → P s → P (ended given place s)
  pub again : (s : ClientState) → P s → P (begins_again s)
  pub going_on : (next : Stage) (s : ClientState) → P s → P (record s { stage = next; sent = [] })
  pub learning : (known : List Known) (s : ClientState) → P s → P (record s { known = known })

module _ (digest : List ℕ → Id) (P : ClientState → Type 0) (lasts : Lasts digest P) where
  pub wound_lasts : (end : Ending) (more : List (List Message)) (s : ClientState) → P s → P (wound end more s)
  wound_lasts (ending.Answers given place) [] s now = lasts.ending given place s now
  wound_lasts ending.Retries [] s now = lasts.again s now
  wound_lasts end (ms ∷ later) s now = lasts.going_on (winds end ms later) s now

  pub turned_lasts : (t : Turn Stage) (s : ClientState) → P s → P (turned t s)
  turned_lasts (turn.GoesOn next) s now = lasts.going_on next s now
  turned_lasts (turn.WindsUp end more) s now = wound_lasts end more s now

  pub learned_lasts : (stage : Stage) (s : ClientState) → P s → P (learned stage s)
  learned_lasts compose s now = now
  learned_lasts (round keys) s now = lasts.learning (s.known ++ told_by keys s.sent) s now
  learned_lasts (act flow) s now = now
  learned_lasts (winds end ms later) s now = now

  pub after_group_lasts : (s : ClientState) → P s → P (after_group digest s)
  after_group_lasts s now =
      turned_lasts (turn_at digest (learned s.stage s) s.stage) (learned s.stage s) (learned_lasts s.stage s now)

  given_up_at : (s : ClientState) (stage : Stage) → P s → P (given_up_in s stage)
  given_up_at s (act flow) now = wound_lasts (ending.Answers answer.NoMemory None) (clean_up s.who flow) s now
  given_up_at s (winds end ms later) now = now
  given_up_at s compose now = lasts.ending answer.NoMemory None s now
  given_up_at s (round keys) now = lasts.ending answer.NoMemory None s now

  pub given_up_lasts : (s : ClientState) → P s → P (given_up s)
  given_up_lasts s now = given_up_at s s.stage now

  pub lasts_kept : IsKept digest P
  lasts_kept = record { composing = lasts.composing; giving_up = given_up_lasts }

  pub begun_lasts : (ask : Ask) (sent : List Sent) (s : ClientState) → P s → P (begun digest ask sent s)
  begun_lasts ask sent s now = kept_begun digest P lasts_kept ask sent s now

-- ---- the cases of an answer

-- the client with what it keeps of an answer
abbrev pub recorded_in : ℕ → Told → ClientState → ClientState
recorded_in ask_place told s = recorded ask_place (told_in s told) s

-- a Serve is not the client's; or its group goes on; or its group is over
pub by_serve : (digest : List ℕ → Id) (P : ClientState → List Decided → Type 0) (ask_place : ℕ) (told : Told) (s : ClientState)
    → (has_place ask_place s.sent ≡ false → P s [])
    → (has_place ask_place s.sent ≡ true → is_complete (recorded_in ask_place told s) ≡ false → P (recorded_in ask_place told s) [])
    → (has_place ask_place s.sent ≡ true → is_complete (recorded_in ask_place told s) ≡ true
    → P (after_group digest (recorded_in ask_place told s)) (decided_at_stage digest (recorded_in ask_place told s) s.stage))
    → P (served digest ask_place told s) (decided_for digest ask_place told s)
by_serve digest P ask_place told s apart going over = by_place (has_place ask_place s.sent) refl
  where
    by_end : has_place ask_place s.sent ≡ true → (b : Bool) → is_complete (recorded_in ask_place told s) ≡ b
        → P (settled digest b (recorded_in ask_place told s)) (decided_if digest b (recorded_in ask_place told s))
    by_end here false e = going here e
    by_end here true e = over here e

    by_place : (b : Bool) → has_place ask_place s.sent ≡ b → P (cond b (after_record digest (recorded_in ask_place told s)) s) (decided_when digest b ask_place told s)
    by_place false e = apart e
    by_place true e = by_end e (is_complete (recorded_in ask_place told s)) refl

-- the same of the client alone
pub by_answer : (digest : List ℕ → Id) (P : ClientState → Type 0) (ask_place : ℕ) (told : Told) (s : ClientState)
    → (has_place ask_place s.sent ≡ false → P s)
    → (has_place ask_place s.sent ≡ true → is_complete (recorded_in ask_place told s) ≡ false → P (recorded_in ask_place told s))
    → (has_place ask_place s.sent ≡ true → is_complete (recorded_in ask_place told s) ≡ true → P (after_group digest (recorded_in ask_place told s)))
    → P (served digest ask_place told s)
by_answer digest P ask_place told s apart going over = by_serve digest (λ t made. P t) ask_place told s apart going over

pub served_apart : (digest : List ℕ → Id) (ask_place : ℕ) (told : Told) (s : ClientState) → has_place ask_place s.sent ≡ false → served digest ask_place told s ≡ s
served_apart digest ask_place told s apart = ap (λ b. cond b (after_record digest (recorded_in ask_place told s)) s) apart

pub served_within : (digest : List ℕ → Id) (ask_place : ℕ) (told : Told) (s : ClientState) → has_place ask_place s.sent ≡ true
    → is_complete (recorded_in ask_place told s) ≡ false → served digest ask_place told s ≡ recorded_in ask_place told s
served_within digest ask_place told s here going =
    ap (λ b. cond b (after_record digest (recorded_in ask_place told s)) s) here
    ∙ ap (λ b. settled digest b (recorded_in ask_place told s)) going

-- ---- a property that answers and Asks keep as well

module _ (digest : List ℕ → Id) (P : ClientState → Type 0) (lasts : Lasts digest P) (recording : (place : ℕ) (told : Told) (s : ClientState) → P s → P (recorded place told s)) where
  pub served_lasts : (place : ℕ) (told : Told) (s : ClientState) → P s → P (served digest place told s)
  served_lasts place told s now =
      by_answer digest P place told s
      (λ apart. now)
      (λ here going. recording place (told_in s told) s now)
      (λ here over. after_group_lasts digest P lasts (recorded place (told_in s told) s) (recording place (told_in s told) s now))

-- ---- whom a client calls for

abbrev IsWho : World → ℕ → ClientState → Type 0
IsWho world client s = s.who ≡ who_in world client s.who.caller

who_lasts : (world : World) (client : ℕ) → Lasts world.digest (IsWho world client)
who_lasts world client = record {
  composing = λ s is. is;
  ending = λ given place s is. is;
  again = λ s is. is;
  going_on = λ next s is. is;
  learning = λ known s is. is;
}

starting_who : (world : World) (client : ℕ) (line : Option ClientLine) → IsWho world client (starting world client line)
starting_who world client None = refl
starting_who world client (Some line) = refl

pub who_after : (world : World) (h : List Event) (client : ℕ) → (client_after world client h).who ≡ who_in world client (client_after world client h).who.caller
who_after world [] client = starting_who world client (slice_get world.setup.clients client)
who_after world (event.Ask number ask ∷ h) client =
    if_both (IsWho world client) (eqb ask.from.client client) _ _
    (begun_lasts world.digest (IsWho world client) (who_lasts world client) ask (client_after world client h).sent (client_after world client h) (who_after world h client))
    (who_after world h client)
who_after world (event.Serve number ask_place given ∷ h) client =
    served_lasts world.digest (IsWho world client) (who_lasts world client) (λ place told s is. is) ask_place (told_reply (suc (length h)) given)
    (client_after world client h) (who_after world h client)

-- ---- the Asks that a client waits for are its own

pub record IsAskedBy (client place : ℕ) (h : List Event) : Type 0 where
  pub posted : Posted
  pub asked : asked_at place h ≡ Some posted
  pub by_client : posted.ask.from.client ≡ client

asked_by_stays : (client place : ℕ) (e : Event) (h : List Event) → IsAskedBy client place h → IsAskedBy client place (e ∷ h)
asked_by_stays client place e h is = record {
  posted = is.posted;
  asked = asked_stays place e h (asked_within place is.posted h is.asked).within ∙ is.asked;
  by_client = is.by_client;
}

abbrev WaitsBy : ℕ → Type 0 → ClientState → Type 0
WaitsBy place P s = has_place place s.sent ≡ true → P

waits_last : (digest : List ℕ → Id) (place : ℕ) (P : Type 0) → Lasts digest (WaitsBy place P)
waits_last digest place P = record {
  composing = λ s waits. waits;
  ending = λ given at s waits here. absurd cc;
  again = λ s waits here. absurd cc;
  going_on = λ next s waits here. absurd cc;
  learning = λ known s waits. waits;
}

place_stays : (place : ℕ) (told : Told) (x : Sent) → (told_at place told x).place ≡ x.place
place_stays place told x = if_both (λ (y : Sent). y.place ≡ x.place) (eqb x.place place) _ x refl refl

pub has_place_stays : (at place : ℕ) (told : Told) (sent : List Sent) → has_place at (map (told_at place told) sent) ≡ has_place at sent
has_place_stays at place told [] = refl
has_place_stays at place told (x ∷ sent) =
    ap₂ (λ p b. eqb p at || b) (place_stays place told x) (has_place_stays at place told sent)

by_first : {P : Type 0} (b c d : Bool) → ((b || c) ≡ true → P) → ((c ≡ true → P) → d ≡ true → P) → (b || d) ≡ true → P
by_first true c d before rest here = before refl
by_first false c d before rest here = rest before here

only : (b : Bool) → (b || false) ≡ true → b ≡ true
only true e = refl
only false e = e

-- an Ask that is waited for was waited for before, or is the new one
newly_waits : {P : Type 0} (place at : ℕ) (sent : List Sent) → (has_place at sent ≡ true → P) → (place ≡ at → P)
    → has_place at (sent ++ record { place = place; told = None } ∷ []) ≡ true → P
newly_waits place at [] before now here = now ((Decides-eqb place at).0 (only _ here))
newly_waits place at (x ∷ sent) before now here =
    by_first (eqb x.place at) (has_place at sent) (has_place at (sent ++ record { place = place; told = None } ∷ [])) before
    (λ rest. newly_waits place at sent rest now) here

asked_waits : (digest : List ℕ → Id) (client place number : ℕ) (ask : Ask) (h : List Event) (s : ClientState) → WaitsBy place (IsAskedBy client place (event.Ask number ask ∷ h)) s
    → eqb ask.from.client client ≡ true → WaitsBy place (IsAskedBy client place (event.Ask number ask ∷ h)) (asked digest (suc (length h)) ask s)
asked_waits digest client place number ask h s before own =
    newly_waits (suc (length h)) place (begun digest ask s.sent s).sent
    (begun_lasts digest (WaitsBy place (IsAskedBy client place (event.Ask number ask ∷ h))) (waits_last digest place _) ask s.sent s before)
    (λ same. record {
      posted = posted_ask number ask;
      asked = subst (λ p. asked_at p (event.Ask number ask ∷ h) ≡ Some (posted_ask number ask)) same (asked_newest number ask h);
      by_client = (Decides-eqb ask.from.client client).0 own;
    })

starting_waits : (world : World) (client place : ℕ) (line : Option ClientLine) → has_place place (starting world client line).sent ≡ false
starting_waits world client place None = refl
starting_waits world client place (Some line) = refl

-- the client of an Ask is the only one that waits for it
pub waits_for_own : (world : World) (client place : ℕ) (h : List Event) → has_place place (client_after world client h).sent ≡ true → IsAskedBy client place h
waits_for_own world client place [] here =
    absurd (let none : has_place place (start world client).sent ≡ false = starting_waits world client place (slice_get world.setup.clients client) in cc)
waits_for_own world client place (event.Ask number ask ∷ h) here =
    by_client (λ before. asked_by_stays client place _ h (waits_for_own world client place h before)) (eqb ask.from.client client) refl here
  where
    by_client : WaitsBy place (IsAskedBy client place (event.Ask number ask ∷ h)) (client_after world client h) → (b : Bool) → eqb ask.from.client client ≡ b
        → has_place place (cond b (asked world.digest (suc (length h)) ask (client_after world client h)) (client_after world client h)).sent ≡ true
        → IsAskedBy client place (event.Ask number ask ∷ h)
    by_client before true own there = asked_waits world.digest client place number ask h (client_after world client h) before own there
    by_client before false own there = before there
waits_for_own world client place (event.Serve number ask_place given ∷ h) here =
    served_lasts world.digest (WaitsBy place (IsAskedBy client place (event.Serve number ask_place given ∷ h))) (waits_last world.digest place _)
    (λ at told s waits there. waits (sym (has_place_stays place at told s.sent) ∙ there))
    ask_place (told_reply (suc (length h)) given) (client_after world client h)
    (λ before. asked_by_stays client place _ h (waits_for_own world client place h before)) here
