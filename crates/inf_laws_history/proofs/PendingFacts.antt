-- Every Ask that was not served is one of its client's group: before the first event, after an Ask and after a Serve.
use Rattle.std.proofs.Common.{◌≡◌, ℕ, suc, ◌<◌, Bool, true, false, cond, eqb, ◌&&◌, ◌||◌, List, [], ◌∷◌, length, map, slice_get, Option, Some, None, option_map, zero, ap₂, refl, sym, ap, ◌∙◌, subst, arith}
use Rattle.inf_base.specs.declared.id.Id.{Id}
use Rattle.std.specs.List.{list_all}
use Rattle.std.proofs.lemmas.Option.{slice_get-map}
use Rattle.std.proofs.lemmas.Bool.Decides.{Decides-eqb, nat_tests}
use Rattle.inf_base.specs.declared.call.Call.{Call}
use Rattle.inf_duty.specs.After.{client_after}
use Rattle.inf_duty.specs.Duty.{asked, asks, begun, next_in, next_of, next_step}
use Rattle.inf_duty.specs.World.{World}
use Rattle.inf_duty.specs.ClientState.{ClientState, call_ref, placed}
use Rattle.inf_duty.specs.Group.{group}
use Rattle.inf_duty.specs.Turn.{is_complete, recorded, served, told_in}
use Rattle.inf_message.specs.Sent.{Sent, is_told, told_at}
use Rattle.inf_laws_history.proofs.ByIndex.{got_pushed, got_stays}
use Rattle.inf_laws_history.specs.Legal.{Legal, MayAsk}
use Rattle.inf_laws_history.specs.Pending.{ArePending, Waits}
use Rattle.inf_message.specs.declared.ask.Ask.{Ask}
use Rattle.inf_message.specs.declared.event.Event.{Event}
use Rattle.inf_message.specs.declared.event.Event.TheVariants as event
use Rattle.inf_message.specs.declared.reply.Reply.{Reply}
use Rattle.inf_message.specs.declared.request.Request.{Request}
use Rattle.inf_message.specs.declared.step.Message.{Message}
use Rattle.inf_message.specs.History.{Posted, Told, is_served, posted_ask, told_reply}
use Rattle.inf_message.proofs.HistoryLaws.{by_test, itself}
use Rattle.inf_duty.proofs.BegunKept.{if_both}
use Rattle.inf_laws_history.proofs.ClientSteps.{by_answer}

abbrev pub waiting_at : ℕ → Sent
waiting_at place = record { place = place; told = None }

abbrev message_to : ℕ → Request → Message
message_to number asked = record { number = number; request = asked }

-- ---- a client that does its duty

pub record Goes (s : ClientState) (number : ℕ) (ask : Ask) : Type 0 where
  pub message : slice_get (group s.who s.stage) (length s.sent) ≡ Some (record { number = number; request = ask.request })
  pub from : ask.from ≡ call_ref s
  pub caller : ask.caller ≡ s.who.caller
  pub under_way : 0 < length s.left

record IsNext (s : ClientState) (found : Option Message) (number : ℕ) (ask : Ask) : Type 0 where
  message : found ≡ Some (message_to number ask.request)
  from : ask.from ≡ call_ref s
  caller : ask.caller ≡ s.who.caller

is_next : (s : ClientState) (found : Option Message) (number : ℕ) (ask : Ask) → next_of s found ≡ asks number ask → IsNext s found number ask
is_next s None number ask next = absurd cc
is_next s (Some message) number ask next =
    let to : message.number ≡ number = cc in
    let sent : record { from = call_ref s; caller = s.who.caller; request = message.request } ≡ ask = cc in
    record {
      message = ap₂ (λ (n : ℕ) (a : Ask). Some (message_to n a.request)) to sent;
      from = sym (ap (λ (a : Ask). a.from) sent);
      caller = sym (ap (λ (a : Ask). a.caller) sent);
    }

goes_in : (s : ClientState) (number : ℕ) (ask : Ask) (calls : List Call) → next_in s calls ≡ asks number ask
    → (0 < length calls) × IsNext s (slice_get (group s.who s.stage) (length s.sent)) number ask
goes_in s number ask [] next = absurd cc
goes_in s number ask (call ∷ calls) next = (omega arith, is_next s (slice_get (group s.who s.stage) (length s.sent)) number ask next)

pub goes : (s : ClientState) (number : ℕ) (ask : Ask) → next_step s ≡ asks number ask → Goes s number ask
goes s number ask next =
    let is = goes_in s number ask s.left next in
    record { message = is.1.message; from = is.1.from; caller = is.1.caller; under_way = is.0 }

-- ---- an Ask more

-- a client that waits asks within its group
pub begun_stays : (digest : List ℕ → Id) (ask : Ask) (sent : List Sent) (s : ClientState) (index : ℕ) (x : Sent) → slice_get sent index ≡ Some x → begun digest ask sent s ≡ s
begun_stays digest ask [] s index x found = absurd cc
begun_stays digest ask (y ∷ sent) s index x found = refl

waits_newly : (place number : ℕ) (ask : Ask) (s : ClientState) → next_step s ≡ asks number ask → Waits (placed place s) place number ask
waits_newly place number ask s next =
    let is = goes s number ask next in
    record {
      index = length s.sent;
      sent = got_pushed s.sent (waiting_at place);
      message = is.message;
      from = is.from;
      caller = is.caller;
      under_way = is.under_way;
    }

waits_on : (digest : List ℕ → Id) (at place number : ℕ) (another ask : Ask) (s : ClientState) → Waits s place number ask → Waits (asked digest at another s) place number ask
waits_on digest at place number another ask s waits =
    subst (λ (t : ClientState). Waits (placed at t) place number ask) (sym (begun_stays digest another s.sent s waits.index (waiting_at place) waits.sent))
    (record {
      index = waits.index;
      sent = got_stays s.sent (waiting_at at) waits.index (waiting_at place) waits.sent;
      message = waits.message;
      from = waits.from;
      caller = waits.caller;
      under_way = waits.under_way;
    })

-- ---- an answer more

pub sent_recorded : (at place : ℕ) (told : Told) (sent : List Sent) (index : ℕ) → eqb place at ≡ false → slice_get sent index ≡ Some (waiting_at place)
    → slice_get (map (told_at at told) sent) index ≡ Some (waiting_at place)
sent_recorded at place told sent index unlike found =
    let untold : told_at at told (waiting_at place) ≡ waiting_at place = rw unlike refl in
    slice_get-map (told_at at told) sent index ∙ ap (option_map (told_at at told)) found ∙ ap Some untold

and_false : (b : Bool) → (b && false) ≡ false
and_false true = refl
and_false false = refl

not_all_told : (place : ℕ) (sent : List Sent) (index : ℕ) → slice_get sent index ≡ Some (waiting_at place) → list_all is_told sent ≡ false
not_all_told place [] index found = absurd cc
not_all_told place (x ∷ sent) zero found =
    let same : x ≡ waiting_at place = cc in
    ap (λ (y : Sent). is_told y && list_all is_told sent) same
not_all_told place (x ∷ sent) (suc index) found = ap (λ b. is_told x && b) (not_all_told place sent index found) ∙ and_false (is_told x)

-- a group that still waits for an Ask is not over
pub not_complete : (place : ℕ) (s : ClientState) (index : ℕ) → slice_get s.sent index ≡ Some (waiting_at place) → is_complete s ≡ false
not_complete place s index found =
    ap (λ b. eqb (length s.sent) (length (group s.who s.stage)) && b) (not_all_told place s.sent index found)
    ∙ and_false (eqb (length s.sent) (length (group s.who s.stage)))

waits_still : (digest : List ℕ → Id) (at place number : ℕ) (told : Told) (ask : Ask) (s : ClientState) → eqb place at ≡ false → Waits s place number ask
    → Waits (served digest at told s) place number ask
waits_still digest at place number told ask s unlike waits =
    let still = sent_recorded at place (told_in s told) s.sent waits.index unlike waits.sent in
    by_answer digest (λ t. Waits t place number ask) at told s
    (λ apart. waits)
    (λ here going. record {
      index = waits.index;
      sent = still;
      message = waits.message;
      from = waits.from;
      caller = waits.caller;
      under_way = waits.under_way;
    })
    (λ here over. absurd (let not_over = not_complete place (recorded at (told_in s told) s) waits.index still in cc))

-- ---- histories

pub pending_nothing : (world : World) → ArePending world []
pending_nothing world place posted found unserved = absurd cc

module _ (world : World) (h : List Event) (number : ℕ) (ask : Ask) where
  abbrev now : List Event
  now = event.Ask number ask ∷ h

  newest_waits : MayAsk world h number ask → Waits (client_after world ask.from.client now) (suc (length h)) number ask
  newest_waits may =
      let s : ClientState = client_after world ask.from.client h in
      subst (λ b. Waits (cond b (asked world.digest (suc (length h)) ask s) s) (suc (length h)) number ask) (sym (itself ask.from.client))
      (waits_newly (suc (length h)) number ask (begun world.digest ask s.sent s) may.duty)

  older_waits : (place : ℕ) (posted : Posted) → Waits (client_after world posted.ask.from.client h) place posted.number posted.ask
      → Waits (client_after world posted.ask.from.client now) place posted.number posted.ask
  older_waits place posted waits =
      let s : ClientState = client_after world posted.ask.from.client h in
      if_both (λ t. Waits t place posted.number posted.ask) (eqb ask.from.client posted.ask.from.client) (asked world.digest (suc (length h)) ask s) s
      (waits_on world.digest (suc (length h)) place posted.number ask posted.ask s waits) waits

  pub pending_ask : MayAsk world h number ask → ArePending world h → ArePending world (event.Ask number ask ∷ h)
  pending_ask may pending place posted found unserved =
      by_test (eqb place (suc (length h))) found
      (λ same here.
      let newest : place ≡ suc (length h) = (Decides-eqb place (suc (length h))).0 same in
      let this : posted_ask number ask ≡ posted = cc in
      let at : Waits (client_after world ask.from.client now) place number ask =
      subst (λ p. Waits (client_after world ask.from.client now) p number ask) (sym newest) (newest_waits may) in
      subst (λ (p : Posted). Waits (client_after world p.ask.from.client now) place p.number p.ask) this at)
      (λ unlike behind. older_waits place posted (pending place posted behind unserved))

either_false : (a b : Bool) → (a || b) ≡ false → (a ≡ false) × (b ≡ false)
either_false true b e = absurd cc
either_false false b e = (refl, e)

pub unserved_before : (number at place : ℕ) (given : Reply) (h : List Event) → is_served place (event.Serve number at given ∷ h) ≡ false
    → (eqb at place ≡ false) × (is_served place h ≡ false)
unserved_before number at place given h unserved = either_false (eqb at place) (is_served place h) unserved

pub flipped : (a b : ℕ) → eqb a b ≡ false → eqb b a ≡ false
flipped a b unlike = grind (arith, nat_tests)

pub pending_serve : (world : World) (h : List Event) (number ask_place : ℕ) (given : Reply) → ArePending world h
    → ArePending world (event.Serve number ask_place given ∷ h)
pending_serve world h number ask_place given pending place posted found unserved =
    let before = unserved_before number ask_place place given h unserved in
    waits_still world.digest ask_place place posted.number (told_reply (suc (length h)) given) posted.ask (client_after world posted.ask.from.client h)
    (flipped ask_place place before.0) (pending place posted found before.1)

pub pending_after : (world : World) (h : List Event) → Legal world h → ArePending world h
pending_after world [] legal = pending_nothing world
pending_after world (event.Ask number ask ∷ h) legal = pending_ask world h number ask legal.1 (pending_after world h legal.0)
pending_after world (event.Serve number ask_place given ∷ h) legal = pending_serve world h number ask_place given (pending_after world h legal.0)
