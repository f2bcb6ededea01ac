-- Whose change is in the way of a request that is replied Busy: another client's, and it is in flight.
use Rattle.std.proofs.Common.{◌≡◌, ◌≢◌, ◌⊎◌, inl, inr, ℕ, ◌<◌, ◌≤◌, ◌==◌, ◌&&◌, ◌||◌, Bool, true, false, not, cond, eqb, List, [], ◌∷◌, Option, Some, None, take, refl, sym, ap, ap₂, ◌∙◌, subst, arith}
use Rattle.std.specs.Int.{from_be_bytes, w64}
use Rattle.std.specs.List.{list_any}
use Rattle.std.proofs.lemmas.Bool.{both_ways, or_left, or_right}
use Rattle.std.proofs.lemmas.Bool.Decides.{Decides-eqb}
use Rattle.std.proofs.lemmas.Nat.{mod_below}
use Rattle.inf_base.specs.declared.caller.CallRef.{CallRef}
use Rattle.inf_base.specs.declared.directory.DirRef.{DirRef}
use Rattle.inf_base.specs.declared.id.Id.{Id}
use Rattle.inf_base.specs.Changes.{AdmittedChange}
use Rattle.inf_base.specs.Content.{Content, Slot, reserved, file, directory}
use Rattle.inf_base.specs.Identity.{server_of}
use Rattle.inf_base.specs.Marks.{Mark}
use Rattle.inf_base.specs.Same.{is_same_call, is_same_id}
use Rattle.inf_base.proofs.Same.{same_call_self}
use Rattle.inf_content.specs.Contents.{content_at, content_of_id, if_born, slots_found}
use Rattle.inf_content.specs.Slot.{taker}
use Rattle.inf_content.specs.Slots.{slot_in}
use Rattle.inf_duty.specs.After.{client_after}
use Rattle.inf_duty.specs.World.{World}
use Rattle.inf_duty.specs.ClientState.{ClientState}
use Rattle.inf_laws_history.specs.Flight.{InFlight, changes_in, is_of, is_taken, is_taken_at_top, stands}
use Rattle.inf_laws_history.specs.Kept.{IsTrue, Kept}
use Rattle.inf_laws_history.specs.Legal.{MayServe, server_after}
use Rattle.inf_laws_history.specs.Objects.{service_of}
use Rattle.inf_laws_history.specs.Pending.{Waits}
use Rattle.inf_laws_history.specs.Sites.{site_of}
use Rattle.inf_message.specs.declared.ask.Ask.{Ask}
use Rattle.inf_message.specs.declared.event.Event.{Event}
use Rattle.inf_message.specs.declared.reply.Reply.{Reply}
use Rattle.inf_message.specs.declared.request.Request.{Request}
use Rattle.inf_message.specs.declared.request.Request.TheVariants as request
use Rattle.inf_server.specs.State.{State, is_here}
use Rattle.inf_laws_directory.specs.At.{At}
use Rattle.inf_laws_directory.specs.Fits.{Fits}
use Rattle.inf_laws_directory.specs.Objects.{content_in, slots_kept}
use Rattle.inf_laws_directory.specs.Owned.{IsUnheld}
use Rattle.inf_laws_directory.specs.Phases.{IsReserving, IsSealing, Phase, has_made, has_reserved, has_sealed, has_unlinked, idle}
use Rattle.inf_laws_history.proofs.BlockedRequests.{HasSealed, HasTaken, IsFirst, IsInTheWay, any_at, is_of_self, takes}
use Rattle.inf_laws_server.specs.Blocked.{IsSealedBy, IsTakenBy}
use Rattle.inf_laws_history.proofs.PhaseFits.{fits}
use Rattle.inf_laws_history.proofs.StepFacts.{in_hands, next_serve}

-- ---- what is in flight

pub found_at : (dir : DirRef) (contents : List Content) (content : Content) → content_at dir contents ≡ Some content
    → content_of_id dir.id contents ≡ Some content
found_at dir contents content is = by (content_of_id dir.id contents) is
  where
    by_birth : (c : Content) (b : Bool) → cond b (Some c) None ≡ Some content → Some c ≡ Some content
    by_birth c true it = it
    by_birth c false it = cc

    by : (found : Option Content) → if_born dir.born found ≡ Some content → found ≡ Some content
    by None it = cc
    by (Some c) it = by_birth c (c.dir.born == dir.born) it

pub any_content : (P : Content → Bool) (id : Id) (contents : List Content) (content : Content) → content_of_id id contents ≡ Some content
    → P content ≡ true → list_any P contents ≡ true
any_content P id [] content is so = cc
any_content P id (c ∷ cs) content is so = by (is_same_id id c.dir.id) is (any_content P id cs content)
  where
    by : (b : Bool) → cond b (Some c) (content_of_id id cs) ≡ Some content
        → (content_of_id id cs ≡ Some content → P content ≡ true → list_any P cs ≡ true) → (P c || list_any P cs) ≡ true
    by true here later = let same : c ≡ content = cc in or_left (P c) (list_any P cs) (ap P same ∙ so)
    by false here later = or_right (P c) (list_any P cs) (later here so)

second_of : (a b c d : Bool) → b ≡ true → (a || b || c || d) ≡ true
second_of true b c d is = refl
second_of false true c d is = refl
second_of false false c d is = absurd cc

-- a change in a content object is one of the server's
pub content_stands : (by : CallRef) (h : List Event) (state : State) (id : Id) (content : Content) → content_of_id id state.contents ≡ Some content
    → changes_in by h content ≡ true → stands by h state ≡ true
content_stands by h state id content is so =
    second_of (is_taken_at_top by state.top) (list_any (changes_in by h) state.contents)
    (list_any (λ (m : Mark). not m.is_finished && is_same_call m.by by) state.marks)
    (list_any (λ (a : AdmittedChange). is_same_call a.by by) state.changes)
    (any_content (changes_in by h) id state.contents content is so)

first_of : (a b c : Bool) → a ≡ true → (a || b || c) ≡ true
first_of true b c is = refl
first_of false b c is = absurd cc

middle_of : (a b c : Bool) → b ≡ true → (a || b || c) ≡ true
middle_of true b c is = refl
middle_of false true c is = refl
middle_of false false c is = absurd cc

pub last_of_three : (a b c : Bool) → c ≡ true → (a || b || c) ≡ true
last_of_three true b c is = refl
last_of_three false true c is = refl
last_of_three false false c is = is

module _ (world : World) (h : List Event) (number : ℕ) (by : CallRef) where
  pub server_known : (id : Id) → is_here (site_of world number) id ≡ true → 0 < world.setup.servers → number ≤ world.setup.servers
  server_known id here some =
      let same : number ≡ server_of id world.setup.servers = (Decides-eqb number (server_of id world.setup.servers)).0 here in
      let below : server_of id world.setup.servers < world.setup.servers =
      mod_below (from_be_bytes w64 (take 8 id.bytes)) world.setup.servers some in
      omega (arith, same, below)

  pub flies : (id at : Id) (content : Content) → is_here (site_of world number) id ≡ true → content_of_id at (server_after world number h).contents ≡ Some content
      → changes_in by h content ≡ true → InFlight world h by
  flies id at content here there so = record {
    server = number;
    known = server_known id here;
    change = content_stands by h (server_after world number h) at content there so;
  }

  sealed_flies : HasSealed (site_of world number) (server_after world number h) by → InFlight world h by
  sealed_flies has =
      flies has.dir.id has.dir.id has.is.content has.is.here (found_at has.dir (server_after world number h).contents has.is.content has.is.there)
      (first_of (is_of by has.is.content.seal) _ _ (ap (is_of by) has.is.seal ∙ is_of_self by))

  taken_flies : HasTaken (site_of world number) (server_after world number h) by → InFlight world h by
  taken_flies has =
      flies has.dir.id has.dir.id has.is.content has.is.here (found_at has.dir (server_after world number h).contents has.is.content has.is.there)
      (middle_of (is_of by has.is.content.seal) _ _ (any_at (is_taken by) has.name has.is.content.slots has.is.slot has.is.found (takes by has.is.slot has.is.taken)))

  pub owned_flies : HasSealed (site_of world number) (server_after world number h) by ⊎ HasTaken (site_of world number) (server_after world number h) by
      → InFlight world h by
  owned_flies (inl has) = sealed_flies has
  owned_flies (inr has) = taken_flies has

-- ---- whose it is

-- what a call with nothing in hand sends first fits no phase but that
first_fits : (at : At) (phase : Phase) (asked : Request) → IsFirst asked → Fits at phase asked → phase ≡ idle
first_fits at idle asked first fits_it = refl
first_fits at (has_reserved parent name birth) (request.Lookup k) first fits_it = absurd fits_it
first_fits at (has_reserved parent name birth) (request.Seal chain) first fits_it = absurd fits_it
first_fits at (has_made parent name birth made) (request.Lookup k) first fits_it = absurd fits_it
first_fits at (has_made parent name birth made) (request.Seal chain) first fits_it = absurd fits_it
first_fits at (has_sealed parent name target) (request.Lookup k) first fits_it = absurd fits_it
first_fits at (has_sealed parent name target) (request.Seal chain) first fits_it = absurd fits_it
first_fits at (has_unlinked target) (request.Lookup k) first fits_it = absurd fits_it
first_fits at (has_unlinked target) (request.Seal chain) first fits_it = absurd fits_it
first_fits at phase other_request first fits_it = absurd first

module _ (world : World) (h : List Event) (kept : Kept world h) where
  -- what a server keeps is kept by the service
  pub content_there : (number : ℕ) (dir : DirRef) (content : Content) → is_here (site_of world number) dir.id ≡ true
      → content_at dir (server_after world number h).contents ≡ Some content → content_in (service_of world) kept.objects dir ≡ Some content
  content_there number dir content here there =
      ap (λ (n : ℕ). content_at dir (kept.objects n).contents) (sym ((Decides-eqb number (server_of dir.id world.setup.servers)).0 here))
      ∙ ap (λ (s : State). content_at dir s.contents) (kept.states number) ∙ there

  pub sealing : (number : ℕ) (dir : DirRef) (by : CallRef) → IsSealedBy (site_of world number) (server_after world number h) dir by → IsSealing (kept.phases by) dir
  sealing number dir by is = kept.standing.owned.seals dir is.content by (content_there number dir is.content is.here is.there) is.seal

  reserving_slot : (dir : DirRef) (name : List ℕ) (by : CallRef) (slot : Slot) → slot_in name (slots_kept (service_of world) kept.objects dir) ≡ Some slot
      → IsUnheld slot → taker slot ≡ Some by → IsReserving (kept.phases by) dir name
  reserving_slot dir name by (reserved other access) is free taken =
      let same : other ≡ by = cc in
      kept.standing.owned.reservations dir name by access (is ∙ ap (λ (c : CallRef). Some (reserved c access)) same)
  reserving_slot dir name by (file meta held) is free taken = absurd (let none : taker (file meta held) ≡ taker (file meta None) = ap (λ o. taker (file meta o)) free in cc)
  reserving_slot dir name by (directory access held) is free taken =
      absurd (let none : taker (directory access held) ≡ taker (directory access None) = ap (λ o. taker (directory access o)) free in cc)

  reserving : (number : ℕ) (dir : DirRef) (name : List ℕ) (by : CallRef) → IsTakenBy (site_of world number) (server_after world number h) dir name by
      → IsReserving (kept.phases by) dir name
  reserving number dir name by is =
      let there = ap (λ (o : Option Content). slot_in name (slots_found o)) (content_there number dir is.content is.here is.there) ∙ is.found in
      reserving_slot dir name by is.slot there (kept.standing.owned.holds dir name is.slot there) is.taken

  pub acts : (number : ℕ) (by : CallRef) → HasSealed (site_of world number) (server_after world number h) by ⊎ HasTaken (site_of world number) (server_after world number h) by
      → kept.phases by ≢ idle
  acts number by (inl has) none = subst (λ (p : Phase). IsSealing p has.dir) none (sealing number has.dir by has.is)
  acts number by (inr has) none = subst (λ (p : Phase). IsReserving p has.dir has.name) none (reserving number has.dir has.name by has.is)

  -- a call that has something in hand is under way
  pub under_way : (by : CallRef) → kept.phases by ≢ idle → by.number ≡ (client_after world by.client h).number
  under_way by some = by_number (eqb by.number (client_after world by.client h).number) refl
    where
      by_number : (b : Bool) → eqb by.number (client_after world by.client h).number ≡ b → by.number ≡ (client_after world by.client h).number
      by_number true same = (Decides-eqb by.number (client_after world by.client h).number).0 same
      by_number false apart =
          absurd (some (kept.others by (λ same. both_ways _ apart ((Decides-eqb by.number (client_after world by.client h).number).1 same))))

  module _ (number place : ℕ) (given : Reply) (may : MayServe world h number place given) where
    abbrev ask : Ask
    ask = may.posted.ask

    abbrev asker : ClientState
    asker = client_after world ask.from.client h

    pub waits : Waits (client_after world may.posted.ask.from.client h) place number may.posted.ask
    waits = subst (λ (n : ℕ). Waits asker place n ask) may.to (kept.pending place may.posted may.made may.waits)

    pub asker_fits : Fits (next_serve h number place) (kept.phases may.posted.ask.from) may.posted.ask.request
    asker_fits =
        fits world.digest (IsTrue world h kept.objects kept.root kept.phases) asker (next_serve h number place) ask kept.phases
        (in_hands world h kept ask.from.client)
        (kept.clients ask.from.client).knows waits

    -- of the asking client's calls, only the asking one can have something in hand
    pub same_client : (by : CallRef) → kept.phases by ≢ idle → by.client ≡ may.posted.ask.from.client → by ≡ may.posted.ask.from
    same_client by some same =
        let number_is : by.number ≡ ask.from.number =
        under_way by some ∙ ap (λ c. (client_after world c h).number) same ∙ sym (ap (λ (c : CallRef). c.number) waits.from) in
        ap₂ (λ c n. record { client = c; number = n }) same number_is

    apart_by : (by : CallRef) → (is_same_call by may.posted.ask.from ≡ false) ⊎ IsFirst may.posted.ask.request → kept.phases by ≢ idle
        → by ≡ may.posted.ask.from → ⊥
    apart_by by (inl apart) some same =
        both_ways _ apart (ap (λ (c : CallRef). is_same_call c may.posted.ask.from) same ∙ same_call_self may.posted.ask.from)
    apart_by by (inr first) some same =
        some (ap kept.phases same
        ∙ first_fits (next_serve h number place)
        (kept.phases may.posted.ask.from) may.posted.ask.request first asker_fits)

    -- the call in the way is another client's
    pub way_is_other : (by : CallRef) (at : _) → IsInTheWay (site_of world number) (server_after world number h) may.posted.ask.from may.posted.ask.request by at
        → by.client ≢ may.posted.ask.from.client
    way_is_other by at way same =
        let some = acts number by way.owned in
        apart_by by way.apart some (same_client by some same)
