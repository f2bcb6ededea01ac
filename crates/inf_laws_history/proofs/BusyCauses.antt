-- Why a call was answered Again: the change in flight that the Busy reply names.
use Rattle.std.proofs.Common.{◌≡◌, ◌≢◌, inl, inr, ℕ, true, List, Option, IfSome, refl, sym, ap, ap₂, ◌∙◌, subst}
use Rattle.inf_base.specs.declared.caller.CallRef.{CallRef}
use Rattle.inf_base.specs.Identity.{identity}
use Rattle.inf_duty.specs.Outcome.{Outcome}
use Rattle.inf_duty.specs.World.{World}
use Rattle.inf_content.specs.Order.{AreInOrder}
use Rattle.inf_laws_history.specs.Causes.{IsAgainBecause, before}
use Rattle.inf_laws_history.specs.Flight.{InFlight, bears, touches}
use Rattle.inf_laws_history.specs.Kept.{Kept}
use Rattle.inf_laws_history.specs.Legal.{Legal, MayServe, server_after}
use Rattle.inf_laws_history.specs.Sites.{site_of}
use Rattle.inf_message.specs.declared.ask.Ask.{Ask}
use Rattle.inf_message.specs.declared.call_result.CallResult.{CallResult}
use Rattle.inf_message.specs.declared.event.Event.{Event}
use Rattle.inf_message.specs.declared.reply.Reply.TheVariants as reply
use Rattle.inf_message.specs.declared.reply.Spot.{Spot}
use Rattle.inf_message.specs.declared.request.Request.{Request}
use Rattle.inf_message.specs.History.{Posted}
use Rattle.inf_server.specs.State.{State}
use Rattle.inf_laws_directory.specs.Phases.{Phases, idle}
use Rattle.inf_laws_server.proofs.Serves.{blocked, may_reply}
use Rattle.inf_laws_history.proofs.AgainCauses.{acts, any_content, owned_flies, way_is_other}
use Rattle.inf_laws_history.proofs.BehindEntries.{Counts}
use Rattle.inf_laws_history.proofs.UnderWayCalls.{was_under_way}
use Rattle.inf_laws_history.proofs.BlockedRequests.{IsBlocked, IsBornAlready, request_busy}
use Rattle.inf_laws_history.proofs.ContentBirths.{top_free}
use Rattle.inf_laws_history.proofs.ResultCauses.{IsBusyFor, serve_may}
use Rattle.inf_laws_history.proofs.BearerCauses.{bearing, same_triple}

-- ---- a Serve that replies Busy

-- why a server replies that a call is in the way
pub record IsWhy (world : World) (h : List Event) (phases : Phases) (number : ℕ) (by : CallRef) (at : Spot) (ask : Ask) : Type 0 where
  pub acts : phases by ≢ idle
  pub is_other : by.client ≢ ask.from.client
  pub flies_now : InFlight world h by
  pub touched : touches by at ask.request (server_after world number h) ≡ true

module _ (world : World) (keeps : (h : List Event) → Legal world h → Kept world h) (h : List Event) (legal : Legal world h) (number place : ℕ) (by : CallRef)
    (at : Spot) (born : ℕ) (may : MayServe world h number place (reply.Busy by at born)) where
  abbrev ask : Ask
  ask = may.posted.ask

  abbrev state : State
  state = server_after world number h

  by_bearing : IsBornAlready (site_of world number) state ask.request by at → IsWhy world h (keeps h legal).phases number by at ask
  by_bearing born_already =
      let borne = born_already.is in
      let birth = born_already.birth in
      let it = bearing world keeps h legal number place (reply.Busy by at born) may birth born_already.is_make borne.content borne.here borne.there
      (same_triple borne.content.triple birth borne.same) by borne.bearer_is in
      record {
        acts = it.acts;
        is_other = it.is_other;
        flies_now = it.flies_now;
        touched = ap₂ (λ (s : Spot) (r : Request). touches by s r state) borne.spot_is born_already.is_make
            ∙ any_content (bears by birth) (identity world.digest birth) state.contents borne.content borne.there it.touched;
      }

  by_block : IsBlocked (site_of world number) state ask.from ask.request by at → IsWhy world h (keeps h legal).phases number by at ask
  by_block (inl way) = record {
    acts = acts world h (keeps h legal) number by way.owned;
    is_other = way_is_other world h (keeps h legal) number place (reply.Busy by at born) may by at way;
    flies_now = owned_flies world h number by way.owned;
    touched = way.touched;
  }
  by_block (inr borne) = by_bearing borne

  pub why_busy : IsWhy world h (keeps h legal).phases number by at may.posted.ask
  why_busy =
      let kept = keeps h legal in
      let site = site_of world number in
      let ordered : AreInOrder state.contents = subst (λ (s : State). AreInOrder s.contents) (kept.states number) (kept.standing.owned.order number) in
      by_block (request_busy site state ask.from ask.request ordered (top_free world h legal number) by at
      (blocked site state ask ask.request by at born
      (may_reply site state place ask (reply.Busy by at born) may.after may.reply ask.request (reply.Busy by at born) refl refl)))

-- a result that was told of a call in the way names a change in flight
pub again_is_because : (world : World) → ((h : List Event) → Legal world h → Kept world h) → (h : List Event) → Legal world h → (results : List CallResult)
    → Outcome world h results → (result : CallResult) (by : CallRef) → IsBusyFor h result.call by result.place
    → IfSome result.place (λ place. Counts world h result.call result.answer place) → IsAgainBecause world h results result by
again_is_because world keeps h legal results out result by is placed =
    let legally = serve_may world h legal is.place is.number is.ask_place (reply.Busy by is.spot is.born) is.told in
    let same : legally.1.posted ≡ is.posted = let one = legally.1.made in let two = is.asked in cc in
    let kept : Kept world (before is.place h) = keeps (before is.place h) legally.0 in
    let why : IsWhy world (before is.place h) kept.phases is.number by is.spot is.posted.ask =
    subst (λ (p : Posted). IsWhy world (before is.place h) kept.phases is.number by is.spot p.ask) same
    (why_busy world keeps (before is.place h) legally.0 is.number is.ask_place by is.spot is.born legally.1) in
    let clients : by.client ≢ result.call.client = λ equal. why.is_other (equal ∙ ap (λ (c : CallRef). c.client) (sym is.own)) in
    let counts : Counts world h result.call result.answer is.place =
    subst (λ (at : Option ℕ). IfSome at (λ place. Counts world h result.call result.answer place)) is.placed placed in
    record {
      at = record { number = is.number; ask_place = is.ask_place; serve_place = is.place };
      placed = is.placed;
      spot = is.spot;
      born = is.born;
      posted = is.posted;
      served = record { told = is.told; asked = is.asked };
      own = is.own;
      behind = λ id name looks. counts.counts is.number is.ask_place by is.spot is.born is.posted id name is.told is.asked looks;
      other = clients;
      under_way = was_under_way world h results out is.place is.number is.ask_place (reply.Busy by is.spot is.born) is.posted by is.told is.asked
          (λ equal. why.is_other (sym equal)) kept why.acts;
      in_flight = why.flies_now;
      touched = why.touched;
    }
