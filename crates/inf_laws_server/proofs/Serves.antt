-- What one Serve comes to: the one split over kinds of request.
use Rattle.std.proofs.Common.{◌≡◌, ◌⊎◌, inl, inr, ℕ, Bool, true, false, Result, Ok, Err, refl, sym, ap, ◌∙◌, subst}
use Rattle.std.proofs.lemmas.Bool.{both_ways}
use Rattle.inf_base.specs.declared.caller.CallRef.{CallRef}
use Rattle.inf_base.specs.declared.errno.Errno.{Errno}
use Rattle.inf_base.specs.declared.triple.Triple.{Triple}
use Rattle.inf_message.specs.declared.ask.Ask.{Ask}
use Rattle.inf_message.specs.declared.reply.Reply.{Reply}
use Rattle.inf_message.specs.declared.reply.Reply.TheVariants as reply
use Rattle.inf_message.specs.declared.reply.Spot.{Spot}
use Rattle.inf_message.specs.declared.request.Request.{Request}
use Rattle.inf_message.specs.declared.request.Request.TheVariants as request
use Rattle.inf_server.specs.Machine.{Serves, machine, may_want, on_change, on_request}
use Rattle.inf_server.specs.Response.{Response, response}
use Rattle.inf_server.specs.State.{Site, State}
use Rattle.inf_laws_server.specs.Blocked.{Blocks}
use Rattle.inf_laws_server.specs.CameTo.{CameTo, IsDone, MayReply}
use Rattle.inf_laws_server.specs.Denied.{Denies}
use Rattle.inf_laws_server.specs.Replies.{Clashes, Fails, Strays, Succeeds, TellsOfNoChange, asks_chain, is_failure, looks_up_name}
use Rattle.inf_laws_server.proofs.Births.{cancel_comes, link_comes, make_comes, reserve_comes}
use Rattle.inf_laws_server.proofs.Files.{op_comes}
use Rattle.inf_content.specs.Order.{AreInOrder}
use Rattle.inf_laws_server.specs.Changes.{Change, changed}
use Rattle.inf_laws_server.specs.Done.{change_of}
use Rattle.inf_laws_server.proofs.ChangeFacts.{changed_in_order, changed_top, quiet_changes_none}
use Rattle.inf_laws_server.proofs.Came.{Came, Did}
use Rattle.inf_laws_server.proofs.Lookups.{lookup_comes}
use Rattle.inf_laws_server.proofs.Removals.{drop_comes, forget_comes, seal_comes, unlink_comes, unseal_comes}
use Rattle.inf_laws_server.proofs.Walking.{Comes}

-- ---- each kind of request

module _ (site : Site) (state : State) (place : ℕ) (ask : Ask) where
  change_comes : (asked : Request) → Came site state place ask asked (on_change site state ask asked)
  change_comes (request.Link chain name dir mode) = link_comes site state place ask chain name dir mode
  change_comes (request.Cancel dir) = cancel_comes site state place ask dir
  change_comes (request.Drop dir) = drop_comes site state place ask dir
  change_comes (request.Seal chain) = seal_comes site state place ask chain
  change_comes (request.Unseal dir) = unseal_comes site state place ask dir
  change_comes (request.Unlink chain) = unlink_comes site state place ask chain
  change_comes (request.Forget parent dir) = forget_comes site state place ask parent dir
  change_comes other_request = tt

  pub request_comes : (asked : Request) → Came site state place ask asked (on_request site state place ask asked)
  request_comes (request.Lookup sought) = lookup_comes site state place ask sought
  request_comes (request.Finish chain with) = op_comes site state place ask chain with
  request_comes (request.Reserve chain name) = reserve_comes site state place ask chain name
  request_comes (request.Make birth) = make_comes site state place ask birth
  request_comes other_request = change_comes other_request

-- ---- successes and failures

succeeds_not_fails : (given : Reply) (asked : Request) → Succeeds given asked → is_failure given ≡ false
succeeds_not_fails (reply.Found told access) asked succeeds = refl
succeeds_not_fails (reply.Absent born) asked succeeds = refl
succeeds_not_fails (reply.IsFile born) asked succeeds = refl
succeeds_not_fails (reply.Reserved version) asked succeeds = refl
succeeds_not_fails (reply.Stat kind meta) asked succeeds = refl
succeeds_not_fails reply.Fine asked succeeds = refl
succeeds_not_fails other_reply asked succeeds = absurd succeeds

module _ (site : Site) (state : State) (ask : Ask) (asked : Request) where
  fails_not_succeeds : (given : Reply) → Fails site state ask asked given → is_failure given ≡ true
  fails_not_succeeds reply.Other fails = refl
  fails_not_succeeds reply.Gone fails = refl
  fails_not_succeeds reply.NoDir fails = refl
  fails_not_succeeds (reply.Refused error) fails = refl
  fails_not_succeeds (reply.Busy by at born) fails = refl
  fails_not_succeeds (reply.Clash kept) fails = refl
  fails_not_succeeds other_reply fails = absurd fails

-- ---- a Serve

module _ (site : Site) (old : State) (place : ℕ) (ask : Ask) where
  abbrev asked : Request
  asked = ask.request

  done_so : (given : Reply) (new : State) → IsDone site old place ask asked given new
      → CameTo site old place ask given new
  done_so given new is = record {
    replies = inl is.succeeds;
    left = λ fails. absurd (both_ways _ (succeeds_not_fails given asked is.succeeds) fails);
    done = λ succeeds. is;
  }

  left_so : (given : Reply) (new : State) → new ≡ old → is_failure given ≡ true → MayReply site old ask asked given
      → CameTo site old place ask given new
  left_so given new same fails replies = record {
    replies = replies;
    left = λ is. same;
    done = λ succeeds. absurd (both_ways _ succeeds fails);
  }

  by_response : (given : Reply) (new : State) (comes : Result Response Reply) → Came site old place ask asked comes
      → record { reply = given; state = new } ≡ response old comes → CameTo site old place ask given new
  by_response given new (Ok end) came is =
      subst (λ (e : Response). CameTo site old place ask e.reply e.state) (sym is) (done_so end.reply end.state came)
  by_response given new (Err failure) came is =
      subst (λ (e : Response). CameTo site old place ask e.reply e.state) (sym is)
      (left_so failure old refl (fails_not_succeeds site old ask asked failure came) (inr (inl came)))

  pub came_to : (given : Reply) (new : State) → Serves site old place ask given new
      → CameTo site old place ask given new
  came_to reply.NoMem new serves = left_so reply.NoMem new serves.1 refl (inr (inr (refl, serves.0)))
  came_to other_reply new serves = by_response other_reply new _ (request_comes site old place ask asked) serves

-- ---- the machine itself

no_memory : (site : Site) (old : State) (place : ℕ) (ask : Ask) (comes : Result Response Reply)
    → Came site old place ask ask.request comes
    → (response old comes).reply ≡ reply.NoMem → ⊥
no_memory site old place ask (Ok end) came is = subst (λ (r : Reply). Succeeds r ask.request) is came.succeeds
no_memory site old place ask (Err failure) came is = subst (λ (r : Reply). Fails site old ask ask.request r) is came

pub machine_wants_none : (site : Site) (old : State) (place : ℕ) (ask : Ask)
    → (machine site old place ask).reply ≡ reply.NoMem → ⊥
machine_wants_none site old place ask = no_memory site old place ask _ (request_comes site old place ask ask.request)

serves_so : (site : Site) (old : State) (place : ℕ) (ask : Ask) (given : Reply) (new : State)
    → (given ≡ reply.NoMem → ⊥)
    → record { reply = given; state = new } ≡ machine site old place ask → Serves site old place ask given new
serves_so site old place ask reply.NoMem new not same = absurd (not refl)
serves_so site old place ask other_reply new not same = same

pub machine_serves : (site : Site) (old : State) (place : ℕ) (ask : Ask)
    → Serves site old place ask (machine site old place ask).reply (machine site old place ask).state
machine_serves site old place ask =
    serves_so site old place ask (machine site old place ask).reply (machine site old place ask).state
    (machine_wants_none site old place ask) refl

-- ---- what is read off it

module _ (site : Site) (old : State) (place : ℕ) (ask : Ask) (given : Reply) (new : State)
    (serves : Serves site old place ask given new) where
  came : CameTo site old place ask given new
  came = came_to site old place ask given new serves

  -- whatever is replied, the state is as it was, or the request was done
  pub left_or_done : (new ≡ old) ⊎ IsDone site old place ask ask.request given new
  left_or_done = by (is_failure given) refl
    where
      by : (b : Bool) → is_failure given ≡ b → (new ≡ old) ⊎ IsDone site old place ask ask.request given new
      by true fails = inl (came.left fails)
      by false succeeds = inr (came.done succeeds)

  -- a success of a request that is known
  pub was_done : (asked : Request) → ask.request ≡ asked → is_failure given ≡ false
      → IsDone site old place ask asked given new
  was_done asked is succeeds = subst (λ (r : Request). IsDone site old place ask r given new) is (came.done succeeds)

  -- what it may say
  pub may_reply : (asked : Request) (said : Reply) → ask.request ≡ asked → given ≡ said
      → MayReply site old ask asked said
  may_reply asked said is says =
      subst (λ (r : Reply). MayReply site old ask asked r) says
      (subst (λ (r : Request). MayReply site old ask r given) is came.replies)

-- a failure is told by its row
module _ (site : Site) (old : State) (ask : Ask) (asked : Request) where
  pub blocked : (by : CallRef) (at : Spot) (born : ℕ) → MayReply site old ask asked (reply.Busy by at born)
      → Blocks site old ask.from asked by at
  blocked by at born (inl succeeds) = absurd succeeds
  blocked by at born (inr (inl blocks)) = blocks
  blocked by at born (inr (inr wants)) = absurd (let is = wants.0 in cc)

  pub refused : (error : Errno) → MayReply site old ask asked (reply.Refused error) → Denies site old ask asked error
  refused error (inl succeeds) = absurd succeeds
  refused error (inr (inl denies)) = denies
  refused error (inr (inr wants)) = absurd (let is = wants.0 in cc)

  pub clashed : (kept : Triple) → MayReply site old ask asked (reply.Clash kept) → Clashes site old asked kept
  clashed kept (inl succeeds) = absurd succeeds
  clashed kept (inr (inl clashes)) = clashes
  clashed kept (inr (inr wants)) = absurd (let is = wants.0 in cc)

-- ---- what any Serve keeps

module _ (site : Site) (old : State) (place : ℕ) (ask : Ask) (given : Reply) (new : State) where
  pub done_in_order : (asked : Request) → IsDone site old place ask asked given new → AreInOrder old.contents
      → AreInOrder new.contents
  done_in_order asked is ordered =
      subst (λ (s : State). AreInOrder s.contents) (sym is.did)
      (changed_in_order (change_of site old place ask asked is.passed) old ordered)

  module _ (serves : Serves site old place ask given new) where
    pub served_in_order : AreInOrder old.contents → AreInOrder new.contents
    served_in_order ordered = by (left_or_done site old place ask given new serves)
      where
        by : (new ≡ old) ⊎ IsDone site old place ask ask.request given new → AreInOrder new.contents
        by (inl same) = subst (λ (s : State). AreInOrder s.contents) (sym same) ordered
        by (inr is) = done_in_order ask.request is ordered

    pub top_kept : new.top ≡ old.top
    top_kept = by (left_or_done site old place ask given new serves)
      where
        by : (new ≡ old) ⊎ IsDone site old place ask ask.request given new → new.top ≡ old.top
        by (inl same) = ap (λ (s : State). s.top) same
        by (inr is) =
            ap (λ (s : State). s.top) is.did ∙ changed_top (change_of site old place ask ask.request is.passed) old

    -- what tells of no change leaves the state
    pub quiet_leaves : TellsOfNoChange given → new ≡ old
    quiet_leaves quiet = by (left_or_done site old place ask given new serves)
      where
        by : (new ≡ old) ⊎ IsDone site old place ask ask.request given new → new ≡ old
        by (inl same) = same
        by (inr is) = is.did ∙ ap (λ (with : Change). changed with old)
            (quiet_changes_none site old place ask ask.request is.passed (subst TellsOfNoChange is.said quiet))

-- a request of a kind that cannot fail, where it does not stray
module _ (site : Site) (old : State) (place : ℕ) (ask : Ask) (asked : Request) (known : ask.request ≡ asked)
    (here : Strays site asked → ⊥) (no_chain : asks_chain asked ≡ false) (no_name : looks_up_name asked ≡ false)
    (allowed : (error : Errno) → Denies site old ask asked error → ⊥)
    (free : (by : CallRef) (at : Spot) → Blocks site old ask.from asked by at → ⊥)
    (alone : (kept : Triple) → Clashes site old asked kept → ⊥) (no_memory : may_want asked ≡ false) where
  no_failure : (given : Reply) → Fails site old ask asked given → ⊥
  no_failure reply.Other fails = here fails
  no_failure reply.Gone fails = both_ways _ no_chain fails
  no_failure reply.NoDir fails = both_ways _ no_name fails
  no_failure (reply.Refused error) fails = allowed error fails
  no_failure (reply.Busy by at born) fails = free by at fails
  no_failure (reply.Clash kept) fails = alone kept fails
  no_failure other_reply fails = fails

  pub always_done : (given : Reply) (new : State) → Serves site old place ask given new
      → IsDone site old place ask asked given new
  always_done given new serves =
      was_done site old place ask given new serves asked known
      (succeeds_not_fails given asked (by (may_reply site old place ask given new serves asked given known refl)))
    where
      by : MayReply site old ask asked given → Succeeds given asked
      by (inl succeeds) = succeeds
      by (inr (inl fails)) = absurd (no_failure given fails)
      by (inr (inr wants)) = absurd (both_ways _ no_memory wants.1)
