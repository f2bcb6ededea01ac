-- What a call has in hand once its group was answered: what the turn that comes of it rests on, or winds up.
use Rattle.std.proofs.Common.{◌≡◌, ℕ, Bool, true, false, if◌then◌else◌, List, [], ◌∷◌, take, Option, Some, None, refl, sym, ap, ◌∙◌, subst}
use Rattle.inf_base.specs.declared.access.Access.{Access}
use Rattle.inf_base.specs.declared.answer.Answer.TheVariants as answer
use Rattle.inf_base.specs.declared.caller.Caller.{Caller}
use Rattle.inf_base.specs.declared.directory.DirRef.{DirRef}
use Rattle.inf_base.specs.declared.entry.Entry.{Entry}
use Rattle.inf_base.specs.declared.id.Id.{Id}
use Rattle.inf_base.specs.declared.key.Key.{Key}
use Rattle.inf_base.specs.declared.key.Key.TheVariants as key
use Rattle.inf_base.specs.declared.triple.Triple.{Triple}
use Rattle.inf_base.specs.declared.triple.Triple.TheVariants as triple
use Rattle.inf_base.specs.Identity.{identity}
use Rattle.inf_base.specs.Same.{dir_of}
use Rattle.inf_flow_dir.specs.declared.dir_flow.DirFlow.TheVariants as dir_flow
use Rattle.inf_message.specs.declared.ending.Ending.TheVariants as ending
use Rattle.inf_flow_file.specs.declared.file_flow.FileFlow.TheVariants as file_flow
use Rattle.inf_duty.specs.declared.flow.Flow.TheVariants as flow
use Rattle.inf_message.specs.declared.turn.Turn.TheVariants as turn
use Rattle.inf_duty.specs.ClientState.{ClientState, Stage, act}
use Rattle.inf_duty.specs.Flow.{HasBirthId, after_reply, clean_up}
use Rattle.inf_duty.proofs.FlowFacts.{message_of}
use Rattle.inf_duty.specs.declared.course.Course.{Course}
use Rattle.inf_duty.specs.declared.course.Deed.{Deed}
use Rattle.inf_duty.specs.declared.course.Deed.TheVariants as deed
use Rattle.inf_duty.specs.Course.{flow_at, next_course}
use Rattle.inf_duty.proofs.BegunKept.{if_both}
use Rattle.inf_duty.specs.Group.{next_stage, stage_by}
use Rattle.inf_duty.specs.Turn.{known_turn, round_turn, turn_by}
use Rattle.inf_duty.specs.declared.flow.Flow.{Flow}
use Rattle.inf_flow_dir.specs.DirFlow.{forget_in, lives_at, row_of}
use Rattle.inf_message.specs.Chain.{dir_in, last_dir, way_to}
use Rattle.inf_message.specs.CleanUp.{one_by_one}
use Rattle.inf_message.specs.Sent.{is_wanting}
use Rattle.inf_message.specs.Turn.{fails, turn_as}
use Rattle.inf_message.specs.Who.{Who, birth_of, id_or_root, last_id, lift}
use Rattle.inf_message.specs.declared.turn.Turn.{Turn}
use Rattle.inf_laws_client.specs.Told.{IsIn, LinksFrom, LinksUp, chain_of}
use Rattle.inf_laws_directory.specs.At.{At}
use Rattle.inf_laws_directory.specs.Fits.{after_make as made_after, next_phase, reserved_at_end, sealed_at_end, sealed_under, unlinked_at_end}
use Rattle.inf_laws_directory.specs.Objects.{Service}
use Rattle.inf_laws_directory.specs.Owes.{MayWriteAt}
use Rattle.inf_laws_directory.specs.Phases.{Phase, has_made, has_reserved, has_sealed, has_unlinked, idle}
use Rattle.inf_laws_directory.proofs.CallFacts.{none_not_some}
use Rattle.inf_laws_directory.proofs.Chains.{less, last_of-next, last_of-one}
use Rattle.inf_laws_history.specs.Phases.{FlowHas, FlowMay, HasPhase, IsLiftedBy, Lifts, SealsIn, StageMay, lifted}
use Rattle.inf_message.specs.declared.op.Op.{Op}
use Rattle.inf_message.specs.declared.op.Op.TheVariants as op
use Rattle.inf_message.specs.declared.reply.Reply.{Reply}
use Rattle.inf_message.specs.declared.reply.Reply.TheVariants as reply
use Rattle.inf_message.specs.declared.request.Request.{Request}
use Rattle.inf_message.specs.declared.request.Request.TheVariants as request
use Rattle.inf_message.specs.declared.step.Message.{Message}
use Rattle.inf_resolve.specs.declared.known.Known.{Known}
use Rattle.inf_resolve.specs.declared.resolved.Resolved.{Resolved}
use Rattle.inf_resolve.specs.declared.resolved.Resolved.TheVariants as comes
use Rattle.inf_resolve.specs.Resolved.{resolved}
use Rattle.inf_server.specs.Chains.{before_last, last_of}

-- what the call has in hand is what the turn needs
abbrev pub TurnHas : (List ℕ → Id) → Who → Phase → Turn Stage → Type 0
TurnHas digest who phase (turn.GoesOn next) = HasPhase digest who next phase × StageMay who.caller next
TurnHas digest who phase (turn.WindsUp end more) = Lifts who.servers phase more

-- ---- clean-ups

-- what a step rests on is lifted by its clean-up
pub clean_up_lifts : (who : Who) (step : Flow) (phase : Phase) → FlowHas who step phase → Lifts who.servers phase (clean_up who step)
clean_up_lifts who (flow.File (file_flow.Finishes chain asked)) phase has = has
clean_up_lifts who (flow.Dir (dir_flow.Reserves chain name mode)) phase has = has
clean_up_lifts who (flow.Dir (dir_flow.Makes chain name mode version id)) phase has =
    subst (λ (p : Phase). Lifts who.servers p (clean_up who (flow.Dir (dir_flow.Makes chain name mode version id)))) (sym has) (refl, refl)
clean_up_lifts who (flow.Dir (dir_flow.Links chain name mode version dir)) phase has =
    subst (λ (p : Phase). Lifts who.servers p (clean_up who (flow.Dir (dir_flow.Links chain name mode version dir)))) (sym has) (refl, (refl, refl))
clean_up_lifts who (flow.Dir (dir_flow.Seals chain)) phase has = has
clean_up_lifts who (flow.Dir (dir_flow.Unlinks chain)) phase has = subst (λ (p : Phase). Lifts who.servers p (clean_up who (flow.Dir (dir_flow.Unlinks chain)))) (sym has.is) (refl, refl)

-- one message of a clean-up, done, lifts what it is to lift
pub lifted_by : (service : Service) (at : At) (servers : ℕ) (phase : Phase) (m : Message) → IsLiftedBy servers phase m
    → next_phase service at phase m.request reply.Fine ≡ lifted phase
lifted_by service at servers idle m is = ap (λ (x : Message). next_phase service at idle x.request reply.Fine) is.is
lifted_by service at servers (has_reserved parent name birth) m is =
    ap (λ (x : Message). next_phase service at (has_reserved parent name birth) x.request reply.Fine) is
lifted_by service at servers (has_made parent name birth made) m is =
    ap (λ (x : Message). next_phase service at (has_made parent name birth made) x.request reply.Fine) is
lifted_by service at servers (has_sealed parent name target) m is =
    ap (λ (x : Message). next_phase service at (has_sealed parent name target) x.request reply.Fine) is
lifted_by service at servers (has_unlinked target) m is =
    ap (λ (x : Message). next_phase service at (has_unlinked target) x.request reply.Fine) is

-- ---- after a message of a flow that does not succeed

fails_has : {F : Type 0} (wrap : F → Flow) (digest : List ℕ → Id) (who : Who) (step : Flow) (place : ℕ) (given : Reply) (phase : Phase)
    → FlowHas who step phase → TurnHas digest who phase (turn_as act (turn_as wrap (fails (clean_up who step) place given)))
fails_has wrap digest who step place (reply.Busy by at born) phase has = clean_up_lifts who step phase has
fails_has wrap digest who step place (reply.Refused error) phase has = clean_up_lifts who step phase has
fails_has wrap digest who step place reply.NoMem phase has = clean_up_lifts who step phase has
fails_has wrap digest who step place any_reply phase has = clean_up_lifts who step phase has

-- ---- after a message of each kind

-- a chain that ends has a last entry, which is a name of a directory where another is before it
pub record EndsUnder (chain : List Entry) : Type 0 where
  pub target : Entry
  pub is : last_of chain ≡ Some target
  pub dir : DirRef
  pub name : List ℕ
  pub key : target.key ≡ key.At dir name

record IsKeyAt (k : Key) : Type 0 where
  dir : DirRef
  name : List ℕ
  is : k ≡ key.At dir name

is_key_at : (dir : DirRef) (k : Key) → IsIn dir k → IsKeyAt k
is_key_at dir key.Top is = absurd is
is_key_at dir (key.At other name) is = record { dir = other; name = name; is = refl }

ends_behind : (before : Access) (first : Entry) (chain : List Entry) → IsIn (dir_of before) first.key → LinksFrom first.access chain → EndsUnder (first ∷ chain)
ends_behind before first [] at linked =
    let keyed = is_key_at (dir_of before) first.key at in
    record { target = first; is = last_of-one first; dir = keyed.dir; name = keyed.name; key = keyed.is }
ends_behind before first (e ∷ es) at linked =
    let rest = ends_behind first.access e es linked.0 linked.1 in
    record { target = rest.target; is = last_of-next first e es ∙ rest.is; dir = rest.dir; name = rest.name; key = rest.key }

none_before : (only parent : Entry) → last_of (before_last (only ∷ [])) ≡ Some parent → ⊥
none_before only parent is = none_not_some (last_of (before_last (only ∷ []))) parent (ap (λ (n : ℕ). last_of (take n (only ∷ []))) (less 0)) is

pub ends_under : (chain : List Entry) (parent : Entry) → LinksUp chain → last_of (before_last chain) ≡ Some parent → EndsUnder chain
ends_under [] parent linked is = absurd linked
ends_under (e ∷ []) parent linked is = absurd (none_before e parent is)
ends_under (e ∷ next ∷ es) parent linked is =
    let rest = ends_behind e.access next es linked.1.0 linked.1.1 in
    record { target = rest.target; is = last_of-next e next es ∙ rest.is; dir = rest.dir; name = rest.name; key = rest.key }

reserved_same : (who : Who) (found : Option Entry) (last : Entry) (phase : Phase) (name : List ℕ) (version : ℕ) → found ≡ Some last
    → reserved_at_end found phase name version ≡ has_reserved (dir_in found) name (triple.Of (id_or_root who found) name version)
reserved_same who None last phase name version is = absurd cc
reserved_same who (Some entry) last phase name version is = refl

sealed_key : (parent : Entry) (phase : Phase) (k : Key) (access : Access) (dir : DirRef) (name : List ℕ) → k ≡ key.At dir name
    → sealed_under (Some parent) phase k access ≡ has_sealed (dir_of parent.access) name (dir_of access)
sealed_key parent phase key.Top access dir name is = absurd cc
sealed_key parent phase (key.At other here) access dir name is =
    let same : here ≡ name = cc in ap (λ (n : List ℕ). has_sealed (dir_of parent.access) n (dir_of access)) same

sealed_same : (above found : Option Entry) (phase : Phase) (parent target : Entry) (dir : DirRef) (name : List ℕ) → above ≡ Some parent → found ≡ Some target
    → target.key ≡ key.At dir name → sealed_at_end above found phase ≡ has_sealed (dir_in above) name (dir_in found)
sealed_same None found phase parent target dir name over is keyed = absurd cc
sealed_same (Some first) None phase parent target dir name over is keyed = absurd cc
sealed_same (Some first) (Some last) phase parent target dir name over is keyed =
    let same : last ≡ target = cc in
    sealed_key first phase last.key last.access dir name (ap (λ (e : Entry). e.key) same ∙ keyed)

forgets_lift : (who : Who) (dir : DirRef) (birth : Triple) (b : Bool) → Lifts who.servers idle (one_by_one (if b then [] else forget_in who dir birth))
forgets_lift who dir triple.Root true = refl
forgets_lift who dir triple.Root false = refl
forgets_lift who dir (triple.Of parent name version) true = refl
forgets_lift who dir (triple.Of parent name version) false = (record { parent = parent; dir = dir; is = refl }, refl)

unlinked_lifts : (who : Who) (parent : Id) (found : Option Entry) (target : Entry) (phase : Phase) → found ≡ Some target
    → Lifts who.servers (unlinked_at_end found phase) (one_by_one (lift who (dir_in found) request.Drop ∷ row_of who parent found))
unlinked_lifts who parent None target phase is = absurd cc
unlinked_lifts who parent (Some entry) target phase is =
    (refl, forgets_lift who (dir_of entry.access) entry.access.birth (lives_at parent entry.key entry.access.birth))

-- what is asked of a reply: a name is kept, and a directory sealed, for a caller that may write there
pub record MayGoOn (caller : Caller) (asked : Request) (given : Reply) : Type 0 where
  pub reserves : (chain : List Entry) (name : List ℕ) (version : ℕ) → asked ≡ request.Reserve chain name → given ≡ reply.Reserved version
      → MayWriteAt caller chain
  pub seals : (chain : List Entry) → asked ≡ request.Seal chain → given ≡ reply.Fine → MayWriteAt caller (before_last chain)

module _ (service : Service) (who : Who) (at : At) (phase : Phase) where
  abbrev Comes : Flow → Reply → Type 0
  Comes step given =
      TurnHas service.digest who (next_phase service at phase (message_of who step).request given)
      (turn_as act (after_reply service.digest who step at.ask_place at.serve_place given))

  finish_has : (chain : List Entry) (asked : Op) (given : Reply) → FlowHas who (flow.File (file_flow.Finishes chain asked)) phase → Comes (flow.File (file_flow.Finishes chain asked)) given
  finish_has chain (op.Create name mode) reply.Fine has = has
  finish_has chain (op.Stat name) (reply.Stat kind meta) has = has
  finish_has chain asked given has = fails_has flow.File service.digest who (flow.File (file_flow.Finishes chain asked)) at.serve_place given phase has

  reserve_has : (chain : List Entry) (name : List ℕ) (mode : ℕ) (given : Reply) → FlowHas who (flow.Dir (dir_flow.Reserves chain name mode)) phase
      → ((version : ℕ) → given ≡ reply.Reserved version → MayWriteAt who.caller chain) → Comes (flow.Dir (dir_flow.Reserves chain name mode)) given
  reserve_has chain name mode (reply.Reserved version) has may =
      let writes = may version refl in
      ((reserved_same who (last_of chain) writes.last phase name version writes.ends, refl), writes)
  reserve_has chain name mode given has may =
      fails_has flow.Dir service.digest who (flow.Dir (dir_flow.Reserves chain name mode)) at.serve_place given phase has

  make_has : (chain : List Entry) (name : List ℕ) (mode version : ℕ) (id : Id) (given : Reply) → FlowHas who (flow.Dir (dir_flow.Makes chain name mode version id)) phase
      → id ≡ identity service.digest (birth_of who chain name version) → FlowMay who.caller (flow.Dir (dir_flow.Makes chain name mode version id))
      → Comes (flow.Dir (dir_flow.Makes chain name mode version id)) given
  make_has chain name mode version id reply.Fine has of_birth may = (
    (
      ap (made_after service at) has
          ∙ ap (λ (i : Id). has_made (last_dir chain) name (birth_of who chain name version)
          (record { id = i; born = at.ask_place })) (sym of_birth),
      of_birth,
    ),
    may,
  )
  make_has chain name mode version id (reply.Clash kept) has of_birth may = clean_up_lifts who (flow.Dir (dir_flow.Makes chain name mode version id)) phase has
  make_has chain name mode version id given has of_birth may =
      fails_has flow.Dir service.digest who (flow.Dir (dir_flow.Makes chain name mode version id)) at.serve_place given phase has

  link_has : (chain : List Entry) (name : List ℕ) (mode version : ℕ) (dir : DirRef) (given : Reply) → FlowHas who (flow.Dir (dir_flow.Links chain name mode version dir)) phase
      → Comes (flow.Dir (dir_flow.Links chain name mode version dir)) given
  link_has chain name mode version dir reply.Fine has = refl
  link_has chain name mode version dir given has =
      fails_has flow.Dir service.digest who (flow.Dir (dir_flow.Links chain name mode version dir)) at.serve_place given phase has

  seal_has : (chain : List Entry) (given : Reply) → FlowHas who (flow.Dir (dir_flow.Seals chain)) phase → LinksUp chain
      → (given ≡ reply.Fine → MayWriteAt who.caller (before_last chain)) → Comes (flow.Dir (dir_flow.Seals chain)) given
  seal_has chain reply.Fine has up may =
      let writes = may refl in
      let under = ends_under chain writes.last up writes.ends in
      let sealed : SealsIn chain (next_phase service at phase (request.Seal chain) reply.Fine) = record {
        name = under.name;
        is = sealed_same (last_of (before_last chain)) (last_of chain) phase
            writes.last under.target under.dir under.name writes.ends under.is under.key;
      } in
      ((sealed, tt), writes)
  seal_has chain given has up may = fails_has flow.Dir service.digest who (flow.Dir (dir_flow.Seals chain)) at.serve_place given phase has

  unlink_has : (chain : List Entry) (given : Reply) → FlowHas who (flow.Dir (dir_flow.Unlinks chain)) phase → LinksUp chain → FlowMay who.caller (flow.Dir (dir_flow.Unlinks chain))
      → Comes (flow.Dir (dir_flow.Unlinks chain)) given
  unlink_has chain reply.Fine has up may =
      let under = ends_under chain may.last up may.ends in
      unlinked_lifts who (last_id who (way_to chain)) (last_of chain) under.target phase under.is
  unlink_has chain given has up may = fails_has flow.Dir service.digest who (flow.Dir (dir_flow.Unlinks chain)) at.serve_place given phase has

  -- whatever is replied to a flow's message, the turn needs what is in hand then
  pub act_has : (step : Flow) (given : Reply) → FlowHas who step phase → HasBirthId service.digest who step → FlowMay who.caller step → LinksUp (chain_of step)
      → MayGoOn who.caller (message_of who step).request given → Comes step given
  act_has (flow.File (file_flow.Finishes chain asked)) given has of_birth may up goes = finish_has chain asked given has
  act_has (flow.Dir (dir_flow.Reserves chain name mode)) given has of_birth may up goes =
      reserve_has chain name mode given has (λ version is. goes.reserves chain name version refl is)
  act_has (flow.Dir (dir_flow.Makes chain name mode version id)) given has of_birth may up goes = make_has chain name mode version id given has of_birth may
  act_has (flow.Dir (dir_flow.Links chain name mode version dir)) given has of_birth may up goes = link_has chain name mode version dir given has
  act_has (flow.Dir (dir_flow.Seals chain)) given has of_birth may up goes = seal_has chain given has up (λ is. goes.seals chain refl is)
  act_has (flow.Dir (dir_flow.Unlinks chain)) given has of_birth may up goes = unlink_has chain given has up may

-- ---- after a round, and before what follows it

module _ (digest : List ℕ → Id) (who : Who) (phase : Phase) (none : phase ≡ idle) where
  abbrev Opens : Stage → Type 0
  Opens stage = HasPhase digest who stage phase × StageMay who.caller stage

  -- a flow begins with nothing in hand
  flow_opens : (what : Deed) (chain : List Entry) (left : List (List ℕ)) → Opens (act (flow_at what chain left))
  flow_opens (deed.Create name mode) chain [] = ((none, tt), tt)
  flow_opens (deed.Stat name) chain [] = ((none, tt), tt)
  flow_opens (deed.Mkdir name mode) chain [] = ((none, tt), tt)
  flow_opens deed.Rmdir chain [] = ((none, tt), tt)
  flow_opens deed.Rmdir chain (name ∷ []) = ((none, tt), tt)
  flow_opens deed.Rmdir chain (name ∷ next ∷ rest) = ((none, tt), tt)
  flow_opens (deed.Create last mode) chain (name ∷ rest) = ((none, tt), tt)
  flow_opens (deed.Stat last) chain (name ∷ rest) = ((none, tt), tt)
  flow_opens (deed.Mkdir last mode) chain (name ∷ rest) = ((none, tt), tt)

  stage_opens : (what : Deed) (r : Resolved) → Opens (stage_by what r)
  stage_opens what (comes.Asks keys) = (none, tt)
  stage_opens what (comes.Leads old new) = flow_opens what old.chain old.left
  stage_opens what (comes.IsBusy by place) = (none, tt)
  stage_opens what comes.Lacks = (none, tt)

  pub next_opens : (known : List Known) (found : Option Course) → Opens (next_stage digest who known found)
  next_opens known None = (none, tt)
  next_opens known (Some course) = stage_opens course.deed (resolved digest who.root course.looked known)

  resolved_has : (r : Resolved) → TurnHas digest who phase (turn_by r)
  resolved_has (comes.Asks keys) = (none, tt)
  resolved_has (comes.Leads old new) = (none, tt)
  resolved_has (comes.IsBusy by place) = none
  resolved_has comes.Lacks = none

  known_has : (known : List Known) (found : Option Course) → TurnHas digest who phase (known_turn digest who known found)
  known_has known None = none
  known_has known (Some course) = resolved_has (resolved digest who.root course.looked known)

pub round_has : (digest : List ℕ → Id) (s : ClientState) (phase : Phase) → phase ≡ idle
    → TurnHas digest s.who phase (round_turn digest s)
round_has digest s phase none =
    if_both (TurnHas digest s.who phase) (is_wanting s.sent) (turn.WindsUp (ending.Answers answer.NoMemory None) [])
    (known_turn digest s.who s.known (next_course s.left)) none
    (known_has digest s.who phase none s.known (next_course s.left))
