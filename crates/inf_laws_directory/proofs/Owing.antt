-- What is owed for a request, by what came of it.
use Rattle.std.proofs.Common.{◌≡◌, ◌⊎◌, inl, inr, ℕ, Result, Ok, Err, refl, sym, ap, ◌∙◌, subst}
use Rattle.inf_base.specs.declared.access.Access.{Access}
use Rattle.inf_base.specs.declared.call.Call.{Call}
use Rattle.inf_base.specs.declared.caller.Caller.{Caller}
use Rattle.inf_base.specs.declared.errno.Errno.{Errno}
use Rattle.inf_base.specs.declared.key.LookKey.{LookKey}
use Rattle.inf_message.specs.declared.ask.Ask.{Ask}
use Rattle.inf_message.specs.declared.op.Op.TheVariants as op
use Rattle.inf_message.specs.declared.reply.Reply.{Reply}
use Rattle.inf_message.specs.declared.reply.Reply.TheVariants as reply
use Rattle.inf_message.specs.declared.request.Request.{Request}
use Rattle.inf_message.specs.declared.request.Request.TheVariants as request
use Rattle.inf_server.specs.Machine.{Serves, on_request}
use Rattle.inf_server.specs.Response.{Response, response}
use Rattle.inf_server.specs.State.{Site, State}
use Rattle.inf_tree.specs.Tree.{Node}
use Rattle.inf_laws_server.specs.CameTo.{IsDone}
use Rattle.inf_laws_server.specs.Denied.{Denies}
use Rattle.inf_laws_server.specs.Replies.{Fails, Succeeds}
use Rattle.inf_laws_server.proofs.Came.{Came, failed}
use Rattle.inf_laws_directory.specs.At.{At}
use Rattle.inf_laws_directory.specs.Fits.{next_phase}
use Rattle.inf_laws_directory.specs.Objects.{Objects, Service, content_in, site_in, with_state}
use Rattle.inf_laws_directory.specs.Owes.{Goes, Moment, Owes}
use Rattle.inf_laws_directory.specs.Phases.{Phase, Phases, with_phase}
use Rattle.inf_laws_directory.specs.Replays.{IsRefused}
use Rattle.inf_laws_directory.specs.Standing.{GoesOn, GoesOnOlder, IsStanding}
use Rattle.inf_laws_directory.specs.Stands.{Stands}
use Rattle.inf_laws_directory.proofs.CallFacts.{same_phases}
use Rattle.inf_laws_directory.proofs.SameContents.{kept_stay}
use Rattle.inf_laws_directory.proofs.StandingFacts.{goes_on_unseen}

-- what tells that nothing was done, and of nothing that stands
abbrev pub LeavesAll : Reply → Type 0
LeavesAll reply.Fine = ⊥
LeavesAll (reply.Reserved version) = ⊥
LeavesAll (reply.Stat kind meta) = ⊥
LeavesAll other_reply = Unit {0}

failures_leave : (site : Site) (state : State) (ask : Ask) (requested : Request) (given : Reply) → Fails site state ask requested given → LeavesAll given
failures_leave site state ask requested reply.Fine fails = fails
failures_leave site state ask requested (reply.Reserved version) fails = fails
failures_leave site state ask requested (reply.Stat kind meta) fails = fails
failures_leave site state ask requested other_reply fails = tt

-- a lookup that is done only tells
lookups_leave : (sought : LookKey) (given : Reply) → Succeeds given (request.Lookup sought) → LeavesAll given
lookups_leave sought reply.Fine succeeds = cc
lookups_leave sought (reply.Reserved version) succeeds = cc
lookups_leave sought (reply.Stat kind meta) succeeds = cc
lookups_leave sought other_reply succeeds = tt

-- what tells of nothing done leaves the phase
phase_stays : (service : Service) (at : At) (phase : Phase) (asked : Request) (given : Reply) → LeavesAll given
    → next_phase service at phase asked given ≡ phase
phase_stays service at phase (request.Reserve chain name) (reply.Reserved version) leaves = absurd leaves
phase_stays service at phase (request.Reserve chain name) other_reply leaves = refl
phase_stays service at phase (request.Make birth) reply.Fine leaves = absurd leaves
phase_stays service at phase (request.Make birth) other_reply leaves = refl
phase_stays service at phase (request.Link chain name dir mode) reply.Fine leaves = absurd leaves
phase_stays service at phase (request.Link chain name dir mode) other_reply leaves = refl
phase_stays service at phase (request.Cancel dir) reply.Fine leaves = absurd leaves
phase_stays service at phase (request.Cancel dir) other_reply leaves = refl
phase_stays service at phase (request.Drop dir) reply.Fine leaves = absurd leaves
phase_stays service at phase (request.Drop dir) other_reply leaves = refl
phase_stays service at phase (request.Seal chain) reply.Fine leaves = absurd leaves
phase_stays service at phase (request.Seal chain) other_reply leaves = refl
phase_stays service at phase (request.Unlink chain) reply.Fine leaves = absurd leaves
phase_stays service at phase (request.Unlink chain) other_reply leaves = refl
phase_stays service at phase (request.Unseal dir) reply.Fine leaves = absurd leaves
phase_stays service at phase (request.Unseal dir) other_reply leaves = refl
phase_stays service at phase other_request given leaves = refl

-- what tells of nothing done owes that all goes on, and that the tree refuses what is refused
owes_kept : (m : Moment) (caller : Caller) (asked : Call) (requested : Request) (given : Reply) → LeavesAll given
    → ((error : Errno) → given ≡ reply.Refused error → IsRefused m.tree caller asked error) → Goes m → Owes m caller asked requested given
owes_kept m caller asked requested (reply.Refused error) leaves refused goes = (refused error refl, goes)
owes_kept m caller asked requested reply.Fine leaves refused goes = absurd leaves
owes_kept m caller asked requested (reply.Stat kind meta) leaves refused goes = absurd leaves
owes_kept m caller asked (request.Finish chain (op.Create name mode)) other_reply leaves refused goes = goes
owes_kept m caller asked (request.Finish chain (op.Stat name)) other_reply leaves refused goes = goes
owes_kept m caller asked (request.Finish chain other_op) other_reply leaves refused goes = goes
owes_kept m caller asked other_request other_reply leaves refused goes = goes

pub older : (service : Service) (place : ℕ) (old new : Objects) (root : Access) (tree : Node) (before after : Phases)
    → GoesOn service old new root tree before after → GoesOnOlder service place old new root tree before after
older service place old new root tree before after goes = record {
  standing = goes.standing;
  keeps = record { owned = goes.keeps.owned; told = λ key access apart told. goes.keeps.told key access told };
}

abbrev pub WasServed : State → Result Response Reply → Reply → State → Type 0
WasServed state served given new = ((given ≡ reply.NoMem) × (new ≡ state)) ⊎ (record { reply = given; state = new } ≡ response state served)

pub was_served : (service : Service) (objects : Objects) (at : At) (ask : Ask) (given : Reply) (new : State)
    → Serves (site_in service at.number) (objects at.number) at.ask_place ask given new
    → WasServed (objects at.number)
    (on_request (site_in service at.number) (objects at.number) at.ask_place ask ask.request) given new
was_served service objects at ask reply.NoMem new serves = inl (refl, serves.1)
was_served service objects at ask other_reply new serves = inr serves

module _ (service : Service) (objects : Objects) (at : At) (root : Access) (tree : Node) (phases : Phases) (ask : Ask)
    (given : Reply) (new : State) (standing : IsStanding service objects root tree phases)
    (unseen : new.contents ≡ (objects at.number).contents
    → Stands (content_in service (with_state at.number new objects)) root tree) where
  abbrev site : Site
  site = site_in service at.number

  abbrev state : State
  state = objects at.number

  abbrev next : Objects
  next = with_state at.number new objects

  abbrev moment : Phase → Request → Reply → Moment
  moment phase requested given = record {
    service = service;
    at = at;
    old = objects;
    new = next;
    root = root;
    tree = tree;
    before = phases;
    after = with_phase ask.from (next_phase service at phase requested given) phases;
  }

  abbrev pub IsOwed : Phase → Request → Call → Reply → Type 0
  IsOwed phase requested asked given = Owes (moment phase requested given) ask.caller asked requested given

  abbrev served_of : Request → Result Response Reply
  served_of requested = on_request site state at.ask_place ask requested

  abbrev IsGivenBy : Request → Type 0
  IsGivenBy requested = served_of requested ≡ Ok (record { reply = given; state = new })

  module _ (phase : Phase) (in_hand : phases ask.from ≡ phase) (requested : Request) (asked : Call) where
    all_kept : LeavesAll given → new.contents ≡ state.contents
        → ((error : Errno) → given ≡ reply.Refused error → IsRefused tree ask.caller asked error) → IsOwed phase requested asked given
    all_kept leaves same refused =
        let goes : GoesOn service objects next root tree phases phases =
        goes_on_unseen service objects next root tree phases phases standing.sorted (unseen same)
        (kept_stay service objects at.number new same root phases standing.owned) in
        let stays : with_phase ask.from (next_phase service at phase requested given) phases ≡ phases =
        ap (λ (p : Phase). with_phase ask.from p phases)
        (phase_stays service at phase requested given leaves ∙ sym in_hand) ∙ same_phases ask.from phases in
        owes_kept (moment phase requested given) ask.caller asked requested given leaves refused
        (subst (λ (after : Phases). GoesOnOlder service at.ask_place objects next root tree phases after) (sym stays)
        (older service at.ask_place objects next root tree phases phases goes))

    -- by the checks: those that fail, and what comes of those that pass
    by_checks : (served : Result Response Reply) → Came site state at.ask_place ask requested served
        → ((error : Errno) → served ≡ Err (reply.Refused error) → IsRefused tree ask.caller asked error)
        → (served ≡ Ok (record { reply = given; state = new })
        → IsDone site state at.ask_place ask requested given new → IsOwed phase requested asked given)
        → record { reply = given; state = new } ≡ response state served → IsOwed phase requested asked given
    by_checks (Ok end) came refused passes is =
        passes (ap Ok (sym is))
        (subst (λ (e : Response). IsDone site state at.ask_place ask requested e.reply e.state) (sym is) came)
    by_checks (Err refusal) came refused passes is =
        let reply_is : given ≡ refusal = ap (λ (r : Response). r.reply) is in
        let state_is : new ≡ state = ap (λ (r : Response). r.state) is in
        all_kept (subst (λ (r : Reply). LeavesAll r) (sym reply_is)
        (failures_leave site state ask requested refusal came)) (ap (λ (s : State). s.contents) state_is)
        (λ error refuses. refused error (ap Err (sym reply_is ∙ refuses)))

    abbrev CameSo : Type 0
    CameSo = Came site state at.ask_place ask requested (served_of requested)

    abbrev IsDoneSo : Type 0
    IsDoneSo = IsDone site state at.ask_place ask requested given new

    pub settles : WasServed state (served_of requested) given new → CameSo
        → ((error : Errno) → served_of requested ≡ Err (reply.Refused error) → IsRefused tree ask.caller asked error)
        → (IsGivenBy requested → IsDoneSo → IsOwed phase requested asked given) → IsOwed phase requested asked given
    settles (inl wants) came refused passes =
        all_kept (subst (λ (r : Reply). LeavesAll r) (sym wants.0) tt) (ap (λ (s : State). s.contents) wants.1)
        (λ error refuses. (let not : reply.NoMem ≡ reply.Refused error = sym wants.0 ∙ refuses in cc))
    settles (inr served) came refused passes = by_checks (served_of requested) came refused passes served

    pub settles_fine : WasServed state (served_of requested) given new → CameSo → (IsDoneSo → given ≡ reply.Fine)
        → ((error : Errno) → served_of requested ≡ Err (reply.Refused error) → IsRefused tree ask.caller asked error)
        → (IsGivenBy requested → IsDoneSo → IsOwed phase requested asked reply.Fine) → IsOwed phase requested asked given
    settles_fine served came fine refused passes =
        settles served came refused (λ is done. subst (λ (r : Reply). IsOwed phase requested asked r) (sym (fine done)) (passes is done))

    -- what is never refused
    never : CameSo → ((error : Errno) → Denies site state ask requested error → ⊥)
        → (error : Errno) → served_of requested ≡ Err (reply.Refused error) → IsRefused tree ask.caller asked error
    never came denies error is =
        absurd (denies error
        (failed site state at.ask_place ask requested (served_of requested) came (reply.Refused error) is))

    pub settles_fine_always : WasServed state (served_of requested) given new → CameSo → (IsDoneSo → given ≡ reply.Fine)
        → ((error : Errno) → Denies site state ask requested error → ⊥)
        → (IsGivenBy requested → IsDoneSo → IsOwed phase requested asked reply.Fine) → IsOwed phase requested asked given
    settles_fine_always served came fine denies passes = settles_fine served came fine (never came denies) passes

  pub only_tells : (phase : Phase) (in_hand : phases ask.from ≡ phase) (sought : LookKey) (asked : Call)
      → WasServed state (served_of (request.Lookup sought)) given new
      → Came site state at.ask_place ask (request.Lookup sought) (served_of (request.Lookup sought))
      → IsOwed phase (request.Lookup sought) asked given
  only_tells phase in_hand sought asked served came =
      settles phase in_hand (request.Lookup sought) asked served came
      (never phase in_hand (request.Lookup sought) asked came (λ error denies. denies)) (λ is done.
      all_kept phase in_hand (request.Lookup sought) asked (lookups_leave sought given done.succeeds)
      (ap (λ (s : State). s.contents) done.did)
      (λ error refuses. absurd (subst (λ (r : Reply). Succeeds r (request.Lookup sought)) refuses done.succeeds)))
