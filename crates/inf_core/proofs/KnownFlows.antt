-- What clients send is built, along short chains and to a server that is there: flows, and the courses of paths.
use Rattle.std.proofs.Common.{◌≡◌, ℕ, ◌+◌, ◌<◌, ◌≤◌, Bool, true, false, if◌then◌else◌, List, [], ◌∷◌, length, Option, None, Some, Result, Ok, Err, refl, subst, nat_le, nat_lt, All, arith, rules}
use Rattle.std.proofs.lemmas.Bool.Decides.{nat_tests}
use Rattle.inf_base.specs.declared.call.Call.{Call}
use Rattle.inf_base.specs.declared.call.Call.TheVariants as call
use Rattle.inf_base.specs.declared.directory.DirRef.{DirRef}
use Rattle.inf_base.specs.declared.entry.Entry.{Entry}
use Rattle.inf_base.specs.declared.errno.Errno.{Errno}
use Rattle.inf_base.specs.declared.errno.Errno.TheVariants as errno
use Rattle.inf_base.specs.declared.id.Id.{Id}
use Rattle.inf_base.specs.declared.limits.TheConstants.{MOST_NAME_BYTES, MOST_PATH_NAMES}
use Rattle.inf_base.specs.declared.triple.Triple.{Triple}
use Rattle.inf_base.specs.declared.triple.Triple.TheVariants as triple
use Rattle.inf_base.specs.Path.{first_fault, is_absolute, is_reserved, name_fault, or_later, path_of, pieces_of, unless_at_fault}
use Rattle.inf_base.specs.Same.{dir_of}
use Rattle.inf_duty.specs.Duty.{asked}
use Rattle.inf_flow_dir.specs.declared.dir_flow.DirFlow.TheVariants as dir_flow
use Rattle.inf_flow_file.specs.declared.file_flow.FileFlow.TheVariants as file_flow
use Rattle.inf_duty.specs.declared.flow.Flow.TheVariants as flow
use Rattle.inf_duty.specs.ClientState.{Stage}
use Rattle.inf_duty.specs.Flow.{after_act, clean_up, messages_of}
use Rattle.inf_duty.specs.Group.{next_stage, stage_by}
use Rattle.inf_duty.specs.declared.course.Course.{Course}
use Rattle.inf_duty.specs.declared.course.Deed.{Deed}
use Rattle.inf_duty.specs.declared.course.Deed.TheVariants as deed
use Rattle.inf_duty.specs.Course.{course_at, course_in, flow_at, next_course, split, text_of}
use Rattle.inf_duty.specs.declared.flow.Flow.{Flow}
use Rattle.inf_flow_dir.specs.declared.dir_flow.DirFlow.{DirFlow}
use Rattle.inf_flow_dir.specs.DirFlow.{after as after_dir, after_reply as dir_reply, after_unlink, clean_up as dir_clean_up, forget_in, lives_at, row_of}
use Rattle.inf_message.specs.declared.reply.Reply.{Reply}
use Rattle.inf_message.specs.declared.reply.Reply.TheVariants as reply
use Rattle.inf_message.specs.CleanUp.{one_by_one}
use Rattle.inf_duty.specs.Keeps.{FlowKeeps, StageFits, TurnFits}
use Rattle.inf_duty.proofs.KeepsFacts.{either_keeps, fails_fits, keeps_by}
use Rattle.inf_message.specs.Chain.{last_dir, last_entry, way_to}
use Rattle.inf_message.specs.Who.{Who, birth_of, last_id, lift, to}
use Rattle.inf_message.specs.declared.turn.Turn.{Turn}
use Rattle.inf_duty.proofs.BegunKept.{if_both}
use Rattle.inf_message.specs.declared.request.Request.{Request}
use Rattle.inf_message.specs.declared.request.Request.TheVariants as request
use Rattle.inf_message.specs.declared.step.Message.{Message}
use Rattle.inf_resolve.specs.declared.known.Known.{Known}
use Rattle.inf_resolve.specs.declared.resolved.Resolved.{Resolved}
use Rattle.inf_resolve.specs.declared.resolved.Resolved.TheVariants as comes
use Rattle.inf_resolve.specs.Chain.{IsChain, LeadsAlong}
use Rattle.inf_resolve.specs.Resolved.{resolved}
use Rattle.inf_resolve.proofs.LedFacts.{old_is_chain}
use Rattle.inf_server.specs.Chains.{HasShortChains}
use Rattle.inf_server.specs.Machine.{is_built, is_built_op}

-- ---- messages

-- what servers may be asked, of so many beside the coordinator
pub record IsKnown (servers number : ℕ) (asked : Request) : Type 0 where
  pub built : is_built asked ≡ true
  pub short_chains : HasShortChains asked
  pub there : 1 ≤ servers → number < servers

abbrev pub IsKnownMessage : ℕ → Message → Type 0
IsKnownMessage servers m = IsKnown servers m.number m.request

abbrev pub AreKnown : ℕ → List Message → Type 0
AreKnown servers [] = Unit {0}
AreKnown servers (m ∷ ms) = IsKnownMessage servers m × AreKnown servers ms

-- steps of such messages
abbrev pub AreKnownSteps : Who → List (List Message) → Type 0
AreKnownSteps who [] = Unit {0}
AreKnownSteps who (ms ∷ later) = AreKnown who.servers ms × AreKnownSteps who later

single_known : (who : Who) (ms : List Message) → AreKnown who.servers ms → AreKnownSteps who (one_by_one ms)
single_known who [] are = tt
single_known who (m ∷ ms) are = ((are.0, tt), single_known who ms are.1)

-- the server that keeps an identifier is there
pub known : (who : Who) (id : Id) (asked : Request) → is_built asked ≡ true → HasShortChains asked → IsKnownMessage who.servers (to who id asked)
known who id asked built short = record { built = built; short_chains = short; there = λ some. omega arith }

abbrev pub IsShort : List Entry → Type 0
IsShort chain = length chain ≤ MOST_PATH_NAMES + 1

abbrev pub AreShort : List (List Entry) → Type 0
AreShort chains = All (λ (chain : List Entry). length chain ≤ MOST_PATH_NAMES + 1) chains

pub no_chain : AreShort []
no_chain = search rules

one_chain : (chain : List Entry) → IsShort chain → AreShort (chain ∷ [])
one_chain chain short = search (rules, arith)

-- ---- flows

abbrev pub IsKnownFlow : Flow → Type 0
IsKnownFlow (flow.File (file_flow.Finishes chain what)) = IsShort chain × (is_built_op what ≡ true)
IsKnownFlow (flow.Dir (dir_flow.Reserves chain name mode)) = IsShort chain
IsKnownFlow (flow.Dir (dir_flow.Makes chain name mode version id)) = IsShort chain
IsKnownFlow (flow.Dir (dir_flow.Links chain name mode version dir)) = IsShort chain
IsKnownFlow (flow.Dir (dir_flow.Seals chain)) = IsShort chain
IsKnownFlow (flow.Dir (dir_flow.Unlinks chain)) = IsShort chain

module _ (who : Who) where
  pub flow_known : (step : Flow) → IsKnownFlow step → AreKnown who.servers (messages_of who step)
  flow_known (flow.File (file_flow.Finishes chain with)) is =
      (known who (last_id who chain) (request.Finish chain with) is.1 (one_chain chain is.0), tt)
  flow_known (flow.Dir (dir_flow.Reserves chain name mode)) is =
      (known who (last_id who chain) (request.Reserve chain name) refl (one_chain chain is), tt)
  flow_known (flow.Dir (dir_flow.Makes chain name mode version id)) is =
      (known who id (request.Make (birth_of who chain name version)) refl no_chain, tt)
  flow_known (flow.Dir (dir_flow.Links chain name mode version dir)) is =
      (known who (last_id who chain) (request.Link chain name dir mode) refl (one_chain chain is), tt)
  flow_known (flow.Dir (dir_flow.Seals chain)) is =
      (known who (last_id who chain) (request.Seal chain) refl (one_chain chain is), tt)
  flow_known (flow.Dir (dir_flow.Unlinks chain)) is =
      (known who (last_id who (way_to chain)) (request.Unlink chain) refl (one_chain chain is), tt)

  cancel_known : (dir : DirRef) → IsKnownMessage who.servers (lift who dir request.Cancel)
  cancel_known dir = known who dir.id (request.Cancel dir) refl no_chain

  drop_known : (dir : DirRef) → IsKnownMessage who.servers (lift who dir request.Drop)
  drop_known dir = known who dir.id (request.Drop dir) refl no_chain

  unseal_known : (dir : DirRef) → IsKnownMessage who.servers (lift who dir request.Unseal)
  unseal_known dir = known who dir.id (request.Unseal dir) refl no_chain

  clean_up_known : (step : DirFlow) → AreKnownSteps who (dir_clean_up who step)
  clean_up_known (dir_flow.Reserves chain name mode) = tt
  clean_up_known (dir_flow.Makes chain name mode version id) =
      single_known who (lift who (last_dir chain) request.Cancel ∷ []) (cancel_known (last_dir chain), tt)
  clean_up_known (dir_flow.Links chain name mode version dir) =
      single_known who (lift who dir request.Drop ∷ lift who (last_dir chain) request.Cancel ∷ [])
      (drop_known dir, (cancel_known (last_dir chain), tt))
  clean_up_known (dir_flow.Seals chain) = tt
  clean_up_known (dir_flow.Unlinks chain) =
      single_known who (lift who (last_dir chain) request.Unseal ∷ []) (unseal_known (last_dir chain), tt)

  forget_known : (dir : DirRef) (birth : Triple) → AreKnown who.servers (forget_in who dir birth)
  forget_known dir triple.Root = tt
  forget_known dir (triple.Of parent name version) = (known who parent (request.Forget parent dir) refl no_chain, tt)

  row_known : (parent : Id) (last : Option Entry) → AreKnown who.servers (row_of who parent last)
  row_known parent None = tt
  row_known parent (Some entry) =
      if_both (AreKnown who.servers) (lives_at parent entry.key entry.access.birth) _ _ tt (forget_known (dir_of entry.access) entry.access.birth)

  after_unlink_known : (chain : List Entry) → AreKnownSteps who (after_unlink who chain)
  after_unlink_known chain =
      single_known who
      (lift who (last_dir chain) request.Drop ∷ row_of who (last_id who (way_to chain)) (last_entry chain))
      (drop_known (last_dir chain), row_known (last_id who (way_to chain)) (last_entry chain))

  -- ---- what comes of the answers to a step

  abbrev DirTurnKnown : Turn DirFlow → Type 0
  DirTurnKnown t = TurnFits DirFlow (λ (step : DirFlow). IsKnownFlow (flow.Dir step)) (AreKnownSteps who) t

  module _ (digest : List ℕ → Id) where
    dir_turns : (step : DirFlow) (ask_place place : ℕ) (given : Reply) → IsKnownFlow (flow.Dir step)
        → DirTurnKnown (dir_reply digest who step ask_place place given)
    dir_turns (dir_flow.Reserves chain name mode) ask_place place (reply.Reserved version) is = is
    dir_turns (dir_flow.Makes chain name mode version id) ask_place place reply.Fine is = is
    dir_turns (dir_flow.Makes chain name mode version id) ask_place place (reply.Clash kept) is =
        clean_up_known (dir_flow.Makes chain name mode version id)
    dir_turns (dir_flow.Links chain name mode version dir) ask_place place reply.Fine is = tt
    dir_turns (dir_flow.Seals chain) ask_place place reply.Fine is = is
    dir_turns (dir_flow.Unlinks chain) ask_place place reply.Fine is = after_unlink_known chain
    dir_turns step ask_place place given is =
        fails_fits (AreKnownSteps who) DirFlow (λ (step : DirFlow). IsKnownFlow (flow.Dir step)) (dir_clean_up who step)
        place given (clean_up_known step)

    pub flows_known : FlowKeeps Flow (after_act digest who) (clean_up who) IsKnownFlow (AreKnownSteps who)
    flows_known =
        either_keeps (AreKnownSteps who) digest who IsKnownFlow tt
        (keeps_by DirFlow (after_dir digest who) (dir_reply digest who) (dir_clean_up who)
        (λ (step : DirFlow). IsKnownFlow (flow.Dir step)) (AreKnownSteps who) (λ step sent. refl) tt dir_turns
        (λ step is. clean_up_known step))

abbrev pub IsKnownStage : Who → Stage → Type 0
IsKnownStage who stage = StageFits IsKnownFlow (AreKnownSteps who) stage

-- ---- courses

-- the names that are looked up are those of a path
abbrev pub IfKnown : Option Course → Type 0
IfKnown None = Unit {0}
IfKnown (Some course) = length course.looked.old ≤ MOST_PATH_NAMES

split_short : (name : List ℕ) (rest : List (List ℕ)) → length (split name rest).0 ≤ length rest
split_short name [] = omega arith
split_short name (next ∷ rest) = omega (arith, split_short next rest)

course_in_known : (asked : Call) (names : List (List ℕ) × List ℕ) → length names.0 ≤ MOST_PATH_NAMES → IfKnown (course_in asked names)
course_in_known (call.Create path mode) (way, name) few = few
course_in_known (call.Stat path) (way, name) few = few
course_in_known (call.Mkdir path mode) (way, name) few = few
course_in_known other names few = tt

-- the first name that is at fault decides, and one too many is at fault
later_none : (fault later : Option Errno) → or_later fault later ≡ None → later ≡ None
later_none None later none = none
later_none (Some error) later none = absurd (cc)

few_before : (b : Bool) (error : Errno) (fault later : Option Errno) → or_later (if b then Some error else fault) later ≡ None → b ≡ false
few_before true error fault later none = absurd (cc)
few_before false error fault later none = refl

names_few : (before : ℕ) (names : List (List ℕ)) → before ≤ MOST_PATH_NAMES → first_fault before names ≡ None → before + length names ≤ MOST_PATH_NAMES
names_few before [] few none = omega arith
names_few before (name ∷ names) few none =
    let later = first_fault (before + 1) names in
    let fault : Option Errno = if nat_lt MOST_NAME_BYTES (length name) then Some errno.ENAMETOOLONG else (if is_reserved name then Some errno.EINVAL else None) in
    let more : nat_le MOST_PATH_NAMES before ≡ false = few_before (nat_le MOST_PATH_NAMES before) errno.ENAMETOOLONG fault later none in
    let one_more : before + 1 ≤ MOST_PATH_NAMES = grind (arith, nat_tests) in
    let rest : before + 1 + length names ≤ MOST_PATH_NAMES = names_few (before + 1) names one_more (later_none (name_fault before name) later none) in
    omega (arith, rest)

unfaulted : (pieces : List (List ℕ)) (fault : Option Errno) (names : List (List ℕ)) → (fault ≡ None → length pieces ≤ MOST_PATH_NAMES)
    → unless_at_fault pieces fault ≡ Ok names → length names ≤ MOST_PATH_NAMES
unfaulted pieces None names few is =
    let same : pieces ≡ names = cc in
    subst (λ (ns : List (List ℕ)). length ns ≤ MOST_PATH_NAMES) same (few refl)
unfaulted pieces (Some error) names few is = absurd (cc)

path_few : (text : List ℕ) (names : List (List ℕ)) → path_of text ≡ Ok names → length names ≤ MOST_PATH_NAMES
path_few text names is = by (is_absolute text) is
  where
    by : (b : Bool) → (if b then unless_at_fault (pieces_of text) (first_fault 0 (pieces_of text)) else Err errno.EINVAL) ≡ Ok names → length names ≤ MOST_PATH_NAMES
    by true same = unfaulted (pieces_of text) (first_fault 0 (pieces_of text)) names (λ none. let few = names_few 0 (pieces_of text) (omega arith) none in omega (arith, few)) same
    by false same = absurd (cc)

course_at_known : (asked : Call) (path : Result (List (List ℕ)) Errno) → ((names : List (List ℕ)) → path ≡ Ok names → length names ≤ MOST_PATH_NAMES)
    → IfKnown (course_at asked path)
course_at_known (call.Rmdir path) (Ok (name ∷ names)) few = few (name ∷ names) refl
course_at_known asked (Ok (name ∷ names)) few = course_in_known asked (split name names) (omega (arith, split_short name names, few (name ∷ names) refl))
course_at_known asked other few = tt

pub next_known : (left : List Call) → IfKnown (next_course left)
next_known [] = tt
next_known (next ∷ left) = course_at_known next (path_of (text_of next)) (path_few (text_of next))

-- ---- what an attempt asks for next

-- a chain has an entry for the root, and one for each name that it has come along
along_short : (told : List Known) (dir : DirRef) (names : List (List ℕ)) (entries : List Entry) → LeadsAlong told dir names entries
    → length entries ≤ length names
along_short told dir [] [] leads = omega arith
along_short told dir [] (entry ∷ entries) leads = absurd leads
along_short told dir (name ∷ names) [] leads = omega arith
along_short told dir (name ∷ names) (entry ∷ entries) leads =
    omega (arith, along_short told (dir_of entry.access) names entries leads.2)

chain_short : (told : List Known) (names : List (List ℕ)) (chain : List Entry) → length names ≤ MOST_PATH_NAMES
    → IsChain told names chain → IsShort chain
chain_short told names [] few is = absurd is
chain_short told names (root ∷ entries) few is = omega (arith, along_short told (dir_of root.access) names entries is.1)

-- whatever is done where a path has led so far
flow_at_known : (what : Deed) (chain : List Entry) (left : List (List ℕ)) → IsShort chain → IsKnownFlow (flow_at what chain left)
flow_at_known (deed.Create name mode) chain [] short = (short, refl)
flow_at_known (deed.Stat name) chain [] short = (short, refl)
flow_at_known (deed.Mkdir name mode) chain [] short = short
flow_at_known deed.Rmdir chain [] short = short
flow_at_known (deed.Create name mode) chain (next ∷ rest) short = (short, refl)
flow_at_known (deed.Stat name) chain (next ∷ rest) short = (short, refl)
flow_at_known (deed.Mkdir name mode) chain (next ∷ rest) short = (short, refl)
flow_at_known deed.Rmdir chain (next ∷ []) short = (short, refl)
flow_at_known deed.Rmdir chain (next ∷ other ∷ rest) short = (short, refl)

module _ (digest : List ℕ → Id) (who : Who) (told : List Known) where
  found_known : (course : Course) (found : Resolved) → length course.looked.old ≤ MOST_PATH_NAMES
      → resolved digest who.root course.looked told ≡ found → IsKnownStage who (stage_by course.deed found)
  found_known course (comes.Asks keys) few is = tt
  found_known course (comes.Leads old new) few is =
      flow_at_known course.deed old.chain old.left
      (chain_short told course.looked.old old.chain few (old_is_chain digest who.root course.looked told old new is))
  found_known course (comes.IsBusy by place) few is = tt
  found_known course comes.Lacks few is = tt

  pub next_stage_known : (course : Option Course) → IfKnown course → IsKnownStage who (next_stage digest who told course)
  next_stage_known None few = tt
  next_stage_known (Some course) few = found_known course (resolved digest who.root course.looked told) few refl
