-- What a client's call waits for aims where the call does.
use Rattle.std.proofs.Common.{◌≡◌, ℕ, true, List, [], ◌∷◌, ◌++◌, slice_get, Some, is_some, Ok, Err, Result, refl, sym, ap, ◌∙◌, subst}
use Rattle.inf_base.specs.declared.access.Access.{Access}
use Rattle.inf_base.specs.declared.call.Call.{Call}
use Rattle.inf_base.specs.declared.call.Call.TheVariants as call
use Rattle.inf_base.specs.declared.caller.Caller.{Caller}
use Rattle.inf_base.specs.declared.entry.Entry.{Entry}
use Rattle.inf_base.specs.declared.errno.Errno.{Errno}
use Rattle.inf_base.specs.declared.errno.Errno.TheVariants as errno
use Rattle.inf_base.specs.Path.{path_of}
use Rattle.inf_flow_dir.specs.declared.dir_flow.DirFlow.TheVariants as dir_flow
use Rattle.inf_flow_file.specs.declared.file_flow.FileFlow.TheVariants as file_flow
use Rattle.inf_duty.specs.declared.flow.Flow.TheVariants as flow
use Rattle.inf_duty.specs.ClientState.{ClientState, Stage, act, compose, round, winds}
use Rattle.inf_duty.proofs.FlowFacts.{message_of}
use Rattle.inf_duty.specs.Group.{group}
use Rattle.inf_duty.specs.Course.{course_at, course_of, text_of}
use Rattle.inf_duty.specs.declared.flow.Flow.{Flow}
use Rattle.inf_message.specs.Who.{Who}
use Rattle.inf_laws_client.specs.Paths.{Follows, KeepsToPath, OpFollows, StandsOnPath, StopsBefore, names_of}
use Rattle.inf_laws_client.specs.Told.{IsChainOf, KnowsOnly, StandsOn, chain_of}
use Rattle.inf_laws_client.proofs.ToldAlong.{told_along}
use Rattle.inf_laws_directory.specs.Answers.{IsCallOn}
use Rattle.inf_laws_directory.specs.Objects.{Objects, Service}
use Rattle.inf_laws_directory.specs.Owes.{Aims, AimsWith, IsAimed, IsAimedAt, IsStopped}
use Rattle.inf_laws_directory.specs.Phases.{Phase, Phases, has_made, has_reserved, has_sealed, has_unlinked, idle}
use Rattle.inf_laws_directory.specs.Standing.{IsToldAlong}
use Rattle.inf_laws_directory.specs.Told.{IsTold}
use Rattle.inf_laws_history.specs.Pending.{Waits}
use Rattle.inf_laws_history.specs.Phases.{FlowMay, HasPhase, IsLiftedBy, StageMay}
use Rattle.inf_laws_history.proofs.GroupMessages.{lift_message, look_in, step_message}
use Rattle.inf_laws_history.proofs.CourseFacts.{HasCourse, StageHasCourse}
use Rattle.inf_message.specs.declared.ask.Ask.{Ask}
use Rattle.inf_message.specs.declared.op.Op.{Op}
use Rattle.inf_message.specs.declared.op.Op.TheVariants as op
use Rattle.inf_message.specs.declared.request.Request.{Request}
use Rattle.inf_message.specs.declared.request.Request.TheVariants as request
use Rattle.inf_message.specs.declared.step.Message.{Message}

-- ---- a path with a last name

record HasLast (names : List (List ℕ)) : Type 0 where
  path : List (List ℕ)
  name : List ℕ
  is : names ≡ path ++ name ∷ []

last_behind : (name : List ℕ) (names : List (List ℕ)) → HasLast (name ∷ names)
last_behind name [] = record { path = []; name = name; is = refl }
last_behind name (next ∷ names) =
    let rest = last_behind next names in
    record { path = name ∷ rest.path; name = rest.name; is = ap (λ (ns : List (List ℕ)). name ∷ ns) rest.is }

-- a directory that is to be removed has a name
removed_has_last : (text : List ℕ) (names : List (List ℕ)) → is_some (course_at (call.Rmdir text) (Ok names)) ≡ true → HasLast names
removed_has_last text [] course = absurd cc
removed_has_last text (name ∷ names) course = last_behind name names

module _ (service : Service) (objects : Objects) (root : Access) (phases : Phases) where
  abbrev T : Entry → Type 0
  T = IsTold service objects root phases

  told : (chain : List Entry) → IsChainOf T chain → IsToldAlong service objects root phases (names_of chain) chain
  told chain is = told_along service objects root phases chain is.carries is.links_up

  aimed : (text name : List ℕ) (chain : List Entry) → IsChainOf T chain → path_of text ≡ Ok (names_of chain ++ name ∷ [])
      → IsAimed service objects root phases text name chain
  aimed text name chain is names = record { path = names_of chain; told = told chain is; names = names }

  aimed_at : (text : List ℕ) (chain : List Entry) → IsChainOf T chain → path_of text ≡ Ok (names_of chain)
      → is_some (course_of (call.Rmdir text)) ≡ true → IsAimedAt service objects root phases text chain
  aimed_at text chain is names course =
      let last = removed_has_last text (names_of chain)
      (subst (λ (r : Result (List (List ℕ)) Errno). is_some (course_at (call.Rmdir text) r) ≡ true) names course) in
      record {
        path = last.path;
        name = last.name;
        told = subst (λ (ns : List (List ℕ)). IsToldAlong service objects root phases ns chain) last.is (told chain is);
        names = names ∙ ap Ok last.is;
      }

  -- ---- the one message of a call

  stopped : (asked : Call) (chain : List Entry) (name : List ℕ) → IsCallOn (text_of asked) asked → IsChainOf T chain
      → StopsBefore asked chain name → IsStopped service objects root phases asked name chain
  stopped asked chain name on is stops = record {
    text = text_of asked;
    path = names_of chain;
    next = stops.next;
    rest = stops.rest;
    told = told chain is;
    on = on;
    names = stops.names;
  }

  -- only calls that go by these flows have a path text here
  no_names : {P : Type 0} (names : List (List ℕ)) → path_of [] ≡ Ok names → P
  no_names names is = let refused : Err errno.EINVAL ≡ Ok names = is in absurd cc

  walk_aims : (asked : Call) (chain : List Entry) (name : List ℕ) → IsChainOf T chain → StopsBefore asked chain name
      → AimsWith service objects root phases asked chain (op.Walk name)
  walk_aims (call.Mkdir text mode) chain name is stops = stopped (call.Mkdir text mode) chain name refl is stops
  walk_aims (call.Create text mode) chain name is stops = stopped (call.Create text mode) chain name refl is stops
  walk_aims (call.Rmdir text) chain name is stops = stopped (call.Rmdir text) chain name refl is stops
  walk_aims (call.Stat text) chain name is stops = stopped (call.Stat text) chain name refl is stops
  walk_aims other_call chain name is stops = no_names _ stops.names

  op_aims : (asked : Call) (chain : List Entry) (what : Op) → IsChainOf T chain → OpFollows asked chain what
      → AimsWith service objects root phases asked chain what
  op_aims asked chain (op.Create name mode) is follows =
      subst (λ (c : Call). AimsWith service objects root phases c chain (op.Create name mode)) (sym follows.is)
      (refl, aimed follows.text name chain is follows.names)
  op_aims asked chain (op.Stat name) is follows =
      subst (λ (c : Call). AimsWith service objects root phases c chain (op.Stat name)) (sym follows.is) (aimed follows.text name chain is follows.names)
  op_aims asked chain (op.RmdirName name) is follows =
      subst (λ (c : Call). AimsWith service objects root phases c chain (op.RmdirName name)) (sym follows.is) (aimed follows.text name chain is follows.names)
  op_aims asked chain (op.Walk name) is follows = walk_aims asked chain name is follows
  op_aims asked chain other_op is follows = absurd follows

  -- ---- any message

  abbrev AimsAt : Caller → Call → Request → Type 0
  AimsAt = Aims service objects root phases

  flow_aims : (who : Who) (asked : Call) (step : Flow) → IsChainOf T (chain_of step) → Follows asked step → FlowMay who.caller step
      → is_some (course_of asked) ≡ true → AimsAt who.caller asked (message_of who step).request
  flow_aims who asked (flow.File (file_flow.Finishes chain what)) is follows may course = op_aims asked chain what is follows
  flow_aims who asked (flow.Dir (dir_flow.Reserves chain name mode)) is follows may course =
      subst (λ (c : Call). AimsAt who.caller c (request.Reserve chain name)) (sym follows.is) (aimed follows.text name chain is follows.names)
  flow_aims who asked (flow.Dir (dir_flow.Makes chain name mode version id)) is follows may course = tt
  flow_aims who asked (flow.Dir (dir_flow.Links chain name mode version dir)) is follows may course =
      subst (λ (c : Call). AimsAt who.caller c (message_of who (flow.Dir (dir_flow.Links chain name mode version dir))).request) (sym follows.is)
      (refl, aimed follows.text name chain is follows.names, may)
  flow_aims who asked (flow.Dir (dir_flow.Seals chain)) is follows may course =
      subst (λ (c : Call). AimsAt who.caller c (request.Seal chain)) (sym follows.is)
      (aimed_at follows.text chain is follows.names (subst (λ (c : Call). is_some (course_of c) ≡ true) follows.is course))
  flow_aims who asked (flow.Dir (dir_flow.Unlinks chain)) is follows may course =
      subst (λ (c : Call). AimsAt who.caller c (request.Unlink chain)) (sym follows.is)
      (aimed_at follows.text chain is follows.names (subst (λ (c : Call). is_some (course_of c) ≡ true) follows.is course), may)

  lift_aims : (servers : ℕ) (caller : Caller) (asked : Call) (phase : Phase) (m : Message) → IsLiftedBy servers phase m → AimsAt caller asked m.request
  lift_aims servers caller asked idle m lifts = subst (λ (n : Message). AimsAt caller asked n.request) (sym lifts.is) tt
  lift_aims servers caller asked (has_reserved parent name birth) m lifts = subst (λ (n : Message). AimsAt caller asked n.request) (sym lifts) tt
  lift_aims servers caller asked (has_made parent name birth made) m lifts = subst (λ (n : Message). AimsAt caller asked n.request) (sym lifts) tt
  lift_aims servers caller asked (has_sealed parent name target) m lifts = subst (λ (n : Message). AimsAt caller asked n.request) (sym lifts) tt
  lift_aims servers caller asked (has_unlinked target) m lifts = subst (λ (n : Message). AimsAt caller asked n.request) (sym lifts) tt

  stage_aims : (who : Who) (asked : Call) (calls : List Call) (stage : Stage) (phase : Phase) (index number : ℕ) (what : Request)
      → StandsOn T stage → StandsOnPath (asked ∷ calls) stage → StageHasCourse (asked ∷ calls) stage → HasPhase service.digest who stage phase
      → StageMay who.caller stage → slice_get (group who stage) index ≡ Some (record { number = number; request = what }) → AimsAt who.caller asked what
  stage_aims who asked calls compose phase index number what stands path course has may is = absurd cc
  stage_aims who asked calls (round keys) phase index number what stands path course has may is =
      let found = look_in who keys index number what is in
      subst (λ (r : Request). AimsAt who.caller asked r) (sym found.is) tt
  stage_aims who asked calls (act step) phase index number what stands path course has may is =
      subst (λ (m : Message). AimsAt who.caller asked m.request) (step_message who step index number what is)
      (flow_aims who asked step stands path may course)
  stage_aims who asked calls (winds ending ms later) phase index number what stands path course has may is =
      lift_aims who.servers who.caller asked phase (record { number = number; request = what })
      (lift_message who.servers phase ms later index number what has is)

  pub aims : (s : ClientState) (asked : Call) (calls : List Call) (phase : Phase) (place number : ℕ) (ask : Ask) → s.left ≡ asked ∷ calls
      → KnowsOnly T s → KeepsToPath s → HasCourse s → HasPhase service.digest s.who s.stage phase → StageMay s.who.caller s.stage
      → Waits s place number ask → AimsAt ask.caller asked ask.request
  aims s asked calls phase place number ask left knows path course has may waits =
      subst (λ (c : Caller). AimsAt c asked ask.request) (sym waits.caller)
      (stage_aims s.who asked calls s.stage phase waits.index number ask.request
      knows.stands
      (subst (λ (cs : List Call). StandsOnPath cs s.stage) left path.stands)
      (subst (λ (cs : List Call). StageHasCourse cs s.stage) left course.course)
      has may waits.message)
