-- Clients keep to the paths of their calls.
use Rattle.std.proofs.Common.{◌≡◌, ℕ, Bool, List, [], ◌∷◌, Option, Some, None, refl}
use Rattle.inf_base.specs.declared.call.Call.{Call}
use Rattle.inf_base.specs.declared.id.Id.{Id}
use Rattle.inf_message.specs.declared.ask.Ask.{Ask}
use Rattle.inf_message.specs.History.{Told}
use Rattle.inf_message.specs.Sent.{has_place}
use Rattle.inf_message.specs.Who.{Who}
use Rattle.inf_resolve.specs.declared.known.Known.{Known}
use Rattle.inf_duty.specs.declared.course.Course.{Course}
use Rattle.inf_duty.specs.declared.flow.Flow.{Flow}
use Rattle.inf_duty.specs.ClientState.{ClientState, Stage, act, compose, idle, placed, round, winds}
use Rattle.inf_duty.specs.Course.{course_of, next_course}
use Rattle.inf_duty.specs.Duty.{asks, begun, given_up, next_step}
use Rattle.inf_duty.specs.Flow.{after_act, clean_up}
use Rattle.inf_duty.specs.Group.{composed, next_stage}
use Rattle.inf_duty.specs.Turn.{is_complete, recorded, served, settled, told_in}
use Rattle.inf_duty.proofs.BegunKept.{if_both, kept_begun}
use Rattle.inf_duty.specs.Keeps.{AnySteps, ClientKeeps, FlowKeeps}
use Rattle.inf_laws_client.specs.Paths.{FlowFollows, KeepsToPath, StageFollows, StandsOnPath}
use Rattle.inf_laws_client.specs.Told.{AnswersLookup, AreKnownFor}
use Rattle.inf_duty.proofs.KeepsFacts.{composed_fits, given_up_fits, keeps_turns, settled_fits}
use Rattle.inf_laws_client.proofs.PathFacts.{begins_on_path, flows_follow}
use Rattle.inf_laws_client.proofs.ToldFacts.{composed_as_asked, given_up_as_asked, idle_as_asked, lookup_in, placed_as_asked, recorded_as_asked, settled_as_asked}

pub idle_keeps : (who : Who) (calls : List Call) → KeepsToPath (idle who calls)
idle_keeps who calls = record { as_asked = idle_as_asked who calls; stands = tt }

-- ---- before a group

stage_stands : (asked : Call) (calls : List Call) (stage : Stage) → StageFollows asked stage
    → StandsOnPath (asked ∷ calls) stage
stage_stands asked calls compose follows = tt
stage_stands asked calls (round keys) follows = tt
stage_stands asked calls (act step) follows = follows
stage_stands asked calls (winds end ms later) follows = tt

next_stands : (digest : List ℕ → Id) (who : Who) (asked : Call) (calls : List Call) (known : List Known)
    (found : Option Course) → AreKnownFor known → course_of asked ≡ found
    → StandsOnPath (asked ∷ calls) (next_stage digest who known found)
next_stands digest who asked calls known None fits is = tt
next_stands digest who asked calls known (Some course) fits is =
    stage_stands asked calls (next_stage digest who known (Some course))
    (begins_on_path digest who.root asked course known is fits)

composed_stands : (digest : List ℕ → Id) (who : Who) (calls : List Call) (known : List Known) → AreKnownFor known
    → StandsOnPath calls (next_stage digest who known (next_course calls))
composed_stands digest who [] known fits = tt
composed_stands digest who (asked ∷ calls) known fits =
    next_stands digest who asked calls known (course_of asked) fits refl

-- ---- flows and clients

flows_keep : (digest : List ℕ → Id) (who : Who) (calls : List Call)
    → FlowKeeps Flow (after_act digest who) (clean_up who) (FlowFollows calls) AnySteps
flows_keep digest who [] =
    keeps_turns Flow (after_act digest who) (clean_up who) (FlowFollows []) AnySteps
    (λ step sent follows. absurd follows) (λ step follows. tt)
flows_keep digest who (asked ∷ calls) = flows_follow digest asked who

paths_keep : (digest : List ℕ → Id) → ClientKeeps digest AreKnownFor (λ who. FlowFollows) (λ who. AnySteps)
paths_keep digest = record {
  begins = λ who calls known fits. composed_stands digest who calls known fits;
  flows = flows_keep digest;
  none = λ who. tt;
  later = λ who ms later well. tt;
}

pub composed_keeps : (digest : List ℕ → Id) (s : ClientState) → KeepsToPath s → KeepsToPath (composed digest s)
composed_keeps digest s keeps = record {
  as_asked = composed_as_asked digest s keeps.as_asked;
  stands =
      composed_fits digest AreKnownFor (λ who. FlowFollows) (λ who. AnySteps) (paths_keep digest) s keeps.as_asked.known keeps.stands;
}

pub given_up_keeps : (s : ClientState) → KeepsToPath s → KeepsToPath (given_up s)
given_up_keeps s keeps = record {
  as_asked = given_up_as_asked s keeps.as_asked;
  stands = given_up_fits (λ who. FlowFollows) (λ who. AnySteps) (λ who calls step follows. tt) s keeps.stands;
}

pub begun_keeps : (digest : List ℕ → Id) (ask : Ask) (s : ClientState) → KeepsToPath s
    → KeepsToPath (begun digest ask s.sent s)
begun_keeps digest ask s keeps =
    kept_begun digest KeepsToPath (record { composing = composed_keeps digest; giving_up = given_up_keeps }) ask s.sent
    s keeps

-- ---- an Ask more

pub placed_keeps : (place number : ℕ) (ask : Ask) (s : ClientState) → KeepsToPath s → next_step s ≡ asks number ask
    → KeepsToPath (placed place s)
placed_keeps place number ask s keeps is =
    record { as_asked = placed_as_asked place number ask s keeps.as_asked is; stands = keeps.stands }

-- ---- once an Ask was served

settled_keeps : (digest : List ℕ → Id) (b : Bool) (s : ClientState) → KeepsToPath s → KeepsToPath (settled digest b s)
settled_keeps digest b s keeps =
    record {
      as_asked = settled_as_asked digest b s keeps.as_asked;
      stands = settled_fits digest AreKnownFor (λ who. FlowFollows) (λ who. AnySteps) (paths_keep digest) b s keeps.stands;
    }

pub served_keeps : (digest : List ℕ → Id) (place : ℕ) (told : Told) (s : ClientState) → KeepsToPath s
    → AnswersLookup s.stage s.sent place told.reply → KeepsToPath (served digest place told s)
served_keeps digest place told s keeps now =
    let later = recorded place (told_in s told) s in
    let here : KeepsToPath later =
    record {
      as_asked = recorded_as_asked place (told_in s told) s keeps.as_asked (lookup_in s place told now);
      stands = keeps.stands;
    } in
    if_both KeepsToPath (has_place place s.sent) _ s (settled_keeps digest (is_complete later) later here) keeps
