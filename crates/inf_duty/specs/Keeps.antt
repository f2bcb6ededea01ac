-- What flows keep true, and so the clients that go by them.
use Rattle.std.specs.Prelude.{◌≡◌, ℕ, List, [], ◌∷◌}
use Rattle.inf_base.specs.declared.call.Call.{Call}
use Rattle.inf_base.specs.declared.id.Id.{Id}
use Rattle.inf_message.specs.declared.ending.Ending.{Ending}
use Rattle.inf_message.specs.declared.step.Message.{Message}
use Rattle.inf_message.specs.declared.turn.Turn.{Turn}
use Rattle.inf_message.specs.declared.turn.Turn.TheVariants as turn
use Rattle.inf_message.specs.Sent.{Sent}
use Rattle.inf_message.specs.Who.{Who}
use Rattle.inf_resolve.specs.declared.known.Known.{Known}
use Rattle.inf_duty.specs.declared.flow.Flow.{Flow}
use Rattle.inf_duty.specs.ClientState.{ClientState, Stage, act, winds}
use Rattle.inf_duty.specs.Course.{next_course}
use Rattle.inf_duty.specs.Flow.{after_act, clean_up}
use Rattle.inf_duty.specs.Group.{next_stage}

-- A flow's steps by what comes of the answers to each and what cleans up behind it: the first predicate stays true of
-- the steps that go on, and the second is true of all that winds up.
pub record FlowKeeps (F : Type 0) (after : F → List Sent → Turn F) (clean : F → List (List Message))
    (Fits : F → Type 0) (WindsWell : List (List Message) → Type 0) : Type 0 where
  pub goes_on : (step next : F) (sent : List Sent) → Fits step → after step sent ≡ turn.GoesOn next → Fits next
  pub winds : (step : F) (sent : List Sent) (ending : Ending) (more : List (List Message)) → Fits step
      → after step sent ≡ turn.WindsUp ending more → WindsWell more
  pub cleans : (step : F) → Fits step → WindsWell (clean step)

abbrev pub TurnFits : (F : Type 0) → (F → Type 0) → (List (List Message) → Type 0) → Turn F → Type 0
TurnFits F Fits WindsWell (turn.GoesOn next) = Fits next
TurnFits F Fits WindsWell (turn.WindsUp ending more) = WindsWell more

abbrev pub StageFits : (Flow → Type 0) → (List (List Message) → Type 0) → Stage → Type 0
StageFits Fits WindsWell (act step) = Fits step
StageFits Fits WindsWell (winds ending ms later) = WindsWell (ms ∷ later)
StageFits Fits WindsWell other = Unit {0}

-- nothing is said of what winds up
abbrev pub AnySteps : List (List Message) → Type 0
AnySteps more = Unit {0}

-- by which client it is, and the calls that it has left: what is true of what an attempt knows makes its flow begin well
pub record ClientKeeps (digest : List ℕ → Id) (Knows : List Known → Type 0) (Fits : Who → List Call → Flow → Type 0)
    (WindsWell : Who → List (List Message) → Type 0) : Type 0 where
  pub begins : (who : Who) (calls : List Call) (known : List Known) → Knows known
      → StageFits (Fits who calls) (WindsWell who) (next_stage digest who known (next_course calls))
  pub flows : (who : Who) (calls : List Call)
      → FlowKeeps Flow (after_act digest who) (clean_up who) (Fits who calls) (WindsWell who)
  pub none : (who : Who) → WindsWell who []
  pub later : (who : Who) (ms : List Message) (later : List (List Message)) → WindsWell who (ms ∷ later)
      → WindsWell who later

abbrev pub ClientFits : (Who → List Call → Flow → Type 0) → (Who → List (List Message) → Type 0) → ClientState → Type 0
ClientFits Fits WindsWell s = StageFits (Fits s.who s.left) (WindsWell s.who) s.stage
