-- What is kept true of a client in code, and words for what its parts do.
use Rattle.std.specs.Prelude.{◌≡◌, ℕ, ◌+◌, ◌<◌, ◌≤◌, not, true, List, [], ◌∷◌, length, Option, Some, None, is_some, Result, Ok, Err, IfSome}
use Rattle.inf_base.specs.declared.answer.Answer.{Answer}
use Rattle.inf_base.specs.declared.call.Call.{Call}
use Rattle.inf_base.specs.declared.call.Call.TheVariants as call
use Rattle.inf_base.specs.declared.errno.Errno.{Errno}
use Rattle.inf_base.specs.declared.id.Id.{Id}
use Rattle.inf_base.specs.declared.limits.TheConstants.{MOST_CALLS}
use Rattle.inf_duty.specs.declared.standing.Standing.{Standing}
use Rattle.inf_duty.specs.declared.standing.Standing.TheVariants as standing
use Rattle.inf_duty.specs.ClientState.{ClientState, Stage, one_if, result_of}
use Rattle.inf_duty.specs.declared.course.Course.{Course}
use Rattle.inf_duty.specs.declared.course.Deed.{Deed}
use Rattle.inf_duty.specs.declared.course.Deed.TheVariants as deed
use Rattle.inf_duty.specs.Course.{next_course}
use Rattle.inf_message.specs.declared.step.Message.{Message}
use Rattle.inf_message.specs.declared.turn.Turn.{Turn}
use Rattle.inf_message.specs.declared.turn.Turn.TheVariants as turn
use Rattle.inf_message.specs.Sent.{Sent}
use Rattle.inf_duty.specs.Messages.{has_one_message, is_winding}
use Rattle.inf_duty.specs.Standing.{stage_of}
use Rattle.inf_message.specs.Who.{Who}
use Rattle.inf_duty.specs.Tally.{without_serves}
use Rattle.inf_message.specs.declared.call_result.CallResult.{CallResult}
use Rattle.inf_resolve.specs.declared.known.Known.{Known}
use Rattle.inf_resolve.specs.declared.resolved.Verdict.TheVariants as verdict
use Rattle.inf_resolve.specs.Resolved.{resolved, verdict_of}

-- ---- courses, as code has them

-- what is done at the last name
abbrev pub deed_at : Call → List ℕ → Option Deed
deed_at (call.Create path mode) name = Some (deed.Create name mode)
deed_at (call.Stat path) name = Some (deed.Stat name)
deed_at (call.Mkdir path mode) name = Some (deed.Mkdir name mode)
deed_at other name = None

-- the directory of the last name is not itself what is changed
abbrev pub IsAtLast : Call → Type 0
IsAtLast (call.Rmdir path) = ⊥
IsAtLast other = Unit {0}

-- the names of a path without a fault
abbrev pub names_if : Result (List (List ℕ)) Errno → Option (List (List ℕ))
names_if (Ok names) = Some names
names_if (Err error) = None

-- ---- clients

-- a group belongs to a call that is built, and a round asks for something
abbrev pub IsOf : List Call → Standing → Type 0
IsOf left standing.Compose = Unit {0}
IsOf left (standing.Round keys) = (is_some (next_course left) ≡ true) × (0 < length keys)
IsOf left (standing.Act flow) = is_some (next_course left) ≡ true
IsOf left (standing.Winds ending first rest) = is_some (next_course left) ≡ true

-- what the rounds that are over told has not ended the attempt
abbrev pub IsUndecided : List Call → List Known → Type 0
IsUndecided left known =
    (digest : List ℕ → Id) (root : Id) (course : Course) → next_course left ≡ Some course
    → verdict_of (resolved digest root course.looked known) ≡ verdict.GoesOn

-- the course that was made ready is that of the call under way, and there is one while a round is waited for
abbrev pub CourseFits : List Call → Standing → Option Course → Type 0
CourseFits left (standing.Round keys) course = (is_some course ≡ true) × (course ≡ next_course left)
CourseFits left other course = IfSome course (λ (c : Course). next_course left ≡ Some c)

-- the answer to an Ask that is alone in its group is kept nowhere: it ends the group
pub record IsOpenAlone (who : Who) (stage : Stage) (sent : List Sent) : Type 0 where
  pub untold : (x : Sent) → sent ≡ x ∷ [] → has_one_message who stage ≡ true → x.told ≡ None

-- each step has a message at most for each server
abbrev pub AreFew : ℕ → List (List Message) → Type 0
AreFew servers [] = Unit {0}
AreFew servers (ms ∷ later) = (length ms ≤ servers) × AreFew servers later

abbrev pub StepsFit : ℕ → Standing → Type 0
StepsFit servers (standing.Winds ending first rest) = AreFew servers (first ∷ rest)
StepsFit servers other = Unit {0}

abbrev pub WindsFew : {F : Type 0} → ℕ → Turn F → Type 0
WindsFew servers (turn.GoesOn next) = Unit {0}
WindsFew servers (turn.WindsUp ending more) = AreFew servers more

-- the Asks of a round take no memory
abbrev pub AsksFit : Standing → ℕ → Type 0
AsksFit (standing.Round keys) capacity = length keys ≤ capacity
AsksFit other capacity = Unit {0}

-- neither does what a round is told, once it joins what is known
abbrev pub KnownFits : Standing → ℕ → ℕ → Type 0
KnownFits (standing.Round keys) known capacity = known + length keys ≤ capacity
KnownFits other known capacity = Unit {0}

pub record IsKept (who : Who) (number : ℕ) (left : List Call) (stands : Standing) (course : Option Course)
    (known : List Known) (most_known : ℕ) (sent : List Sent) (capacity results most_results : ℕ) : Type 0 where
  -- the numbers of the calls that are left fit
  pub numbered : number + length left ≤ MOST_CALLS + 1
  pub is_of : IsOf left stands
  pub course_fits : CourseFits left stands course
  pub undecided : IsUndecided left known
  pub known_fits : KnownFits stands (length known) most_known
  pub alone : IsOpenAlone who (stage_of stands) sent
  -- the Asks of a group take no memory: those of a step are at most one for each server
  pub some_servers : 1 ≤ who.servers
  pub steps_fit : StepsFit who.servers stands
  pub servers_fit : who.servers ≤ capacity
  pub asks_fit : AsksFit stands capacity
  -- neither does a result
  pub results_fit : results + length left ≤ most_results

-- the result of the call under way, were it to end so
abbrev pub ended_result : Answer → Option ℕ → ClientState → CallResult
ended_result given place s = result_of given place s.counts.last s

-- a client that remembers no Serve of the call under way
abbrev pub unserved : ClientState → ClientState
unserved s = record s { counts = without_serves s.counts }

-- how often a client can give up yet
abbrev pub weight : ClientState → ℕ
weight s = length s.left + one_if (not (is_winding s.stage))
