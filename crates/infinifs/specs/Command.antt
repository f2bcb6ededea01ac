-- What the program does with its words, its input and its output, by the status that it ends with.
use Rattle.std.specs.Prelude.{◌≡◌, ◌⊎◌, ℕ, Bool, true, false, ◌≤◌, nat_lt, List, [], ◌∷◌, ◌++◌, length, reverse, take, Option, Result, Ok, Err, IfSome, All, codes}
use Rattle.std.specs.Fmt.{decimal}
use Rattle.std.specs.List.{list_all}
use Rattle.std.specs.Str.{bytes_eq}
use Rattle.std.specs.Io.KnownBytes.{Appends, Keeps}
use Rattle.inf_base.specs.declared.answer.Answer.TheVariants as answer
use Rattle.inf_base.specs.declared.caller.CallRef.{CallRef}
use Rattle.inf_base.specs.declared.setup.Setup.{Setup}
use Rattle.inf_base.specs.declared.triple.Triple.{Triple}
use Rattle.inf_base.specs.Setup.{IsValid}
use Rattle.inf_laws_history.specs.Causes.{IsAgainBecause, IsClashBecause}
use Rattle.inf_laws_history.specs.Counted.{IsCounted}
use Rattle.inf_laws_history.specs.Legal.{Legal}
use Rattle.inf_duty.specs.Outcome.{Outcome}
use Rattle.inf_laws_history.specs.Replayed.{decisions}
use Rattle.inf_duty.specs.World.{World, world_of}
use Rattle.inf_io.specs.Faults.{Rose, Stays}
use Rattle.inf_message.specs.declared.call_result.CallResult.{CallResult}
use Rattle.inf_message.specs.declared.event.Event.{Event}
use Rattle.inf_order.specs.declared.moves.Move.{Move}
use Rattle.inf_order.specs.Order.{is_move_of}
use Rattle.inf_report.specs.Report.{line, report}
use Rattle.inf_report.specs.Writing.{AppendsFront}
use Rattle.inf_sched.specs.Endings.{IsLeftOpen}
use Rattle.inf_sched.specs.Order.{ByOrder}
use Rattle.inf_sched.specs.Scene.{Scene}
use Rattle.inf_script.specs.declared.refusal.ScriptRefusal.{ScriptRefusal}
use Rattle.inf_script.specs.declared.refusal.Why.{Why}
use Rattle.inf_script.specs.declared.refusal.Why.TheVariants as why
use Rattle.inf_script.specs.declared.script.Script.{Script}
use Rattle.inf_script.specs.Reading.{meaning}
use Rattle.inf_script.specs.declared.script.TheConstants.{MOST_SCRIPT_BYTES}
use Rattle.inf_tree.specs.Replay.{Replays}
use Rattle.inf_tree.specs.Tree.{opening_tree}
use Rattle.infinifs.specs.declared.input.Text.{Text}
use Rattle.infinifs.specs.declared.input.InputFault.{InputFault}
use Rattle.infinifs.specs.declared.input.InputFault.TheVariants as fault
use Rattle.infinifs.specs.declared.status.Status.{Status}
use Rattle.infinifs.specs.declared.status.Status.TheVariants as status

-- the one word that is accepted
abbrev pub are_accepted : List (List ℕ) → Bool
are_accepted (word ∷ []) = bytes_eq word (codes "sched")
are_accepted [] = false
are_accepted (word ∷ next ∷ more) = false

abbrev pub usage_line : List ℕ
usage_line = line (codes "usage: infinifs sched | run | work START SIZE")

abbrev pub why_text : Why → List ℕ
why_text why.BadWord = codes "bad-word"
why_text why.BadNumber = codes "bad-number"
why_text why.UnknownClient = codes "unknown-client"
why_text why.DoubleClient = codes "double-client"
why_text why.TooMany = codes "too-many"
why_text why.TooLong = codes "too-long"
why_text why.NotUtf8 = codes "not-utf8"

-- `script LINE WHY`
abbrev pub refusal_line : ScriptRefusal → List ℕ
refusal_line refusal = line (codes "script " ++ decimal refusal.line ++ codes " " ++ why_text refusal.why)

-- ---- what a text comes to

-- whose call a result is of, and why it was answered as the plain tree does not answer
pub record HasCause (world : World) (h : List Event) (results : List CallResult) (scene : Scene)
    (result : CallResult) : Type 0 where
  -- it is of a call of the script; where its answer was decided it has a place, and is one of those that replay
  pub counted : IsCounted world h results result
  -- a change of another client's call was in flight, and touched this call
  pub again : (by : CallRef) → result.answer ≡ answer.Again by → IsAgainBecause world h results result by
  -- the directory that it was to make has the identifier of another, of a different birth
  pub clash : (own kept : Triple) → result.answer ≡ answer.IdClash own kept → IsClashBecause world h result own kept
  -- it is unanswered exactly where the order's moves left it undecided
  pub unanswered : result.answer ≡ answer.Unanswered → IsLeftOpen world scene result
  pub left_open : IsLeftOpen world scene result → result.answer ≡ answer.Unanswered

-- the text is a script, and the bytes are the report of an outcome that its order makes: a legal history, with the
-- newest event first, and results that agree with it and whose calls, by place, are answered as on the plain tree
pub record IsReportOf (text bytes : List ℕ) : Type 0 where
  pub setup : Setup
  pub order : List Move
  pub h : List Event
  pub results : List CallResult
  pub read : meaning text ≡ Ok (record { setup = setup; order = order })
  pub valid : IsValid setup
  pub legal : Legal (world_of setup) h
  pub outcome : Outcome (world_of setup) h results
  pub by_order : ByOrder (world_of setup) order h results
  pub replays : Replays opening_tree (decisions (world_of setup) h results)
  pub causes : All (HasCause (world_of setup) h results by_order.scene) results
  pub told : bytes ≡ report setup (reverse h) results

-- the text is no script, and the bytes are the line of its refusal
pub record IsRefusalOf (text bytes : List ℕ) : Type 0 where
  pub refusal : ScriptRefusal
  pub read : meaning text ≡ Err refusal
  pub told : bytes ≡ refusal_line refusal

-- the report of an outcome of the script that the text is was written
pub record Reported (text : List ℕ) (old new : Option (List ℕ)) : Type 0 where
  pub bytes : List ℕ
  pub reports : IsReportOf text bytes
  pub written : Appends old new bytes

-- the line of the text's refusal was written
pub record RefusedScript (text : List ℕ) (old new : Option (List ℕ)) : Type 0 where
  pub bytes : List ℕ
  pub refuses : IsRefusalOf text bytes
  pub written : Appends old new bytes

-- a front of a report or of a refusal's line was written, all of it or not
pub record PartWritten (text : List ℕ) (old new : Option (List ℕ)) : Type 0 where
  pub bytes : List ℕ
  pub is_output : IsReportOf text bytes ⊎ IsRefusalOf text bytes
  pub front : AppendsFront old new bytes

-- nothing was written, or a front of what was to be written
abbrev pub BreaksOff : Option (List ℕ) → Option (List ℕ) → Option (List ℕ) → Type 0
BreaksOff text old new = Keeps old new ⊎ IfSome text (λ t. PartWritten t old new)

-- ---- what the parts of a run do

-- what reading the source did: it gave as much of the text as a script may have, and whether there is more
abbrev pub TextDid : Result Text InputFault → Option (List ℕ) → ℕ → ℕ → Type 0
TextDid (Ok read) text before after =
    Stays before after × IfSome text (λ t. (read.bytes.items ≡ take MOST_SCRIPT_BYTES t)
    × (read.more ≡ nat_lt MOST_SCRIPT_BYTES (length t)))
    × (read.more ≡ true → MOST_SCRIPT_BYTES ≤ length read.bytes.items)
TextDid (Err fault.Read) text before after = Rose before after
TextDid (Err (fault.Refused refusal)) text before after = ⊥
TextDid (Err fault.NoMemory) text before after = Stays before after

-- the script is what the text says, and may be run
pub record IsScriptOf (text : Option (List ℕ)) (script : Script) : Type 0 where
  pub read : IfSome text (λ t. meaning t ≡ Ok script)
  pub valid : IsValid script.setup
  pub moves : list_all (is_move_of script.setup.servers (length script.setup.clients)) script.order ≡ true

-- what reading the script did: it gave the script that the text is, or a refusal, or the source failed
abbrev pub InputDid : Result Script InputFault → Option (List ℕ) → ℕ → ℕ → Type 0
InputDid (Ok script) text before after = Stays before after × IsScriptOf text script
InputDid (Err fault.Read) text before after = Rose before after
InputDid (Err (fault.Refused refusal)) text before after =
    Stays before after × IfSome text (λ t. meaning t ≡ Err refusal)
InputDid (Err fault.NoMemory) text before after = Stays before after

-- the statuses that say that a text was written whole
abbrev pub WritesWhole : Status → Type 0
WritesWhole status.Done = Unit {0}
WritesWhole status.WordsRefused = Unit {0}
WritesWhole status.ReadFault = ⊥
WritesWhole status.ScriptRefused = Unit {0}
WritesWhole status.WriteFault = ⊥
WritesWhole status.NoMemory = ⊥

-- what writing a text did: it was written whole, which ends with the status `whole`, or a front of it was
abbrev pub WriteDid : Status → List ℕ → Status → ℕ → ℕ → Option (List ℕ) → Option (List ℕ) → Type 0
WriteDid whole text status.WriteFault before after old new = Rose before after × AppendsFront old new text
WriteDid whole text status.NoMemory before after old new = Stays before after × AppendsFront old new text
WriteDid whole text status before after old new = (status ≡ whole) × Appends old new text

-- what running a script did, whatever text it was read from
abbrev pub ScriptDid : Script → Status → ℕ → ℕ → Option (List ℕ) → Option (List ℕ) → Type 0
ScriptDid script status.Done before after old new = (text : List ℕ) → meaning text ≡ Ok script → Reported text old new
ScriptDid script status.WordsRefused before after old new = ⊥
ScriptDid script status.ReadFault before after old new = ⊥
ScriptDid script status.ScriptRefused before after old new = ⊥
ScriptDid script status.WriteFault before after old new =
    Rose before after × ((text : List ℕ) → meaning text ≡ Ok script → PartWritten text old new)
ScriptDid script status.NoMemory before after old new =
    Stays before after × (Keeps old new ⊎ ((text : List ℕ) → meaning text ≡ Ok script → PartWritten text old new))

-- the bytes that the source had left, the counts of faults of source and sink, and the bytes that the sink held
pub record Run : Type 0 where
  pub text : Option (List ℕ)
  pub source_before : ℕ
  pub source_after : ℕ
  pub sink_before : ℕ
  pub sink_after : ℕ
  pub held_before : Option (List ℕ)
  pub held_after : Option (List ℕ)

-- memory was wanting, and neither the source nor the sink failed
pub record WantedMemory (run : Run) : Type 0 where
  pub source : Stays run.source_before run.source_after
  pub sink : Stays run.sink_before run.sink_after
  pub broke_off : BreaksOff run.text run.held_before run.held_after

-- what `sched` did, by the status that it ends with
abbrev pub SchedDid : Status → Run → Type 0
SchedDid status.Done run = IfSome run.text (λ text. Reported text run.held_before run.held_after)
SchedDid status.WordsRefused run = ⊥
SchedDid status.ReadFault run = Rose run.source_before run.source_after × Keeps run.held_before run.held_after
SchedDid status.ScriptRefused run = IfSome run.text (λ text. RefusedScript text run.held_before run.held_after)
SchedDid status.WriteFault run = Rose run.sink_before run.sink_after × BreaksOff run.text run.held_before run.held_after
SchedDid status.NoMemory run = WantedMemory run

abbrev pub code_of : Status → ℕ
code_of status.Done = 0
code_of status.WordsRefused = 1
code_of status.ReadFault = 2
code_of status.ScriptRefused = 3
code_of status.WriteFault = 4
code_of status.NoMemory = 5
