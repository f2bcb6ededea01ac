-- What the parts of a command did, taken together.
use Rattle.std.proofs.Common.{◌≡◌, ◌⊎◌, ℕ, ◌≤◌, false, nat_lt, List, [], ◌∷◌, length, reverse, take, Contains, All, inl, inr, Option, None, Some, Result, Ok, Err, IfSome, OnErr, OnOk, sym, ap, ◌∙◌, refl, subst, arith}
use Rattle.std.proofs.lemmas.Bool.{le-ltb}
use Rattle.std.proofs.lemmas.List.{reverse-reverse, take_all}
use Rattle.std.specs.Io.KnownBytes.{Appends, Keeps}
use Rattle.inf_base.specs.Setup.{IsValid}
use Rattle.inf_laws_history.specs.Legal.{Legal}
use Rattle.inf_duty.specs.Outcome.{Outcome}
use Rattle.inf_laws_history.specs.Replayed.{decisions}
use Rattle.inf_duty.specs.World.{World, world_of}
use Rattle.inf_laws_history.specs.Causes.{IsAgainBecause, IsClashBecause}
use Rattle.inf_laws_history.specs.Counted.{IsCounted}
use Rattle.inf_base.specs.declared.answer.Answer.TheVariants as answer
use Rattle.inf_base.specs.declared.caller.CallRef.{CallRef}
use Rattle.inf_base.specs.declared.triple.Triple.{Triple}
use Rattle.inf_order.specs.declared.moves.Move.{Move}
use Rattle.inf_io.specs.Faults.{Rose, Stays}
use Rattle.inf_message.specs.declared.call_result.CallResult.{CallResult}
use Rattle.inf_message.specs.declared.event.Event.{Event}
use Rattle.inf_report.specs.Report.{report}
use Rattle.inf_report.specs.Writing.{AppendsFront}
use Rattle.inf_sched.specs.Order.{ByOrder}
use Rattle.inf_sched.specs.Endings.{IsLeftOpen}
use Rattle.inf_script.specs.Reading.{meaning}
use Rattle.inf_script.specs.declared.refusal.ScriptRefusal.{ScriptRefusal}
use Rattle.inf_script.specs.declared.script.Script.{Script}
use Rattle.inf_script.specs.declared.script.TheConstants.{MOST_SCRIPT_BYTES}
use Rattle.inf_tree.specs.Replay.{Replays}
use Rattle.inf_tree.specs.Tree.{opening_tree}
use Rattle.infinifs.specs.declared.status.Status.{Status}
use Rattle.infinifs.specs.declared.status.Status.TheVariants as status
use Rattle.infinifs.specs.Command.{IsReportOf, IsRefusalOf, PartWritten, Reported, RefusedScript, Run, SchedDid, ScriptDid, WriteDid, code_of, refusal_line}

-- what was read whole is the text as far as a script may reach
pub whole_text : (all : List ℕ) (left : Option (List ℕ)) → IfSome left (λ t. all ≡ t) → length all ≤ MOST_SCRIPT_BYTES
    → IfSome left (λ t. (all ≡ take MOST_SCRIPT_BYTES t) × (false ≡ nat_lt MOST_SCRIPT_BYTES (length t)))
whole_text all None same few = tt
whole_text all (Some t) same few =
    let fits : length t ≤ MOST_SCRIPT_BYTES = subst (λ xs. length xs ≤ MOST_SCRIPT_BYTES) same few in
    (same ∙ sym (take_all MOST_SCRIPT_BYTES t fits), sym (le-ltb MOST_SCRIPT_BYTES (length t) fits))

-- ---- a script was run, and its outcome written

-- the laws that say whose calls results are of, and why they are answered as the plain tree does not answer
abbrev pub ResultsAreCounted : Type 0
ResultsAreCounted = (world : World) (h : List Event) (results : List CallResult) → Legal world h → Outcome world h results
    → All (IsCounted world h results) results

abbrev pub AgainsAreOfChanges : Type 0
AgainsAreOfChanges = (world : World) (h : List Event) (results : List CallResult) → Legal world h → Outcome world h results
    → All (λ (result : CallResult). (by : CallRef) → result.answer ≡ answer.Again by → IsAgainBecause world h results result by) results

abbrev pub ClashesAreOfBirths : Type 0
ClashesAreOfBirths = (world : World) (h : List Event) (results : List CallResult) → Legal world h → Outcome world h results
    → All (λ (result : CallResult). (own kept : Triple) → result.answer ≡ answer.IdClash own kept → IsClashBecause world h result own kept) results

abbrev pub UnansweredAreLeft : Type 0
UnansweredAreLeft = (world : World) (order : List Move) (h : List Event) (results : List CallResult) (by : ByOrder world order h results)
    → All (λ (result : CallResult). result.answer ≡ answer.Unanswered → IsLeftOpen world by.scene result) results

abbrev pub LeftAreUnanswered : Type 0
LeftAreUnanswered = (world : World) (order : List Move) (h : List Event) (results : List CallResult) (by : ByOrder world order h results)
    → All (λ (result : CallResult). IsLeftOpen world by.scene result → result.answer ≡ answer.Unanswered) results

module _ (counts : ResultsAreCounted) (agains : AgainsAreOfChanges) (clashes : ClashesAreOfBirths) (lefts : UnansweredAreLeft) (opens : LeftAreUnanswered)
    (script : Script) (events : List Event) (results : List CallResult)
    (valid : IsValid script.setup)
    (legal : Legal (world_of script.setup) (reverse events))
    (outcome : Outcome (world_of script.setup) (reverse events) results)
    (by_order : ByOrder (world_of script.setup) script.order (reverse events) results)
    (replays : Replays opening_tree (decisions (world_of script.setup) (reverse events) results)) where
  report_of : (text : List ℕ) → meaning text ≡ Ok script → IsReportOf text (report script.setup events results)
  report_of text read = record {
    setup = script.setup;
    order = script.order;
    h = reverse events;
    results = results;
    read = read;
    valid = valid;
    legal = legal;
    outcome = outcome;
    by_order = by_order;
    replays = replays;
    causes = λ k d inside. record {
      counted = counts (world_of script.setup) (reverse events) results legal outcome k d inside;
      again = λ by is. agains (world_of script.setup) (reverse events) results legal outcome k d inside by is;
      clash = λ own kept is. clashes (world_of script.setup) (reverse events) results legal outcome k d inside own kept is;
      unanswered = λ is. lefts (world_of script.setup) script.order (reverse events) results by_order k d inside is;
      left_open = λ is. opens (world_of script.setup) script.order (reverse events) results by_order k d inside is;
    };
    told = ap (λ es. report script.setup es results) (sym (reverse-reverse events));
  }

  reported : (old new : Option (List ℕ)) → Appends old new (report script.setup events results)
      → (text : List ℕ) → meaning text ≡ Ok script → Reported text old new
  reported old new written text read =
      record { bytes = report script.setup events results; reports = report_of text read; written = written }

  report_front : (old new : Option (List ℕ)) → AppendsFront old new (report script.setup events results)
      → (text : List ℕ) → meaning text ≡ Ok script → PartWritten text old new
  report_front old new front text read =
      record { bytes = report script.setup events results; is_output = inl (report_of text read); front = front }

  pub outcome_did : (s : Status) (before after : ℕ) (old new : Option (List ℕ))
      → WriteDid status.Done (report script.setup events results) s before after old new → ScriptDid script s before after old new
  outcome_did status.Done before after old new did = reported old new did.1
  outcome_did status.WordsRefused before after old new did = absurd (cc)
  outcome_did status.ReadFault before after old new did = absurd (cc)
  outcome_did status.ScriptRefused before after old new did = absurd (cc)
  outcome_did status.WriteFault before after old new did = (did.0, report_front old new did.1)
  outcome_did status.NoMemory before after old new did = (did.0, inr (report_front old new did.1))

-- what holds of each text that is the script holds of the text that was read
of_the_text : (text : Option (List ℕ)) (script : Script) (P : List ℕ → Type 0) → IfSome text (λ t. meaning t ≡ Ok script)
    → ((t : List ℕ) → meaning t ≡ Ok script → P t) → IfSome text P
of_the_text None script P read each = tt
of_the_text (Some t) script P read each = each t read

broke_off : (text : Option (List ℕ)) (script : Script) (old new : Option (List ℕ)) → IfSome text (λ t. meaning t ≡ Ok script)
    → Keeps old new ⊎ ((t : List ℕ) → meaning t ≡ Ok script → PartWritten t old new)
    → Keeps old new ⊎ IfSome text (λ t. PartWritten t old new)
broke_off text script old new read (inl kept) = inl kept
broke_off text script old new read (inr part) = inr (of_the_text text script (λ t. PartWritten t old new) read part)

-- a script was read and run
pub sched_ran : (run : Run) (script : Script) (s : Status) → Stays run.source_before run.source_after → IfSome run.text (λ t. meaning t ≡ Ok script)
    → ScriptDid script s run.sink_before run.sink_after run.held_before run.held_after → SchedDid s run
sched_ran run script status.Done source read did =
    of_the_text run.text script (λ t. Reported t run.held_before run.held_after) read did
sched_ran run script status.WordsRefused source read did = absurd did
sched_ran run script status.ReadFault source read did = absurd did
sched_ran run script status.ScriptRefused source read did = absurd did
sched_ran run script status.WriteFault source read did =
    (did.0, broke_off run.text script run.held_before run.held_after read (inr did.1))
sched_ran run script status.NoMemory source read did = record {
  source = source;
  sink = did.0;
  broke_off = broke_off run.text script run.held_before run.held_after read did.1;
}

-- ---- no script was read, and the line of its refusal written

refusal_of : (text : List ℕ) (refusal : ScriptRefusal) → meaning text ≡ Err refusal → IsRefusalOf text (refusal_line refusal)
refusal_of text refusal read = record { refusal = refusal; read = read; told = refl }

refused_script : (text : Option (List ℕ)) (refusal : ScriptRefusal) (old new : Option (List ℕ))
    → IfSome text (λ t. meaning t ≡ Err refusal) → Appends old new (refusal_line refusal) → IfSome text (λ t. RefusedScript t old new)
refused_script None refusal old new read written = tt
refused_script (Some t) refusal old new read written =
    record { bytes = refusal_line refusal; refuses = refusal_of t refusal read; written = written }

refusal_front : (text : Option (List ℕ)) (refusal : ScriptRefusal) (old new : Option (List ℕ))
    → IfSome text (λ t. meaning t ≡ Err refusal) → AppendsFront old new (refusal_line refusal) → IfSome text (λ t. PartWritten t old new)
refusal_front None refusal old new read front = tt
refusal_front (Some t) refusal old new read front =
    record { bytes = refusal_line refusal; is_output = inr (refusal_of t refusal read); front = front }

pub sched_refused : (run : Run) (refusal : ScriptRefusal) (s : Status) → Stays run.source_before run.source_after
    → IfSome run.text (λ t. meaning t ≡ Err refusal)
    → WriteDid status.ScriptRefused (refusal_line refusal) s run.sink_before run.sink_after run.held_before run.held_after → SchedDid s run
sched_refused run refusal status.Done source read did = absurd (cc)
sched_refused run refusal status.WordsRefused source read did = absurd (cc)
sched_refused run refusal status.ReadFault source read did = absurd (cc)
sched_refused run refusal status.ScriptRefused source read did = refused_script run.text refusal run.held_before run.held_after read did.1
sched_refused run refusal status.WriteFault source read did =
    (did.0, inr (refusal_front run.text refusal run.held_before run.held_after read did.1))
sched_refused run refusal status.NoMemory source read did = record {
  source = source;
  sink = did.0;
  broke_off = inr (refusal_front run.text refusal run.held_before run.held_after read did.1);
}

-- ---- what is left without a fault

on_ok : {X : Type 0} (m : Result Script ScriptRefusal) → X → OnOk m X
on_ok (Ok script) x = x
on_ok (Err refusal) x = tt

on_err : {X : Type 0} (m : Result Script ScriptRefusal) → X → OnErr m X
on_err (Ok script) x = tt
on_err (Err refusal) x = x

-- what holds of a text in any case holds of the text that was read
of_any_text : (P : List ℕ → Type 0) (text : Option (List ℕ)) → ((t : List ℕ) → P t) → IfSome text P
of_any_text P None each = tt
of_any_text P (Some t) each = each t

-- a refused text is no script
refused_no_script : (X : Type 0) (text old new : Option (List ℕ)) → IfSome text (λ t. RefusedScript t old new) → IfSome text (λ t. OnOk (meaning t) X)
refused_no_script X None old new did = tt
refused_no_script X (Some t) old new did = rw did.refuses.read tt

-- a text whose report was written is refused by nothing
reported_no_refusal : (X : Type 0) (text old new : Option (List ℕ)) → IfSome text (λ t. Reported t old new) → IfSome text (λ t. OnErr (meaning t) X)
reported_no_refusal X None old new did = tt
reported_no_refusal X (Some t) old new did = rw did.reports.read tt

complete_by : (run : Run) (s : Status) → SchedDid s run
    → ¬ Rose run.source_before run.source_after → ¬ Rose run.sink_before run.sink_after
    → IfSome run.text (λ t. OnOk (meaning t) (Contains (0 ∷ 5 ∷ []) (code_of s)))
complete_by run status.Done did calm_source calm_sink = of_any_text _ run.text (λ t. on_ok (meaning t) (0, omega arith, refl))
complete_by run status.WordsRefused did calm_source calm_sink = absurd did
complete_by run status.ReadFault did calm_source calm_sink = absurd (calm_source did.0)
complete_by run status.ScriptRefused did calm_source calm_sink = refused_no_script _ run.text run.held_before run.held_after did
complete_by run status.WriteFault did calm_source calm_sink = absurd (calm_sink did.0)
complete_by run status.NoMemory did calm_source calm_sink = of_any_text _ run.text (λ t. on_ok (meaning t) (1, omega arith, refl))

refusal_told_by : (run : Run) (s : Status) → SchedDid s run
    → ¬ Rose run.source_before run.source_after → ¬ Rose run.sink_before run.sink_after
    → IfSome run.text (λ t. OnErr (meaning t) (Contains (3 ∷ 5 ∷ []) (code_of s)))
refusal_told_by run status.Done did calm_source calm_sink = reported_no_refusal _ run.text run.held_before run.held_after did
refusal_told_by run status.WordsRefused did calm_source calm_sink = absurd did
refusal_told_by run status.ReadFault did calm_source calm_sink = absurd (calm_source did.0)
refusal_told_by run status.ScriptRefused did calm_source calm_sink = of_any_text _ run.text (λ t. on_err (meaning t) (0, omega arith, refl))
refusal_told_by run status.WriteFault did calm_source calm_sink = absurd (calm_sink did.0)
refusal_told_by run status.NoMemory did calm_source calm_sink = of_any_text _ run.text (λ t. on_err (meaning t) (1, omega arith, refl))

pub sched_complete : (run : Run) (s : Status) (code : ℕ) → code ≡ code_of s → SchedDid s run
    → ¬ Rose run.source_before run.source_after → ¬ Rose run.sink_before run.sink_after
    → IfSome run.text (λ t. OnOk (meaning t) (Contains (0 ∷ 5 ∷ []) code))
sched_complete run s code same = subst (λ n. SchedDid s run → ¬ Rose run.source_before run.source_after → ¬ Rose run.sink_before run.sink_after → IfSome run.text (λ t. OnOk (meaning t) (Contains (0 ∷ 5 ∷ []) n))) (sym same) (complete_by run s)

pub sched_refusal_told : (run : Run) (s : Status) (code : ℕ) → code ≡ code_of s → SchedDid s run
    → ¬ Rose run.source_before run.source_after → ¬ Rose run.sink_before run.sink_after
    → IfSome run.text (λ t. OnErr (meaning t) (Contains (3 ∷ 5 ∷ []) code))
sched_refusal_told run s code same = subst (λ n. SchedDid s run → ¬ Rose run.source_before run.source_after → ¬ Rose run.sink_before run.sink_after → IfSome run.text (λ t. OnErr (meaning t) (Contains (3 ∷ 5 ∷ []) n))) (sym same) (refusal_told_by run s)
