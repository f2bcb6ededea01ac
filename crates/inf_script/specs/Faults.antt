-- What a reader answers where the text is at fault.
use Rattle.std.specs.Prelude.{ℕ, Option, Some, None, Result, Err}
use Rattle.inf_script.specs.declared.refusal.Why.{Why}
use Rattle.inf_script.specs.declared.refusal.Why.TheVariants as why
use Rattle.inf_script.specs.declared.refusal.ScriptRefusal.{ScriptRefusal}
use Rattle.inf_script.specs.declared.fault.LineFault.{LineFault}
use Rattle.inf_script.specs.declared.fault.LineFault.TheVariants as line_fault
use Rattle.inf_script.specs.declared.fault.ScriptFault.{ScriptFault}
use Rattle.inf_script.specs.declared.fault.ScriptFault.TheVariants as script_fault

-- the cause of a fault: the refusal, and none for want of memory
abbrev pub cause : ScriptFault → Option ScriptRefusal
cause (script_fault.Refused refusal) = Some refusal
cause script_fault.NoMemory = None

abbrev pub line_cause : LineFault → Option Why
line_cause (line_fault.Refused reason) = Some reason
line_cause line_fault.NoMemory = None

-- a word that is not accepted where it stands, one that is missing, or one too many
abbrev pub bad_word : {X : Type 0} → Result X Why
bad_word = Err why.BadWord

-- a number or a mode that is misspelt or out of range
abbrev pub bad_number : {X : Type 0} → Result X Why
bad_number = Err why.BadNumber

-- the fault of a line, with the line's number
abbrev pub fault_at : ℕ → LineFault → ScriptFault
fault_at number (line_fault.Refused reason) = script_fault.Refused (record { line = number; why = reason })
fault_at number line_fault.NoMemory = script_fault.NoMemory
