-- What a text says: the script that it spells, or the refusal of the first line at fault.
use Rattle.std.specs.Prelude.{ℕ, ◌+◌, Bool, true, false, nat_eq, nat_lt, if◌then◌else◌, List, [], ◌∷◌, length, take, Result, Ok, Err}
use Rattle.inf_script.specs.declared.refusal.Why.{Why}
use Rattle.inf_script.specs.declared.refusal.Why.TheVariants as why
use Rattle.inf_script.specs.declared.refusal.ScriptRefusal.{ScriptRefusal}
use Rattle.inf_script.specs.declared.script.Script.{Script}
use Rattle.inf_script.specs.declared.script.TheConstants.{MOST_SCRIPT_BYTES}
use Rattle.inf_script.specs.declared.draft.Draft.{Draft}
use Rattle.inf_script.specs.Draft.{rank, start, servers_of, digest_bytes_of, order_of}
use Rattle.inf_script.specs.Faults.{bad_word}
use Rattle.inf_script.specs.Lines.{lines_of}
use Rattle.inf_script.specs.Sections.{after_line}

-- the reason stands with the number of its line
abbrev pub at_line : {X : Type 0} → ℕ → Result X Why → Result X ScriptRefusal
at_line number (Ok value) = Ok value
at_line number (Err reason) = Err (record { line = number; why = reason })

-- caches of 256 entries
abbrev pub script_of : Draft → Script
script_of draft = record {
  setup = record {
    servers = servers_of draft;
    digest_bytes = digest_bytes_of draft;
    cache = 256;
    clients = draft.clients;
  };
  order = order_of draft.moves;
}

-- a text ends behind its line `end`
abbrev pub ended : Draft → Result Script Why
ended draft = if nat_eq (rank draft.reached) 5 then Ok (script_of draft) else bad_word

-- behind the lines that are read whole: a text that goes on has too long a line there
abbrev pub at_end : Bool → ℕ → Result Draft ScriptRefusal → Result Script ScriptRefusal
at_end more number (Err refusal) = Err refusal
at_end true number (Ok draft) = at_line number (Err why.TooLong)
at_end false number (Ok draft) = at_line number (ended draft)

abbrev pub read_line : ℕ → Result Draft ScriptRefusal → List ℕ → Result Draft ScriptRefusal
read_line number (Err refusal) line = Err refusal
read_line number (Ok draft) line = at_line number (after_line draft line)

-- the lines are taken in order, and the first that is refused decides
abbrev pub read_from : Bool → ℕ → Result Draft ScriptRefusal → List (List ℕ) → Result Script ScriptRefusal
read_from more number so_far [] = at_end more number so_far
read_from more number so_far (line ∷ lines) = read_from more (number + 1) (read_line number so_far line) lines

-- what these bytes say, where `more` tells that the text goes on behind them
abbrev pub reading : List ℕ → Bool → Result Script ScriptRefusal
reading bytes more = read_from more 1 (Ok start) (lines_of more bytes)

-- what a whole text says: no more of it than the largest size is looked at
abbrev pub meaning : List ℕ → Result Script ScriptRefusal
meaning text = reading (take MOST_SCRIPT_BYTES text) (nat_lt MOST_SCRIPT_BYTES (length text))
