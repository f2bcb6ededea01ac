-- What writing a report does: its text waits in a buffer and goes to a sink in pieces.
use Rattle.std.specs.Prelude.{◌≡◌, ℕ, ◌+◌, ◌-◌, ◌<◌, List, [], ◌++◌, length, filter, take, slice_get, slice_set, Option, Some, None, Result, Ok, Err}
use Rattle.std.specs.Option.{option_to_list}
use Rattle.std.specs.Io.KnownBytes.{Appends}
use Rattle.inf_duty.specs.Outcome.{stands_at}
use Rattle.inf_io.specs.Faults.{Rose, Stays}
use Rattle.inf_message.specs.declared.call_result.CallResult.{CallResult}
use Rattle.inf_report.specs.declared.fault.ReportFault.{ReportFault}
use Rattle.inf_report.specs.declared.fault.ReportFault.TheVariants as fault

-- a front of these bytes was written, all of them or not
pub record AppendsFront (old new : Option (List ℕ)) (bytes : List ℕ) : Type 0 where
  pub count : ℕ
  pub front : Appends old new (take count bytes)

-- what a sink holds, how many faults it counted, and the bytes that wait to be handed to it
pub record Output : Type 0 where
  pub held : Option (List ℕ)
  pub faults : ℕ
  pub waiting : List ℕ

abbrev pub output : Option (List ℕ) → ℕ → List ℕ → Output
output held faults waiting = record { held = held; faults = faults; waiting = waiting }

-- of the bytes that waited and this text, a front went to the sink, and the rest waits
pub record Moves (before after : Output) (text : List ℕ) : Type 0 where
  pub sent : List ℕ
  pub written : Appends before.held after.held sent
  pub whole : sent ++ after.waiting ≡ before.waiting ++ text
  pub stays : Stays before.faults after.faults

-- of the bytes that waited and this text, a front is written
abbrev pub WritesFront : Output → Output → List ℕ → Type 0
WritesFront before after text = AppendsFront before.held after.held (before.waiting ++ text)

-- what a fault leaves of putting this text
abbrev pub FailsToPut : ReportFault → Output → Output → List ℕ → Type 0
FailsToPut fault.Write before after text = Rose before.faults after.faults × WritesFront before after text
FailsToPut fault.NoMemory before after text = Stays before.faults after.faults × WritesFront before after text

-- what putting this text does
abbrev pub Puts : {T : Type 0} → Result T ReportFault → Output → Output → List ℕ → Type 0
Puts (Ok done) before after text = Moves before after text
Puts (Err fault) before after text = FailsToPut fault before after text

-- the result whose index a slot has
abbrev pub picked : List CallResult → Option (Option ℕ) → List CallResult
picked results (Some (Some i)) = option_to_list (slice_get results i)
picked results (Some None) = []
picked results None = []

-- the index of a result stands in the slot of its place, if it has one
abbrev pub noted : List (Option ℕ) → Option ℕ → ℕ → List (Option ℕ)
noted slots None i = slots
noted slots (Some place) i = slice_set slots (place - 1) (Some i)

-- each slot has the result that stands at its place, of as many places as there are events
pub record ShowPlaces (events : ℕ) (results : List CallResult) (slots : List (Option ℕ)) : Type 0 where
  pub whole : length slots ≡ events
  pub each : (before : ℕ) → before < events
      → picked results (slice_get slots before) ≡ filter (stands_at (before + 1)) results
