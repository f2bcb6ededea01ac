-- The words of a call line, from left to right.
use Rattle.std.specs.Prelude.{ℕ, nat_lt, zero, suc, if◌then◌else◌, codes, List, [], ◌∷◌, ◌++◌, Option, Some, None, Result, Ok, Err}
use Rattle.std.specs.Str.{bytes_eq}
use Rattle.inf_base.specs.Checks.{◌>>=◌}
use Rattle.inf_base.specs.declared.call.Call.{Call}
use Rattle.inf_base.specs.declared.call.Call.TheVariants as call
use Rattle.inf_base.specs.declared.setup.ClientLine.{ClientLine}
use Rattle.inf_base.specs.declared.limits.TheConstants.{MOST_CALLS}
use Rattle.inf_base.specs.Path.{path_of}
use Rattle.inf_base.specs.Setup.{call_count}
use Rattle.inf_path.specs.Parsed.{has_names}
use Rattle.inf_script.specs.declared.refusal.Why.{Why}
use Rattle.inf_script.specs.declared.refusal.Why.TheVariants as why
use Rattle.inf_script.specs.declared.section.Section.TheVariants as section
use Rattle.inf_script.specs.declared.draft.Draft.{Draft}
use Rattle.inf_script.specs.Draft.{may_stand, place_of}
use Rattle.inf_script.specs.Faults.{bad_word}
use Rattle.inf_script.specs.Names.{mode_of}
use Rattle.inf_script.specs.Settings.{no_more}

-- a path that has names, and no word behind it
abbrev pub path_alone : List (List ℕ) → Result (List ℕ) Why
path_alone [] = bad_word
path_alone (path ∷ words) = if has_names (path_of path) then no_more path words else bad_word

abbrev pub mode_behind : List ℕ → List (List ℕ) → Result (List ℕ × ℕ) Why
mode_behind path [] = bad_word
mode_behind path (word ∷ words) = do
  mode ← mode_of word
  no_more (path, mode) words

-- a path that has names, a mode, and no word behind it
abbrev pub path_and_mode : List (List ℕ) → Result (List ℕ × ℕ) Why
path_and_mode [] = bad_word
path_and_mode (path ∷ words) = if has_names (path_of path) then mode_behind path words else bad_word

-- `PATH MODE` behind `mkdir`
abbrev pub mkdir_call : List (List ℕ) → Result Call Why
mkdir_call words = do
  taken ← path_and_mode words
  Ok (call.Mkdir taken.0 taken.1)

-- `PATH MODE` behind `create`
abbrev pub create_call : List (List ℕ) → Result Call Why
create_call words = do
  taken ← path_and_mode words
  Ok (call.Create taken.0 taken.1)

-- `PATH` behind `rmdir`
abbrev pub rmdir_call : List (List ℕ) → Result Call Why
rmdir_call words = do
  path ← path_alone words
  Ok (call.Rmdir path)

-- `PATH` behind `stat`
abbrev pub stat_call : List (List ℕ) → Result Call Why
stat_call words = do
  path ← path_alone words
  Ok (call.Stat path)

abbrev pub call_kind : List (List ℕ) → Result Call Why
call_kind [] = bad_word
call_kind (word ∷ words) =
    if bytes_eq word (codes "mkdir") then mkdir_call words
    else (if bytes_eq word (codes "create") then create_call words
    else (if bytes_eq word (codes "rmdir") then rmdir_call words
    else (if bytes_eq word (codes "stat") then stat_call words else bad_word)))

-- the client of this number calls this behind its other calls
abbrev pub calling : ℕ → Call → List ClientLine → List ClientLine
calling place call [] = []
calling zero call (client ∷ clients) = record client { calls = client.calls ++ call ∷ [] } ∷ clients
calling (suc place) call (client ∷ clients) = client ∷ calling place call clients

-- one call more, of which there may be so many in all
abbrev pub with_call : Draft → ℕ → Result Call Why → Result Draft Why
with_call draft client (Err reason) = Err reason
with_call draft client (Ok call) =
    if nat_lt (call_count draft.clients) MOST_CALLS then Ok (record draft {
      reached = section.Calls;
      clients =
          calling client call draft.clients;
    })
    else Err why.TooMany

abbrev pub call_of : Draft → Option ℕ → List (List ℕ) → Result Draft Why
call_of draft None words = Err why.UnknownClient
call_of draft (Some client) words = with_call draft client (call_kind words)

abbrev pub call_client : Draft → List (List ℕ) → Result Draft Why
call_client draft [] = bad_word
call_client draft (name ∷ words) = call_of draft (place_of name draft.clients) words

-- `call NAME mkdir PATH MODE`, `call NAME create PATH MODE`, `call NAME rmdir PATH` or `call NAME stat PATH`
abbrev pub call_line : Draft → List (List ℕ) → Result Draft Why
call_line draft words = if may_stand section.Calls draft.reached then call_client draft words else bad_word
