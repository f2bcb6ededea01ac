-- The words of a client line, from left to right.
use Rattle.std.specs.Prelude.{ℕ, nat_lt, if◌then◌else◌, codes, List, [], ◌∷◌, ◌++◌, length, is_some, Result, Ok, Err}
use Rattle.std.specs.Str.{bytes_eq}
use Rattle.inf_base.specs.declared.setup.ClientLine.{ClientLine}
use Rattle.inf_base.specs.declared.limits.TheConstants.{MOST_CLIENTS}
use Rattle.inf_base.specs.Setup.{is_client_name}
use Rattle.inf_script.specs.declared.refusal.Why.{Why}
use Rattle.inf_script.specs.declared.refusal.Why.TheVariants as why
use Rattle.inf_script.specs.declared.section.Section.TheVariants as section
use Rattle.inf_script.specs.declared.draft.Draft.{Draft}
use Rattle.inf_script.specs.Draft.{may_stand, place_of}
use Rattle.inf_script.specs.Faults.{bad_word, bad_number}

-- a client of user 0 and group 0 that has called nothing yet
abbrev pub new_client : List ℕ → ClientLine
new_client name = record { name = name; caller = record { uid = 0; gid = 0 }; calls = [] }

-- one client more, of which there may be so many
abbrev pub with_client : Draft → List ℕ → Result Draft Why
with_client draft name =
    if nat_lt (length draft.clients) MOST_CLIENTS then Ok (record draft {
      reached = section.Clients;
      clients =
          draft.clients ++ new_client name ∷ [];
    })
    else Err why.TooMany

abbrev pub client_end : Draft → List ℕ → List (List ℕ) → Result Draft Why
client_end draft name [] = with_client draft name
client_end draft name (word ∷ words) = bad_word

abbrev pub client_group : Draft → List ℕ → List (List ℕ) → Result Draft Why
client_group draft name [] = bad_word
client_group draft name (word ∷ words) = if bytes_eq word (codes "0") then client_end draft name words else bad_number

abbrev pub client_user : Draft → List ℕ → List (List ℕ) → Result Draft Why
client_user draft name [] = bad_word
client_user draft name (word ∷ words) = if bytes_eq word (codes "0") then client_group draft name words else bad_number

abbrev pub client_name : Draft → List (List ℕ) → Result Draft Why
client_name draft [] = bad_word
client_name draft (name ∷ words) =
    if is_client_name name then
    (if is_some (place_of name draft.clients) then Err why.DoubleClient else client_user draft name words)
    else bad_word

-- `client NAME 0 0`
abbrev pub client_line : Draft → List (List ℕ) → Result Draft Why
client_line draft words = if may_stand section.Clients draft.reached then client_name draft words else bad_word
