-- The first line and the lines of settings, word by word.
use Rattle.std.specs.Prelude.{ℕ, ◌&&◌, nat_eq, if◌then◌else◌, codes, List, [], ◌∷◌, Some, is_none, Result, Ok, Err}
use Rattle.std.specs.Str.{bytes_eq}
use Rattle.inf_base.specs.declared.limits.TheConstants.{MOST_SERVERS, MOST_DIGEST_BYTES}
use Rattle.inf_script.specs.declared.refusal.Why.{Why}
use Rattle.inf_script.specs.declared.section.Section.TheVariants as section
use Rattle.inf_script.specs.declared.draft.Draft.{Draft}
use Rattle.inf_script.specs.Draft.{rank, may_stand}
use Rattle.inf_script.specs.Faults.{bad_word}
use Rattle.inf_script.specs.Names.{number_within}

-- the value that was read, where no word is left
abbrev pub no_more : {X : Type 0} → X → List (List ℕ) → Result X Why
no_more value [] = Ok value
no_more value (word ∷ words) = bad_word

abbrev pub version : Draft → List (List ℕ) → Result Draft Why
version draft [] = bad_word
version draft (word ∷ words) =
    if bytes_eq word (codes "1") then no_more (record draft { reached = section.Settings }) words else bad_word

-- `infinifs 1`
abbrev pub first_line : Draft → List (List ℕ) → Result Draft Why
first_line draft words = if nat_eq (rank draft.reached) 0 then version draft words else bad_word

abbrev pub servers_end : Draft → Result ℕ Why → List (List ℕ) → Result Draft Why
servers_end draft (Err reason) words = Err reason
servers_end draft (Ok number) words = no_more (record draft { servers = Some number }) words

abbrev pub servers_number : Draft → List (List ℕ) → Result Draft Why
servers_number draft [] = bad_word
servers_number draft (word ∷ words) = servers_end draft (number_within 1 MOST_SERVERS word) words

-- `servers N`, once
abbrev pub servers_line : Draft → List (List ℕ) → Result Draft Why
servers_line draft words =
    if may_stand section.Settings draft.reached && is_none draft.servers then servers_number draft words else bad_word

abbrev pub digest_bytes_end : Draft → Result ℕ Why → List (List ℕ) → Result Draft Why
digest_bytes_end draft (Err reason) words = Err reason
digest_bytes_end draft (Ok number) words = no_more (record draft { digest_bytes = Some number }) words

abbrev pub digest_bytes_number : Draft → List (List ℕ) → Result Draft Why
digest_bytes_number draft [] = bad_word
digest_bytes_number draft (word ∷ words) = digest_bytes_end draft (number_within 1 MOST_DIGEST_BYTES word) words

-- `digest-bytes N`, once
abbrev pub digest_bytes_line : Draft → List (List ℕ) → Result Draft Why
digest_bytes_line draft words =
    if may_stand section.Settings draft.reached && is_none draft.digest_bytes then digest_bytes_number draft words
    else bad_word
