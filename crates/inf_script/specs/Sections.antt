-- The lines of a script, by their first words.
use Rattle.std.specs.Prelude.{ℕ, nat_lt, List, [], ◌∷◌, length, if◌then◌else◌, codes, Result, Ok, Err}
use Rattle.std.specs.Str.{bytes_eq, is_utf8}
use Rattle.inf_script.specs.declared.refusal.Why.{Why}
use Rattle.inf_script.specs.declared.refusal.Why.TheVariants as why
use Rattle.inf_script.specs.declared.script.TheConstants.{MOST_LINE_BYTES}
use Rattle.inf_script.specs.declared.section.Section.TheVariants as section
use Rattle.inf_script.specs.declared.draft.Draft.{Draft}
use Rattle.inf_script.specs.Draft.{may_stand}
use Rattle.inf_script.specs.Faults.{bad_word}
use Rattle.inf_script.specs.Words.{without_return, words_of, is_comment}
use Rattle.inf_script.specs.Settings.{no_more, first_line, servers_line, digest_bytes_line}
use Rattle.inf_script.specs.ClientLine.{client_line}
use Rattle.inf_script.specs.CallLine.{call_line}
use Rattle.inf_script.specs.OrderLine.{order_line}

-- `end`
abbrev pub end_line : Draft → List (List ℕ) → Result Draft Why
end_line draft words =
    if may_stand section.Order draft.reached then no_more (record draft { reached = section.Ended }) words else bad_word

-- a line by its first word and the words behind it
abbrev pub word_line : Draft → List ℕ → List (List ℕ) → Result Draft Why
word_line draft word words =
    if bytes_eq word (codes "infinifs") then first_line draft words
    else (if bytes_eq word (codes "servers") then servers_line draft words
    else (if bytes_eq word (codes "digest-bytes") then digest_bytes_line draft words
    else (if bytes_eq word (codes "client") then client_line draft words
    else (if bytes_eq word (codes "call") then call_line draft words
    else (if bytes_eq word (codes "order") then order_line draft words
    else (if bytes_eq word (codes "end") then end_line draft words else bad_word))))))

-- empty lines and comments are passed over
abbrev pub after_words : Draft → List (List ℕ) → Result Draft Why
after_words draft [] = Ok draft
after_words draft (word ∷ words) = if is_comment word then Ok draft else word_line draft word words

-- what was read when one more line is read
abbrev pub after_line : Draft → List ℕ → Result Draft Why
after_line draft line =
    if nat_lt MOST_LINE_BYTES (length line) then Err why.TooLong
    else (if is_utf8 line then after_words draft (words_of (without_return line)) else Err why.NotUtf8)
