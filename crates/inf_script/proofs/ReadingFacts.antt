-- What reading makes of a refused line, and of bytes that are tested for UTF-8.
use Rattle.std.proofs.Common.{◌≡◌, ℕ, ◌+◌, Bool, true, false, List, [], ◌∷◌, Result, Ok, Err, IfSome, IfErr, IsErrAnd, ◌<◌, length, arith, is_ok, MatchResult, Bor, refl, sym}
use Rattle.std.specs.Str.{IsUtf8, is_utf8, IsValidUpTo, valid_up_to}
use Rattle.std.specs.declared.str.Utf8Error.{Utf8Error}
use Rattle.std.proofs.lemmas.Str.{IsUtf8-from_is_utf8, is_utf8-from_IsUtf8}
use Rattle.inf_script.specs.declared.refusal.ScriptRefusal.{ScriptRefusal}
use Rattle.inf_script.specs.declared.fault.ScriptFault.{ScriptFault}
use Rattle.inf_script.specs.declared.fault.ScriptFault.TheVariants as script_fault
use Rattle.inf_script.specs.declared.draft.Draft.{Draft}
use Rattle.inf_script.specs.Faults.{cause}
use Rattle.inf_script.specs.Sections.{after_line}
use Rattle.inf_script.specs.Reading.{at_line, read_line, read_from}
use Rattle.inf_script.specs.Examples.{IsRefusedBy}
use Rattle.inf_script.specs.declared.refusal.Why.{Why}

not_utf8 : (bytes : List ℕ) → ¬ (IsUtf8 bytes) → is_utf8 bytes ≡ false
not_utf8 bytes none = by_test (is_utf8 bytes) refl where
  by_test : (b : Bool) → is_utf8 bytes ≡ b → b ≡ false
  by_test true test = absurd (none (IsUtf8-from_is_utf8 bytes test))
  by_test false test = refl

pub tested_utf8 : (bytes : List ℕ) (r : Result (Bor (List ℕ)) Utf8Error) → MatchResult r (λ s. (s.now ≡ bytes) × IsUtf8 bytes) (λ e. ¬ (IsUtf8 bytes) × IsValidUpTo bytes (valid_up_to e)) → is_ok r ≡ is_utf8 bytes
tested_utf8 bytes (Ok s) valid = sym (is_utf8-from_IsUtf8 bytes valid.1)
tested_utf8 bytes (Err e) invalid = sym (not_utf8 bytes invalid.0)

-- the first refusal decides
pub read_from-refused : (more : Bool) (refusal : ScriptRefusal) (number : ℕ) (lines : List (List ℕ)) → read_from more number (Err refusal) lines ≡ Err refusal
read_from-refused more refusal number [] = refl
read_from-refused more refusal number (line ∷ lines) = read_from-refused more refusal (number + 1) lines

-- a line that is refused behind those that were read refuses the text
pub refused_line : (fault : ScriptFault) (more : Bool) (number : ℕ) (draft : Draft) (line : List ℕ) (lines : List (List ℕ)) → IfSome (cause fault) (λ f. read_line number (Ok draft) line ≡ Err f)
    → IfSome (cause fault) (λ f. read_from more number (Ok draft) (line ∷ lines) ≡ Err f)
refused_line (script_fault.Refused refusal) more number draft line lines refused = rw refused (read_from-refused more refusal (number + 1) lines)
refused_line script_fault.NoMemory more number draft line lines refused = tt

earlier_refused : (number : ℕ) (so_far : Result Draft ScriptRefusal) → IfErr so_far (λ refusal. refusal.line < number) → (line : List ℕ) → IfErr (read_line number so_far line) (λ refusal. refusal.line < number + 1)
earlier_refused number (Err refusal) before line = omega arith
earlier_refused number (Ok draft) before line = by_result (after_line draft line) where
  by_result : (r : Result Draft Why) → IfErr (at_line number r) (λ refusal. refusal.line < number + 1)
  by_result (Ok read) = tt
  by_result (Err reason) = omega arith

-- a text that goes on is refused in its unfinished line, or before
pub refused_by : (number last : ℕ) (so_far : Result Draft ScriptRefusal) → IfErr so_far (λ refusal. refusal.line < number) → (lines : List (List ℕ)) → number + length lines ≡ last → IsErrAnd (read_from true number so_far lines) (IsRefusedBy last)
refused_by number last (Err refusal) before [] counted = record { at_latest = omega arith; too_long = λ same. absurd (omega arith) }
refused_by number last (Ok draft) before [] counted = record { at_latest = omega arith; too_long = λ _. refl }
refused_by number last so_far before (line ∷ lines) counted = refused_by (number + 1) last (read_line number so_far line) (earlier_refused number so_far before line) lines (omega arith)
