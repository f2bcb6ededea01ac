-- The messages of a step of a clean-up, by their index.
use Rattle.std.proofs.Common.{◌≡◌, ◌≢◌, ℕ, zero, suc, ◌+◌, ◌<◌, ◌≤◌, List, [], ◌∷◌, length, map, slice_get, Some, None, refl, ap, ◌∙◌, arith}
use Rattle.std.specs.List.{range_with_len}
use Rattle.std.proofs.lemmas.List.{length-map}
use Rattle.std.proofs.lemmas.List.FromFn.{length-range_with_len}
use Rattle.inf_message.specs.CleanUp.{clean_up_message, numbers_of, step_of}
use Rattle.inf_message.specs.declared.clean_up.Target.{Target}
use Rattle.inf_message.specs.declared.lift.Lift.{Lift}

pub counted : (servers : ℕ) → length (range_with_len 0 servers) ≡ servers
counted servers = length-range_with_len 0 servers

from_at : (a count index : ℕ) → index < count → slice_get (range_with_len a count) index ≡ Some (a + index)
from_at a zero index below = absurd (omega arith)
from_at a (suc count) zero below = let same : a ≡ a + 0 = omega arith in ap Some same
from_at a (suc count) (suc index) below =
    let same : (a + 1) + index ≡ a + suc index = omega arith in
    from_at (a + 1) count index (omega arith) ∙ ap Some same

pub count_at : (servers index : ℕ) → index < servers → slice_get (range_with_len 0 servers) index ≡ Some index
count_at servers index below =
    let same : 0 + index ≡ index = omega arith in from_at 0 servers index below ∙ ap Some same

from_past : (a count index : ℕ) → count ≤ index → slice_get (range_with_len a count) index ≡ None
from_past a zero index past = refl
from_past a (suc count) zero past = absurd (omega arith)
from_past a (suc count) (suc index) past = from_past (a + 1) count index (omega arith)

pub count_past : (servers index : ℕ) → servers ≤ index → slice_get (range_with_len 0 servers) index ≡ None
count_past servers index past = from_past 0 servers index past

pub one_past : (number index : ℕ) → index ≢ 0 → slice_get (number ∷ []) index ≡ None
one_past number zero past = absurd (past refl)
one_past number (suc index) past = refl

pub size_of : (to : Target) (lifted : Lift) → length (step_of to lifted) ≡ length (numbers_of to)
size_of to lifted = length-map (numbers_of to) (λ (number : ℕ). clean_up_message number lifted)

in_map : (lifted : Lift) (numbers : List ℕ) (index number : ℕ) → slice_get numbers index ≡ Some number
    → slice_get (map (λ (n : ℕ). clean_up_message n lifted) numbers) index ≡ Some (clean_up_message number lifted)
in_map lifted [] index number is = absurd cc
in_map lifted (n ∷ numbers) zero number is =
    let same : n ≡ number = cc in ap (λ (k : ℕ). Some (clean_up_message k lifted)) same
in_map lifted (n ∷ numbers) (suc index) number is = in_map lifted numbers index number is

past_map : (lifted : Lift) (numbers : List ℕ) (index : ℕ) → slice_get numbers index ≡ None
    → slice_get (map (λ (n : ℕ). clean_up_message n lifted) numbers) index ≡ None
past_map lifted [] index is = refl
past_map lifted (n ∷ numbers) zero is = absurd cc
past_map lifted (n ∷ numbers) (suc index) is = past_map lifted numbers index is

pub message_at : (to : Target) (lifted : Lift) (index number : ℕ) → slice_get (numbers_of to) index ≡ Some number
    → slice_get (step_of to lifted) index ≡ Some (clean_up_message number lifted)
message_at to lifted index number is = in_map lifted (numbers_of to) index number is

pub message_past : (to : Target) (lifted : Lift) (index : ℕ) → slice_get (numbers_of to) index ≡ None
    → slice_get (step_of to lifted) index ≡ None
message_past to lifted index is = past_map lifted (numbers_of to) index is
