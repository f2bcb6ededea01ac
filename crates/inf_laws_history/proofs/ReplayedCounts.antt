-- As many calls are replayed as have an answer that was decided.
use Rattle.std.proofs.Common.{◌≡◌, ◌≢◌, ℕ, zero, suc, ◌+◌, ◌<◌, ◌≤◌, Bool, true, false, cond, List, [], ◌∷◌, length, filter, get_or, Option, None, Some, is_some, IfSome, All, refl, sym, ap, ◌∙◌, subst, ⊎_elim, arith, length-append}
use Rattle.std.specs.List.{cons_option, filter_map}
use Rattle.std.proofs.lemmas.Bool.{cases_eq}
use Rattle.std.proofs.lemmas.List.Elements.{All-append, All-filter, All-head, All-nil, All-tail}
use Rattle.inf_duty.specs.Outcome.{Outcome, in_order, is_place, stands_at}
use Rattle.inf_duty.specs.World.{World}
use Rattle.inf_duty.specs.ClientState.{one_if}
use Rattle.inf_laws_history.specs.Counted.{IsCounted, is_decided}
use Rattle.inf_laws_history.specs.Replayed.{decided_of, decisions}
use Rattle.inf_laws_history.proofs.OwnPlaces.{results_have_own_places}
use Rattle.inf_laws_history.proofs.ReplayedAnswers.{decided_is, results_are_counted}
use Rattle.inf_message.specs.declared.call_result.CallResult.{CallResult}
use Rattle.inf_message.specs.declared.event.Event.{Event}
use Rattle.inf_message.proofs.HistoryLaws.{itself, other}
use Rattle.inf_tree.specs.Replay.{Decided}

-- ---- how often a result stands in order of place

abbrev times : ℕ → Option ℕ → ℕ
times zero at = 0
times (suc most) at = times most at + one_if (is_place (suc most) at)

never : (most : ℕ) → times most None ≡ 0
never zero = refl
never (suc most) = omega (arith, never most)

not_yet : (most place : ℕ) → most < place → times most (Some place) ≡ 0
not_yet zero place past = refl
not_yet (suc most) place past =
    omega (arith, not_yet most place (omega (arith, past)), ap one_if (other (suc most) place (omega (arith, past))))

once : (most place : ℕ) → 1 ≤ place → place ≤ most → times most (Some place) ≡ 1
once zero place counted within = absurd (omega (arith, counted, within))
once (suc most) place counted within =
    ⊎_elim
    (λ (same : place ≡ suc most).
    (let here : is_place (suc most) (Some place) ≡ true = subst (λ p. is_place (suc most) (Some p) ≡ true) (sym same) (itself (suc most)) in
    omega (arith, not_yet most place (omega (arith, same)), ap one_if here)))
    (λ (apart : place ≢ suc most).
    (let there : is_place (suc most) (Some place) ≡ false = other (suc most) place (λ same. apart (sym same)) in
    omega (arith, once most place counted (omega (arith, within, apart)), ap one_if there)))
    (cases_eq place (suc most))

as_placed : (most : ℕ) (at : Option ℕ) → IfSome at (λ place. (1 ≤ place) × (place ≤ most)) → times most at ≡ one_if (is_some at)
as_placed most None within = never most
as_placed most (Some place) within = once most place within.0 within.1

-- ---- results in order of place

one_filtered : (b : Bool) (result : CallResult) (rest : List CallResult) → length (cond b (result ∷ rest) rest) ≡ one_if b + length rest
one_filtered true result rest = omega arith
one_filtered false result rest = omega arith

none_in_order : (most : ℕ) → length (in_order most []) ≡ 0
none_in_order zero = refl
none_in_order (suc most) = omega (arith, length-append (in_order most []) [], none_in_order most)

one_in_order : (most : ℕ) (result : CallResult) (results : List CallResult) → length (in_order most (result ∷ results)) ≡ times most result.place + length (in_order most results)
one_in_order zero result results = refl
one_in_order (suc most) result results =
    omega (
      arith,
      length-append (in_order most (result ∷ results)) (filter (stands_at (suc most)) (result ∷ results)),
      length-append (in_order most results) (filter (stands_at (suc most)) results),
      one_in_order most result results,
      one_filtered (stands_at (suc most) result) result (filter (stands_at (suc most)) results),
    )

-- what is asked of each result
record IsRight (most : ℕ) (result : CallResult) : Type 0 where
  placed : is_some result.place ≡ is_decided result.answer
  within : IfSome result.place (λ place. (1 ≤ place) × (place ≤ most))

decided_count : (most : ℕ) (results : List CallResult) → All (IsRight most) results
    → length (in_order most results) ≡ length (filter (λ (r : CallResult). is_decided r.answer) results)
decided_count most [] all = none_in_order most
decided_count most (result ∷ results) all =
    let first = All-head (IsRight most) result results all in
    let rest = decided_count most results (All-tail (IsRight most) result results all) in
    omega (
      arith,
      one_in_order most result results,
      as_placed most result.place first.within,
      ap one_if first.placed,
      rest,
      one_filtered (is_decided result.answer) result (filter (λ (r : CallResult). is_decided r.answer) results),
    )

-- ---- each has its caller and its call

abbrev IsNamed : World → CallResult → Type 0
IsNamed world result = is_some (decided_of world result) ≡ true

all_in_order : (P : CallResult → Type 0) (most : ℕ) (results : List CallResult) → All P results → All P (in_order most results)
all_in_order P zero results all = All-nil P
all_in_order P (suc most) results all =
    All-append P (in_order most results) (filter (stands_at (suc most)) results) (all_in_order P most results all) (All-filter (stands_at (suc most)) P results all)

all_named : (world : World) (results : List CallResult) → All (IsNamed world) results → length (filter_map (decided_of world) results) ≡ length results
all_named world [] all = refl
all_named world (result ∷ results) all =
    by (decided_of world result) (All-head (IsNamed world) result results all) (all_named world results (All-tail (IsNamed world) result results all))
  where
    by : (o : Option Decided) → is_some o ≡ true → length (filter_map (decided_of world) results) ≡ length results
        → length (cons_option o (filter_map (decided_of world) results)) ≡ suc (length results)
    by None some rest = absurd cc
    by (Some d) some rest = omega (arith, rest)

-- as many calls are replayed as have an answer that was decided
pub none_left_out : (world : World) (h : List Event) (results : List CallResult) → Outcome world h results
    → length (decisions world h results) ≡ length (filter (λ (r : CallResult). is_decided r.answer) results)
none_left_out world h results out =
    let counted : All (IsCounted world h results) results = results_are_counted world h results out in
    let own = results_have_own_places world h results out in
    all_named world (in_order (length h) results)
    (all_in_order (IsNamed world) (length h) results
    (λ k d inside. ap is_some (decided_is world (get_or results k d) (counted k d inside).of_script)))
    ∙ decided_count (length h) results (λ k d inside. record { placed = (counted k d inside).placed; within = own.within k d inside })
