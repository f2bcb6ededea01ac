-- The places that a client holds: those of its results, and of the answers that its present group was told.
use Rattle.std.proofs.Common.{◌≡◌, ◌≢◌, ℕ, ◌+◌, ◌≤◌, ◌||◌, Bool, true, false, cond, eqb, List, [], ◌∷◌, ◌++◌, length, map, filter, Option, None, Some, refl, sym, ap, ap₂, subst, ◌∙◌, ⊎_elim, arith, length-append}
use Rattle.inf_base.specs.declared.id.Id.{Id}
use Rattle.std.proofs.lemmas.List.Elements.{filter-append}
use Rattle.inf_base.specs.declared.answer.Answer.{Answer}
use Rattle.inf_base.specs.declared.answer.Answer.TheVariants as answer
use Rattle.inf_base.specs.declared.call.Call.{Call}
use Rattle.inf_base.specs.declared.key.LookKey.{LookKey}
use Rattle.inf_base.specs.declared.setup.ClientLine.{ClientLine}
use Rattle.inf_duty.specs.Duty.{asked, begun, given_up_in}
use Rattle.inf_duty.specs.Outcome.{Agrees, all_given_up, is_place, results_of, so_far, stands_at, unanswered}
use Rattle.inf_duty.specs.Start.{starting}
use Rattle.inf_duty.specs.World.{World}
use Rattle.inf_message.specs.declared.ending.Ending.TheVariants as ending
use Rattle.inf_message.specs.declared.turn.Turn.TheVariants as turn
use Rattle.inf_duty.specs.ClientState.{ClientState, Stage, act, compose, ended, one_if, result_of, round, winds, wound}
use Rattle.inf_duty.specs.Flow.{after_act, clean_up}
use Rattle.inf_duty.specs.Group.{composed_stage}
use Rattle.inf_duty.specs.declared.flow.Flow.{Flow}
use Rattle.inf_duty.specs.Course.{next_course}
use Rattle.inf_duty.specs.Turn.{after_group, learned, recorded, round_turn, served, told_by, told_in, told_of, turn_at, turned}
use Rattle.inf_message.specs.Sent.{Sent, told_at}
use Rattle.inf_message.specs.Turn.{turn_as}
use Rattle.inf_message.specs.declared.ending.Ending.{Ending}
use Rattle.inf_message.specs.declared.turn.Turn.{Turn}
use Rattle.inf_message.specs.declared.ask.Ask.{Ask}
use Rattle.inf_message.specs.declared.call_result.CallResult.{CallResult}
use Rattle.inf_message.specs.declared.step.Message.{Message}
use Rattle.inf_message.specs.History.{Told, or_told}
use Rattle.inf_message.proofs.HistoryLaws.{other}
use Rattle.inf_duty.proofs.BegunKept.{IsKept, kept_all_given_up, kept_begun}
use Rattle.inf_laws_history.proofs.ClientSteps.{by_answer}
use Rattle.inf_laws_history.proofs.Open.{counted_same}
use Rattle.inf_laws_history.proofs.ResultFacts.{none_behind}
use Rattle.inf_laws_history.proofs.Turns.{IsThere, TurnOf, act_turn_there, by_next, by_round, kept_place, known_there, serve_is, told_there, way_there}
use Rattle.inf_resolve.specs.declared.known.Known.{Known}

-- how many of these results stand at the place
abbrev pub count_at : ℕ → List CallResult → ℕ
count_at place results = length (filter (stands_at place) results)

abbrev ending_count : ℕ → Ending → ℕ
ending_count place (ending.Answers given at) = one_if (is_place place at)
ending_count place ending.Retries = 0

abbrev stage_count : ℕ → Stage → ℕ
stage_count place (winds end ms later) = ending_count place end
stage_count place other_stage = 0

-- how often a client holds a place: by calls that ended, by the one that winds up, by its present group, or by what its
-- attempt was told before
abbrev pub held_at : ℕ → ClientState → ℕ
held_at place s =
    count_at place s.results + stage_count place s.stage + one_if (told_there place s.sent) + one_if (known_there place s.known)

pub count_both : (place : ℕ) (first second : List CallResult) → count_at place (first ++ second) ≡ count_at place first + count_at place second
count_both place first second = ap length (filter-append (stands_at place) first second) ∙ length-append (filter (stands_at place) first) _

count_one : (place : ℕ) (result : CallResult) → count_at place (result ∷ []) ≡ one_if (stands_at place result)
count_one place result = by_test (stands_at place result)
  where
    by_test : (b : Bool) → length (cond b (result ∷ []) []) ≡ one_if b
    by_test true = refl
    by_test false = refl

module _ (digest : List ℕ → Id) (place : ℕ) where
  ended_count : (given : Answer) (at : Option ℕ) (s : ClientState) → count_at place (ended given at s).results ≡ count_at place s.results + one_if (is_place place at)
  ended_count given at s =
      let new : CallResult = result_of given at s.counts.last s in
      count_both place s.results (new ∷ []) ∙ ap (λ n. count_at place s.results + n) (count_one place new)

  -- ---- after a group

  wound_holds : (end : Ending) (more : List (List Message)) (s : ClientState)
      → held_at place (wound end more s) ≤ count_at place s.results + ending_count place end + one_if (known_there place s.known)
  wound_holds (ending.Answers given at) [] s = omega (arith, ended_count given at s)
  wound_holds ending.Retries [] s = omega arith
  wound_holds (ending.Answers given at) (ms ∷ later) s = omega arith
  wound_holds ending.Retries (ms ∷ later) s = omega arith

  there_counts : (at : ℕ) (sent : List Sent) → told_there at sent ≡ true → one_if (eqb place at) ≤ one_if (told_there place sent)
  there_counts at sent there = by_test (eqb place at) refl
    where
      by_test : (b : Bool) → eqb place at ≡ b → one_if b ≤ one_if (told_there place sent)
      by_test false e = omega arith
      by_test true e =
          let same : place ≡ at = counted_same place at e in
          let here : told_there place sent ≡ true = subst (λ p. told_there p sent ≡ true) (sym same) there in
          omega (arith, ap one_if here)

  known_counts : (at : ℕ) (known : List Known) → known_there at known ≡ true → one_if (eqb place at) ≤ one_if (known_there place known)
  known_counts at known there = by_test (eqb place at) refl
    where
      by_test : (b : Bool) → eqb place at ≡ b → one_if b ≤ one_if (known_there place known)
      by_test false e = omega arith
      by_test true e =
          let same : place ≡ at = counted_same place at e in
          let here : known_there place known ≡ true = subst (λ p. known_there p known ≡ true) (sym same) there in
          omega (arith, ap one_if here)

  either : (b c : Bool) → one_if (b || c) ≤ one_if b + one_if c
  either true c = omega arith
  either false c = omega arith

  -- what is learned was known before, or told to the round
  both_known : (first second : List Known) → one_if (known_there place (first ++ second)) ≤ one_if (known_there place first) + one_if (known_there place second)
  both_known [] second = omega arith
  both_known (k ∷ first) second = by_test (eqb place k.place) (both_known first second)
    where
      by_test : (b : Bool) → one_if (known_there place (first ++ second)) ≤ one_if (known_there place first) + one_if (known_there place second)
          → one_if (b || known_there place (first ++ second)) ≤ one_if (b || known_there place first) + one_if (known_there place second)
      by_test true few = omega arith
      by_test false few = few

  one_told : (k : LookKey) (told : Option Told) (rest : List Known) (xs : List Sent) → one_if (known_there place rest) ≤ one_if (told_there place xs)
      → one_if (known_there place (told_of k told ++ rest)) ≤ one_if (serve_is place told || told_there place xs)
  one_told k None rest xs few = few
  one_told k (Some told) rest xs few = by_test (eqb place told.serve_place)
    where
      by_test : (b : Bool) → one_if (b || known_there place rest) ≤ one_if (b || told_there place xs)
      by_test true = omega arith
      by_test false = few

  all_told : (keys : List LookKey) (sent : List Sent) → one_if (known_there place (told_by keys sent)) ≤ one_if (told_there place sent)
  all_told [] sent = omega arith
  all_told (k ∷ keys) [] = omega arith
  all_told (k ∷ keys) (x ∷ xs) = one_told k x.told (told_by keys xs) xs (all_told keys xs)

  -- what a group's turn leaves: no more than was held before
  abbrev Few : ClientState → ClientState → Type 0
  Few s t = held_at place t ≤ count_at place s.results + one_if (told_there place s.sent) + one_if (known_there place s.known)

  flow_holds : (t : Turn Flow) (s : ClientState) → TurnOf (IsThere s.sent) t → Few s (turned (turn_as act t) s)
  flow_holds (turn.GoesOn step) s is = omega arith
  flow_holds (turn.WindsUp (ending.Answers given (Some at)) more) s is =
      omega (arith, wound_holds (ending.Answers given (Some at)) more s, there_counts at s.sent is)
  flow_holds (turn.WindsUp (ending.Answers given None) more) s is = omega (arith, wound_holds (ending.Answers given None) more s)
  flow_holds (turn.WindsUp ending.Retries more) s is = omega (arith, wound_holds ending.Retries more s)

  round_holds : (keys : List LookKey) (s : ClientState) → Few s (turned (round_turn digest (learned (round keys) s)) (learned (round keys) s))
  round_holds keys s =
      let t : ClientState = learned (round keys) s in
      let few : one_if (known_there place t.known) ≤ one_if (known_there place s.known) + one_if (told_there place s.sent) =
      omega (arith, both_known s.known (told_by keys s.sent), all_told keys s.sent)
      in
      by_round (λ x. Few s (turned x t)) digest t (omega (arith, few)) (omega arith) (omega (arith, ended_count answer.NoMemory None t))
      (λ by at way. omega (arith, few, ended_count (answer.Again by) (Some at) t, known_counts at t.known (way_there t.known by at way)))

  stage_holds : (stage : Stage) (s : ClientState) → held_at place (turned (turn_at digest (learned stage s) stage) (learned stage s))
      ≤ count_at place s.results + stage_count place stage + one_if (told_there place s.sent) + one_if (known_there place s.known)
  stage_holds compose s = omega arith
  stage_holds (round keys) s =
      let few : Few s (turned (turn_at digest (learned (round keys) s) (round keys)) (learned (round keys) s)) = round_holds keys s in
      omega (arith, few)
  stage_holds (act flow) s =
      let few : Few s (turned (turn_at digest s (act flow)) s) =
      flow_holds (after_act digest s.who flow s.sent) s (act_turn_there digest s.who flow s.sent)
      in
      omega (arith, few)
  stage_holds (winds end ms later) s =
      let few : held_at place (turned (turn_at digest s (winds end ms later)) s)
      ≤ count_at place s.results + ending_count place end + one_if (known_there place s.known) = wound_holds end later s in
      omega (arith, few)

  -- ---- before a group

  composed_count : (stage : Stage) (s : ClientState) → stage_count place (composed_stage digest s stage) ≡ stage_count place stage
  composed_count compose s =
      by_next (λ (next : Stage). stage_count place next ≡ 0) digest s.who s.known (next_course s.left) refl (λ keys. refl) (λ course old new leads. refl)
  composed_count (round keys) s = refl
  composed_count (act flow) s = refl
  composed_count (winds end ms later) s = refl

  given_up_holds : (stage : Stage) (s : ClientState) → held_at place (given_up_in s stage) ≤ held_at place s
  given_up_holds (act flow) s = omega (arith, wound_holds (ending.Answers answer.NoMemory None) (clean_up s.who flow) s)
  given_up_holds (winds end ms later) s = omega arith
  given_up_holds compose s = omega (arith, ended_count answer.NoMemory None s)
  given_up_holds (round keys) s = omega (arith, ended_count answer.NoMemory None s)

  less_kept : (most : ℕ) → IsKept digest (λ s. held_at place s ≤ most)
  less_kept most = record {
    composing = λ s few. omega (arith, few, composed_count s.stage s);
    giving_up = λ s few. omega (arith, few, given_up_holds s.stage s);
  }

  none_more : (at : ℕ) (sent : List Sent) → told_there place (sent ++ record { place = at; told = None } ∷ []) ≡ told_there place sent
  none_more at [] = refl
  none_more at (x ∷ sent) = ap (λ b. serve_is place x.told || b) (none_more at sent)

  -- an Ask makes a client hold no more
  pub asked_holds : (at : ℕ) (ask : Ask) (s : ClientState) → held_at place (asked digest at ask s) ≤ held_at place s
  asked_holds at ask s =
      let now : ClientState = begun digest ask s.sent s in
      let few : held_at place now ≤ held_at place s = kept_begun digest (λ t. held_at place t ≤ held_at place s) (less_kept _) ask s.sent s (omega arith) in
      let same : one_if (told_there place (now.sent ++ record { place = at; told = None } ∷ [])) ≡ one_if (told_there place now.sent) = ap one_if (none_more at now.sent) in
      omega (arith, few, same)

  -- ---- what the results show

  so_far_count : (stage : Stage) (s : ClientState) → count_at place (so_far stage s ∷ []) ≡ stage_count place stage
  so_far_count (winds (ending.Answers given at) m ms) s = count_one place (result_of given at None s)
  so_far_count (winds ending.Retries m ms) s = refl
  so_far_count compose s = refl
  so_far_count (round keys) s = refl
  so_far_count (act flow) s = refl

  unanswered_count : (left : List Call) (s : ClientState) → count_at place (unanswered left s) ≤ stage_count place s.stage
  unanswered_count [] s = omega arith
  unanswered_count (call ∷ calls) s =
      let rest : List CallResult = unanswered calls (ended answer.Unanswered None s) in
      let whole : count_at place (so_far s.stage s ∷ rest) ≡ count_at place (so_far s.stage s ∷ []) + count_at place rest = count_both place (so_far s.stage s ∷ []) rest in
      omega (arith, whole, so_far_count s.stage s, ap length (none_behind place calls s))

  results_count : (s : ClientState) → count_at place (results_of s) ≤ held_at place s
  results_count s = omega (arith, count_both place s.results (unanswered s.left s), unanswered_count s.left s)

  pub agrees_count : (s : ClientState) (mine : List CallResult) → Agrees s mine → count_at place mine ≤ held_at place s
  agrees_count s mine agrees =
      ⊎_elim
      (λ same. omega (arith, ap (count_at place) same, results_count s))
      (λ (gave : (s.sent ≡ []) × (mine ≡ results_of (all_given_up s.left s))).
      let few : held_at place (all_given_up s.left s) ≤ held_at place s = kept_all_given_up digest (λ t. held_at place t ≤ held_at place s) (less_kept _) s.left s (omega arith) in
      omega (arith, ap (count_at place) gave.1, results_count (all_given_up s.left s), few))
      agrees

  -- ---- a Serve

  module _ (ask_place : ℕ) (told : Told) where
    told_same : place ≢ told.serve_place → (x_place : ℕ) (old : Option Told) (b : Bool)
        → serve_is place ((λ (x : Sent). x.told) (cond b (record { place = x_place; told = Some (or_told old told) }) (record { place = x_place; told = old }))) ≡ serve_is place old
    told_same apart x_place None true = other place told.serve_place apart
    told_same apart x_place (Some before) true = refl
    told_same apart x_place old false = refl

    all_same : place ≢ told.serve_place → (sent : List Sent) → told_there place (map (told_at ask_place told) sent) ≡ told_there place sent
    all_same apart [] = refl
    all_same apart (x ∷ sent) = ap₂ (λ b c. b || c) (told_same apart x.place x.told (eqb x.place ask_place)) (all_same apart sent)

  one_at_most : (b : Bool) → one_if b ≤ 1
  one_at_most true = omega arith
  one_at_most false = omega arith

  -- a Serve makes a client hold no more of another place
  pub served_holds : (ask_place : ℕ) (told : Told) (s : ClientState) → place ≢ told.serve_place → held_at place (served digest ask_place told s) ≤ held_at place s
  served_holds ask_place told s apart =
      let now : ClientState = recorded ask_place (told_in s told) s in
      let same : one_if (told_there place now.sent) ≡ one_if (told_there place s.sent) =
      ap one_if (all_same ask_place (told_in s told) (λ e. apart (e ∙ kept_place s told)) s.sent) in
      by_answer digest (λ t. held_at place t ≤ held_at place s) ask_place told s
      (λ e. omega arith)
      (λ here going. let few : held_at place now ≤ held_at place s = omega (arith, same) in few)
      (λ here complete. let few : held_at place (after_group digest now) ≤ held_at place s = omega (arith, stage_holds s.stage now, same) in few)

  -- and its own place once, where it was not held before
  pub served_holds_one : (ask_place : ℕ) (told : Told) (s : ClientState) → held_at place s ≡ 0 → held_at place (served digest ask_place told s) ≤ 1
  served_holds_one ask_place told s none =
      let now : ClientState = recorded ask_place (told_in s told) s in
      let one : one_if (told_there place now.sent) ≤ 1 = one_at_most (told_there place now.sent) in
      by_answer digest (λ t. held_at place t ≤ 1) ask_place told s
      (λ e. omega (arith, none))
      (λ here going. let few : held_at place now ≤ 1 = omega (arith, none, one) in few)
      (λ here complete. let few : held_at place (after_group digest now) ≤ 1 = omega (arith, stage_holds s.stage now, none, one) in few)

pub starting_holds : (world : World) (client place : ℕ) (line : Option ClientLine) → held_at place (starting world client line) ≡ 0
starting_holds world client place None = refl
starting_holds world client place (Some line) = refl
