-- What one event changes of a client's results, as far as the tree has a say in them.
use Rattle.std.proofs.Common.{◌≡◌, ◌⊎◌, inl, inr, ℕ, suc, ◌+◌, ◌-◌, ◌≤◌, Bool, true, false, cond, eqb, List, [], ◌∷◌, ◌++◌, filter, slice_get, Option, None, Some, refl, sym, ap, ap₂, ◌∙◌, ⊎_elim, arith}
use Rattle.std.proofs.lemmas.List.{append-nil}
use Rattle.std.proofs.lemmas.List.Elements.{filter-append, filter_map-append}
use Rattle.std.specs.List.{cons_option, filter_map}
use Rattle.inf_base.specs.declared.answer.Answer.{Answer}
use Rattle.inf_base.specs.declared.answer.Answer.TheVariants as answer
use Rattle.inf_base.specs.declared.call.Call.{Call}
use Rattle.inf_base.specs.declared.caller.Caller.{Caller}
use Rattle.inf_base.specs.declared.setup.ClientLine.{ClientLine}
use Rattle.inf_duty.specs.Duty.{asked, given_up_in}
use Rattle.inf_duty.specs.Outcome.{Agrees, all_given_up, results_of, so_far, stands_at, unanswered}
use Rattle.inf_duty.specs.Start.{starting}
use Rattle.inf_duty.specs.World.{World}
use Rattle.inf_message.specs.declared.ending.Ending.TheVariants as ending
use Rattle.inf_message.specs.declared.turn.Turn.TheVariants as turn
use Rattle.inf_duty.specs.ClientState.{ClientState, Stage, act, compose, ended, rest_of, result_of, round, winds, wound}
use Rattle.inf_duty.specs.Flow.{after_act, clean_up}
use Rattle.inf_duty.specs.Group.{composed_stage}
use Rattle.inf_duty.specs.Course.{next_course}
use Rattle.inf_duty.specs.Turn.{learned, round_turn, served, told_in, turn_at, turned}
use Rattle.inf_message.specs.Who.{Who}
use Rattle.inf_message.specs.declared.ending.Ending.{Ending}
use Rattle.inf_message.specs.declared.turn.Turn.{Turn}
use Rattle.inf_laws_history.specs.Decisions.{decided_at_stage, decided_by_turn, decided_for, is_of_tree, of_tree}
use Rattle.inf_laws_history.specs.Decisions.{decided_call as decides}
use Rattle.inf_laws_history.specs.Replayed.{decided_by, decided_call, decided_of}
use Rattle.inf_message.specs.declared.ask.Ask.{Ask}
use Rattle.inf_message.specs.declared.call_result.CallResult.{CallResult}
use Rattle.inf_message.specs.declared.step.Message.{Message}
use Rattle.inf_message.specs.History.{Told}
use Rattle.inf_tree.specs.Replay.{Decided}
use Rattle.inf_duty.proofs.BegunKept.{IsKept, kept_all_given_up, kept_begun}
use Rattle.inf_laws_history.proofs.ClientSteps.{Lasts, begun_lasts, by_serve, lasts_kept, recorded_in, served_lasts}
use Rattle.inf_laws_history.proofs.Open.{IsOpen, TellsFlow, told_completes}
use Rattle.inf_laws_history.proofs.Turns.{IsAt, IsOnward, StageTurnOf, act_turn_at, by_next, by_round, kept_place, turn_as_act, weaker_turn}

-- ---- what a client reads off its line of the setup

abbrev pub calls_of : Option ClientLine → List Call
calls_of None = []
calls_of (Some line) = line.calls

pub record Reads (world : World) (client : ℕ) (line : Option ClientLine) (s : ClientState) : Type 0 where
  pub who : s.who ≡ (starting world client line).who
  pub counted : 1 ≤ s.number
  pub left : (k : ℕ) → slice_get s.left k ≡ slice_get (calls_of line) (s.number - 1 + k)

client_of : (world : World) (client : ℕ) (line : Option ClientLine) → (starting world client line).who.client ≡ client
client_of world client None = refl
client_of world client (Some line) = refl

pub starting_reads : (world : World) (client : ℕ) (line : Option ClientLine) → Reads world client line (starting world client line)
starting_reads world client None = record { who = refl; counted = omega arith; left = λ k. refl }
starting_reads world client (Some line) =
    record { who = refl; counted = omega arith; left = λ k. ap (slice_get line.calls) (let e : k ≡ 1 - 1 + k = omega arith in e) }

later : (calls : List Call) (k : ℕ) → slice_get (rest_of calls) k ≡ slice_get calls (suc k)
later [] k = refl
later (next ∷ calls) k = refl

one_on : (number k : ℕ) → 1 ≤ number → number - 1 + suc k ≡ number + 1 - 1 + k
one_on number k counted = omega arith

module _ (world : World) (client : ℕ) (line : Option ClientLine) where
  reads_last : Lasts world.digest (Reads world client line)
  reads_last = record {
    composing = λ s is. record { who = is.who; counted = is.counted; left = is.left };
    ending = λ given place s is. record {
      who = is.who;
      counted = omega (arith, is.counted);
      left = λ k. later s.left k ∙ is.left (suc k) ∙ ap (slice_get (calls_of line)) (one_on s.number k is.counted);
    };
    again = λ s is. record { who = is.who; counted = is.counted; left = is.left };
    going_on = λ next s is. record { who = is.who; counted = is.counted; left = is.left };
    learning = λ known s is. record { who = is.who; counted = is.counted; left = is.left };
  }

  pub asked_reads : (place : ℕ) (ask : Ask) (s : ClientState) → Reads world client line s → Reads world client line (asked world.digest place ask s)
  asked_reads place ask s is =
      let now = begun_lasts world.digest (Reads world client line) reads_last ask s.sent s is in
      record { who = now.who; counted = now.counted; left = now.left }

  pub served_reads : (ask_place : ℕ) (told : Told) (s : ClientState) → Reads world client line s → Reads world client line (served world.digest ask_place told s)
  served_reads =
      served_lasts world.digest (Reads world client line) reads_last (λ place told s is. record { who = is.who; counted = is.counted; left = is.left })

-- ---- the call that a result names is the one that ends

abbrev head_decides : Caller → Answer → Option Call → List Decided
head_decides caller given None = []
head_decides caller given (Some next) = record { caller = caller; call = next; answer = given } ∷ []

decides_head : (s : ClientState) (left : List Call) (given : Answer) → decides s left given ≡ head_decides s.who.caller given (slice_get left 0)
decides_head s [] given = refl
decides_head s (next ∷ left) given = refl

by_head : (line : ClientLine) (result : CallResult) (before : ℕ) → cons_option (decided_by result before (Some line)) [] ≡ head_decides line.caller result.answer (slice_get line.calls before)
by_head line result before = by_call (slice_get line.calls before)
  where
    by_call : (next : Option Call) → cons_option (decided_call line result next) [] ≡ head_decides line.caller result.answer next
    by_call None = refl
    by_call (Some next) = refl

first_left : (number : ℕ) → number - 1 + 0 ≡ number - 1
first_left number = omega arith

by_line : (world : World) (client : ℕ) (line : Option ClientLine) (s : ClientState) (result : CallResult) → Reads world client line s → cons_option (decided_by result (s.number - 1) line) [] ≡ decides s s.left result.answer
by_line world client None s result is = sym (decides_head s s.left result.answer ∙ ap (head_decides s.who.caller result.answer) (is.left 0))
by_line world client (Some line) s result is =
    by_head line result (s.number - 1)
    ∙ ap (λ n. head_decides line.caller result.answer (slice_get line.calls n)) (sym (first_left s.number))
    ∙ sym
    (
    decides_head s s.left result.answer
    ∙ ap (head_decides s.who.caller result.answer) (is.left 0)
    ∙ ap (λ (w : Who). head_decides w.caller result.answer (slice_get line.calls (s.number - 1 + 0))) is.who
    )

ended_is_decided : (world : World) (client : ℕ) (line : Option ClientLine) (s : ClientState) (given : Answer) (place last : Option ℕ) → slice_get world.setup.clients client ≡ line → Reads world client line s → cons_option (decided_of world (result_of given place last s)) [] ≡ decides s s.left given
ended_is_decided world client line s given place last at is =
    ap (λ found. cons_option (decided_by (result_of given place last s) (s.number - 1) found) [])
    (ap (λ (w : Who). slice_get world.setup.clients w.client) is.who ∙ ap (slice_get world.setup.clients) (client_of world client line) ∙ at)
    ∙ by_line world client line s (result_of given place last s) is

-- ---- results by place, as far as the tree has a say in them

abbrev pub tree_at : World → ℕ → List CallResult → List Decided
tree_at world place results = of_tree (filter_map (decided_of world) (filter (stands_at place) results))

pub tree_at_both : (world : World) (place : ℕ) (first second : List CallResult) → tree_at world place (first ++ second) ≡ tree_at world place first ++ tree_at world place second
tree_at_both world place first second =
    ap (λ results. of_tree (filter_map (decided_of world) results)) (filter-append (stands_at place) first second)
    ∙ ap of_tree (filter_map-append (decided_of world) (filter (stands_at place) first) (filter (stands_at place) second))
    ∙ filter-append (λ (d : Decided). is_of_tree d.answer) (filter_map (decided_of world) (filter (stands_at place) first)) _

-- the first of these calls, answered so, where the tree has a say in that
abbrev pub called : Caller → List Call → Answer → List Decided
called caller [] given = []
called caller (call ∷ calls) given = of_tree (record { caller = caller; call = call; answer = given } ∷ [])

called_is : (s : ClientState) (left : List Call) (given : Answer) → of_tree (decides s left given) ≡ called s.who.caller left given
called_is s [] given = refl
called_is s (call ∷ calls) given = refl

-- these, at this place alone
abbrev pub only_at : ℕ → ℕ → List Decided → List Decided
only_at place at these = cond (eqb place at) these []

abbrev pub if_at : ℕ → Option ℕ → List Decided → List Decided
if_at place None these = []
if_at place (Some at) these = only_at place at these

abbrev nothing : List Decided
nothing = []

no_more : (b : Bool) → cond b nothing nothing ≡ nothing
no_more true = refl
no_more false = refl

pub none_only : (place at : ℕ) (these : List Decided) → these ≡ [] → only_at place at these ≡ []
none_only place at these none = ap (only_at place at) none ∙ no_more (eqb place at)

-- the results of a call that is decided
abbrev pub by_ending : ℕ → Caller → List Call → Ending → List Decided
by_ending place caller left (ending.Answers given at) = if_at place at (called caller left given)
by_ending place caller left ending.Retries = []

abbrev pub by_stage : ℕ → Caller → List Call → Stage → List Decided
by_stage place caller left (winds end ms later) = by_ending place caller left end
by_stage place caller left other_stage = []

-- what a client's calls come to at a place: those that ended, and the one that is decided and winds up
abbrev pub comes_to : World → ℕ → ClientState → List Decided
comes_to world place s = tree_at world place s.results ++ by_stage place s.who.caller s.left s.stage

none_called : (place : ℕ) (caller : Caller) (end : Ending) → by_ending place caller [] end ≡ []
none_called place caller (ending.Answers given None) = refl
none_called place caller (ending.Answers given (Some at)) = no_more (eqb place at)
none_called place caller ending.Retries = refl

none_staged : (place : ℕ) (caller : Caller) (stage : Stage) → by_stage place caller [] stage ≡ []
none_staged place caller (winds end ms later) = none_called place caller end
none_staged place caller compose = refl
none_staged place caller (round keys) = refl
none_staged place caller (act flow) = refl

-- a call behind the one under way has no place
pub none_behind : (place : ℕ) (calls : List Call) (s : ClientState) → filter (stands_at place) (unanswered calls (ended answer.Unanswered None s)) ≡ []
none_behind place [] s = refl
none_behind place (call ∷ calls) s = none_behind place calls (ended answer.Unanswered None s)

module _ (world : World) (client : ℕ) (line : Option ClientLine) (found : slice_get world.setup.clients client ≡ line) (place : ℕ) where
  one_result : (given : Answer) (at last : Option ℕ) (s : ClientState) → Reads world client line s
      → tree_at world place (result_of given at last s ∷ []) ≡ if_at place at (called s.who.caller s.left given)
  one_result given None last s reads = refl
  one_result given (Some at) last s reads = by_test (eqb place at)
    where
      by_test : (b : Bool) → of_tree (filter_map (decided_of world) (cond b (result_of given (Some at) last s ∷ []) [])) ≡ cond b (called s.who.caller s.left given) []
      by_test true = ap of_tree (ended_is_decided world client line s given (Some at) last found reads) ∙ called_is s s.left given
      by_test false = refl

  -- ---- what is decided so far

  so_far_at : (stage : Stage) (s : ClientState) → Reads world client line s → tree_at world place (so_far stage s ∷ []) ≡ by_stage place s.who.caller s.left stage
  so_far_at (winds (ending.Answers given at) m ms) s reads = one_result given at None s reads
  so_far_at (winds ending.Retries m ms) s reads = refl
  so_far_at compose s reads = refl
  so_far_at (round keys) s reads = refl
  so_far_at (act flow) s reads = refl

  unanswered_at : (left : List Call) (s : ClientState) → s.left ≡ left → Reads world client line s → tree_at world place (unanswered left s) ≡ by_stage place s.who.caller s.left s.stage
  unanswered_at [] s is reads = sym (ap (λ calls. by_stage place s.who.caller calls s.stage) is ∙ none_staged place s.who.caller s.stage)
  unanswered_at (call ∷ calls) s is reads =
      tree_at_both world place (so_far s.stage s ∷ []) (unanswered calls (ended answer.Unanswered None s))
      ∙ ap₂ (λ a b. a ++ b) (so_far_at s.stage s reads) (ap (λ results. of_tree (filter_map (decided_of world) results)) (none_behind place calls s))
      ∙ append-nil _

  results_at : (s : ClientState) → Reads world client line s → tree_at world place (results_of s) ≡ comes_to world place s
  results_at s reads =
      tree_at_both world place s.results (unanswered s.left s)
      ∙ ap (λ more. tree_at world place s.results ++ more) (unanswered_at s.left s refl reads)

  -- ---- before a group

  composed_at : (stage : Stage) (s : ClientState) → by_stage place s.who.caller s.left (composed_stage world.digest s stage) ≡ by_stage place s.who.caller s.left stage
  composed_at compose s =
      by_next (λ (next : Stage). by_stage place s.who.caller s.left next ≡ []) world.digest s.who s.known (next_course s.left) refl (λ keys. refl)
      (λ course old new leads. refl)
  composed_at (round keys) s = refl
  composed_at (act flow) s = refl
  composed_at (winds end ms later) s = refl

  gave_up_at : (s : ClientState) → comes_to world place (ended answer.NoMemory None s) ≡ tree_at world place s.results ++ []
  gave_up_at s =
      append-nil (tree_at world place (ended answer.NoMemory None s).results)
      ∙ tree_at_both world place s.results _

  winding_at : (more : List (List Message)) (s : ClientState) → comes_to world place (wound (ending.Answers answer.NoMemory None) more s) ≡ tree_at world place s.results ++ []
  winding_at [] s = gave_up_at s
  winding_at (m ∷ ms) s = refl

  given_up_at : (stage : Stage) (s : ClientState) → s.stage ≡ stage → comes_to world place (given_up_in s stage) ≡ tree_at world place s.results ++ by_stage place s.who.caller s.left stage
  given_up_at (act flow) s is = winding_at (clean_up s.who flow) s
  given_up_at (winds end ms later) s is = ap (λ stage. tree_at world place s.results ++ by_stage place s.who.caller s.left stage) is
  given_up_at compose s is = gave_up_at s
  given_up_at (round keys) s is = gave_up_at s

  abbrev ComesTo : List Decided → ClientState → Type 0
  ComesTo these s = comes_to world place s ≡ these

  comes_kept : (these : List Decided) → IsKept world.digest (ComesTo these)
  comes_kept these = record {
    composing = λ s is. ap (λ more. tree_at world place s.results ++ more) (composed_at s.stage s) ∙ is;
    giving_up = λ s is. given_up_at s.stage s refl ∙ is;
  }

  -- an Ask changes nothing of what a client's calls came to
  pub asked_comes : (number : ℕ) (ask : Ask) (s : ClientState) → comes_to world place (asked world.digest number ask s) ≡ comes_to world place s
  asked_comes number ask s = kept_begun world.digest (ComesTo (comes_to world place s)) (comes_kept _) ask s.sent s refl

  all_given_up_reads : (s : ClientState) → Reads world client line s → Reads world client line (all_given_up s.left s)
  all_given_up_reads s reads = kept_all_given_up world.digest (Reads world client line) (lasts_kept world.digest (Reads world client line) (reads_last world client line)) s.left s reads

  -- the results that agree with a client
  pub agrees_at : (s : ClientState) (mine : List CallResult) → Reads world client line s → Agrees s mine → tree_at world place mine ≡ comes_to world place s
  agrees_at s mine reads agrees =
      ⊎_elim
      (λ same. ap (tree_at world place) same ∙ results_at s reads)
      (λ (gave : (s.sent ≡ []) × (mine ≡ results_of (all_given_up s.left s))).
      ap (tree_at world place) gave.1
      ∙ results_at (all_given_up s.left s) (all_given_up_reads s reads)
      ∙ kept_all_given_up world.digest (ComesTo (comes_to world place s)) (comes_kept _) s.left s refl)
      agrees

  -- ---- the turn after a group

  wound_comes : (end : Ending) (more : List (List Message)) (s : ClientState) → Reads world client line s
      → comes_to world place (wound end more s) ≡ tree_at world place s.results ++ by_ending place s.who.caller s.left end
  wound_comes (ending.Answers given at) [] s reads =
      append-nil (tree_at world place (ended given at s).results)
      ∙ tree_at_both world place s.results _
      ∙ ap (λ more. tree_at world place s.results ++ more) (one_result given at s.counts.last s reads)
  wound_comes ending.Retries [] s reads = refl
  wound_comes (ending.Answers given at) (ms ∷ later) s reads = refl
  wound_comes ending.Retries (ms ∷ later) s reads = refl

  -- an answer with a place has this one, or is not the tree's
  abbrev IsSaidAt : ℕ → Answer → ℕ → Type 0
  IsSaidAt now given at = (at ≡ now) ⊎ (is_of_tree given ≡ false)

  not_called : (caller : Caller) (left : List Call) (given : Answer) → is_of_tree given ≡ false → called caller left given ≡ []
  not_called caller [] given other = refl
  not_called caller (call ∷ calls) given other = ap (λ b. cond b (record { caller = caller; call = call; answer = given } ∷ []) []) other

  said_at : (now at : ℕ) (given : Answer) (s : ClientState) → IsSaidAt now given at
      → only_at place at (called s.who.caller s.left given) ≡ only_at place now (of_tree (decides s s.left given))
  said_at now at given s said =
      ⊎_elim
      (λ same. ap₂ (λ p these. only_at place p these) same (sym (called_is s s.left given)))
      (λ other.
      let none : called s.who.caller s.left given ≡ [] = not_called s.who.caller s.left given other in
      none_only place at _ none ∙ sym (none_only place now _ (called_is s s.left given ∙ none)))
      said

  onward_at : (caller : Caller) (left : List Call) (next : Stage) → IsOnward next → by_stage place caller left next ≡ []
  onward_at caller left compose is = refl
  onward_at caller left (round keys) is = refl
  onward_at caller left (act flow) is = refl
  onward_at caller left (winds end ms later) is = absurd is

  turned_comes : (now : ℕ) (t : Turn Stage) (s : ClientState) → Reads world client line s → StageTurnOf (IsSaidAt now) t
      → comes_to world place (turned t s) ≡ tree_at world place s.results ++ only_at place now (decided_by_turn s t)
  turned_comes now (turn.GoesOn next) s reads is =
      ap (λ more. tree_at world place s.results ++ more) (onward_at s.who.caller s.left next is ∙ sym (no_more (eqb place now)))
  turned_comes now (turn.WindsUp (ending.Answers given (Some at)) more) s reads is =
      wound_comes (ending.Answers given (Some at)) more s reads
      ∙ ap (λ these. tree_at world place s.results ++ these) (said_at now at given s is)
  turned_comes now (turn.WindsUp (ending.Answers given None) more) s reads is =
      wound_comes (ending.Answers given None) more s reads
      ∙ ap (λ these. tree_at world place s.results ++ these) (sym (no_more (eqb place now)))
  turned_comes now (turn.WindsUp ending.Retries more) s reads is =
      wound_comes ending.Retries more s reads
      ∙ ap (λ these. tree_at world place s.results ++ these) (sym (no_more (eqb place now)))

  round_said : (now : ℕ) (s : ClientState) → StageTurnOf (IsSaidAt now) (round_turn world.digest s)
  round_said now s = by_round (StageTurnOf (IsSaidAt now)) world.digest s tt tt tt (λ by at way. inr refl)

  stage_comes : (told : Told) (stage : Stage) (s : ClientState) → Reads world client line s → TellsFlow told stage s.sent
      → comes_to world place (turned (turn_at world.digest (learned stage s) stage) (learned stage s))
      ≡ (tree_at world place s.results ++ by_stage place s.who.caller s.left stage) ++ only_at place told.serve_place (decided_at_stage world.digest s stage)
  stage_comes told compose s reads tells =
      ap (λ front. front ++ []) (sym (append-nil (tree_at world place s.results)))
      ∙ ap (λ more. (tree_at world place s.results ++ []) ++ more) (sym (no_more (eqb place told.serve_place)))
  stage_comes told (round keys) s reads tells =
      let t : ClientState = learned (round keys) s in
      turned_comes told.serve_place (round_turn world.digest t) t (record { who = reads.who; counted = reads.counted; left = reads.left })
      (round_said told.serve_place t)
      ∙ ap (λ front. front ++ only_at place told.serve_place (decided_by_turn s (round_turn world.digest t))) (sym (append-nil (tree_at world place s.results)))
  stage_comes told (act flow) s reads tells =
      let t : Turn Stage = turn_at world.digest s (act flow) in
      turned_comes told.serve_place t s reads
      (turn_as_act (IsSaidAt told.serve_place) (after_act world.digest s.who flow s.sent)
      (weaker_turn (IsAt told.serve_place) (IsSaidAt told.serve_place) (λ given at is. inl is) _ (act_turn_at world.digest s.who flow s.sent told tells)))
      ∙ ap (λ front. front ++ only_at place told.serve_place (decided_by_turn s t)) (sym (append-nil (tree_at world place s.results)))
  stage_comes told (winds end ms later) s reads tells =
      wound_comes end later s reads
      ∙ sym (append-nil _)
      ∙ ap (λ more. (tree_at world place s.results ++ by_ending place s.who.caller s.left end) ++ more) (sym (no_more (eqb place told.serve_place)))

  -- a Serve adds what it decides, at its own place
  pub served_comes : (ask_place : ℕ) (told : Told) (s : ClientState) → IsOpen s → Reads world client line s
      → comes_to world place (served world.digest ask_place told s) ≡ comes_to world place s ++ only_at place told.serve_place (decided_for world.digest ask_place told s)
  served_comes ask_place told s is reads =
      let now : Reads world client line (recorded_in ask_place told s) = record { who = reads.who; counted = reads.counted; left = reads.left } in
      let same : comes_to world place s ≡ comes_to world place s ++ only_at place told.serve_place nothing =
      sym (append-nil _) ∙ ap (λ more. comes_to world place s ++ more) (sym (no_more (eqb place told.serve_place)))
      in
      by_serve world.digest (λ t made. comes_to world place t ≡ comes_to world place s ++ only_at place told.serve_place made) ask_place told s
      (λ apart. same)
      (λ here going. same)
      (λ here complete.
      stage_comes (told_in s told) s.stage (recorded_in ask_place told s) now (told_completes ask_place (told_in s told) s is here complete)
      ∙ ap (λ p. comes_to world place s ++ only_at place p (decided_at_stage world.digest (recorded_in ask_place told s) s.stage)) (kept_place s told))
