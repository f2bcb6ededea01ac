-- A client's stage is of a call that is built, and one that gives up what is left gives up a call.
use Rattle.std.proofs.Common.{◌≡◌, ℕ, suc, Bool, true, false, cond, eqb, ◌||◌, List, [], ◌∷◌, ◌++◌, length, slice_get, Option, Some, None, is_some, refl, sym, ap, subst, ◌∙◌, arith}
use Rattle.inf_base.specs.declared.id.Id.{Id}
use Rattle.std.specs.List.{list_any}
use Rattle.std.proofs.lemmas.List.Folds.{list_any-append}
use Rattle.inf_base.specs.declared.answer.Answer.TheVariants as answer
use Rattle.inf_base.specs.declared.call.Call.{Call}
use Rattle.inf_base.specs.declared.setup.ClientLine.{ClientLine}
use Rattle.inf_duty.specs.After.{client_after}
use Rattle.inf_duty.specs.Duty.{asked, given_up, given_up_in, may_give_up}
use Rattle.inf_duty.specs.Messages.{are_none}
use Rattle.inf_duty.specs.Outcome.{all_given_up, is_free, may_pass, results_of}
use Rattle.inf_duty.specs.Start.{starting}
use Rattle.inf_duty.specs.World.{World}
use Rattle.inf_message.specs.declared.ending.Ending.TheVariants as ending
use Rattle.inf_message.specs.declared.turn.Turn.TheVariants as turn
use Rattle.inf_duty.specs.ClientState.{ClientState, Stage, act, compose, ended, round, winds, wound}
use Rattle.inf_duty.specs.Flow.{clean_up}
use Rattle.inf_duty.specs.Group.{composed_stage, next_stage, stage_by}
use Rattle.inf_duty.specs.declared.course.Course.{Course}
use Rattle.inf_duty.specs.Course.{next_course}
use Rattle.inf_duty.specs.Turn.{learned, recorded, told_in, turn_at, turned}
use Rattle.inf_message.specs.Who.{Who}
use Rattle.inf_message.specs.declared.ending.Ending.{Ending}
use Rattle.inf_message.specs.declared.turn.Turn.{Turn}
use Rattle.inf_message.specs.declared.call_result.CallResult.{CallResult}
use Rattle.inf_message.specs.declared.event.Event.{Event}
use Rattle.inf_message.specs.declared.event.Event.TheVariants as event
use Rattle.inf_message.specs.declared.step.Message.{Message}
use Rattle.inf_message.specs.History.{Told, told_reply}
use Rattle.inf_duty.proofs.BegunFacts.{both, may_left}
use Rattle.inf_duty.proofs.BegunKept.{IsKept, if_both, kept_all_given_up, kept_begun}
use Rattle.inf_laws_history.proofs.ClientSteps.{Lasts, by_answer, lasts_kept}
use Rattle.inf_sched.specs.Laws.{gave_up}
use Rattle.inf_sched.proofs.OrderLaws.{IsLeft}
use Rattle.inf_resolve.specs.declared.known.Known.{Known}
use Rattle.inf_resolve.specs.Resolved.{resolved}

-- ---- what is asked for is built

abbrev pub IsBuilt : List Call → Stage → Type 0
IsBuilt left compose = Unit {0}
IsBuilt left other_stage = is_some (next_course left) ≡ true

abbrev pub IsBuiltFor : ClientState → Type 0
IsBuiltFor s = IsBuilt s.left s.stage

any_built : (left : List Call) (next : Stage) → is_some (next_course left) ≡ true → IsBuilt left next
any_built left compose some = tt
any_built left (round keys) some = some
any_built left (act flow) some = some
any_built left (winds end ms later) some = some

next_built : (digest : List ℕ → Id) (left : List Call) (who : Who) (known : List Known) (course : Option Course)
    → next_course left ≡ course → IsBuilt left (next_stage digest who known course)
next_built digest left who known None is = tt
next_built digest left who known (Some course) is =
    any_built left (stage_by course.deed (resolved digest who.root course.looked known)) (ap is_some is)

composed_built : (digest : List ℕ → Id) (s : ClientState) (stage : Stage) → IsBuilt s.left stage → IsBuilt s.left (composed_stage digest s stage)
composed_built digest s compose built = next_built digest s.left s.who s.known (next_course s.left) refl
composed_built digest s (round keys) built = built
composed_built digest s (act flow) built = built
composed_built digest s (winds end ms later) built = built

wound_built : (end : Ending) (more : List (List Message)) (s : ClientState) → is_some (next_course s.left) ≡ true → IsBuiltFor (wound end more s)
wound_built (ending.Answers given place) [] s some = tt
wound_built ending.Retries [] s some = tt
wound_built end (ms ∷ later) s some = some

turned_built : (t : Turn Stage) (s : ClientState) → is_some (next_course s.left) ≡ true → IsBuiltFor (turned t s)
turned_built (turn.GoesOn next) s some = any_built s.left next some
turned_built (turn.WindsUp end more) s some = wound_built end more s some

over_built : (digest : List ℕ → Id) (s : ClientState) (stage : Stage) → IsBuilt s.left stage
    → IsBuiltFor (turned (turn_at digest (learned stage s) stage) (learned stage s))
over_built digest s compose built = tt
over_built digest s (round keys) built =
    let knows = learned (round keys) s in
    turned_built (turn_at digest knows (round keys)) knows built
over_built digest s (act flow) built = turned_built (turn_at digest s (act flow)) s built
over_built digest s (winds end ms later) built = turned_built (turn_at digest s (winds end ms later)) s built

given_up_built : (s : ClientState) (stage : Stage) → IsBuilt s.left stage → IsBuiltFor s → IsBuiltFor (given_up_in s stage)
given_up_built s (act flow) built now = wound_built (ending.Answers answer.NoMemory None) (clean_up s.who flow) s built
given_up_built s (winds end ms later) built now = now
given_up_built s compose built now = tt
given_up_built s (round keys) built now = tt

built_kept : (digest : List ℕ → Id) → IsKept digest IsBuiltFor
built_kept digest = record {
  composing = λ s now. composed_built digest s s.stage now;
  giving_up = λ s now. given_up_built s s.stage now now;
}

starting_built : (world : World) (client : ℕ) (line : Option ClientLine) → IsBuiltFor (starting world client line)
starting_built world client None = tt
starting_built world client (Some line) = tt

pub built : (world : World) (client : ℕ) (h : List Event) → IsBuiltFor (client_after world client h)
built world client [] = starting_built world client (slice_get world.setup.clients client)
built world client (event.Ask number ask ∷ h) =
    let s : ClientState = client_after world client h in
    if_both IsBuiltFor (eqb ask.from.client client) (asked world.digest (suc (length h)) ask s) s
    (kept_begun world.digest IsBuiltFor (built_kept world.digest) ask s.sent s (built world client h))
    (built world client h)
built world client (event.Serve number ask_place given ∷ h) =
    let s : ClientState = client_after world client h in
    let told : Told = told_reply (suc (length h)) given in
    by_answer world.digest IsBuiltFor ask_place told s
    (λ apart. built world client h)
    (λ here going. built world client h)
    (λ here over. over_built world.digest (recorded ask_place (told_in s told) s) s.stage (built world client h))

-- ---- lists of results

pub true_before : (a b : Bool) → a ≡ true → (a || b) ≡ true
true_before true b e = refl
true_before false b e = absurd (cc)

pub true_behind : (a b : Bool) → b ≡ true → (a || b) ≡ true
true_behind true b e = refl
true_behind false b e = e

pub false_before : (a b : Bool) → (a || b) ≡ false → a ≡ false
false_before true b e = e
false_before false b e = refl

pub false_behind : (a b : Bool) → (a || b) ≡ false → b ≡ false
false_behind true b e = absurd (cc)
false_behind false b e = e

abbrev pub HasGivenUp : List CallResult → Type 0
HasGivenUp results = list_any gave_up results ≡ true

abbrev pub HasNotGivenUp : List CallResult → Type 0
HasNotGivenUp results = list_any gave_up results ≡ false

gave_up_before : (xs ys : List CallResult) → HasGivenUp xs → HasGivenUp (xs ++ ys)
gave_up_before xs ys gave = list_any-append gave_up xs ys ∙ true_before _ _ gave

gave_up_behind : (xs ys : List CallResult) → HasGivenUp ys → HasGivenUp (xs ++ ys)
gave_up_behind xs ys gave = list_any-append gave_up xs ys ∙ true_behind _ _ gave

pub none_before : (xs ys : List CallResult) → HasNotGivenUp (xs ++ ys) → HasNotGivenUp xs
none_before xs ys none = false_before _ (list_any gave_up ys) (sym (list_any-append gave_up xs ys) ∙ none)

pub none_behind : (xs ys : List CallResult) → HasNotGivenUp (xs ++ ys) → HasNotGivenUp ys
none_behind xs ys none = false_behind (list_any gave_up xs) _ (sym (list_any-append gave_up xs ys) ∙ none)

pub neither : (a b : Bool) → a ≡ false → b ≡ false → (a || b) ≡ false
neither true b e f = e
neither false b e f = f

pub none_joined : (xs ys : List CallResult) → HasNotGivenUp xs → HasNotGivenUp ys → HasNotGivenUp (xs ++ ys)
none_joined xs ys none none_more = list_any-append gave_up xs ys ∙ neither _ _ none none_more

-- ---- a client that is gone has given up a call

none_wound : (more : List (List Message)) (s : ClientState) → are_none more ≡ true → wound (ending.Answers answer.NoMemory None) more s ≡ ended answer.NoMemory None s
none_wound [] s none = refl
none_wound (ms ∷ later) s none = absurd (cc)

free_ends : (s : ClientState) (stage : Stage) → is_free s.who stage ≡ true → given_up_in s stage ≡ ended answer.NoMemory None s
free_ends s (act flow) free = none_wound (clean_up s.who flow) s free
free_ends s (winds end ms later) free = absurd (cc)
free_ends s compose free = refl
free_ends s (round keys) free = refl

-- where nothing has to be cleaned up, giving up ends the call
pub may_end : (s : ClientState) → may_pass s ≡ true → given_up s ≡ ended answer.NoMemory None s
may_end s may = free_ends s s.stage (both (may_give_up s) (is_free s.who s.stage) may).1

gave_up_lasts : (digest : List ℕ → Id) → Lasts digest (λ s. HasGivenUp s.results)
gave_up_lasts digest = record {
  composing = λ s gave. gave;
  ending = λ given place s gave. gave_up_before s.results _ gave;
  again = λ s gave. gave;
  going_on = λ next s gave. gave;
  learning = λ known s gave. gave;
}

all_gave_up : (digest : List ℕ → Id) (calls : List Call) (s : ClientState) → HasGivenUp s.results → HasGivenUp (all_given_up calls s).results
all_gave_up digest calls s gave = kept_all_given_up digest (λ t. HasGivenUp t.results) (lasts_kept digest (λ t. HasGivenUp t.results) (gave_up_lasts digest)) calls s gave

gave_up_left : (digest : List ℕ → Id) (s : ClientState) (left : List Call) → s.left ≡ left → may_pass s ≡ true → HasGivenUp (all_given_up left s).results
gave_up_left digest s [] is may =
    absurd (omega (arith, may_left s (both (may_give_up s) (is_free s.who s.stage) may).0, ap length is))
gave_up_left digest s (call ∷ calls) is may =
    let gave : HasGivenUp (given_up s).results =
    subst (λ (t : ClientState). HasGivenUp t.results) (sym (may_end s may)) (gave_up_behind s.results _ refl) in
    subst (λ b. HasGivenUp (cond b (all_given_up calls (given_up s)) s).results) (sym may) (all_gave_up digest calls (given_up s) gave)

pub gone_gave_up : (digest : List ℕ → Id) (s : ClientState) → IsLeft digest s → HasGivenUp (results_of (all_given_up s.left s))
gone_gave_up digest s left = gave_up_before (all_given_up s.left s).results _ (gave_up_left digest s s.left refl left.free)
