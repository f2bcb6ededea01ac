-- A client that shows no want of memory: what it did before shows none either, and what comes next shows none.
use Rattle.std.proofs.Common.{◌≡◌, ℕ, zero, suc, ◌<◌, ◌==◌, Bool, true, false, if◌then◌else◌, eqb, List, [], ◌∷◌, length, map, slice_get, Option, Some, None, refl, sym, ap, subst, ◌∙◌, inl, inr, ◌⊎◌, arith}
use Rattle.inf_base.specs.declared.id.Id.{Id}
use Rattle.std.specs.List.{list_any}
use Rattle.std.proofs.lemmas.Bool.Decides.{Decides-eqb}
use Rattle.std.proofs.lemmas.List.Folds.{list_any-append}
use Rattle.inf_base.specs.declared.answer.Answer.{Answer}
use Rattle.inf_base.specs.declared.answer.Answer.TheVariants as answer
use Rattle.inf_base.specs.declared.call.Call.{Call}
use Rattle.inf_base.specs.declared.caller.CallRef.{CallRef}
use Rattle.inf_base.specs.declared.key.LookKey.{LookKey}
use Rattle.inf_base.specs.declared.setup.ClientLine.{ClientLine}
use Rattle.inf_duty.specs.After.{client_after}
use Rattle.inf_duty.specs.Duty.{asked, asks, at_call, begun, found_at, given_up, given_up_in, lifts, may_give_up, next_step}
use Rattle.inf_duty.specs.Messages.{is_winding}
use Rattle.inf_duty.specs.Outcome.{come_to, results_of, so_far, unanswered}
use Rattle.inf_duty.specs.Start.{starting}
use Rattle.inf_duty.specs.World.{World}
use Rattle.inf_flow_dir.specs.declared.dir_flow.DirFlow.TheVariants as dir_flow
use Rattle.inf_message.specs.declared.ending.Ending.TheVariants as ending
use Rattle.inf_flow_file.specs.declared.file_flow.FileFlow.TheVariants as file_flow
use Rattle.inf_duty.specs.declared.flow.Flow.TheVariants as flow
use Rattle.inf_message.specs.declared.turn.Turn.TheVariants as turn
use Rattle.inf_duty.specs.ClientState.{ClientState, Stage, act, compose, ended, result_of, round, winds, wound}
use Rattle.inf_duty.specs.Flow.{clean_up, messages_of}
use Rattle.inf_duty.proofs.FlowFacts.{message_of, messages_are}
use Rattle.inf_duty.specs.Group.{composed, composed_stage, group, next_stage, stage_by}
use Rattle.inf_duty.specs.declared.course.Course.{Course}
use Rattle.inf_duty.specs.declared.course.Deed.{Deed}
use Rattle.inf_duty.specs.Course.{flow_at, next_course}
use Rattle.inf_duty.specs.Turn.{heard_in, is_lone, learned, recorded, served, told_in, turn_at, turned}
use Rattle.inf_duty.specs.declared.flow.Flow.{Flow}
use Rattle.inf_message.specs.Sent.{Sent, is_wanting, told_at, wants_memory}
use Rattle.inf_message.specs.Who.{Who, lookup_of}
use Rattle.inf_message.specs.declared.ending.Ending.{Ending}
use Rattle.inf_message.specs.declared.turn.Turn.{Turn}
use Rattle.inf_message.specs.declared.ask.Ask.{Ask}
use Rattle.inf_message.specs.declared.event.Event.{Event}
use Rattle.inf_message.specs.declared.event.Event.TheVariants as event
use Rattle.inf_message.specs.declared.reply.Reply.{Reply}
use Rattle.inf_message.specs.declared.reply.Reply.TheVariants as reply
use Rattle.inf_message.specs.declared.request.Request.{Request}
use Rattle.inf_message.specs.declared.step.Message.{Message}
use Rattle.inf_message.specs.Heard.{heard, light}
use Rattle.inf_message.specs.History.{Told, or_told, told_reply}
use Rattle.inf_resolve.specs.declared.known.Known.{Known}
use Rattle.inf_resolve.specs.declared.resolved.Resolved.{Resolved}
use Rattle.inf_resolve.specs.declared.resolved.Resolved.TheVariants as comes
use Rattle.inf_resolve.specs.Resolved.{resolved}
use Rattle.inf_duty.proofs.BegunFacts.{winding_goes}
use Rattle.inf_duty.proofs.BegunKept.{if_both}
use Rattle.inf_laws_history.proofs.ClientSteps.{Lasts, after_group_lasts, begun_lasts, by_answer}
use Rattle.inf_laws_history.proofs.PendingFacts.{goes}
use Rattle.inf_sched.specs.Laws.{is_no_mem, is_no_memory, wanted}
use Rattle.inf_sched.specs.Scene.{planned_from}
use Rattle.inf_sched.proofs.BuiltFacts.{HasNotGivenUp, IsBuilt, IsBuiltFor, false_before, false_behind, neither, none_before, none_behind, none_joined}
use Rattle.inf_sched.proofs.TurnFacts.{EndingHas, IsOfReplies, composed_has, StageHas, TurnHas, turn_has}

abbrev pub IsNoWant : Answer → Type 0
IsNoWant given = is_no_memory given ≡ false

-- no call has ended for want of memory, nor winds up for it
pub record ShowsNoWant (s : ClientState) : Type 0 where
  pub results : HasNotGivenUp s.results
  pub stage : StageHas IsNoWant s.stage

-- ---- by the results

no_want_stage : (s : ClientState) (stage : Stage) → is_no_memory (so_far stage s).answer ≡ false → StageHas IsNoWant stage
no_want_stage s (winds (ending.Answers given place) ms later) none = none
no_want_stage s (winds ending.Retries ms later) none = tt
no_want_stage s compose none = tt
no_want_stage s (round keys) none = tt
no_want_stage s (act step) none = tt

no_call_left : (stage : Stage) → IsBuilt [] stage → StageHas IsNoWant stage
no_call_left compose built = tt
no_call_left (round keys) built = tt
no_call_left (act step) built = tt
no_call_left (winds end ms later) built = absurd (cc)

none_left : (s : ClientState) (left : List Call) → IsBuilt left s.stage → HasNotGivenUp (unanswered left s) → StageHas IsNoWant s.stage
none_left s [] built none = no_call_left s.stage built
none_left s (call ∷ calls) built none = no_want_stage s s.stage (false_before (is_no_memory (so_far s.stage s).answer) _ none)

pub from_results : (s : ClientState) → IsBuiltFor s → HasNotGivenUp (results_of s) → ShowsNoWant s
from_results s built none = record {
  results = none_before s.results (unanswered s.left s) none;
  stage = none_left s s.left built (none_behind s.results (unanswered s.left s) none);
}

so_far_none : (s : ClientState) (stage : Stage) → is_wanting s.sent ≡ false → StageHas IsNoWant stage
    → is_no_memory (so_far stage s).answer ≡ false
so_far_none s (winds (ending.Answers given place) ms later) plain none = none
so_far_none s (winds ending.Retries ms later) plain none = refl
so_far_none s compose plain none = refl
so_far_none s (round keys) plain none = ap (λ b. is_no_memory (come_to b)) plain
so_far_none s (act step) plain none = refl

unanswered_none : (left : List Call) (s : ClientState) → is_wanting s.sent ≡ false → StageHas IsNoWant s.stage
    → HasNotGivenUp (unanswered left s)
unanswered_none [] s plain none = refl
unanswered_none (call ∷ left) s plain none =
    neither (is_no_memory (so_far s.stage s).answer) _ (so_far_none s s.stage plain none)
    (unanswered_none left (ended answer.Unanswered None s) refl tt)

-- where no answer to its round says so either
pub to_results : (s : ClientState) → is_wanting s.sent ≡ false → ShowsNoWant s → HasNotGivenUp (results_of s)
to_results s plain none =
    none_joined s.results (unanswered s.left s) none.results (unanswered_none s.left s plain none.stage)

-- ---- before a step

last_none : (s : ClientState) (given : Answer) (place : Option ℕ) → HasNotGivenUp (ended given place s).results → IsNoWant given
last_none s given place none =
    false_before (is_no_memory given) false (none_behind s.results (result_of given place s.counts.last s ∷ []) none)

-- a client that winds up so showed no want of memory
record Wound (end : Ending) (s : ClientState) : Type 0 where
  results : HasNotGivenUp s.results
  has : EndingHas IsNoWant end

before_wound : (end : Ending) (more : List (List Message)) (s : ClientState) → ShowsNoWant (wound end more s) → Wound end s
before_wound (ending.Answers given place) [] s none = record { results = none_before s.results _ none.results; has = last_none s given place none.results }
before_wound ending.Retries [] s none = record { results = none.results; has = tt }
before_wound end (ms ∷ later) s none = record { results = none.results; has = none.stage }

before_turn : (t : Turn Stage) (s : ClientState) → ShowsNoWant (turned t s) → HasNotGivenUp s.results
before_turn (turn.GoesOn next) s none = none.results
before_turn (turn.WindsUp end more) s none = (before_wound end more s none).results

before_over : (digest : List ℕ → Id) (s : ClientState) (stage : Stage)
    → ShowsNoWant (turned (turn_at digest (learned stage s) stage) (learned stage s))
    → HasNotGivenUp s.results × StageHas IsNoWant stage
before_over digest s compose none = (before_turn (turn_at digest s compose) s none, tt)
before_over digest s (round keys) none =
    let knows = learned (round keys) s in
    (before_turn (turn_at digest knows (round keys)) knows none, tt)
before_over digest s (act step) none = (before_turn (turn_at digest s (act step)) s none, tt)
before_over digest s (winds end ms later) none =
    let before = before_wound end later s none in
    (before.results, before.has)

pub before_served : (digest : List ℕ → Id) (place : ℕ) (told : Told) (s : ClientState) → ShowsNoWant (served digest place told s) → ShowsNoWant s
before_served digest place told s =
    by_answer digest (λ t. ShowsNoWant t → ShowsNoWant s) place told s
    (λ apart none. none)
    (λ here going none. record { results = none.results; stage = none.stage })
    (λ here over none.
    let before = before_over digest (recorded place (told_in s told) s) s.stage none in
    record { results = before.0; stage = before.1 })

before_giving_up : (s : ClientState) (stage : Stage) → ShowsNoWant (given_up_in s stage) → given_up_in s stage ≡ s
before_giving_up s (act step) none =
    absurd (let want = (before_wound (ending.Answers answer.NoMemory None) (clean_up s.who step) s none).has in cc)
before_giving_up s (winds end ms later) none = refl
before_giving_up s compose none = absurd (let want = last_none s answer.NoMemory None none.results in cc)
before_giving_up s (round keys) none = absurd (let want = last_none s answer.NoMemory None none.results in cc)

before_composed_stage : (digest : List ℕ → Id) (s : ClientState) (stage : Stage) → StageHas IsNoWant (composed_stage digest s stage) → StageHas IsNoWant stage
before_composed_stage digest s compose none = tt
before_composed_stage digest s (round keys) none = none
before_composed_stage digest s (act step) none = none
before_composed_stage digest s (winds end ms later) none = none

before_composed : (digest : List ℕ → Id) (s : ClientState) → ShowsNoWant (composed digest s) → ShowsNoWant s
before_composed digest s none = record { results = none.results; stage = before_composed_stage digest s s.stage none.stage }

-- it gave nothing up
abbrev KeptOn : (List ℕ → Id) → ClientState → ClientState → Type 0
KeptOn digest s t = (t ≡ s) ⊎ (t ≡ composed digest s)

before_kept : (digest : List ℕ → Id) (s t : ClientState) → KeptOn digest s t → ShowsNoWant t → ShowsNoWant s
before_kept digest s t (inl same) none = subst ShowsNoWant same none
before_kept digest s t (inr same) none = before_composed digest s (subst ShowsNoWant same none)

found_kept : (digest : List ℕ → Id) (s : ClientState) (b c : Bool) → ShowsNoWant (if b then (if c then given_up s else s) else composed digest s)
    → KeptOn digest s (if b then (if c then given_up s else s) else composed digest s)
found_kept digest s true true none = inl (before_giving_up s s.stage none)
found_kept digest s true false none = inl refl
found_kept digest s false c none = inr refl

at_call_kept : (digest : List ℕ → Id) (number : ℕ) (asked : Request) (calls : List Call) (s : ClientState) → ShowsNoWant (at_call digest number asked calls s)
    → KeptOn digest s (at_call digest number asked calls s)
at_call_kept digest number asked [] s none = inl refl
at_call_kept digest number asked (call ∷ calls) s none =
    by (at_call_kept digest number asked calls (given_up s)) (eqb number s.number) (may_give_up s) none
  where
    later : ClientState
    later = at_call digest number asked calls (given_up s)

    by : (ShowsNoWant later → KeptOn digest (given_up s) later) → (b c : Bool) → ShowsNoWant (if b then found_at digest asked s else (if c then later else s))
        → KeptOn digest s (if b then found_at digest asked s else (if c then later else s))
    by rest true c none = found_kept digest s (lifts asked) (may_give_up s) none
    by rest false true none =
        let kept : KeptOn digest (given_up s) later = rest none in
        subst (λ t. KeptOn digest t later) (before_giving_up s s.stage (before_kept digest (given_up s) later kept none)) kept
    by rest false false none = inl refl

begun_kept : (digest : List ℕ → Id) (ask : Ask) (sent : List Sent) (s : ClientState) → ShowsNoWant (begun digest ask sent s) → KeptOn digest s (begun digest ask sent s)
begun_kept digest ask [] s none = at_call_kept digest ask.from.number ask.request s.left s none
begun_kept digest ask (x ∷ sent) s none = inl refl

pub before_asked : (digest : List ℕ → Id) (place : ℕ) (ask : Ask) (s : ClientState) → ShowsNoWant (asked digest place ask s) → ShowsNoWant s
before_asked digest place ask s none =
    let now : ShowsNoWant (begun digest ask s.sent s) = record { results = none.results; stage = none.stage } in
    before_kept digest s (begun digest ask s.sent s) (begun_kept digest ask s.sent s now) now

-- a client with an ask to make has settled it
composed_same : (digest : List ℕ → Id) (s : ClientState) (stage : Stage) (m : Message) → slice_get (group s.who stage) (length s.sent) ≡ Some m → composed_stage digest s stage ≡ stage
composed_same digest s compose m found = absurd (cc)
composed_same digest s (round keys) m found = refl
composed_same digest s (act step) m found = refl
composed_same digest s (winds end ms later) at found = refl

settled : (digest : List ℕ → Id) (s : ClientState) (number : ℕ) (ask : Ask) → next_step s ≡ asks number ask → composed digest s ≡ s
settled digest s number ask next = ap (λ (stage : Stage). record s { stage = stage }) (composed_same digest s s.stage _ (goes s number ask next).message)

next_kept : (digest : List ℕ → Id) (s t : ClientState) (number : ℕ) (ask : Ask) → KeptOn digest s t → next_step t ≡ asks number ask → next_step (composed digest s) ≡ asks number ask
next_kept digest s t number ask (inl same) next =
    let here : next_step s ≡ asks number ask = ap next_step (sym same) ∙ next in
    ap next_step (settled digest s number ask here) ∙ here
next_kept digest s t number ask (inr same) next = ap next_step (sym same) ∙ next

-- so an ask that shows no want of memory is the next one
pub is_planned : (digest : List ℕ → Id) (s : ClientState) (number : ℕ) (ask : Ask) (sent : List Sent) → next_step (begun digest ask sent s) ≡ asks number ask → ShowsNoWant (begun digest ask sent s)
    → next_step (planned_from digest sent s) ≡ asks number ask
is_planned digest s number ask [] next none = next_kept digest s (begun digest ask [] s) number ask (begun_kept digest ask [] s none) next
is_planned digest s number ask (x ∷ sent) next none = next

-- ---- behind a step

pub after_planned : (digest : List ℕ → Id) (sent : List Sent) (s : ClientState) → ShowsNoWant s → ShowsNoWant (planned_from digest sent s)
after_planned digest [] s none = record { results = none.results; stage = composed_has digest IsNoWant s s.stage none.stage }
after_planned digest (x ∷ sent) s none = none

no_lift : (who : Who) (step : Flow) → lifts (message_of who step).request ≡ false
no_lift who (flow.File (file_flow.Finishes chain op)) = refl
no_lift who (flow.Dir (dir_flow.Reserves chain name mode)) = refl
no_lift who (flow.Dir (dir_flow.Makes chain name mode version id)) = refl
no_lift who (flow.Dir (dir_flow.Links chain name mode version dir)) = refl
no_lift who (flow.Dir (dir_flow.Seals chain)) = refl
no_lift who (flow.Dir (dir_flow.Unlinks chain)) = refl

no_step_lifts : (who : Who) (step : Flow) (m : Message) → slice_get (messages_of who step) 0 ≡ Some m
    → lifts m.request ≡ false
no_step_lifts who step m found =
    let first : slice_get (message_of who step ∷ []) 0 ≡ Some m =
    ap (λ (ms : List Message). slice_get ms 0) (sym (messages_are who step)) ∙ found in
    let same : message_of who step ≡ m = cc in
    subst (λ (n : Message). lifts n.request ≡ false) same (no_lift who step)

no_lookup_lifts : (who : Who) (keys : List LookKey) (index : ℕ) (m : Message) → slice_get (map (lookup_of who) keys) index ≡ Some m → lifts m.request ≡ false
no_lookup_lifts who [] index m found = absurd (cc)
no_lookup_lifts who (k ∷ keys) zero m found =
    let same : lookup_of who k ≡ m = cc in
    ap (λ (n : Message). lifts n.request) (sym same)
no_lookup_lifts who (k ∷ keys) (suc index) m found = no_lookup_lifts who keys index m found

no_first_lifts : (who : Who) (what : Deed) (comes_so : Resolved) (m : Message)
    → slice_get (group who (stage_by what comes_so)) 0 ≡ Some m → lifts m.request ≡ false
no_first_lifts who what (comes.Asks keys) m found = no_lookup_lifts who keys 0 m found
no_first_lifts who what (comes.Leads old new) m found =
    no_step_lifts who (flow_at what old.chain old.left) m found
no_first_lifts who what (comes.IsBusy by place) m found = absurd (cc)
no_first_lifts who what comes.Lacks m found = absurd (cc)

no_next_lifts : (digest : List ℕ → Id) (who : Who) (known : List Known) (course : Option Course) (m : Message)
    → slice_get (group who (next_stage digest who known course)) 0 ≡ Some m → lifts m.request ≡ false
no_next_lifts digest who known None m found = absurd (cc)
no_next_lifts digest who known (Some course) m found =
    no_first_lifts who course.deed (resolved digest who.root course.looked known) m found

found_composed : (digest : List ℕ → Id) (asked : Request) (s : ClientState) → lifts asked ≡ false → found_at digest asked s ≡ composed digest s
found_composed digest asked s no_lift = ap (λ b. if b then (if may_give_up s then given_up s else s) else composed digest s) no_lift

-- an ask that lifts something is of a client that winds up
finds_composed : (digest : List ℕ → Id) (s : ClientState) (stage : Stage) (m : Message) → s.stage ≡ stage → slice_get (group s.who (composed_stage digest s stage)) 0 ≡ Some m
    → found_at digest m.request s ≡ composed digest s
finds_composed digest s compose m is found = found_composed digest m.request s (no_next_lifts digest s.who s.known (next_course s.left) m found)
finds_composed digest s (round keys) m is found = found_composed digest m.request s (no_lookup_lifts s.who keys 0 m found)
finds_composed digest s (act step) m is found =
    found_composed digest m.request s (no_step_lifts s.who step m found)
finds_composed digest s (winds end ms later) n is found =
    let same : s ≡ composed digest s = sym (ap (λ (stage : Stage). record s { stage = stage }) (ap (composed_stage digest s) is ∙ sym is)) in
    if_both (λ (t : ClientState). t ≡ composed digest s) (lifts n.request) (if may_give_up s then given_up s else s) (composed digest s)
    (ap (λ b. if b then given_up s else s) (winding_goes s (ap is_winding is)) ∙ same) refl

abbrev message_to : ℕ → Request → Message
message_to number what = record { number = number; request = what }

-- the next ask finds the client as it planned it
pub begun_planned : (digest : List ℕ → Id) (s : ClientState) (number : ℕ) (ask : Ask) (sent : List Sent) → s.sent ≡ sent → next_step (planned_from digest sent s) ≡ asks number ask
    → begun digest ask sent s ≡ planned_from digest sent s
begun_planned digest s number ask (x ∷ sent) is next = refl
begun_planned digest s number ask [] is next =
    let to = goes (composed digest s) number ask next in
    let own : eqb ask.from.number s.number ≡ true = (Decides-eqb ask.from.number s.number).1 (ap (λ (call : CallRef). call.number) to.from) in
    let first : slice_get (group s.who (composed_stage digest s s.stage)) 0 ≡ Some (message_to number ask.request) =
    subst (λ (xs : List Sent). slice_get (group s.who (composed_stage digest s s.stage)) (length xs) ≡ Some (message_to number ask.request)) is to.message in
    let found = finds_composed digest s s.stage (message_to number ask.request) refl first in
    at_hand s.left to.under_way own found
  where
    at_hand : (left : List Call) → 0 < length left → eqb ask.from.number s.number ≡ true → found_at digest ask.request s ≡ composed digest s
        → at_call digest ask.from.number ask.request left s ≡ composed digest s
    at_hand [] none own found = absurd (omega arith)
    at_hand (call ∷ calls) some own found =
        ap (λ b. if b then found_at digest ask.request s else (if may_give_up s then at_call digest ask.from.number ask.request calls (given_up s) else s)) own
        ∙ found

no_want : IsOfReplies IsNoWant
no_want = record {
  done = refl;
  stat = λ kind meta. refl;
  refused = λ error. refl;
  again = λ by. refl;
  clash = λ own kept. refl;
}

after_wound : (end : Ending) (more : List (List Message)) (s : ClientState) → EndingHas IsNoWant end → HasNotGivenUp s.results → ShowsNoWant (wound end more s)
after_wound (ending.Answers given place) [] s none before = record {
  results = none_joined s.results (result_of given place s.counts.last s ∷ []) before (neither (is_no_memory given) false none refl);
  stage = tt;
}
after_wound ending.Retries [] s none before = record { results = before; stage = tt }
after_wound end (ms ∷ later) s none before = record { results = before; stage = none }

after_turn : (t : Turn Stage) (s : ClientState) → TurnHas IsNoWant t → HasNotGivenUp s.results → ShowsNoWant (turned t s)
after_turn (turn.GoesOn next) s none before = record { results = before; stage = none }
after_turn (turn.WindsUp end more) s none before = after_wound end more s none before

after_over : (digest : List ℕ → Id) (s : ClientState) (stage : Stage) → is_wanting s.sent ≡ false → StageHas IsNoWant stage
    → HasNotGivenUp s.results → ShowsNoWant (turned (turn_at digest (learned stage s) stage) (learned stage s))
after_over digest s compose plain none before = after_turn (turn_at digest s compose) s tt before
after_over digest s (round keys) plain none before =
    let knows = learned (round keys) s in
    after_turn (turn_at digest knows (round keys)) knows
    (turn_has digest IsNoWant no_want knows (round keys) none (λ want. absurd (cc))) before
after_over digest s (act step) plain none before =
    after_turn (turn_at digest s (act step)) s
    (turn_has digest IsNoWant no_want s (act step) none (λ want. absurd (cc))) before
after_over digest s (winds end ms later) plain none before = after_turn (turn_at digest s (winds end ms later)) s none before

pub after_served : (digest : List ℕ → Id) (place : ℕ) (told : Told) (s : ClientState)
    → is_wanting (map (told_at place (told_in s told)) s.sent) ≡ false → ShowsNoWant s
    → ShowsNoWant (served digest place told s)
after_served digest place told s plain none =
    by_answer digest ShowsNoWant place told s
    (λ apart. none)
    (λ here going. record { results = none.results; stage = none.stage })
    (λ here over. after_over digest (recorded place (told_in s told) s) s.stage plain none.stage none.results)

-- ---- what clients were told

pub plain_told : (place : ℕ) (given : Reply) → is_no_mem given ≡ false → wants_memory (Some (told_reply place given)) ≡ false
plain_told place reply.NoMem plain = absurd (cc)
plain_told place any_reply plain = refl

heard_plain : (place : ℕ) (given : Reply) → wants_memory (Some (told_reply place given)) ≡ false
    → wants_memory (Some (told_reply place (heard given))) ≡ false
heard_plain place (reply.Listing items) plain = refl
heard_plain place reply.NoMem plain = absurd (cc)
heard_plain place any_reply plain = refl

light_plain : (place : ℕ) (given : Reply) → wants_memory (Some (told_reply place given)) ≡ false
    → wants_memory (Some (told_reply place (light given))) ≡ false
light_plain place (reply.Found k access) plain = refl
light_plain place (reply.Clash kept) plain = refl
light_plain place (reply.Listing items) plain = refl
light_plain place reply.NoMem plain = absurd (cc)
light_plain place any_reply plain = refl

kept_plain : (stage : Stage) (place : ℕ) (given : Reply) → wants_memory (Some (told_reply place given)) ≡ false
    → wants_memory (Some (told_reply place (heard_in stage given))) ≡ false
kept_plain (round keys) place given plain = heard_plain place given plain
kept_plain compose place given plain = light_plain place given plain
kept_plain (act step) place given plain = light_plain place given plain
kept_plain (winds end ms later) place given plain = light_plain place given plain

-- nor does what is kept of it say so
pub plain_in : (s : ClientState) (told : Told) → wants_memory (Some told) ≡ false
    → wants_memory (Some (told_in s told)) ≡ false
plain_in s told plain =
    if_both (λ (x : Told). wants_memory (Some x) ≡ false) (is_lone s) told
    (record told { reply = heard_in s.stage told.reply }) plain
    (kept_plain s.stage told.serve_place told.reply plain)

first_told : (earlier : Option Told) (told : Told) → wants_memory earlier ≡ false → wants_memory (Some told) ≡ false → wants_memory (Some (or_told earlier told)) ≡ false
first_told None told before now = now
first_told (Some earlier) told before now = before

pub plain_recorded : (place : ℕ) (told : Told) (sent : List Sent) → wants_memory (Some told) ≡ false → is_wanting sent ≡ false → is_wanting (map (told_at place told) sent) ≡ false
plain_recorded place told [] now before = refl
plain_recorded place told (x ∷ sent) now before =
    neither (wants_memory (told_at place told x).told) (is_wanting (map (told_at place told) sent))
    (if_both (λ (y : Sent). wants_memory y.told ≡ false) (x.place == place) (record x { told = Some (or_told x.told told) }) x
    (first_told x.told told (false_before _ _ before) now) (false_before _ _ before))
    (plain_recorded place told sent now (false_behind (wants_memory x.told) _ before))

wants_last : (digest : List ℕ → Id) → Lasts digest (λ s. is_wanting s.sent ≡ false)
wants_last digest = record {
  composing = λ s plain. plain;
  ending = λ given place s plain. refl;
  again = λ s plain. refl;
  going_on = λ next s plain. refl;
  learning = λ known s plain. plain;
}

starting_plain : (world : World) (client : ℕ) (line : Option ClientLine) → is_wanting (starting world client line).sent ≡ false
starting_plain world client None = refl
starting_plain world client (Some line) = refl

-- where no server wanted memory, no client was told so
pub plain_after : (world : World) (client : ℕ) (h : List Event) → list_any wanted h ≡ false → is_wanting (client_after world client h).sent ≡ false
plain_after world client [] plain = starting_plain world client (slice_get world.setup.clients client)
plain_after world client (event.Ask number ask ∷ h) plain =
    let s : ClientState = client_after world client h in
    let before : is_wanting s.sent ≡ false = plain_after world client h plain in
    if_both (λ (t : ClientState). is_wanting t.sent ≡ false) (eqb ask.from.client client) (asked world.digest (suc (length h)) ask s) s
    (list_any-append (λ (x : Sent). wants_memory x.told) (begun world.digest ask s.sent s).sent _
    ∙ neither (is_wanting (begun world.digest ask s.sent s).sent) false (begun_lasts world.digest (λ t. is_wanting t.sent ≡ false) (wants_last world.digest) ask s.sent s before) refl)
    before
plain_after world client (event.Serve number ask_place given ∷ h) plain =
    let s : ClientState = client_after world client h in
    let told : Told = told_reply (suc (length h)) given in
    let now : is_wanting (map (told_at ask_place (told_in s told)) s.sent) ≡ false =
    plain_recorded ask_place (told_in s told) s.sent
    (plain_in s told (plain_told (suc (length h)) given (false_before _ _ plain)))
    (plain_after world client h (false_behind (is_no_mem given) _ plain)) in
    by_answer world.digest (λ t. is_wanting t.sent ≡ false) ask_place told s
    (λ apart. plain_after world client h (false_behind (is_no_mem given) _ plain))
    (λ here going. now)
    (λ here over.
    after_group_lasts world.digest (λ t. is_wanting t.sent ≡ false) (wants_last world.digest)
    (recorded ask_place (told_in s told) s) now)
