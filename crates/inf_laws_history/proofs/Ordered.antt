-- Results in the order of their places, against what the Serves decide, as far as the tree has a say in them.
use Rattle.std.proofs.Common.{◌≡◌, ◌≢◌, ℕ, zero, suc, ◌+◌, ◌-◌, ◌≤◌, ◌<◌, Bool, true, false, cond, eqb, List, [], ◌∷◌, ◌++◌, length, filter, slice_get, Option, None, Some, refl, sym, ap, ap₂, subst, ◌∙◌, arith}
use Rattle.inf_base.specs.declared.id.Id.{Id}
use Rattle.std.proofs.lemmas.Bool.Decides.{nat_tests}
use Rattle.std.proofs.lemmas.List.{append-nil}
use Rattle.std.proofs.lemmas.List.Elements.{filter-append, filter_map-append}
use Rattle.std.proofs.lemmas.Option.{slice_get_past}
use Rattle.std.specs.List.{filter_map}
use Rattle.inf_base.specs.declared.call.Call.{Call}
use Rattle.inf_base.specs.declared.setup.ClientLine.{ClientLine}
use Rattle.inf_duty.specs.After.{client_after}
use Rattle.inf_duty.specs.Outcome.{Outcome, OutcomeFrom, in_order, stands_at}
use Rattle.inf_duty.specs.Start.{starting}
use Rattle.inf_duty.specs.World.{World}
use Rattle.inf_message.specs.declared.ending.Ending.TheVariants as ending
use Rattle.inf_message.specs.declared.turn.Turn.TheVariants as turn
use Rattle.inf_duty.specs.ClientState.{ClientState, Stage, act, compose, round, winds}
use Rattle.inf_duty.specs.Turn.{learned, turn_at}
use Rattle.inf_message.specs.Sent.{has_place}
use Rattle.inf_message.specs.declared.turn.Turn.{Turn}
use Rattle.inf_laws_history.specs.Decisions.{decided_at, decided_at_stage, decided_by_turn, decided_for, decided_in, decided_when, is_of_tree, of_tree}
use Rattle.inf_laws_history.specs.Decisions.{decided_call as decides}
use Rattle.inf_laws_history.specs.Replayed.{AllReplay, decided_of, decisions}
use Rattle.inf_message.specs.declared.ask.Ask.{Ask}
use Rattle.inf_message.specs.declared.call_result.CallResult.{CallResult}
use Rattle.inf_message.specs.declared.event.Event.{Event}
use Rattle.inf_message.specs.declared.event.Event.TheVariants as event
use Rattle.inf_message.specs.declared.reply.Reply.{Reply}
use Rattle.inf_message.specs.History.{Posted, Told, asked_at, told_reply}
use Rattle.inf_message.proofs.HistoryLaws.{itself, other}
use Rattle.inf_tree.specs.Replay.{Decided, Replays}
use Rattle.inf_tree.specs.Tree.{opening_tree}
use Rattle.inf_duty.proofs.BegunKept.{if_both}
use Rattle.inf_laws_history.proofs.ClientSteps.{IsAskedBy, by_serve, recorded_in, waits_for_own}
use Rattle.inf_laws_history.proofs.DrivenFacts.{waits_not}
use Rattle.inf_laws_history.proofs.Open.{IsOpen, asked_open, counted_same, served_open, starting_open}
use Rattle.inf_laws_history.proofs.ResultFacts.{Reads, agrees_at, asked_comes, asked_reads, calls_of, comes_to, only_at, served_comes, served_reads, starting_reads, tree_at, tree_at_both}
use Rattle.inf_laws_history.proofs.TreeReplays.{replays_of_tree}

-- ---- each client after every history

pub reads : (world : World) (client : ℕ) (h : List Event) → Reads world client (slice_get world.setup.clients client) (client_after world client h)
reads world client [] = starting_reads world client (slice_get world.setup.clients client)
reads world client (event.Ask number ask ∷ h) =
    if_both (Reads world client (slice_get world.setup.clients client)) (eqb ask.from.client client) _ _
    (asked_reads world client _ (suc (length h)) ask (client_after world client h) (reads world client h))
    (reads world client h)
reads world client (event.Serve number ask_place given ∷ h) =
    served_reads world client _ ask_place (told_reply (suc (length h)) given) (client_after world client h) (reads world client h)

pub is_open : (world : World) (client : ℕ) (h : List Event) → IsOpen (client_after world client h)
is_open world client [] = starting_open world client (slice_get world.setup.clients client)
is_open world client (event.Ask number ask ∷ h) =
    if_both IsOpen (eqb ask.from.client client) _ _
    (asked_open world.digest (suc (length h)) ask (client_after world client h))
    (is_open world client h)
is_open world client (event.Serve number ask_place given ∷ h) =
    served_open world.digest ask_place (told_reply (suc (length h)) given) (client_after world client h) (is_open world client h)

-- where no Ask stands, nobody waits for one
pub none_waits : (world : World) (client place : ℕ) (h : List Event) → asked_at place h ≡ None → has_place place (client_after world client h).sent ≡ false
none_waits world client place h none = by (has_place place (client_after world client h).sent) refl
  where
    by : (b : Bool) → has_place place (client_after world client h).sent ≡ b → b ≡ false
    by true here =
        let is : IsAskedBy client place h = waits_for_own world client place h here in
        let e : asked_at place h ≡ Some is.posted = is.asked in
        absurd cc
    by false apart = refl

-- what a client's calls came to at a place, after a history
abbrev Comes : World → ℕ → List Event → ℕ → List Decided
Comes world place h client = comes_to world place (client_after world client h)

ask_comes : (place : ℕ) (world : World) (number : ℕ) (ask : Ask) (h : List Event) (c : ℕ) → Comes world place (event.Ask number ask ∷ h) c ≡ Comes world place h c
ask_comes place world number ask h c =
    if_both (λ (t : ClientState). comes_to world place t ≡ Comes world place h c) (eqb ask.from.client c) _ _
    (asked_comes world c _ refl place (suc (length h)) ask (client_after world c h))
    refl

serve_comes : (place : ℕ) (world : World) (number ask_place : ℕ) (given : Reply) (h : List Event) (c : ℕ)
    → Comes world place (event.Serve number ask_place given ∷ h) c
    ≡ Comes world place h c ++ only_at place (suc (length h)) (decided_for world.digest ask_place (told_reply (suc (length h)) given) (client_after world c h))
serve_comes place world number ask_place given h c =
    served_comes world c _ refl place ask_place (told_reply (suc (length h)) given) (client_after world c h) (is_open world c h) (reads world c h)

apart_only : (place at : ℕ) (these : List Decided) → place ≢ at → only_at place at these ≡ []
apart_only place at these apart = ap (λ b. cond b these []) (other place at apart)

here_only : (place : ℕ) (these : List Decided) → only_at place place these ≡ these
here_only place these = ap (λ b. cond b these []) (itself place)

-- a Serve changes nothing of another place
serve_leaves : (place : ℕ) (world : World) (number ask_place : ℕ) (given : Reply) (h : List Event) → place ≢ suc (length h) → (c : ℕ)
    → Comes world place (event.Serve number ask_place given ∷ h) c ≡ Comes world place h c
serve_leaves place world number ask_place given h apart c =
    serve_comes place world number ask_place given h c
    ∙ ap (λ more. Comes world place h c ++ more) (apart_only place (suc (length h)) _ apart)
    ∙ append-nil _

starting_comes : (world : World) (client place : ℕ) (line : Option ClientLine) → comes_to world place (starting world client line) ≡ []
starting_comes world client place None = refl
starting_comes world client place (Some line) = refl

-- nothing has a place that is still to come
none_later : (world : World) (client place : ℕ) (h : List Event) → length h < place → Comes world place h client ≡ []
none_later world client place [] past = starting_comes world client place (slice_get world.setup.clients client)
none_later world client place (event.Ask number ask ∷ h) past =
    ask_comes place world number ask h client ∙ none_later world client place h (omega arith)
none_later world client place (event.Serve number ask_place given ∷ h) past =
    serve_leaves place world number ask_place given h (omega arith) client ∙ none_later world client place h (omega arith)

-- ---- all clients from this one on

abbrev all_come : World → ℕ → List Event → ℕ → List ClientLine → List Decided
all_come world place h client [] = []
all_come world place h client (line ∷ lines) = Comes world place h client ++ all_come world place h (client + 1) lines

outcome_at : (place : ℕ) (world : World) (h : List Event) (client : ℕ) (lines : List ClientLine) (results : List CallResult) → OutcomeFrom world h client lines results
    → tree_at world place results ≡ all_come world place h client lines
outcome_at place world h client [] results out = ap (tree_at world place) out
outcome_at place world h client (line ∷ lines) results out =
    ap (tree_at world place) out.all
    ∙ tree_at_both world place out.mine out.others
    ∙ ap₂ (λ a b. a ++ b)
    (agrees_at world client _ refl place (client_after world client h) out.mine (reads world client h) out.agrees)
    (outcome_at place world h (client + 1) lines out.others out.later)

all_same : (place : ℕ) (world : World) (now before : List Event) → ((c : ℕ) → Comes world place now c ≡ Comes world place before c) → (client : ℕ) (lines : List ClientLine)
    → all_come world place now client lines ≡ all_come world place before client lines
all_same place world now before each client [] = refl
all_same place world now before each client (line ∷ lines) = ap₂ (λ a b. a ++ b) (each client) (all_same place world now before each (client + 1) lines)

all_later : (place : ℕ) (world : World) (h : List Event) → length h < place → (client : ℕ) (lines : List ClientLine) → all_come world place h client lines ≡ []
all_later place world h past client [] = refl
all_later place world h past client (line ∷ lines) = ap₂ (λ a b. a ++ b) (none_later world client place h past) (all_later place world h past (client + 1) lines)

-- ---- what a Serve decides

-- of the clients from this one on
abbrev decided_from : World → List Event → ℕ → Told → ℕ → List ClientLine → List Decided
decided_from world h ask_place told client [] = []
decided_from world h ask_place told client (line ∷ lines) = decided_for world.digest ask_place told (client_after world client h) ++ decided_from world h ask_place told (client + 1) lines

serve_decides : (world : World) (number ask_place : ℕ) (given : Reply) (h : List Event) (client : ℕ) (lines : List ClientLine)
    → all_come world (suc (length h)) (event.Serve number ask_place given ∷ h) client lines
    ≡ decided_from world h ask_place (told_reply (suc (length h)) given) client lines
serve_decides world number ask_place given h client [] = refl
serve_decides world number ask_place given h client (line ∷ lines) =
    ap₂ (λ a b. a ++ b)
    (
    serve_comes (suc (length h)) world number ask_place given h client
    ∙ ap₂ (λ a b. a ++ b) (none_later world client (suc (length h)) h (omega arith)) (here_only (suc (length h)) _)
    )
    (serve_decides world number ask_place given h (client + 1) lines)

-- a client that does not wait for the Ask is told nothing
apart_decides : (digest : List ℕ → Id) (ask_place : ℕ) (told : Told) (s : ClientState) → has_place ask_place s.sent ≡ false → decided_for digest ask_place told s ≡ []
apart_decides digest ask_place told s apart = ap (λ b. decided_when digest b ask_place told s) apart

no_call : (s : ClientState) (t : Turn Stage) → s.left ≡ [] → decided_by_turn s t ≡ []
no_call s (turn.GoesOn next) none = refl
no_call s (turn.WindsUp (ending.Answers given None) more) none = refl
no_call s (turn.WindsUp (ending.Answers given (Some place)) more) none = ap (λ left. of_tree (decides s left given)) none
no_call s (turn.WindsUp ending.Retries more) none = refl

no_call_at : (digest : List ℕ → Id) (s : ClientState) (stage : Stage) → s.left ≡ [] → decided_at_stage digest s stage ≡ []
no_call_at digest s (winds end ms later) none = refl
no_call_at digest s compose none = refl
no_call_at digest s (round keys) none = no_call s (turn_at digest (learned (round keys) s) (round keys)) none
no_call_at digest s (act flow) none = no_call s (turn_at digest s (act flow)) none

-- a client that has no call left decides none
idle_decides : (digest : List ℕ → Id) (ask_place : ℕ) (told : Told) (s : ClientState) → s.left ≡ [] → decided_for digest ask_place told s ≡ []
idle_decides digest ask_place told s none =
    by_serve digest (λ t made. made ≡ []) ask_place told s (λ e. refl) (λ e f. refl) (λ e f. no_call_at digest (recorded_in ask_place told s) s.stage none)

nothing_left : (left : List Call) → slice_get left 0 ≡ None → left ≡ []
nothing_left [] none = refl
nothing_left (next ∷ left) none = absurd (cc)

-- a client that the setup does not have calls nothing
stranger_idles : (world : World) (client : ℕ) (h : List Event) → length world.setup.clients ≤ client → (client_after world client h).left ≡ []
stranger_idles world client h past =
    nothing_left _ ((reads world client h).left 0 ∙ ap (λ line. slice_get (calls_of line) ((client_after world client h).number - 1 + 0)) (slice_get_past world.setup.clients client past))

after_owner : (client owner c : ℕ) → client ≡ owner → client + 1 ≤ c → c ≢ owner
after_owner client owner c same past = omega arith

unlike_owner : (client owner : ℕ) → eqb client owner ≡ false → client ≢ owner
unlike_owner client owner unlike = grind (arith, nat_tests)

before_owner : (client owner : ℕ) → client ≤ owner → eqb client owner ≡ false → client + 1 ≤ owner
before_owner client owner within unlike = grind (arith, nat_tests)

none_decide : (world : World) (h : List Event) (ask_place : ℕ) (told : Told) (client : ℕ) (lines : List ClientLine) → ((c : ℕ) → client ≤ c → decided_for world.digest ask_place told (client_after world c h) ≡ []) → decided_from world h ask_place told client lines ≡ []
none_decide world h ask_place told client [] each = refl
none_decide world h ask_place told client (line ∷ lines) each =
    ap₂ (λ a b. a ++ b) (each client (omega arith)) (none_decide world h ask_place told (client + 1) lines (λ c within. each c (omega arith)))

-- what the clients decide is what the one that asked decides
one_decides : (world : World) (h : List Event) (ask_place : ℕ) (told : Told) (owner : ℕ) → ((c : ℕ) → c ≢ owner → decided_for world.digest ask_place told (client_after world c h) ≡ []) → (client : ℕ) (lines : List ClientLine) → client ≤ owner
    → (client + length lines ≤ owner → decided_for world.digest ask_place told (client_after world owner h) ≡ []) → decided_from world h ask_place told client lines ≡ decided_for world.digest ask_place told (client_after world owner h)
one_decides world h ask_place told owner apart client [] within stranger = sym (stranger (omega arith))
one_decides world h ask_place told owner apart client (line ∷ lines) within stranger =
    by_owner (eqb client owner) refl
    (λ less. one_decides world h ask_place told owner apart (client + 1) lines less (λ past. stranger (omega arith)))
  where
    by_owner : (b : Bool) → eqb client owner ≡ b → (client + 1 ≤ owner → decided_from world h ask_place told (client + 1) lines ≡ decided_for world.digest ask_place told (client_after world owner h)) → decided_from world h ask_place told client (line ∷ lines) ≡ decided_for world.digest ask_place told (client_after world owner h)
    by_owner true same rest =
        ap₂ (λ a b. a ++ b)
        (ap (λ c. decided_for world.digest ask_place told (client_after world c h)) (counted_same client owner same))
        (none_decide world h ask_place told (client + 1) lines (λ c past. apart c (after_owner client owner c (counted_same client owner same) past)))
        ∙ append-nil _
    by_owner false unlike rest =
        ap₂ (λ a b. a ++ b) (apart client (unlike_owner client owner unlike)) (rest (before_owner client owner within unlike))

decided_there : (world : World) (h : List Event) (ask_place : ℕ) (told : Told) (found : Option Posted) → asked_at ask_place h ≡ found → decided_from world h ask_place told 0 world.setup.clients ≡ decided_at world h ask_place told found
decided_there world h ask_place told None none =
    none_decide world h ask_place told 0 world.setup.clients
    (λ c past. apart_decides world.digest ask_place told (client_after world c h) (none_waits world c ask_place h none))
decided_there world h ask_place told (Some posted) made =
    one_decides world h ask_place told posted.ask.from.client
    (λ c unlike. apart_decides world.digest ask_place told (client_after world c h) (waits_not world h c ask_place posted made (λ same. unlike (sym same))))
    0 world.setup.clients (omega arith)
    (λ past. idle_decides world.digest ask_place told (client_after world posted.ask.from.client h) (stranger_idles world posted.ask.from.client h (omega (arith, past))))

-- ---- in order of place

-- what all clients' calls come to at the places up to this one
abbrev up_to : World → List Event → ℕ → List Decided
up_to world h zero = []
up_to world h (suc place) = up_to world h place ++ all_come world (suc place) h 0 world.setup.clients

up_to_same : (n : ℕ) (world : World) (now before : List Event) → ((place : ℕ) → place ≤ n → (c : ℕ) → Comes world place now c ≡ Comes world place before c) → up_to world now n ≡ up_to world before n
up_to_same zero world now before each = refl
up_to_same (suc n) world now before each =
    ap₂ (λ a b. a ++ b)
    (up_to_same n world now before (λ place within. each place (omega arith)))
    (all_same (suc n) world now before (each (suc n) (omega arith)) 0 world.setup.clients)

in_order_comes : (n : ℕ) (world : World) (h : List Event) (results : List CallResult) → Outcome world h results → of_tree (filter_map (decided_of world) (in_order n results)) ≡ up_to world h n
in_order_comes zero world h results out = refl
in_order_comes (suc n) world h results out =
    ap of_tree (filter_map-append (decided_of world) (in_order n results) (filter (stands_at (suc n)) results))
    ∙ filter-append (λ (d : Decided). is_of_tree d.answer) (filter_map (decided_of world) (in_order n results)) _
    ∙ ap₂ (λ a b. a ++ b) (in_order_comes n world h results out) (outcome_at (suc n) world h 0 world.setup.clients results out)

up_to_are_decided : (world : World) (h : List Event) → up_to world h (length h) ≡ decided_in world h
up_to_are_decided world [] = refl
up_to_are_decided world (event.Ask number ask ∷ h) =
    let e : List Event = event.Ask number ask ∷ h in
    ap₂ (λ a b. a ++ b)
    (up_to_same (length h) world e h (λ place within. ask_comes place world number ask h) ∙ up_to_are_decided world h)
    (
    all_same (suc (length h)) world e h (ask_comes (suc (length h)) world number ask h) 0 world.setup.clients
    ∙ all_later (suc (length h)) world h (omega arith) 0 world.setup.clients
    )
    ∙ append-nil _
up_to_are_decided world (event.Serve number ask_place given ∷ h) =
    let e : List Event = event.Serve number ask_place given ∷ h in
    ap₂ (λ a b. a ++ b)
    (up_to_same (length h) world e h (λ place within. serve_leaves place world number ask_place given h (omega arith)) ∙ up_to_are_decided world h)
    (
    serve_decides world number ask_place given h 0 world.setup.clients
    ∙ decided_there world h ask_place (told_reply (suc (length h)) given) (asked_at ask_place h) refl
    )

-- whatever the results that agree with a history, their calls in order of place are those that the Serves decide
pub outcomes_are_decided : (world : World) (h : List Event) (results : List CallResult) → Outcome world h results → of_tree (decisions world h results) ≡ decided_in world h
outcomes_are_decided world h results out = in_order_comes (length h) world h results out ∙ up_to_are_decided world h

pub all_replay : (world : World) (h : List Event) → Replays opening_tree (decided_in world h) → AllReplay world h
all_replay world h replays results out =
    replays_of_tree opening_tree (decisions world h results) (subst (Replays opening_tree) (sym (outcomes_are_decided world h results out)) replays)
