-- What a client has still to send.
use Rattle.std.proofs.Common.{◌≡◌, ◌≢◌, ℕ, zero, suc, ◌<◌, ◌≤◌, Bool, true, false, not, ◌&&◌, nat_lt, List, [], ◌∷◌, length, map, slice_get, Option, Some, None, is_some, Decides, refl, sym, ap, ◌∙◌, arith}
use Rattle.std.proofs.lemmas.Bool.{lt-ltb}
use Rattle.std.proofs.lemmas.Bool.Decides.{Decides-like}
use Rattle.std.proofs.lemmas.List.{length-map}
use Rattle.inf_base.specs.declared.id.Id.{Id}
use Rattle.inf_base.specs.declared.call.Call.{Call}
use Rattle.inf_base.specs.declared.key.LookKey.{LookKey}
use Rattle.inf_duty.specs.ClientStep.{is_ask}
use Rattle.inf_duty.specs.Duty.{asks, has_ask, has_message, is_over, next_in, next_of, next_step, waits}
use Rattle.inf_duty.specs.Kept.{CourseFits, IsOf, IsUndecided}
use Rattle.inf_duty.specs.Messages.{are_none, is_compose, post_of}
use Rattle.inf_duty.specs.Standing.{stage_of}
use Rattle.inf_duty.specs.declared.standing.Standing.{Standing}
use Rattle.inf_duty.specs.declared.standing.Standing.TheVariants as standing
use Rattle.inf_duty.proofs.BegunFacts.{ask_left, both, built_left}
use Rattle.inf_duty.proofs.FlowFacts.{message_of, messages_are}
use Rattle.inf_duty.specs.declared.flow.Flow.{Flow}
use Rattle.inf_duty.specs.Flow.{messages_of}
use Rattle.inf_duty.specs.ClientState.{ClientState, Stage, act, compose, round, winds}
use Rattle.inf_duty.specs.Group.{composed, composed_stage, group, next_stage, stage_by}
use Rattle.inf_duty.specs.declared.course.Course.{Course}
use Rattle.inf_duty.specs.declared.course.Deed.{Deed}
use Rattle.inf_duty.specs.Course.{flow_at, next_course}
use Rattle.inf_resolve.specs.declared.known.Known.{Known}
use Rattle.inf_resolve.specs.declared.resolved.Resolved.{Resolved}
use Rattle.inf_resolve.specs.declared.resolved.Resolved.TheVariants as comes
use Rattle.inf_resolve.specs.declared.resolved.Verdict.TheVariants as verdict
use Rattle.inf_resolve.specs.Resolved.{resolved, verdict_of}
use Rattle.inf_resolve.proofs.AskedFacts.{rounds_ask}
use Rattle.inf_message.specs.Who.{Who, lookup_of}
use Rattle.inf_message.specs.declared.ask.Ask.{Ask}
use Rattle.inf_message.specs.declared.step.Message.{Message}

pub next_in_some : (s : ClientState) (left : List Call) → 0 < length left → next_in s left ≡ next_of s (slice_get (group s.who s.stage) (length s.sent))
next_in_some s [] some = absurd (omega arith)
next_in_some s (next ∷ calls) some = refl

some_ask : (s : ClientState) (o : Option Message) → (o ≡ None → ⊥) → is_ask (next_of s o) ≡ true
some_ask s None some = absurd (some refl)
some_ask s (Some message) some = refl

some_key : (who : Who) (keys : List LookKey) → 0 < length keys → slice_get (map (lookup_of who) keys) 0 ≡ None → ⊥
some_key who [] some none = omega (arith, some)
some_key who (k ∷ keys) some none = cc

-- what an attempt that is not over comes to asks for something
abbrev GoesOnAsking : Who → Deed → Resolved → Type 0
GoesOnAsking who what r =
    verdict_of r ≡ verdict.GoesOn → ((keys : List LookKey) → r ≡ comes.Asks keys → 0 < length keys)
    → (slice_get (group who (stage_by what r)) 0 ≡ None → ⊥) × (is_compose (stage_by what r) ≡ false)

step_asks : (who : Who) (step : Flow) → slice_get (messages_of who step) 0 ≡ None → ⊥
step_asks who step none =
    let no_one : slice_get (message_of who step ∷ []) 0 ≡ None = ap (λ (ms : List Message). slice_get ms 0) (sym (messages_are who step)) ∙ none in
    cc

goes_on_asking : (who : Who) (what : Deed) (r : Resolved) → GoesOnAsking who what r
goes_on_asking who what (comes.Asks keys) on some = (some_key who keys (some keys refl), refl)
goes_on_asking who what (comes.Leads old new) on some = (step_asks who (flow_at what old.chain old.left), refl)
goes_on_asking who what (comes.IsBusy by place) on some = absurd cc
goes_on_asking who what comes.Lacks on some = absurd cc

course_asks : (digest : List ℕ → Id) (who : Who) (known : List Known) (left : List Call) (course : Option Course) → next_course left ≡ course → IsUndecided left known → is_some course ≡ true
    → (slice_get (group who (next_stage digest who known course)) 0 ≡ None → ⊥) × (is_compose (next_stage digest who known course) ≡ false)
course_asks digest who known left None is undecided built = absurd cc
course_asks digest who known left (Some course) is undecided built =
    goes_on_asking who course.deed (resolved digest who.root course.looked known) (undecided digest who.root course is)
    (λ keys asks. rounds_ask digest who.root course.looked known keys asks)

some_first : (messages : List Message) → not (are_none messages) ≡ true → slice_get messages 0 ≡ None → ⊥
some_first [] some none = cc
some_first (m ∷ messages) some none = cc

composed_there : (digest : List ℕ → Id) (s : ClientState) (stage : Stage) → IsUndecided s.left s.known → is_some (next_course s.left) ≡ true → has_message s.who stage ≡ true
    → slice_get (group s.who (composed_stage digest s stage)) 0 ≡ None → ⊥
composed_there digest s compose undecided built some none = (course_asks digest s.who s.known s.left (next_course s.left) refl undecided built).0 none
composed_there digest s (round keys) undecided built some none = some_first (group s.who (round keys)) some none
composed_there digest s (act flow) undecided built some none = some_first (group s.who (act flow)) some none
composed_there digest s (winds ending ms later) undecided built some none = some_first (group s.who (winds ending ms later)) some none

-- what is settled is settled for a call that is built
pub course_there : (left : List Call) (stands : Standing) → IsOf left stands → is_compose (stage_of stands) ≡ false → is_some (next_course left) ≡ true
course_there left standing.Compose of settled = absurd (cc)
course_there left (standing.Round keys) of settled = of.0
course_there left (standing.Act flow) of settled = of
course_there left (standing.Winds ending first rest) of settled = of

pub course_ready : (left : List Call) (stands : Standing) (course : Option Course) → CourseFits left stands course → is_some course ≡ true
    → is_some (next_course left) ≡ true
course_ready left standing.Compose None fits some = absurd (cc)
course_ready left standing.Compose (Some course) fits some = ap is_some fits
course_ready left (standing.Round keys) course fits some = ap is_some (sym fits.1) ∙ some
course_ready left (standing.Act flow) None fits some = absurd (cc)
course_ready left (standing.Act flow) (Some course) fits some = ap is_some fits
course_ready left (standing.Winds ending first rest) None fits some = absurd (cc)
course_ready left (standing.Winds ending first rest) (Some course) fits some = ap is_some fits

-- where there is an ask to make between two groups, it is the next step
pub asks_there : (digest : List ℕ → Id) (s : ClientState) → IsUndecided s.left s.known → s.sent ≡ [] → has_ask s ≡ true → is_ask (next_step (composed digest s)) ≡ true
asks_there digest s undecided between there =
    let they = both (is_some (next_course s.left)) (has_message s.who s.stage) there in
    ap is_ask (next_in_some (composed digest s) s.left (ask_left s there)
    ∙ ap (λ sent. next_of (composed digest s) (slice_get (group s.who (composed_stage digest s s.stage)) (length sent))) between)
    ∙ some_ask (composed digest s) (slice_get (group s.who (composed_stage digest s s.stage)) 0)
    (composed_there digest s s.stage undecided they.0 they.1)

some_messages : (ms : List Message) (size : ℕ) → length ms ≡ size → not (are_none ms) ≡ nat_lt 0 size
some_messages [] size is = ap (nat_lt 0) is
some_messages (m ∷ ms) size is = sym (lt-ltb 0 size (omega (arith, is)))

pub keys_ask : (who : Who) (keys : List LookKey) → not (are_none (map (lookup_of who) keys)) ≡ nat_lt 0 (length keys)
keys_ask who keys = some_messages (map (lookup_of who) keys) (length keys) (length-map keys (lookup_of who))

pub step_sized : (who : Who) (step : Flow) (size : ℕ) → length (messages_of who step) ≡ size → not (are_none (messages_of who step)) ≡ nat_lt 0 size
step_sized who step size is = some_messages (messages_of who step) size is

pub winds_sized : (ms : List Message) (size : ℕ) → length ms ≡ size → not (are_none ms) ≡ nat_lt 0 size
winds_sized ms size is = some_messages ms size is

pub over_next : (s : ClientState) → s.left ≡ [] → next_step s ≡ is_over
over_next s over = ap (next_in s) over

not_there : {X : Type 0} (xs : List X) (at : ℕ) → length xs ≤ at → slice_get xs at ≡ None
not_there [] at behind = refl
not_there (x ∷ xs) zero behind = absurd (omega arith)
not_there (x ∷ xs) (suc at) behind = not_there xs at (omega arith)

-- a client that has asked for all of its group waits
pub waits_inside : (s : ClientState) → length (group s.who s.stage) ≤ length s.sent → 0 < length s.left → next_step s ≡ waits
waits_inside s all left = next_in_some s s.left left ∙ ap (next_of s) (not_there (group s.who s.stage) (length s.sent) all)

not_built : (course : Option Course) → is_some course ≡ false → course ≡ None
not_built None none = refl
not_built (Some course) none = absurd (cc)

unbuilt_stage : (digest : List ℕ → Id) (s : ClientState) (stands : Standing) → IsOf s.left stands → is_some (next_course s.left) ≡ false → composed_stage digest s (stage_of stands) ≡ compose
unbuilt_stage digest s standing.Compose is none = ap (next_stage digest s.who s.known) (not_built (next_course s.left) none)
unbuilt_stage digest s (standing.Round keys) is none = let some : is_some (next_course s.left) ≡ true = is.0 in absurd (cc)
unbuilt_stage digest s (standing.Act flow) is none = let some : is_some (next_course s.left) ≡ true = is in absurd (cc)
unbuilt_stage digest s (standing.Winds ending first rest) is none = let some : is_some (next_course s.left) ≡ true = is in absurd (cc)

waits_unbuilt : (digest : List ℕ → Id) (s : ClientState) (stands : Standing) → s.stage ≡ stage_of stands → IsOf s.left stands → is_some (next_course s.left) ≡ false → 0 < length s.left → next_step (composed digest s) ≡ waits
waits_unbuilt digest s stands at is none left =
    next_in_some (composed digest s) s.left left
    ∙ ap (λ (next : Stage). next_of (composed digest s) (slice_get (group s.who next) (length s.sent))) (ap (composed_stage digest s) at ∙ unbuilt_stage digest s stands is none)

none_there : (messages : List Message) (at : ℕ) → not (are_none messages) ≡ false → slice_get messages at ≡ None
none_there [] at none = refl
none_there (m ∷ messages) at none = absurd (cc)

no_message : (digest : List ℕ → Id) (s : ClientState) (stage : Stage) (at : ℕ) → has_message s.who stage ≡ false → slice_get (group s.who (composed_stage digest s stage)) at ≡ None
no_message digest s compose at none = absurd (cc)
no_message digest s (round keys) at none = none_there (group s.who (round keys)) at none
no_message digest s (act flow) at none = none_there (group s.who (act flow)) at none
no_message digest s (winds ending ms later) at none = none_there (group s.who (winds ending ms later)) at none

-- so does one that has come to a call, or to a message, that is not built
pub waits_askless : (digest : List ℕ → Id) (s : ClientState) (stands : Standing) → s.stage ≡ stage_of stands → IsOf s.left stands → has_ask s ≡ false → 0 < length s.left → next_step (composed digest s) ≡ waits
waits_askless digest s stands at is none left = by (is_some (next_course s.left)) refl none
  where
    by : (b : Bool) → is_some (next_course s.left) ≡ b → (b && has_message s.who s.stage) ≡ false → next_step (composed digest s) ≡ waits
    by true built none = next_in_some (composed digest s) s.left left ∙ ap (next_of (composed digest s)) (no_message digest s s.stage (length s.sent) none)
    by false unbuilt none = waits_unbuilt digest s stands at is unbuilt left

-- what is settled for a call that is built has a message
pub composed_settled : (digest : List ℕ → Id) (s : ClientState) (next : Stage) → IsUndecided s.left s.known → is_some (next_course s.left) ≡ true → is_compose (composed_stage digest s next) ≡ false
composed_settled digest s (round keys) undecided built = refl
composed_settled digest s (act flow) undecided built = refl
composed_settled digest s (winds ending ms later) undecided built = refl
composed_settled digest s compose undecided built = (course_asks digest s.who s.known s.left (next_course s.left) refl undecided built).1

left_in : (s : ClientState) (left : List Call) (number : ℕ) (ask : Ask) → next_in s left ≡ asks number ask → 0 < length left
left_in s [] number ask is = absurd (cc)
left_in s (next ∷ calls) number ask is = omega arith

-- where no call is left, no ask is next
pub over_asks_nothing : (s : ClientState) (number : ℕ) (ask : Ask) → s.left ≡ [] → next_step s ≡ asks number ask → ⊥
over_asks_nothing s number ask over is = let some = left_in s s.left number ask is in let none : length s.left ≡ 0 = ap length over in omega arith

-- where no message is left in the group, no ask is next
pub none_next : (s : ClientState) (number : ℕ) (ask : Ask) → None ≡ slice_get (group s.who s.stage) (length s.sent) → next_step s ≡ asks number ask → ⊥
none_next s number ask none is =
    let some = left_in s s.left number ask is in
    let waiting : waits ≡ asks number ask = ap (next_of s) none ∙ sym (next_in_some s s.left some) ∙ is in
    cc

-- the next ask, where its message is known
next_posted : (s : ClientState) (message : Message) (server : ℕ) (next : Ask) → 0 < length s.left → Some message ≡ slice_get (group s.who s.stage) (length s.sent)
    → (server, next) ≡ post_of s message → next_step s ≡ asks server next
next_posted s message server next some at posted =
    next_in_some s s.left some ∙ ap (next_of s) (sym at) ∙ ap (λ (p : ℕ × Ask). asks p.0 p.1) (sym posted)

-- an ask of what winds the call up, where it is the next
pub winding_next : (s : ClientState) (message : Message) (index : ℕ) (post : ℕ × Ask) → is_some (next_course s.left) ≡ true
    → slice_get (group s.who s.stage) index ≡ Some message → post ≡ post_of s message → index ≡ length s.sent → next_step s ≡ asks post.0 post.1
winding_next s message index post built at posted here =
    next_posted s message post.0 post.1 (built_left s.left built)
    (sym at ∙ ap (λ (i : ℕ). slice_get (group s.who s.stage) i) here) posted

number_in : (n m : ℕ) (a b : Ask) → asks n a ≡ asks m b → n ≡ m
number_in n m a b is = cc

ask_in : (n m : ℕ) (a b : Ask) → asks n a ≡ asks m b → a ≡ b
ask_in n m a b is = cc

-- one to another server is not the next
pub other_server : (s : ClientState) (message : Message) (server : ℕ) (next : Ask) (number : ℕ) (ask : Ask) → 0 < length s.left → Some message ≡ slice_get (group s.who s.stage) (length s.sent)
    → (server, next) ≡ post_of s message → server ≢ number → next_step s ≡ asks number ask → ⊥
other_server s message server next number ask some at posted unlike is = unlike (number_in server number next ask (sym (next_posted s message server next some at posted) ∙ is))

both_asks : (n m : ℕ) (a b : Ask) → n ≡ m → a ≡ b → asks n a ≡ asks m b
both_asks n m a b numbers same = rw (numbers, same) refl

-- one to the same server is by whether it is the same
pub same_asks : (s : ClientState) (message : Message) (server : ℕ) (next : Ask) (number : ℕ) (ask : Ask) (same : Bool) → 0 < length s.left → Some message ≡ slice_get (group s.who s.stage) (length s.sent)
    → (server, next) ≡ post_of s message → server ≡ number → Decides same (next ≡ ask) → Decides same (next_step s ≡ asks number ask)
same_asks s message server next number ask same some at posted numbers decided =
    Decides-like same
    (λ e. next_posted s message server next some at posted ∙ both_asks server number next ask numbers e)
    (λ is. ask_in server number next ask (sym (next_posted s message server next some at posted) ∙ is))
    decided
