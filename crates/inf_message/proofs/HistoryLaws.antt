-- Places of a history, and what one more event changes for a server.
use Rattle.std.proofs.Common.{◌≡◌, ◌≢◌, ℕ, suc, ◌≤◌, Bool, true, false, cond, eqb, List, [], ◌∷◌, length, Option, None, Some, refl, ap, ◌∙◌, arith}
use Rattle.std.proofs.lemmas.Bool.Decides.{nat_tests}
use Rattle.inf_message.specs.declared.ask.Ask.{Ask}
use Rattle.inf_message.specs.declared.event.Event.{Event}
use Rattle.inf_message.specs.declared.event.Event.TheVariants as event
use Rattle.inf_message.specs.declared.reply.Reply.{Reply}
use Rattle.inf_message.specs.History.{Posted, asked_at, event_at, posted_ask, served_ask, serves_of}

differs : (place last : ℕ) → place ≤ last → eqb place (suc last) ≡ false
differs place last within = grind (arith, nat_tests)

pub other : (a b : ℕ) → a ≢ b → eqb a b ≡ false
other a b unlike = grind (arith, nat_tests)

pub itself : (a : ℕ) → eqb a a ≡ true
itself a = grind (arith, nat_tests)

pub event_stays : (place : ℕ) (e : Event) (h : List Event) → place ≤ length h → event_at place (e ∷ h) ≡ event_at place h
event_stays place e h within = rw (differs place (length h) within) refl

pub asked_stays : (place : ℕ) (e : Event) (h : List Event) → place ≤ length h → asked_at place (e ∷ h) ≡ asked_at place h
asked_stays place (event.Ask number ask) h within = rw (differs place (length h) within) refl
asked_stays place (event.Serve number ask_place reply) h within = refl

-- a place from the first to the newest
pub record IsPlaceOf (place : ℕ) (h : List Event) : Type 0 where
  pub counted : 1 ≤ place
  pub within : place ≤ length h

one_more : (place : ℕ) (e : Event) (h : List Event) → IsPlaceOf place h → IsPlaceOf place (e ∷ h)
one_more place e h p = record { counted = p.counted; within = omega (arith, p.within) }

newest : (place : ℕ) (e : Event) (h : List Event) → eqb place (suc (length h)) ≡ true → IsPlaceOf place (e ∷ h)
newest place e h same = record { counted = grind (arith, nat_tests); within = grind (arith, nat_tests) }

-- a choice with a known value came from one of its sides
pub by_test : {A P : Type 0} {x y z : A} (b : Bool) → cond b x y ≡ z → (b ≡ true → x ≡ z → P) → (b ≡ false → y ≡ z → P) → P
by_test true e here there = here refl e
by_test false e here there = there refl e

pub event_within : (place : ℕ) (e : Event) (h : List Event) → event_at place h ≡ Some e → IsPlaceOf place h
event_within place e [] found = absurd (cc)
event_within place e (f ∷ h) found =
    by_test (eqb place (suc (length h))) found (λ same here. newest place f h same) (λ unlike behind. one_more place f h (event_within place e h behind))

pub asked_within : (place : ℕ) (posted : Posted) (h : List Event) → asked_at place h ≡ Some posted → IsPlaceOf place h
asked_within place posted [] found = absurd (cc)
asked_within place posted (event.Serve number ask_place reply ∷ h) found = one_more place _ h (asked_within place posted h found)
asked_within place posted (event.Ask number ask ∷ h) found =
    by_test (eqb place (suc (length h))) found (λ same here. newest place (event.Ask number ask) h same)
    (λ unlike behind. one_more place (event.Ask number ask) h (asked_within place posted h behind))

-- the Ask that was just made stands at the newest place
pub asked_newest : (number : ℕ) (ask : Ask) (h : List Event) → asked_at (suc (length h)) (event.Ask number ask ∷ h) ≡ Some (posted_ask number ask)
asked_newest number ask h = rw (itself (suc (length h))) refl

pub serves_apart : (number server place : ℕ) (reply : Reply) (h : List Event) → number ≢ server → serves_of server (event.Serve number place reply ∷ h) ≡ serves_of server h
serves_apart number server place reply h unlike = rw (other number server unlike) refl

pub serves_own : (server place : ℕ) (reply : Reply) (posted : Posted) (h : List Event) → asked_at place h ≡ Some posted → serves_of server (event.Serve server place reply ∷ h) ≡ served_ask posted.ask place reply ∷ serves_of server h
serves_own server place reply posted h found = rw (itself server, found) refl

-- ---- the Ask at a place is the event there

pub asked_is_event : (place : ℕ) (posted : Posted) (h : List Event) → asked_at place h ≡ Some posted → event_at place h ≡ Some (event.Ask posted.number posted.ask)
asked_is_event place posted [] found = absurd (cc)
asked_is_event place posted (event.Serve number ask_place reply ∷ h) found =
    event_stays place (event.Serve number ask_place reply) h (asked_within place posted h found).within ∙ asked_is_event place posted h found
asked_is_event place posted (event.Ask number ask ∷ h) found =
    by_test (eqb place (suc (length h))) found
    (λ same here. rw same (ap event_of here))
    (λ unlike behind. rw unlike (asked_is_event place posted h behind))
  where
    event_of : Option Posted → Option Event
    event_of None = None
    event_of (Some p) = Some (event.Ask p.number p.ask)

pub event_is_asked : (place number : ℕ) (ask : Ask) (h : List Event) → event_at place h ≡ Some (event.Ask number ask) → asked_at place h ≡ Some (posted_ask number ask)
event_is_asked place number ask [] found = absurd (cc)
event_is_asked place number ask (event.Serve n p reply ∷ h) found =
    by_test (eqb place (suc (length h))) found (λ same here. absurd (cc)) (λ unlike behind. event_is_asked place number ask h behind)
event_is_asked place number ask (event.Ask n a ∷ h) found =
    by_test (eqb place (suc (length h))) found
    (λ same here. rw same (ap posted_in here))
    (λ unlike behind. rw unlike (event_is_asked place number ask h behind))
  where
    posted_in : Option Event → Option Posted
    posted_in None = None
    posted_in (Some (event.Ask m b)) = Some (posted_ask m b)
    posted_in (Some (event.Serve m p r)) = None
