-- The Asks that wait to be served.
use Rattle.std.specs.Prelude.{◌≡◌, ℕ, suc, ◌≤◌, ◌==◌, Bool, false, not, ◌&&◌, List, [], ◌∷◌, ◌++◌, length, Option, Some, None, All}
use Rattle.std.specs.List.{find}
use Rattle.inf_message.specs.declared.event.Event.{Event}
use Rattle.inf_message.specs.declared.event.Event.TheVariants as event
use Rattle.inf_message.specs.History.{asked_at, is_served, posted_ask}
use Rattle.inf_message.specs.declared.ask.Ask.{Ask}
pub use Rattle.inf_sched.specs.declared.posting.Posting.{Posting}

abbrev pub posting : ℕ → ℕ → ℕ → Posting
posting place number client = record { place = place; number = number; client = client }

-- the Asks of a history, the oldest first
abbrev pub postings : List Event → List Posting
postings [] = []
postings (event.Ask number ask ∷ h) = postings h ++ posting (suc (length h)) number ask.from.client ∷ []
postings (event.Serve number ask_place given ∷ h) = postings h

-- no Serve names it
abbrev pub is_open : List Event → Posting → Bool
is_open h p = not (is_served p.place h)

-- the oldest waiting Ask of those that fit
abbrev pub oldest : (Posting → Bool) → List Event → Option Posting
oldest fits h = find (λ p. fits p && is_open h p) (postings h)

abbrev pub is_to : ℕ → Posting → Bool
is_to number p = p.number == number

abbrev pub is_by : ℕ → Posting → Bool
is_by client p = p.client == client

-- to this server, and of this client, if one is named
abbrev pub is_for : ℕ → Option ℕ → Posting → Bool
is_for number None p = is_to number p
is_for number (Some client) p = is_to number p && is_by client p

-- the Ask stands in the history, and no Serve names it yet
pub record IsWaiting (h : List Event) (p : Posting) : Type 0 where
  pub ask : Ask
  pub asked : asked_at p.place h ≡ Some (posted_ask p.number ask)
  pub own : ask.from.client ≡ p.client
  pub open_yet : is_served p.place h ≡ false

-- ---- queues

-- it stands at a place of the history
pub record IsWithin (h : List Event) (p : Posting) : Type 0 where
  pub counted : 1 ≤ p.place
  pub within : p.place ≤ length h

-- of the Asks that fit, those that wait are in the queue, in their order; others in it were served
pub record IsQueue (fits : Posting → Bool) (h : List Event) (queue : List Posting) : Type 0 where
  pub finds : (also : Posting → Bool)
      → find (λ p. also p && is_open h p) queue ≡ find (λ p. also p && (fits p && is_open h p)) (postings h)
  pub within : All (IsWithin h) queue

abbrev pub first_of : List Posting → Option Posting
first_of [] = None
first_of (p ∷ ps) = Some p

-- of a queue, only Asks that were served have left
pub record IsFrontLeft (h : List Event) (old new : List Posting) : Type 0 where
  pub finds : (also : Posting → Bool) → find (λ p. also p && is_open h p) new ≡ find (λ p. also p && is_open h p) old
  pub within : All (IsWithin h) new
