-- The moves of an order: which scenes each may lead to.
use Rattle.std.specs.Prelude.{◌≡◌, ◌⊎◌, ℕ, zero, suc, ◌+◌, Bool, true, false, length, Option, Some, None}
use Rattle.inf_duty.specs.World.{World}
use Rattle.inf_order.specs.declared.moves.Move.{Move}
use Rattle.inf_order.specs.declared.moves.Move.TheVariants as move
use Rattle.inf_sched.specs.Scene.{Scene, Asks, MakesServe, calls_left, can_ask, has_calls, has_ended, number_in}
use Rattle.inf_sched.specs.Waiting.{Posting, is_by, is_for, oldest}
use Rattle.inf_sched.specs.declared.limits.TheConstants.{MOST_EVENTS}

-- one step leads to a scene from which the others go on
pub record FollowedBy (First Later : Scene → Type 0) : Type 0 where
  pub between : Scene
  pub first : First between
  pub later : Later between

-- what holds where the test says yes, and what where it says no
abbrev pub IfElse : Bool → Type 0 → Type 0 → Type 0
IfElse true Yes No = Yes
IfElse false Yes No = No

-- there is no ask to make, and nothing comes of it
pub record HasNoAsk (world : World) (client : ℕ) (old : Scene) : Type 0 where
  pub idle : can_ask world old client ≡ false

-- `+a`
abbrev pub ByStep : World → ℕ → Scene → Scene → Type 0
ByStep world client old new = Asks world client old new ⊎ (HasNoAsk world client old × (new ≡ old))

-- the oldest waiting Ask is served, where there is one
abbrev pub ServesOldest : World → Option Posting → Scene → Scene → Type 0
ServesOldest world None old new = new ≡ old
ServesOldest world (Some p) old new = MakesServe world p.number p.place old new

-- `sN`, `sN:a`, `c` and `c:a`
abbrev pub ByServe : World → ℕ → Option ℕ → Scene → Scene → Type 0
ByServe world number client old new = ServesOldest world (oldest (is_for number client) old.history) old new

-- the oldest waiting Ask of the client is served, and it goes on; or nothing is left to do
abbrev pub ServesOn : World → Option Posting → Scene → Scene → (Scene → Type 0) → Type 0
ServesOn world None old new Later = new ≡ old
ServesOn world (Some p) old new Later = FollowedBy (λ mid. MakesServe world p.number p.place old mid) Later

-- the client makes its next ask; where it has none, its oldest waiting Ask is served
abbrev pub GoesOn : World → ℕ → Scene → Scene → (Scene → Type 0) → Type 0
GoesOn world client old new Later =
    FollowedBy (λ mid. Asks world client old mid) Later
    ⊎ (HasNoAsk world client old × ServesOn world (oldest (is_by client) old.history) old new Later)

-- the client goes on alone, for so many events at most, until its call of this number has ended
abbrev pub ByAlone : World → ℕ → ℕ → ℕ → Scene → Scene → Type 0
ByAlone world client number zero old new = new ≡ old
ByAlone world client number (suc events) old new =
    IfElse (has_ended world client number old) (new
    ≡ old) (GoesOn world client old new (λ mid. ByAlone world client number events mid new))

-- `=a`: the call meant is the one under way, or the next one where none is
abbrev pub ByCall : World → ℕ → Scene → Scene → Type 0
ByCall world client old new = ByAlone world client (number_in world old client) MOST_EVENTS old new

-- the client goes on alone call by call, so many at most, until it has none left or one does not end
abbrev pub ByCalls : World → ℕ → ℕ → Scene → Scene → Type 0
ByCalls world client zero old new = new ≡ old
ByCalls world client (suc calls) old new =
    IfElse (has_calls world old client)
    (FollowedBy (λ mid. ByCall world client old mid)
    (λ mid.
    IfElse (has_ended world client (number_in world old client) mid) (ByCalls world client calls mid new) (new ≡ mid)))
    (new ≡ old)

-- `*`: so many clients, from this one on, each alone as far as its calls end
abbrev pub ByRest : World → ℕ → ℕ → Scene → Scene → Type 0
ByRest world client zero old new = new ≡ old
ByRest world client (suc clients) old new =
    FollowedBy (λ mid. ByCalls world client (calls_left world old client) old mid) (λ mid.
    ByRest world (client + 1) clients mid new)

abbrev pub ByMove : World → Move → Scene → Scene → Type 0
ByMove world (move.Step client) old new = ByStep world client old new
ByMove world (move.Alone client) old new = ByCall world client old new
ByMove world (move.Serve number client) old new = ByServe world number client old new
ByMove world move.Rest old new = ByRest world 0 (length world.setup.clients) old new
