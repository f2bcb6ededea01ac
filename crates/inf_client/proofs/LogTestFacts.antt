-- What the asks that are made in tests leave.
use Rattle.std.proofs.Common.{◌≡◌, ℕ, ◌+◌, ◌-◌, ◌<◌, List, [], subst, sym, ap, arith}
use Rattle.std.proofs.lemmas.List.Elements.{All-nil, All-push, All-weaker}
use Rattle.inf_message.specs.History.{Own, Posted}
use Rattle.inf_client.specs.AskLog.{AskLog, IsLater, asked_log}

pub none_later : (place : ℕ) (asks : List Own) → asks ≡ [] → IsLater place asks
none_later place asks none = subst (IsLater place) (sym none) (All-nil (λ (own : Own). own.made.ask_place < place))

pub made_later : (place : ℕ) (posted : Posted) (old new : AskLog) → new ≡ asked_log place posted old → IsLater place old.asks → IsLater (place + 1) new.asks
made_later place posted old new is later =
    subst (λ (l : AskLog). IsLater (place + 1) l.asks) (sym is)
    (All-push (λ (own : Own). own.made.ask_place < place + 1) old.asks _
    (All-weaker (λ (own : Own). own.made.ask_place < place) (λ (own : Own). own.made.ask_place < place + 1) (λ own less. omega arith) old.asks later)
    (omega arith))

pub made_one : (place : ℕ) (posted : Posted) (old new : AskLog) → new ≡ asked_log place posted old → 0 < old.room → new.room + 1 ≡ old.room
made_one place posted old new is some =
    let room : new.room ≡ old.room - 1 = ap (λ (l : AskLog). l.room) is in
    omega (arith, room, some)
