-- What an ask finds, where the client stops before the ask's call.
use Rattle.std.proofs.Common.{List, ◌≡◌, ◌≢◌, ◌↔◌, ℕ, Bool, IsTrue, IfOk, Result, true, false, [], sym, ap, subst, ◌∙◌}
use Rattle.inf_base.specs.declared.id.Id.{Id}
use Rattle.inf_duty.specs.Duty.{Duty, asks, at_call, begun, given_up, may_give_up, next_step}
use Rattle.inf_duty.proofs.BegunFacts.{at_nothing, begun_between, gives_up, stays_at}
use Rattle.inf_duty.specs.ClientState.{ClientState}
use Rattle.inf_message.specs.declared.ask.Ask.{Ask}
use Rattle.inf_message.specs.declared.request.Request.{Request}

-- the walk went from a client that has sent nothing to another
pub begun_passed : (digest : List ℕ → Id) (ask : Ask) (before after : ClientState) → before.sent ≡ []
    → at_call digest ask.from.number ask.request after.left after ≡ at_call digest ask.from.number ask.request before.left before
    → at_call digest ask.from.number ask.request after.left after ≡ after → after ≡ begun digest ask before.sent before
begun_passed digest ask before after none way stays = sym stays ∙ way ∙ sym (begun_between digest ask before none)

-- it ends where no call is left
pub begun_over : (digest : List ℕ → Id) (ask : Ask) (before after : ClientState) → before.sent ≡ []
    → at_call digest ask.from.number ask.request after.left after ≡ at_call digest ask.from.number ask.request before.left before
    → after.left ≡ [] → after ≡ begun digest ask before.sent before
begun_over digest ask before after none way over =
    begun_passed digest ask before after none way (at_nothing digest ask.from.number ask.request after over)

-- it ends where the call is another
pub begun_stopped : (digest : List ℕ → Id) (ask : Ask) (before after : ClientState) → before.sent ≡ []
    → at_call digest ask.from.number ask.request after.left after ≡ at_call digest ask.from.number ask.request before.left before
    → after.number ≢ ask.from.number → may_give_up after ≡ false
    → after ≡ begun digest ask before.sent before
begun_stopped digest ask before after none way unlike stopped =
    begun_passed digest ask before after none way (stays_at digest ask.from.number ask.request after unlike stopped)

-- ---- on the way there

-- a call is given up that is not the one looked for
pub gave_up : (digest : List ℕ → Id) (number : ℕ) (asked : Request) (now after : ClientState) → after ≡ given_up now → now.number ≢ number
    → may_give_up now ≡ true
    → at_call digest number asked after.left after ≡ at_call digest number asked now.left now
gave_up digest number asked now after is unlike may =
    ap (λ s. at_call digest number asked s.left s) is ∙ gives_up digest number asked now unlike may

-- ---- what the ask is to be

-- the next step of the client that an ask finds decides whether it may send the ask
pub found_decides : {E : Type 0} (digest : List ℕ → Id) (number : ℕ) (ask : Ask) (s found : ClientState) (result : Result Bool E) → found ≡ begun digest ask s.sent s
    → IfOk result (λ yes. IsTrue yes ↔ (next_step found ≡ asks number ask)) → IfOk result (λ yes. IsTrue yes ↔ Duty digest s number ask)
found_decides digest number ask s found result is =
    subst (λ (x : ClientState). IfOk result (λ yes. IsTrue yes ↔ (next_step x ≡ asks number ask))) is
