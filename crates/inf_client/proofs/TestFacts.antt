-- What the steps of a test leave.
use Rattle.std.proofs.Common.{◌≡◌, ℕ, ◌+◌, ◌≤◌, Bool, true, false, cond, eqb, List, [], ◌∷◌, Option, Some, None, slice_get, subst, sym, ap, ◌∙◌, refl, arith}
use Rattle.inf_base.specs.declared.id.Id.{Id}
use Rattle.inf_base.specs.declared.answer.Answer.TheVariants as answer
use Rattle.inf_base.specs.declared.call.Call.{Call}
use Rattle.inf_base.specs.declared.setup.ClientLine.{ClientLine}
use Rattle.inf_client.specs.AskLog.{AskLog, IsLater, asked_log, no_asks}
use Rattle.inf_client.specs.Client.{Client, AsksNext, client_with}
use Rattle.inf_client.proofs.LogTestFacts.{made_later, none_later}
use Rattle.inf_duty.specs.Duty.{at_call, begun, found_at, given_up, given_up_in, lifts, may_give_up}
use Rattle.inf_duty.specs.Start.{start, starting}
use Rattle.inf_duty.specs.World.{World}
use Rattle.inf_message.specs.declared.ending.Ending.TheVariants as ending
use Rattle.inf_duty.specs.ClientState.{ClientState, Stage, act, compose, placed, round, winds, wound}
use Rattle.inf_duty.specs.Flow.{clean_up}
use Rattle.inf_duty.specs.Group.{composed}
use Rattle.inf_message.specs.Sent.{Sent}
use Rattle.inf_message.specs.declared.ask.Ask.{Ask}
use Rattle.inf_message.specs.declared.request.Request.{Request}
use Rattle.inf_message.specs.declared.step.Message.{Message}
use Rattle.inf_message.specs.History.{Posted}

few_in : (world : World) (client : ℕ) (line : Option ClientLine) → (starting world client line).counts.messages ≡ 0
few_in world client None = refl
few_in world client (Some line) = refl

-- a client that has just begun has asked for nothing
pub start_few : (world : World) (client : ℕ) (made : Client) → made ≡ client_with (start world client) false no_asks false → made.state.counts.messages ≡ 0
start_few world client made is =
    ap (λ (a : Client). a.state.counts.messages) is ∙ few_in world client (slice_get world.setup.clients client)

pub start_later : (world : World) (client : ℕ) (made : Client) → made ≡ client_with (start world client) false no_asks false → IsLater 1 made.log.asks
start_later world client made is = none_later 1 made.log.asks (ap (λ (a : Client). a.log.asks) is)

given_few : (s : ClientState) (stage : Stage) → (given_up_in s stage).counts.messages ≤ s.counts.messages
given_few s compose = omega arith
given_few s (round keys) = omega arith
given_few s (act flow) = by (clean_up s.who flow)
  where
    by : (steps : List (List Message)) → (wound (ending.Answers answer.NoMemory None) steps s).counts.messages ≤ s.counts.messages
    by [] = omega arith
    by (ms ∷ later) = omega arith
given_few s (winds end ms later) = omega arith

found_few : (digest : List ℕ → Id) (asked : Request) (s : ClientState) → (found_at digest asked s).counts.messages ≤ s.counts.messages
found_few digest asked s = by (lifts asked) (may_give_up s)
  where
    by : (b c : Bool) → (cond b (cond c (given_up s) s) (composed digest s)).counts.messages ≤ s.counts.messages
    by true true = given_few s s.stage
    by true false = omega arith
    by false c = omega arith

call_few : (digest : List ℕ → Id) (number : ℕ) (asked : Request) (left : List Call) (s : ClientState) → (at_call digest number asked left s).counts.messages ≤ s.counts.messages
call_few digest number asked [] s = omega arith
call_few digest number asked (call ∷ left) s = by (eqb number s.number) (may_give_up s) (call_few digest number asked left (given_up s))
  where
    by : (b c : Bool) → (at_call digest number asked left (given_up s)).counts.messages ≤ (given_up s).counts.messages
        → (cond b (found_at digest asked s) (cond c (at_call digest number asked left (given_up s)) s)).counts.messages ≤ s.counts.messages
    by true c later = found_few digest asked s
    by false true later = let less = given_few s s.stage in omega arith
    by false false later = omega arith

begun_few : (digest : List ℕ → Id) (ask : Ask) (sent : List Sent) (s : ClientState) → (begun digest ask sent s).counts.messages ≤ s.counts.messages
begun_few digest ask [] s = call_few digest ask.from.number ask.request s.left s
begun_few digest ask (x ∷ sent) s = omega arith

-- to take up an ask counts no message
pub asks_few : (digest : List ℕ → Id) (number : ℕ) (ask : Ask) (old new : Client) → AsksNext digest number ask old new → new.state.counts.messages ≤ old.state.counts.messages
asks_few digest number ask old new next =
    let few = begun_few digest ask old.state.sent old.state in
    let same : new.state.counts.messages ≡ (begun digest ask old.state.sent old.state).counts.messages = ap (λ (s : ClientState). s.counts.messages) next.state in
    omega arith

pub asks_later : (digest : List ℕ → Id) (place number : ℕ) (ask : Ask) (old new : Client) → AsksNext digest number ask old new → IsLater place old.log.asks → IsLater place new.log.asks
asks_later digest place number ask old new next later = subst (IsLater place) (sym next.asks) later

pub placed_later : (place : ℕ) (posted : Posted) (old : AskLog) (new : Client) (state : ClientState) → new ≡ client_with (placed place state) false (asked_log place posted old) false
    → IsLater place old.asks → IsLater (place + 1) new.log.asks
placed_later place posted old new state is later = made_later place posted old new.log (ap (λ (a : Client). a.log) is) later

pub placed_few : (place : ℕ) (log : AskLog) (new : Client) (state : ClientState) → new ≡ client_with (placed place state) false log false
    → new.state.counts.messages ≡ state.counts.messages + 1
placed_few place log new state is = ap (λ (a : Client). a.state.counts.messages) is

pub placed_quiet : (place : ℕ) (log : AskLog) (new : Client) (state : ClientState) → new ≡ client_with (placed place state) false log false → new.handed ≡ false
placed_quiet place log new state is = ap (λ (a : Client). a.handed) is
