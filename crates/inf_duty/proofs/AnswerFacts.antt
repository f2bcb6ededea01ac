-- The answer to the one message of a group, as code takes it.
use Rattle.std.proofs.Common.{◌≡◌, ℕ, Bool, false, ◌∷◌, IsTrue, ◌↔◌, arith, ◌<◌, true, List, [], length, refl, ap, ◌∙◌}
use Rattle.inf_duty.specs.Messages.{has_one_message}
use Rattle.inf_duty.specs.Tally.{with_serve}
use Rattle.inf_duty.specs.ClientState.{ClientState, Counts, Stage, compose}
use Rattle.inf_duty.specs.Turn.{recorded, served, turn_at, turned}
use Rattle.inf_message.specs.Sent.{has_place}
use Rattle.inf_message.specs.declared.turn.Turn.{Turn}
use Rattle.inf_base.specs.declared.id.Id.{Id}
use Rattle.inf_message.specs.History.{Told}
use Rattle.inf_duty.proofs.TurnFacts.{alone_ends}

-- the client between its two parts: the turn is taken, the Serve counted, and what follows is still to come
pub ends_alone : (digest : List ℕ → Id) (s taken : ClientState) (counts : Counts) (t : Turn Stage) (place : ℕ) (told : Told)
    → length s.sent ≡ 1 → has_place place s.sent ≡ true → has_one_message s.who s.stage ≡ true
    → t ≡ turn_at digest (recorded place told s) s.stage → taken ≡ record s { stage = compose; sent = [] }
    → counts ≡ with_serve told.serve_place taken.counts
    → turned t (record taken { counts = counts }) ≡ served digest place told s
ends_alone digest s taken counts t place told alone here one turn after counted =
    alone_ends digest s (record taken { counts = counts }) _ t place told alone here one turn
    (ap (λ (c : Counts). record taken { counts = c }) counted
    ∙ ap (λ (v : ClientState). record v { counts = with_serve told.serve_place v.counts }) after)
    refl

-- a list that a test tells from the empty one
pub some_left : {X : Type 0} (is_over : Bool) (xs : List X) → (IsTrue is_over ↔ (xs ≡ [])) → is_over ≡ false → 0 < length xs
some_left is_over [] tells says = let yes = tells.1 refl in absurd (cc)
some_left is_over (x ∷ xs) tells says = omega arith
