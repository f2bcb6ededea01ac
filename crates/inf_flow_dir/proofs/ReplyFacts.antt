-- Where a reply is not the one that is hoped for, a step fails.
use Rattle.std.proofs.Common.{◌≡◌, ℕ, List, Result, Ok, Err, ap, refl, sym, ◌∙◌}
use Rattle.std.specs.Prelude.{IfOk}
use Rattle.inf_base.specs.declared.memory.NoMemory.{NoMemory}
use Rattle.inf_base.specs.declared.directory.DirRef.{DirRef}
use Rattle.inf_base.specs.declared.entry.Entry.{Entry}
use Rattle.inf_base.specs.declared.id.Id.{Id}
use Rattle.inf_base.specs.declared.triple.Triple.{Triple}
use Rattle.inf_flow_dir.specs.declared.dir_flow.DirFlow.{DirFlow}
use Rattle.inf_flow_dir.specs.declared.dir_flow.DirFlow.TheVariants as step
use Rattle.inf_flow_dir.specs.DirFlow.{after_reply, clean_up}
use Rattle.inf_message.specs.declared.reply.Reply.{Reply}
use Rattle.inf_message.specs.declared.reply.Reply.TheVariants as reply
use Rattle.inf_message.specs.declared.turn.Turn.{Turn}
use Rattle.inf_message.specs.Turn.{fails}
use Rattle.inf_message.specs.Who.{Who}

abbrev pub Fails : (List ℕ → Id) → Who → DirFlow → ℕ → ℕ → Reply → Type 0
Fails digest who flow asked place given = fails (clean_up who flow) place given ≡ after_reply digest who flow asked place given

pub unless_made : (digest : List ℕ → Id) (who : Who) (chain : List Entry) (name : List ℕ) (mode version : ℕ) (id : Id) (asked place : ℕ) (given : Reply)
    → (given ≡ reply.Fine → ⊥) → ((kept : Triple) → given ≡ reply.Clash kept → ⊥) → Fails digest who (step.Makes chain name mode version id) asked place given
unless_made digest who chain name mode version id asked place reply.Fine other apart = absurd (other refl)
unless_made digest who chain name mode version id asked place (reply.Clash kept) other apart = absurd (apart kept refl)
unless_made digest who chain name mode version id asked place given other apart = refl

pub unless_linked : (digest : List ℕ → Id) (who : Who) (chain : List Entry) (name : List ℕ) (mode version : ℕ) (made : DirRef) (asked place : ℕ) (given : Reply)
    → (given ≡ reply.Fine → ⊥) → Fails digest who (step.Links chain name mode version made) asked place given
unless_linked digest who chain name mode version made asked place reply.Fine other = absurd (other refl)
unless_linked digest who chain name mode version made asked place given other = refl

pub unless_unlinked : (digest : List ℕ → Id) (who : Who) (chain : List Entry) (asked place : ℕ) (given : Reply)
    → (given ≡ reply.Fine → ⊥) → Fails digest who (step.Unlinks chain) asked place given
unless_unlinked digest who chain asked place reply.Fine other = absurd (other refl)
unless_unlinked digest who chain asked place given other = refl

-- a flow, as it was matched
pub at_step : (digest : List ℕ → Id) (who : Who) (flow now : DirFlow) (asked place : ℕ) (given : Reply) (turn : Turn DirFlow)
    → flow ≡ now → turn ≡ after_reply digest who now asked place given → turn ≡ after_reply digest who flow asked place given
at_step digest who flow now asked place given turn is as_now = as_now ∙ ap (λ (f : DirFlow). after_reply digest who f asked place given) (sym is)

-- the same of a turn that memory may be wanting for, at a clash
pub at_clash : (digest : List ℕ → Id) (who : Who) (flow : DirFlow) (chain : List Entry) (name : List ℕ) (mode version : ℕ) (id : Id) (asked place : ℕ) (given : Reply) (kept : Triple)
    (found : Result (Turn DirFlow) NoMemory) → flow ≡ step.Makes chain name mode version id → given ≡ reply.Clash kept
    → IfOk found (λ (turn : Turn DirFlow). (by : List ℕ → Id) (m at : ℕ) (other : Id) → turn ≡ after_reply by who (step.Makes chain name m version other) at place (reply.Clash kept))
    → IfOk found (λ (turn : Turn DirFlow). turn ≡ after_reply digest who flow asked place given)
at_clash digest who flow chain name mode version id asked place given kept (Ok turn) is same comes =
    at_step digest who flow (step.Makes chain name mode version id) asked place given turn is
    (comes digest mode asked id ∙ ap (after_reply digest who (step.Makes chain name mode version id) asked place) (sym same))
at_clash digest who flow chain name mode version id asked place given kept (Err error) is same comes = tt
