-- The phases of calls, once the phase of one has changed.
use Rattle.std.proofs.Common.{◌≡◌, Bool, true, false, cond, Option, Some, None, refl, sym, ap, subst, ◌∙◌}
use Rattle.std.proofs.lemmas.Bool.{both_ways}
use mathlib.Core.Path.{fun_ext}
use Rattle.inf_base.specs.declared.caller.CallRef.{CallRef}
use Rattle.inf_base.specs.Same.{is_same_call}
use Rattle.inf_base.proofs.Same.{same_call, same_call_self}
use Rattle.inf_laws_directory.specs.Phases.{Phase, Phases, with_phase}

-- what holds of a call in its new phase, and of all others in theirs, holds of each
pub each_call : (by : CallRef) (phase : Phase) (phases : Phases) (P : CallRef → Phase → Type 0) → P by phase
    → ((other : CallRef) → (other ≡ by → ⊥) → P other (phases other)) → (call : CallRef) → P call (with_phase by phase phases call)
each_call by phase phases P here others call = by_test (is_same_call call by) refl
  where
    by_test : (b : Bool) → is_same_call call by ≡ b → P call (cond b phase (phases call))
    by_test true is = subst (λ (c : CallRef). P c phase) (sym (same_call call by is)) here
    by_test false is = others call (λ same. both_ways _ is (subst (λ (c : CallRef). is_same_call c by ≡ true) (sym same) (same_call_self by)))

-- what holds of a call's new phase, and of the others' phases
pub phase_here : (by : CallRef) (phase : Phase) (phases : Phases) → with_phase by phase phases by ≡ phase
phase_here by phase phases = let same = same_call_self by in rw same refl

pub phase_apart : (by : CallRef) (phase : Phase) (phases : Phases) (call : CallRef) → (call ≡ by → ⊥) → with_phase by phase phases call ≡ phases call
phase_apart by phase phases call apart =
    each_call by phase phases (λ (c : CallRef) (p : Phase). (c ≡ by → ⊥) → p ≡ phases c) (λ not. absurd (not refl)) (λ other not_by not. refl) call apart

-- a call that stays in its phase changes none
pub same_phases : (by : CallRef) (phases : Phases) → with_phase by (phases by) phases ≡ phases
same_phases by phases = fun_ext (λ call. each_call by (phases by) phases (λ (c : CallRef) (p : Phase). p ≡ phases c) refl (λ other apart. refl) call)

-- what is not there is nothing
pub none_not_some : {A P : Type 0} (found : Option A) (value : A) → found ≡ None → found ≡ Some value → P
none_not_some None value none is = cc
none_not_some (Some other) value none is = cc
