-- The calls that are left when the one under way has ended.
use Rattle.std.proofs.Common.{◌≡◌, ℕ, ◌+◌, ◌<◌, List, [], ◌∷◌, length, drop, refl, sym, ap, ◌∙◌, arith}
use Rattle.std.proofs.lemmas.List.{drop-drop}
use Rattle.inf_base.specs.declared.call.Call.{Call}
use Rattle.inf_duty.specs.ClientState.{rest_of}

without_first : (calls : List Call) → drop 1 calls ≡ rest_of calls
without_first [] = refl
without_first (call ∷ calls) = refl

-- one call more is passed over
pub passed_more : (passed : ℕ) (calls left : List Call) → drop passed calls ≡ left → drop (passed + 1) calls ≡ rest_of left
passed_more passed calls left is = sym (drop-drop 1 passed calls) ∙ without_first (drop passed calls) ∙ ap rest_of is

-- the rest has one call less
pub one_less : (left : List Call) → 0 < length left → length (rest_of left) + 1 ≡ length left
one_less [] some = absurd (omega arith)
one_less (call ∷ calls) some = omega arith
