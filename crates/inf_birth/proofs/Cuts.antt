-- A digest that is cut: what was written over zeros.
use Rattle.std.proofs.Common.{◌≡◌, ℕ, List, ◌++◌, take, drop, replicate, refl}
use Rattle.std.proofs.lemmas.List.{drop-replicate}
use Rattle.inf_birth.specs.Digest.{cut}

-- 32 zeros whose front was written over with the front of a digest
pub written_over : (kept : ℕ) (front whole digest : List ℕ) → front ≡ take kept whole → whole ≡ digest → front ++ drop kept (replicate 32 0) ≡ cut kept digest
written_over kept front whole digest same e = rw (same, e, drop-replicate) refl
