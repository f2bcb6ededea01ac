use Rattle.std.proofs.Common.{◌≡◌, ℕ, ◌<◌, ◌-◌, true, length}
use Rattle.inf_renames.specs.Kept.{has_version}
use Rattle.inf_renames.proofs.kept_rows.KeptRows.least_version.Given as goal

abbrev pub invariant-loop-version : goal.invariant-loop-version
invariant-loop-version l = (v : ℕ) → v < l.version → has_version l.name v l.self.rows ≡ true

abbrev pub decreases-loop-version : goal.decreases-loop-version
decreases-loop-version l = length l.self.rows - l.version
