use Rattle.std.proofs.Common.{◌≡◌, ℕ, ◌<◌, ◌≤◌, true, false, take}
use Rattle.inf_renames.specs.Kept.{has_version}
use Rattle.inf_renames.proofs.kept_rows.next_version.Given as goal

abbrev pub invariant-loop-index : goal.invariant-loop-index
invariant-loop-index l = record {
  taken : (v : ℕ) → v < l.next → has_version l.name v l.rows ≡ true;
  not_less : l.version ≤ l.next;
  free : l.next ≡ l.version → has_version l.name l.version (take l.index l.rows) ≡ false;
}
