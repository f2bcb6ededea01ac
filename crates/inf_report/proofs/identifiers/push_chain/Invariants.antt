use Rattle.std.proofs.Common.{◌≡◌, ◌++◌, drop, map}
use Rattle.inf_report.specs.Identifiers.{chain_text, stamp_of}
use Rattle.inf_report.proofs.NumberFacts.{rest_text}
use Rattle.inf_report.proofs.identifiers.push_chain.Given as goal

abbrev pub invariant-loop-entry : goal.invariant-loop-entry
invariant-loop-entry l =
    l.out.items ++ rest_text l.is_first (map stamp_of (drop l.entry-index l.entry-items)) ≡ l.initial.out.items ++ chain_text l.entry-items
