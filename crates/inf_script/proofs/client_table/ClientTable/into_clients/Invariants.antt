use Rattle.std.proofs.Common.{◌≡◌, ◌++◌}
use Rattle.std.specs.Vec.Iter.{into_iter_items}
use Rattle.inf_script.proofs.client_table.ClientTable.into_clients.Given as goal

abbrev pub invariant-loop-line : goal.invariant-loop-line
invariant-loop-line l = l.clients.items ++ into_iter_items l.line-iterator ≡ l.fn.self
