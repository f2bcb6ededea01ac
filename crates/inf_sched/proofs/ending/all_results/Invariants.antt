use Rattle.std.proofs.Common.{◌≡◌}
use Rattle.std.specs.List.{flat_map}
use Rattle.inf_sched.specs.Run.{results_of_client}
use Rattle.inf_sched.proofs.ending.all_results.Given as goal

abbrev pub invariant-loop-client : goal.invariant-loop-client
invariant-loop-client l = l.results.items ≡ flat_map results_of_client l.yielded
