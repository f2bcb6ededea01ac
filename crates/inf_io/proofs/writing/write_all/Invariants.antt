use Rattle.std.proofs.Common.{◌≡◌, [], length}
use Rattle.inf_io.specs.Faults.{Stays}
use Rattle.inf_io.proofs.Written.{WrittenTo}
use Rattle.inf_io.proofs.writing.write_all.Given as goal

abbrev pub invariant-loop-rest : goal.invariant-loop-rest
invariant-loop-rest g l = record {
  written : WrittenTo (g.K.Sink.held l.initial.sink) (g.K.Sink.held l.sink) l.bytes l.rest;
  count : Stays (g.K.Sink.faults l.initial.sink) (g.K.Sink.faults l.sink);
  untouched : l.bytes ≡ [] → l.sink ≡ l.initial.sink;
}

abbrev pub decreases-loop-rest : goal.decreases-loop-rest
decreases-loop-rest g l = length l.rest
