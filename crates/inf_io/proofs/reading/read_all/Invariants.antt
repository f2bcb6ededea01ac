use Rattle.std.proofs.Common.{◌+◌, ◌-◌, ◌≤◌, ◌<◌, vec_len}
use Rattle.std.specs.Io.KnownBytes.{Consumes}
use Rattle.inf_io.specs.Faults.{Stays}
use Rattle.inf_io.proofs.reading.read_all.Given as goal

abbrev pub invariant-loop-all : goal.invariant-loop-all
invariant-loop-all g l = record {
  consumed : Consumes (g.S.Source.left l.initial.source) (g.S.Source.left l.source) l.all.items;
  few : vec_len l.all ≤ l.limit + 1;
  room : 0 < vec_len l.chunk;
  count : Stays (g.S.Source.faults l.initial.source) (g.S.Source.faults l.source);
}

abbrev pub decreases-loop-all : goal.decreases-loop-all
decreases-loop-all g l = l.limit + 1 - vec_len l.all
