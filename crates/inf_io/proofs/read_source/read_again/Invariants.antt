use Rattle.std.specs.Io.KnownBytes.{Keeps}
use Rattle.inf_io.proofs.read_source.read_again.Given as goal

-- interrupted reads read nothing
abbrev pub invariant-loop : goal.invariant-loop
invariant-loop g l = Keeps (g.R.Read.remaining l.initial.reader) (g.R.Read.remaining l.reader)
