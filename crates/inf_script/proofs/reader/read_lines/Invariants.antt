use Rattle.std.proofs.Common.{◌≡◌, ◌+◌, ◌≤◌, length, Ok}
use Rattle.inf_script.specs.Draft.{start}
use Rattle.inf_script.specs.Lines.{lines_of}
use Rattle.inf_script.specs.Reading.{read_from}
use Rattle.inf_script.proofs.reader.read_lines.Given as goal

abbrev pub invariant-loop-line : goal.invariant-loop-line
invariant-loop-line l = record { read : read_from l.more l.number (Ok l.draft) (lines_of l.more l.rest) ≡ read_from l.more 1 (Ok start) (lines_of l.more l.bytes); counted : l.number + length l.rest ≤ length l.bytes + 1 }

abbrev pub decreases-loop-line : goal.decreases-loop-line
decreases-loop-line l = length l.rest
