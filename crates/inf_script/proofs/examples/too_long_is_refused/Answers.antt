use Rattle.std.proofs.Common.{true, Ok, ◌+◌, take, length, arith}
use Rattle.std.proofs.lemmas.Bool.{lt-ltb}
use Rattle.inf_script.specs.declared.script.TheConstants.{MOST_SCRIPT_BYTES}
use Rattle.inf_script.specs.Draft.{start}
use Rattle.inf_script.specs.Lines.{lines_of}
use Rattle.inf_script.proofs.ReadingFacts.{refused_by}
use Rattle.inf_script.proofs.examples.too_long_is_refused.Goals as goal

pub returns : goal.returns
returns c = λ text long.
    rw (lt-ltb MOST_SCRIPT_BYTES (length text) long) (refused_by 1 (length (lines_of true (take MOST_SCRIPT_BYTES text)) + 1) (Ok start) tt (lines_of true (take MOST_SCRIPT_BYTES text)) (omega arith))
