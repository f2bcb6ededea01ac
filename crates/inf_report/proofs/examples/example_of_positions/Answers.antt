use Rattle.std.proofs.Common.{refl}
use Rattle.std.specs.Fmt.{digits}
use Rattle.inf_report.specs.Numbers.{set_positions}
use Rattle.inf_report.proofs.examples.example_of_positions.Goals as goal

pub returns : goal.returns
unfolding digits set_positions
returns c = refl
