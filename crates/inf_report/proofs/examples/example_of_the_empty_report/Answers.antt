use Rattle.std.proofs.Common.{refl}
use Rattle.std.specs.Fmt.{digits}
use Rattle.inf_report.proofs.examples.example_of_the_empty_report.Goals as goal

pub returns : goal.returns
unfolding digits
returns c = refl
