use Rattle.std.proofs.Common.{refl}
use Rattle.std.specs.Fmt.{digits}
use Rattle.inf_report.proofs.examples.example_of_lines.Goals as goal

pub returns-clause-client : goal.returns-clause-client
unfolding digits
returns-clause-client c = refl

pub returns-clause-ask : goal.returns-clause-ask
unfolding digits
returns-clause-ask c = refl

pub returns-clause-serve : goal.returns-clause-serve
unfolding digits
returns-clause-serve c = refl
