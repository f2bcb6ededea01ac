use Rattle.std.proofs.Common.{refl}
use Rattle.std.specs.Fmt.{digits}
use Rattle.inf_report.proofs.examples.example_of_calls.Goals as goal

pub returns-clause-open : goal.returns-clause-open
unfolding digits
returns-clause-open c = refl

pub returns-clause-ended : goal.returns-clause-ended
unfolding digits
returns-clause-ended c = refl

pub returns-clause-other : goal.returns-clause-other
unfolding digits
returns-clause-other c = refl
