use Rattle.std.proofs.Common.{arith}
use Rattle.inf_script.proofs.NameFacts.{too_great}
use Rattle.inf_script.proofs.names.value_below.Goals as goal

pub returns-then-value-from-clause-value : goal.returns-then-value-from-clause-value
returns-then-value-from-clause-value c = too_great c.args.bound c.loop-digit.value c.loop-digit.rest.now _ c.loop-digit.invariant.spelt (omega (arith, c.from.ensures))
