use Rattle.inf_duty.proofs.OwnFacts.{HasFollowed}
use Rattle.inf_duty.proofs.allow.allowed.Given as goal

abbrev pub invariant-loop-made : goal.invariant-loop-made
invariant-loop-made g l = HasFollowed (g.R.IdRule.digest_of l.rule) l.initial.state l.state l.own l.made-index
