use Rattle.infinifs.proofs.CommandFacts.{sched_complete, sched_refusal_told}
use Rattle.infinifs.proofs.sched.sched_command.Goals as goal

pub returns-clause-complete : goal.returns-clause-complete
returns-clause-complete g c = sched_complete _ c.run_text.result _ c.code.ensures c.run_text.ensures

pub returns-clause-refusal_told : goal.returns-clause-refusal_told
returns-clause-refusal_told g c = sched_refusal_told _ c.run_text.result _ c.code.ensures c.run_text.ensures
