use Rattle.inf_laws_server.proofs.Serves.{machine_serves, machine_wants_none}
use Rattle.inf_laws_server.proofs.comes.machines_want_no_memory.Goals as goal

pub returns-clause-plain : goal.returns-clause-plain
returns-clause-plain c = λ site state place ask wants. machine_wants_none site state place ask wants

pub returns-clause-serves : goal.returns-clause-serves
returns-clause-serves c = λ site state place ask. machine_serves site state place ask
