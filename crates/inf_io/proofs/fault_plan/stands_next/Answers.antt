use Rattle.std.proofs.Common.{sym}
use Rattle.inf_io.proofs.Plans.{is_planned-past}
use Rattle.inf_io.proofs.fault_plan.stands_next.Goals as goal

pub returns-in-None : goal.returns-in-None
returns-in-None c = sym (is_planned-past c.args.fails.now c.args.calls c.type_inv.fails c.in-None.ensures)
