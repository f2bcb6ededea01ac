use Rattle.std.proofs.Common.{ap, sym}
use Rattle.inf_content.specs.Wanted.{is_wanted, passes}
use Rattle.inf_content.proofs.Stripped.{slot_found}
use Rattle.inf_content.proofs.busy_names.is_wanted_name.Goals as goal

pub returns-in-None : goal.returns-in-None
returns-in-None c = sym (ap (passes (is_wanted c.args.wanted c.args.by)) (slot_found c.args.name.now c.args.slots.now.entries _ c.in-None.ensures.value))

pub returns-in-Some : goal.returns-in-Some
returns-in-Some c = rw (slot_found c.args.name.now c.args.slots.now.entries _ c.in-Some.ensures.value) c.is_wanted.ensures
