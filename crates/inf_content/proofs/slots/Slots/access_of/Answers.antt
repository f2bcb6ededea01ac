use Rattle.std.proofs.Common.{refl}
use Rattle.inf_content.proofs.Stripped.{slot_found}
use Rattle.inf_content.proofs.slots.Slots.access_of.Goals as goal

pub returns-in-None : goal.returns-in-None
returns-in-None c = rw (← c.self.view_is, slot_found c.args.name.now c.self.inside.by_name.entries _ c.in-None.ensures.value) refl

pub returns-in-Some : goal.returns-in-Some
returns-in-Some c = rw (← c.self.view_is, slot_found c.args.name.now c.self.inside.by_name.entries _ c.in-Some.ensures.value) c.access.ensures
