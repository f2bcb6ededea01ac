use Rattle.std.proofs.Common.{refl}
use Rattle.inf_content.proofs.Firsts.{free_by_count}
use Rattle.inf_content.proofs.slots.Slots.has_free.Goals as goal

pub returns : goal.returns
returns c = rw (← c.self.view_is, free_by_count c.self.inside.by_name.entries c.self.inside.busy c.self.invariant, c.len.ensures, c.len-2.ensures.len) refl
