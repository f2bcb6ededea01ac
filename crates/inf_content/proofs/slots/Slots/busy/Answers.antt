use Rattle.std.proofs.Common.{◌∙◌}
use Rattle.inf_content.proofs.Firsts.{first_busy, first_busy_missing, none_busy}
use Rattle.inf_content.proofs.slots.Slots.busy.Goals as goal

pub returns-in_default : goal.returns-in_default
returns-in_default c = rw (← c.self.view_is) (none_busy c.self.inside.by_name.entries c.self.inside.busy c.self.invariant c.in_default.ensures)

pub unreachable-requires : goal.unreachable-requires
unreachable-requires c =
    first_busy_missing c.self.inside.by_name.entries c.self.inside.busy c.self.invariant c.in-Some.name.now c.in-Some.ensures c.in_default-get.ensures.value

pub returns : goal.returns
returns c = rw (← c.self.view_is)
    (c.taker.ensures ∙ first_busy c.self.inside.by_name.entries c.self.inside.busy c.self.invariant c.in-Some.name.now c.in-Some-get.named.now
    c.in-Some.ensures c.in-Some-get.ensures.value)
