use Rattle.std.proofs.Common.{ap, ◌∙◌, arith}
use Rattle.inf_content.proofs.KeptSlots.{kept_removed, names_without, slots_removed}
use Rattle.inf_content.proofs.slots.Slots.take_out.Goals as goal

pub invariant_of-self : goal.invariant_of-self
invariant_of-self c =
    kept_removed c.args.name.now c.self.inside.by_name c.remove.new.self c.self.inside.busy c.self.invariant c.remove.ensures.entries
    c.remove.ensures.ordered c.remove.ensures.updates (omega (arith, c.remove.ensures.len))
    (c.remove-3.ensures ∙ ap (λ names. record c.self.inside.busy { names = names }) (names_without c.args.name.now c.self.inside.busy.names _ c.place_of.ensures))

pub returns : goal.returns
returns c = rw (← c.self.view_is) (slots_removed c.args.name.now c.self.inside.by_name c.remove.new.self c.remove.ensures.entries)
