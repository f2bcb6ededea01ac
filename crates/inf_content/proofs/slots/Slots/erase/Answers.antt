use Rattle.std.proofs.Common.{Some, sym, ap, ◌∙◌, arith}
use Rattle.inf_content.specs.declared.wanted.Wanted.TheVariants as wanted
use Rattle.inf_content.specs.Named.{slots_of}
use Rattle.inf_content.specs.Slot.{erases}
use Rattle.inf_content.specs.Slots.{told_of_erased}
use Rattle.inf_content.proofs.Edits.{none_passes}
use Rattle.inf_content.proofs.Firsts.{kept_whole, left_names, none_taken, taken, taken_missing}
use Rattle.inf_content.proofs.KeptSlots.{kept_removed, slots_removed}
use Rattle.inf_content.proofs.slots.Slots.erase.Goals as goal

pub invariant_of-self : goal.invariant_of-self
invariant_of-self c =
    kept_whole wanted.Going c.args.by c.self.inside.by_name.entries c.self.inside.busy c.self.invariant c.take_first.new.self c.in_default.ensures.name
    c.in_default.ensures.left

pub returns-in_default : goal.returns-in_default
returns-in_default c = rw (← c.self.view_is)
    (let none = none_taken wanted.Going c.args.by c.self.inside.by_name.entries c.self.inside.busy c.self.invariant c.in_default.ensures.name in
    record {
      told = ap told_of_erased (sym none);
      erased = sym (none_passes (erases c.args.by) (λ slot. slot) (slots_of c.self.inside.by_name.entries) none).1;
    })

pub unreachable-requires : goal.unreachable-requires
unreachable-requires c =
    taken_missing wanted.Going c.args.by c.self.inside.by_name.entries c.self.inside.busy c.self.invariant c.in-Some.name c.in-Some.ensures.name
    c.in_default-remove.ensures.value

pub invariant_of-self-2 : goal.invariant_of-self-2
invariant_of-self-2 c =
    kept_removed c.in-Some.name c.self.inside.by_name c.remove.new.self c.self.inside.busy c.self.invariant c.remove.ensures.entries
    c.remove.ensures.ordered c.remove.ensures.updates (omega (arith, c.remove.ensures.len))
    (left_names wanted.Going c.args.by c.self.inside.by_name.entries c.self.inside.busy c.self.invariant c.take_first.new.self c.in-Some.name
    c.in-Some.ensures.name c.in-Some.ensures.left)

pub returns : goal.returns
returns c = rw (← c.self.view_is)
    (let first = taken wanted.Going c.args.by c.self.inside.by_name.entries c.self.inside.busy c.self.invariant c.in-Some.name c.in-Some-remove.named
    c.in-Some.ensures.name c.in-Some-remove.ensures.value in
    record {
      told = ap (λ access. Some (c.in-Some.name, access)) c.into_access.ensures ∙ ap told_of_erased (sym first.found);
      erased = slots_removed c.in-Some.name c.self.inside.by_name c.remove.new.self c.remove.ensures.entries ∙ sym first.removed;
    })
