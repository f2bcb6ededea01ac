use Rattle.std.proofs.Common.{refl, ap, ◌∙◌}
use Rattle.inf_content.specs.declared.named.Named.{Named}
use Rattle.inf_content.specs.BusyNames.{is_busy}
use Rattle.inf_content.specs.Named.{slots_of}
use Rattle.inf_content.specs.Slot.{with_meta}
use Rattle.inf_content.proofs.KeptSlots.{kept_same, slots_changed, slots_missing, written}
use Rattle.inf_content.proofs.Takers.{with_meta_busy}
use Rattle.inf_content.proofs.slots.Slots.set_file.Goals as goal

pub returns-in_default : goal.returns-in_default
returns-in_default c = rw (← c.self.view_is)
    (ap (λ m. slots_of m.entries) c.get_mut.follows.holds-at-none
    ∙ slots_missing c.args.name.now c.self.inside.by_name.entries (with_meta c.args.meta) c.in_default.ensures.value)

pub invariant_of-self-2 : goal.invariant_of-self-2
invariant_of-self-2 c =
    let w : Named = record { kept = c.set_meta.new.self; spare = c.in-Some.named.now.spare } in
    kept_same (written c.args.name.now c.self.inside.by_name (c.get_mut.follows.lender w) c.self.inside.busy c.in-Some.named.now w
    c.self.invariant c.in-Some.ensures.value (c.get_mut.follows.holds w))
    (ap is_busy c.set_meta.ensures ∙ with_meta_busy c.args.meta c.in-Some.named.now.kept) refl

pub returns : goal.returns
returns c = rw (← c.self.view_is)
    (let w : Named = record { kept = c.set_meta.new.self; spare = c.in-Some.named.now.spare } in
    slots_changed (written c.args.name.now c.self.inside.by_name (c.get_mut.follows.lender w) c.self.inside.busy c.in-Some.named.now w
    c.self.invariant c.in-Some.ensures.value (c.get_mut.follows.holds w)) (with_meta c.args.meta) c.set_meta.ensures)
