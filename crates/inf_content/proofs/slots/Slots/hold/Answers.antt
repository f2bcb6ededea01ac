use Rattle.std.proofs.Common.{sym, ap, ◌∙◌}
use Rattle.inf_content.specs.declared.named.Named.{Named}
use Rattle.inf_content.specs.BusyNames.{is_busy, with_name}
use Rattle.inf_content.specs.Named.{slots_of}
use Rattle.inf_content.specs.Slot.{held_slot}
use Rattle.inf_content.proofs.KeptSlots.{IsAt, kept_held, kept_same, room_for_one, slots_changed, slots_missing, spare_missing, spare_there, written}
use Rattle.inf_content.proofs.Takers.{held_slot_busy}
use Rattle.inf_content.proofs.slots.Slots.hold.Goals as goal

pub returns-in_default : goal.returns-in_default
returns-in_default c = rw (← c.self.view_is)
    (ap (λ m. slots_of m.entries) c.get_mut.follows.holds-at-none
    ∙ slots_missing c.args.name.now c.self.inside.by_name.entries (held_slot c.args.by c.args.mode) c.in_default.ensures.value)

pub add-requires : goal.add-requires
add-requires c =
    let at : IsAt c.args.name.now c.self.inside.by_name.entries c.self.inside.busy c.in-Some.named.now = record { kept = c.self.invariant; found = c.in-Some.ensures.value } in
    room_for_one at c.in-Some-hold.ensures.spare

pub invariant_of-self-in-Some-hold : goal.invariant_of-self-in-Some-hold
invariant_of-self-in-Some-hold c =
    let is = written c.args.name.now c.self.inside.by_name (c.get_mut.follows.lender c.hold.new.self) c.self.inside.busy c.in-Some.named.now c.hold.new.self
    c.self.invariant c.in-Some.ensures.value (c.get_mut.follows.holds c.hold.new.self) in
    kept_held is (ap (λ (n : Named). is_busy n.kept) c.hold.ensures.named ∙ held_slot_busy c.args.by c.args.mode c.in-Some.named.now.kept)
    (ap (λ (n : Named). n.spare) c.hold.ensures.named)
    (c.add.ensures ∙ ap (λ name. record c.self.inside.busy { names = with_name name c.self.inside.busy.names }) (spare_there is.was c.in-Some-hold.ensures.spare).1)

pub invariant_of-self-in_default-hold : goal.invariant_of-self-in_default-hold
invariant_of-self-in_default-hold c =
    let is = written c.args.name.now c.self.inside.by_name (c.get_mut.follows.lender c.hold.new.self) c.self.inside.busy c.in-Some.named.now c.hold.new.self
    c.self.invariant c.in-Some.ensures.value (c.get_mut.follows.holds c.hold.new.self) in
    kept_same is
    (ap (λ (n : Named). is_busy n.kept) c.hold.ensures.named ∙ held_slot_busy c.args.by c.args.mode c.in-Some.named.now.kept
    ∙ sym (spare_missing is.was c.in_default-hold.ensures.spare))
    (ap (λ (n : Named). n.spare) c.hold.ensures.named ∙ c.in_default-hold.ensures.spare)

pub returns-in-Some-hold : goal.returns-in-Some-hold
returns-in-Some-hold c = rw (← c.self.view_is)
    (slots_changed (written c.args.name.now c.self.inside.by_name (c.get_mut.follows.lender c.hold.new.self) c.self.inside.busy c.in-Some.named.now c.hold.new.self
    c.self.invariant c.in-Some.ensures.value (c.get_mut.follows.holds c.hold.new.self))
    (held_slot c.args.by c.args.mode) (ap (λ (n : Named). n.kept) c.hold.ensures.named))

pub returns-in_default-hold : goal.returns-in_default-hold
returns-in_default-hold c = rw (← c.self.view_is)
    (slots_changed (written c.args.name.now c.self.inside.by_name (c.get_mut.follows.lender c.hold.new.self) c.self.inside.busy c.in-Some.named.now c.hold.new.self
    c.self.invariant c.in-Some.ensures.value (c.get_mut.follows.holds c.hold.new.self))
    (held_slot c.args.by c.args.mode) (ap (λ (n : Named). n.kept) c.hold.ensures.named))
