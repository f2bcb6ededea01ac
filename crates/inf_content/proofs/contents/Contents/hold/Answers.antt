use Rattle.inf_content.specs.Slot.{held_slot}
use Rattle.inf_content.specs.Slots.{changed_slot}
use Rattle.inf_content.proofs.Found.{none_changed, slots_changed_there}
use Rattle.inf_content.proofs.Ordered.{held_in_order, order_after}
use Rattle.inf_content.proofs.contents.Contents.hold.Goals as goal

pub returns-in_default : goal.returns-in_default
returns-in_default c =
    none_changed c.args.dir.now c.self.inside.by_id.entries c.args.self.now c.object_mut.result c.self.view_is c.object_mut.ensures.found
    c.in_default.is _ _ c.object_mut.follows.holds-at-none

pub returns : goal.returns
returns c =
    slots_changed_there c.args.dir.now c.self.inside.by_id.entries c.args.self.now c.object_mut.result c.self.view_is c.object_mut.ensures.found
    c.in-Some.object c.in-Some.is (changed_slot c.args.name.now (held_slot c.args.by c.args.mode)) c.hold.new.self _
    (c.object_mut.follows.holds (record c.in-Some.object.now { slots = c.hold.new.self })) c.hold.ensures

pub invariant_of-self-2 : goal.invariant_of-self-2
invariant_of-self-2 c =
    order_after c.self.view_is c.self.invariant (held_in_order c.args.dir.now c.args.name.now c.args.by c.args.mode c.args.self.now) (returns c)
