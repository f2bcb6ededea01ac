use Rattle.inf_content.specs.Slots.{lifted}
use Rattle.inf_content.proofs.Found.{none_changed, slots_changed_there}
use Rattle.inf_content.proofs.Ordered.{lifted_in_order, order_after}
use Rattle.inf_content.proofs.contents.Contents.lift.Goals as goal

pub returns-in_default : goal.returns-in_default
returns-in_default c =
    none_changed c.args.dir.now c.self.inside.by_id.entries c.args.self.now c.object_mut.result c.self.view_is c.object_mut.ensures.found
    c.in_default.is _ _ c.object_mut.follows.holds-at-none

pub returns : goal.returns
returns c =
    slots_changed_there c.args.dir.now c.self.inside.by_id.entries c.args.self.now c.object_mut.result c.self.view_is c.object_mut.ensures.found
    c.in-Some.object c.in-Some.is (lifted c.args.by) c.lift.new.self _
    (c.object_mut.follows.holds (record c.in-Some.object.now { slots = c.lift.new.self })) c.lift.ensures

pub invariant_of-self-2 : goal.invariant_of-self-2
invariant_of-self-2 c =
    order_after c.self.view_is c.self.invariant (lifted_in_order c.args.dir.now c.args.by c.args.self.now) (returns c)
