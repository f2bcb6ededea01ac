use Rattle.inf_content.specs.Slots.{settled_in}
use Rattle.inf_content.proofs.Found.{none_changed, slots_changed_there}
use Rattle.inf_content.proofs.Ordered.{order_after, settled_in_order}
use Rattle.inf_content.proofs.contents.Contents.settle.Goals as goal

pub returns-in_default-clause-settled : goal.returns-in_default-clause-settled
returns-in_default-clause-settled c =
    none_changed c.args.dir.now c.self.inside.by_id.entries c.args.self.now c.object_mut.result c.self.view_is c.object_mut.ensures.found
    c.in_default.is _ _ c.object_mut.follows.holds-at-none

pub returns-clause-settled : goal.returns-clause-settled
returns-clause-settled c =
    slots_changed_there c.args.dir.now c.self.inside.by_id.entries c.args.self.now c.object_mut.result c.self.view_is c.object_mut.ensures.found
    c.in-Some.object c.in-Some.is (settled_in c.args.by) c.settle.new.self _
    (c.object_mut.follows.holds (record c.in-Some.object.now { slots = c.settle.new.self })) c.settle.ensures.settled

pub invariant_of-self-2 : goal.invariant_of-self-2
invariant_of-self-2 c =
    order_after c.self.view_is c.self.invariant (settled_in_order c.args.dir.now c.args.by c.args.self.now) (returns-clause-settled c)
