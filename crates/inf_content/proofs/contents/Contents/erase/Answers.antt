use Rattle.inf_content.specs.Slots.{erased}
use Rattle.inf_content.proofs.Found.{none_changed, slots_changed_there}
use Rattle.inf_content.proofs.Ordered.{erased_in_order, order_after}
use Rattle.inf_content.proofs.contents.Contents.erase.Goals as goal

pub returns-in_default-clause-erased : goal.returns-in_default-clause-erased
returns-in_default-clause-erased c =
    none_changed c.args.dir.now c.self.inside.by_id.entries c.args.self.now c.object_mut.result c.self.view_is c.object_mut.ensures.found
    c.in_default.is _ _ c.object_mut.follows.holds-at-none

pub returns-clause-erased : goal.returns-clause-erased
returns-clause-erased c =
    slots_changed_there c.args.dir.now c.self.inside.by_id.entries c.args.self.now c.object_mut.result c.self.view_is c.object_mut.ensures.found
    c.in-Some.object c.in-Some.is (erased c.args.by) c.erase.new.self _
    (c.object_mut.follows.holds (record c.in-Some.object.now { slots = c.erase.new.self })) c.erase.ensures.erased

pub invariant_of-self-2 : goal.invariant_of-self-2
invariant_of-self-2 c =
    order_after c.self.view_is c.self.invariant (erased_in_order c.args.dir.now c.args.by c.args.self.now) (returns-clause-erased c)
