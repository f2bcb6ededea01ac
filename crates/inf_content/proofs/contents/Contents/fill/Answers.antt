use Rattle.inf_content.specs.Slots.{filled_in}
use Rattle.inf_content.proofs.Found.{none_changed, slots_changed_there}
use Rattle.inf_content.proofs.Ordered.{filled_in_order, order_after}
use Rattle.inf_content.proofs.contents.Contents.fill.Goals as goal

pub returns-in_default-clause-filled : goal.returns-in_default-clause-filled
returns-in_default-clause-filled c =
    none_changed c.args.dir.now c.self.inside.by_id.entries c.args.self.now c.object_mut.result c.self.view_is c.object_mut.ensures.found
    c.in_default.is _ _ c.object_mut.follows.holds-at-none

pub returns-clause-filled : goal.returns-clause-filled
returns-clause-filled c =
    slots_changed_there c.args.dir.now c.self.inside.by_id.entries c.args.self.now c.object_mut.result c.self.view_is c.object_mut.ensures.found
    c.in-Some.object c.in-Some.is (filled_in c.args.by c.args.link) c.fill.new.self _
    (c.object_mut.follows.holds (record c.in-Some.object.now { slots = c.fill.new.self })) c.fill.ensures.filled

pub invariant_of-self-2 : goal.invariant_of-self-2
invariant_of-self-2 c =
    order_after c.self.view_is c.self.invariant (filled_in_order c.args.dir.now c.args.by c.args.link c.args.self.now) (returns-clause-filled c)
