use Rattle.std.proofs.Common.{Some, refl}
use Rattle.inf_content.proofs.Found.{changed_there, none_changed}
use Rattle.inf_content.proofs.Ordered.{order_after, sealed_in_order}
use Rattle.inf_content.proofs.contents.Contents.seal.Goals as goal

pub returns-in_default : goal.returns-in_default
returns-in_default c =
    none_changed c.args.dir.now c.self.inside.by_id.entries c.args.self.now c.object_mut.result c.self.view_is c.object_mut.ensures.found
    c.in_default.is _ _ c.object_mut.follows.holds-at-none

pub returns : goal.returns
returns c =
    changed_there c.args.dir.now c.self.inside.by_id.entries c.args.self.now c.object_mut.result c.self.view_is c.object_mut.ensures.found
    c.in-Some.object c.in-Some.is _ (record c.in-Some.object.now { seal = Some c.args.by }) _
    (c.object_mut.follows.holds (record c.in-Some.object.now { seal = Some c.args.by })) refl

pub invariant_of-self-2 : goal.invariant_of-self-2
invariant_of-self-2 c =
    order_after c.self.view_is c.self.invariant (sealed_in_order c.args.dir.now c.args.by c.args.self.now) (returns c)
