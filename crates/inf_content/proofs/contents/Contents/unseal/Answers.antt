use Rattle.std.proofs.Common.{ap}
use Rattle.inf_content.specs.Objects.{whole}
use Rattle.inf_content.proofs.Found.{changed_there, none_changed}
use Rattle.inf_content.proofs.Ordered.{order_after, unsealed_in_order}
use Rattle.inf_content.proofs.contents.Contents.unseal.Goals as goal

pub returns-in_default : goal.returns-in_default
returns-in_default c =
    none_changed c.args.dir.now c.self.inside.by_id.entries c.args.self.now c.object_mut.result c.self.view_is c.object_mut.ensures.found
    c.in_default.is _ _ c.object_mut.follows.holds-at-none

pub returns : goal.returns
returns c =
    let seal_now = c.seal_left-object.result in
    changed_there c.args.dir.now c.self.inside.by_id.entries c.args.self.now c.object_mut.result c.self.view_is c.object_mut.ensures.found
    c.in-Some.object c.in-Some.is _ (record c.in-Some.object.now { seal = seal_now }) _
    (c.object_mut.follows.holds (record c.in-Some.object.now { seal = seal_now }))
    (ap (λ seal. whole c.args.dir.now.id (record c.in-Some.object.now { seal = seal })) c.seal_left-object.ensures)

pub invariant_of-self-2 : goal.invariant_of-self-2
invariant_of-self-2 c =
    order_after c.self.view_is c.self.invariant (unsealed_in_order c.args.dir.now c.args.by c.args.self.now) (returns c)
