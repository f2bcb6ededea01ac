use Rattle.std.proofs.Common.{None}
use Rattle.std.proofs.lemmas.Result.{err_from_is_err_and}
use Rattle.inf_base.specs.Content.{file}
use Rattle.inf_content.specs.Slots.{with_slot}
use Rattle.inf_content.proofs.Found.{none_changed, same_there, slots_changed_there}
use Rattle.inf_content.proofs.Ordered.{order_after, with_file_in_order}
use Rattle.inf_content.proofs.contents.Contents.put_file.Goals as goal

pub returns-in_default-clause-ok : goal.returns-in_default-clause-ok
returns-in_default-clause-ok c =
    none_changed c.args.dir.now c.self.inside.by_id.entries c.args.self.now c.object_mut.result c.self.view_is c.object_mut.ensures.found
    c.in_default.is _ _ c.object_mut.follows.holds-at-none

pub returns-in_err-put_file-clause-err : goal.returns-in_err-put_file-clause-err
returns-in_err-put_file-clause-err c =
    let failed = err_from_is_err_and c.from_residual.result c.from_residual.ensures.1 in
    rw failed.1 (same_there c.args.dir.now c.self.inside.by_id.entries c.args.self.now c.object_mut.result c.self.view_is c.object_mut.ensures.found
    c.in-Some.object c.in-Some.is c.put_file.new.self _
    (c.object_mut.follows.holds (record c.in-Some.object.now { slots = c.put_file.new.self })) c.in_err-put_file.ensures.err)

pub returns-clause-ok : goal.returns-clause-ok
returns-clause-ok c =
    slots_changed_there c.args.dir.now c.self.inside.by_id.entries c.args.self.now c.object_mut.result c.self.view_is c.object_mut.ensures.found
    c.in-Some.object c.in-Some.is (with_slot c.args.name (file c.args.meta None)) c.put_file.new.self _
    (c.object_mut.follows.holds (record c.in-Some.object.now { slots = c.put_file.new.self })) c.in_ok-put_file.ensures.ok

pub invariant_of-self-in_err-put_file : goal.invariant_of-self-in_err-put_file
invariant_of-self-in_err-put_file c =
    order_after c.self.view_is c.self.invariant (λ order. order) (same_there c.args.dir.now c.self.inside.by_id.entries c.args.self.now c.object_mut.result c.self.view_is c.object_mut.ensures.found
    c.in-Some.object c.in-Some.is c.put_file.new.self _
    (c.object_mut.follows.holds (record c.in-Some.object.now { slots = c.put_file.new.self })) c.in_err-put_file.ensures.err)

pub invariant_of-self-2 : goal.invariant_of-self-2
invariant_of-self-2 c =
    order_after c.self.view_is c.self.invariant (with_file_in_order c.args.dir.now c.args.name c.args.meta c.args.self.now) (returns-clause-ok c)
