use Rattle.std.proofs.Common.{true, false, sym, ap, ◌∙◌}
use Rattle.inf_content.specs.Objects.{contents_of}
use Rattle.inf_content.proofs.Found.{dropped_at-found}
use Rattle.inf_content.proofs.Ordered.{dropped_in_order, order_after}
use Rattle.inf_content.proofs.contents.Contents.drop_dir.Goals as goal

pub returns-then-not-may_drop : goal.returns-then-not-may_drop
returns-then-not-may_drop c =
    sym (dropped_at-found false c.args.dir.now c.args.by c.self.inside.by_id.entries c.args.self.now c.self.view_is (sym c.may_drop.ensures ∙ c.if-not-may_drop.true))

pub returns : goal.returns
returns c =
    ap (λ m. contents_of m) c.remove.ensures.entries
    ∙ sym (dropped_at-found true c.args.dir.now c.args.by c.self.inside.by_id.entries c.args.self.now c.self.view_is (sym c.may_drop.ensures ∙ c.if-not-may_drop.false))

pub invariant_of-self : goal.invariant_of-self
invariant_of-self c = order_after c.self.view_is c.self.invariant (dropped_in_order c.args.dir.now c.args.by c.args.self.now) (returns c)
