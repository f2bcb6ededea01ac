use Rattle.std.proofs.Common.{sym, ap, ◌∙◌}
use Rattle.inf_content.specs.Objects.{contents_of}
use Rattle.inf_content.proofs.Found.{made_at-new}
use Rattle.inf_content.proofs.Ordered.{made_in_order, order_after}
use Rattle.inf_content.proofs.contents.Contents.make.Goals as goal

pub returns-clause-ok : goal.returns-clause-ok
returns-clause-ok c =
    ap (λ m. contents_of m) c.in_ok-insert.ensures.entries
    ∙ made_at-new c.args.id c.args.born c.args.triple c.args.by c.self.inside.by_id.entries c.args.self.now c.new.result
    c.self.view_is c.new.ensures (sym c.directory_of_id.ensures.found ∙ c.in_default.is)

pub invariant_of-self-2 : goal.invariant_of-self-2
invariant_of-self-2 c = order_after c.self.view_is c.self.invariant (made_in_order c.args.id c.args.born c.args.triple c.args.by c.args.self.now) (returns-clause-ok c)
