use Rattle.std.proofs.Common.{sym, subst}
use Rattle.inf_content.specs.Objects.{contents_of}
use Rattle.inf_content.specs.Order.{AreInOrder}
use Rattle.inf_content.proofs.Ordered.{none_in_order}
use Rattle.inf_content.proofs.contents.Contents.new.Goals as goal

pub invariant_of-result : goal.invariant_of-result
invariant_of-result c = subst (λ es. AreInOrder (contents_of es)) (sym c.new.ensures.empty) none_in_order
