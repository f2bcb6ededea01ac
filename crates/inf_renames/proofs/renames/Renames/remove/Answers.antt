use Rattle.std.proofs.Common.{ap, ◌∙◌}
use Rattle.std.specs.BTreeMap.{BTreeMap}
use Rattle.inf_base.specs.declared.id.Id.{Id}
use Rattle.inf_renames.specs.Kept.{Kept}
use Rattle.inf_renames.proofs.Entries.{left, without}
use Rattle.inf_renames.proofs.renames.Renames.remove.Goals as goal

pub returns-in_default : goal.returns-in_default
returns-in_default c =
    ap (λ (m : BTreeMap Id Kept). m.entries) c.get_mut.follows.holds-at-none
    ∙ left c.args.parent.now c.args.dir.now c.self.inside.lists c.args.self.now c.self.view_is c.in_default.ensures.value

pub returns : goal.returns
returns c =
    let w = c.remove.new.self in
    without c.args.parent.now c.self.inside.lists (c.get_mut.follows.lender w) c.args.self.now c.in-Some.kept.now w c.self.view_is c.in-Some.ensures.value (c.get_mut.follows.holds w) c.args.dir.now c.remove.ensures
