use Rattle.std.proofs.Common.{ap, sym, ◌∙◌, arith}
use Rattle.inf_renames.specs.Kept.{Kept, kept_with_row}
use Rattle.inf_renames.specs.Renames.{with_kept}
use Rattle.inf_renames.proofs.Entries.{kept_found, written}
use Rattle.inf_renames.proofs.renames.Renames.add.Goals as goal

pub unreachable-requires : goal.unreachable-requires
unreachable-requires c =
    let none = ap (λ (k : Kept). k.spare) (kept_found c.args.parent.now c.self.inside.lists _ _ c.self.view_is c.in_default.ensures.value) in
    omega (arith, none, c.requires)

pub add-requires : goal.add-requires
add-requires c =
    let some = ap (λ (k : Kept). k.spare) (kept_found c.args.parent.now c.self.inside.lists _ _ c.self.view_is c.in-Some.ensures.value) in
    omega (arith, some, c.requires)

pub returns : goal.returns
returns c =
    let k = c.in-Some.kept.now in
    let w = c.add.new.self in
    let was = kept_found c.args.parent.now c.self.inside.lists _ _ c.self.view_is c.in-Some.ensures.value in
    written c.args.parent.now c.self.inside.lists (c.get_mut.follows.lender w) c.args.self.now k w c.self.view_is c.in-Some.ensures.value (c.get_mut.follows.holds w)
    ∙ ap (λ x. with_kept c.args.parent.now x c.args.self.now) (c.add.ensures ∙ ap (kept_with_row _) (sym was))
