use Rattle.std.proofs.Common.{ap, sym, ◌∙◌, rules}
use Rattle.inf_renames.specs.Kept.{Kept}
use Rattle.inf_renames.proofs.KeptFacts.{kept_whole}
use Rattle.inf_renames.proofs.kept_rows.KeptRows.remove.Goals as goal

pub returns-in_default : goal.returns-in_default
returns-in_default c = kept_whole c.args.dir.now c.args.self.now c.as_slice.result.now (c.as_slice.ensures.value ∙ ap (λ (k : Kept). k.rows) c.self.view_is) (sym c.place_of.ensures ∙ search rules)
