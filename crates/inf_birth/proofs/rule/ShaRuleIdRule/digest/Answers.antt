use Rattle.std.proofs.Common.{List, ℕ, ap}
use Rattle.inf_base.specs.declared.id.Id.{Id}
use Rattle.inf_birth.proofs.Cuts.{written_over}
use Rattle.inf_birth.proofs.rule.ShaRuleIdRule.digest.Goals as goal

pub returns : goal.returns
returns c =
    let id_of : List ℕ → Id = λ bytes. record { bytes = bytes } in
    ap id_of (written_over c.args.self.now.bytes _ _ _ c.copy_from_slice.ensures.after c.digest-whole.ensures)
