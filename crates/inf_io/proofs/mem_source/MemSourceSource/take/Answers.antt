use Rattle.std.proofs.Common.{ap, sym, rules, arith}
use Rattle.inf_io.specs.MemSource.{MemSourceState}
use Rattle.inf_io.proofs.Pieces.{copied_piece}
use Rattle.inf_io.proofs.mem_source.MemSourceSource.take.Goals as goal

pub returns-clause-bytes : goal.returns-clause-bytes
returns-clause-bytes c =
    let inside = c.self.inside in
    copied_piece inside.bytes.items inside.start c.min-n.result c.copy_from_slice.new.self _ _ (sym (ap (λ (s : MemSourceState). s.left) c.self.view_is)) (search rules) (omega (arith, inside.bytes.ok.0))
