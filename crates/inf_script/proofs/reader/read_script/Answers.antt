use Rattle.std.proofs.Common.{◌≡◌, true, length}
use Rattle.std.specs.List.{list_all}
use Rattle.inf_base.specs.Setup.{IsValid}
use Rattle.inf_order.specs.Order.{is_move_of}
use Rattle.inf_script.specs.Built.{IsBuilt}
use Rattle.inf_script.proofs.Soundness.{read-good}
use Rattle.inf_script.proofs.reader.read_script.Goals as goal

pub returns-clause-valid : goal.returns-clause-valid
returns-clause-valid c = read-good (λ script. IsValid script.setup) (λ script good. good.valid) c.args.bytes.now c.args.more c.read_lines.result c.read_lines.ensures

pub returns-clause-order : goal.returns-clause-order
returns-clause-order c = read-good (λ script. list_all (is_move_of script.setup.servers (length script.setup.clients)) script.order ≡ true) (λ script good. good.order) c.args.bytes.now c.args.more c.read_lines.result c.read_lines.ensures

pub returns-clause-built : goal.returns-clause-built
returns-clause-built c = read-good (λ script. IsBuilt script.setup) (λ script good. good.built) c.args.bytes.now c.args.more c.read_lines.result c.read_lines.ensures
