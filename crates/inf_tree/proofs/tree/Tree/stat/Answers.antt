use Rattle.std.proofs.Common.{sym, ap}
use Rattle.inf_tree.specs.Apply.{Applied}
use Rattle.inf_tree.proofs.FlatCalls.{seen, not_seen}
use Rattle.inf_tree.proofs.tree.Tree.stat.Goals as goal

pub returns-in-None : goal.returns-in-None
returns-in-None c =
    sym (ap (λ (a : Applied). a.answer) (not_seen c.args.self.now.files.entries c.args.caller c.args.path.now c.in_ok-name.name c.requires.user c.requires.path c.in_ok-name.ensures (sym c.in-None.ensures.value)))

pub returns : goal.returns
returns c =
    sym (ap (λ (a : Applied). a.answer) (seen c.args.self.now.files.entries c.args.caller c.args.path.now c.in_ok-name.name c.requires.user c.requires.path c.in_ok-name.ensures c.in-Some.meta.now (sym c.in-Some.ensures.value)))
