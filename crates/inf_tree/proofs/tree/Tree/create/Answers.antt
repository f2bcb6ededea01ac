use Rattle.std.proofs.Common.{sym, ap, ◌∙◌}
use Rattle.inf_tree.specs.Apply.{Applied}
use Rattle.inf_tree.proofs.FlatCalls.{created, not_created}
use Rattle.inf_tree.proofs.tree.Tree.create.Goals as goal

pub returns-then-contains_key-clause-answer : goal.returns-then-contains_key-clause-answer
returns-then-contains_key-clause-answer c =
    let there = sym c.contains_key.ensures ∙ c.if-contains_key.true in
    sym (ap (λ (a : Applied). a.answer) (not_created c.args.self.now.files.entries c.args.caller c.args.path.now c.in_ok-name.name c.requires.user c.requires.path c.in_ok-name.ensures c.args.mode there))

pub returns-then-contains_key-clause-tree : goal.returns-then-contains_key-clause-tree
returns-then-contains_key-clause-tree c =
    let there = sym c.contains_key.ensures ∙ c.if-contains_key.true in
    sym (ap (λ (a : Applied). a.tree) (not_created c.args.self.now.files.entries c.args.caller c.args.path.now c.in_ok-name.name c.requires.user c.requires.path c.in_ok-name.ensures c.args.mode there))

pub returns-clause-answer : goal.returns-clause-answer
returns-clause-answer c =
    let free = sym c.contains_key.ensures ∙ c.if-contains_key.false in
    sym (ap (λ (a : Applied). a.answer) (created c.args.self.now.files.entries c.args.caller c.args.path.now c.in_ok-name.name c.requires.user c.requires.path c.in_ok-name.ensures c.args.mode free))

pub returns-clause-tree : goal.returns-clause-tree
returns-clause-tree c =
    let free = sym c.contains_key.ensures ∙ c.if-contains_key.false in
    rw c.in_ok-insert.ensures.entries (sym (ap (λ (a : Applied). a.tree) (created c.args.self.now.files.entries c.args.caller c.args.path.now c.in_ok-name.name c.requires.user c.requires.path c.in_ok-name.ensures c.args.mode free)))
