use Rattle.std.proofs.Common.{◌≡◌, ◌<◌, length, set, sym, ap, subst, ◌∙◌}
use Rattle.inf_script.specs.CallLine.{calling}
use Rattle.inf_script.specs.ClientTable.{IsTable}
use Rattle.inf_script.proofs.TableFacts.{calling-set, calling-kept}
use Rattle.inf_script.proofs.client_table.ClientTable.calling.Goals as goal

shown : (c : goal.After-parts-2-1) → c.as_mut-table.result.now.lines.items ≡ c.args.self
shown c = ap (λ table. table.lines.items) c.as_mut-table.ensures.value ∙ c.self.view_is

within : (c : goal.After-parts-2-1) → c.args.client < length c.as_mut-table.result.now.lines.items
within c = rw (shown c) c.requires.known

written : (c : goal.After-parts-2-1) → set c.as_mut-table.result.now.lines.items c.args.client c.push.new.self
    ≡ calling c.args.client c.args.call c.as_mut-table.result.now.lines.items
written c =
    calling-set c.args.client c.args.call c.as_mut-table.result.now.lines.items c.index_mut.result.now c.push.new.self (within c)
    c.index_mut.ensures.value c.in_ok-push.ensures

pub invariant_of-result : goal.invariant_of-result
invariant_of-result c =
    let table = c.as_mut-table.result.now in
    rw (written c) (calling-kept table.names.keys table.lines.items table.calls c.args.client c.args.call (within c)
    (subst (λ parts. IsTable parts.names.keys parts.lines.items parts.calls) (sym c.as_mut-table.ensures.value) c.self.invariant))

pub returns : goal.returns
returns c = written c ∙ ap (calling c.args.client c.args.call) (shown c)
