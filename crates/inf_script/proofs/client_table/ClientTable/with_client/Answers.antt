use Rattle.std.proofs.Common.{sym, ap, subst, ◌∙◌}
use Rattle.inf_base.specs.declared.setup.ClientLine.{ClientLine}
use Rattle.inf_script.specs.ClientTable.{IsTable}
use Rattle.inf_script.proofs.TableFacts.{client-kept}
use Rattle.inf_script.proofs.client_table.ClientTable.with_client.Goals as goal

pub invariant_of-result : goal.invariant_of-result
invariant_of-result c =
    let table = c.as_mut-table.result.now in
    client-kept c.in_ok-from_slice.field-0 table.names.keys c.insert_full.new.self.keys table.lines.items c.push.new.self.items c.args.self table.calls _ c.args.name.now
    (subst (λ parts. IsTable parts.names.keys parts.lines.items parts.calls) (sym c.as_mut-table.ensures.value) c.self.invariant)
    (ap (λ parts. parts.lines.items) c.as_mut-table.ensures.value ∙ c.self.view_is)
    c.requires.unknown c.requires.room c.in_ok-from_slice.ensures.items (ap (λ (l : ClientLine). l.name) c.in_ok-new.ensures) (ap (λ (l : ClientLine). l.calls) c.in_ok-new.ensures) c.in_ok-insert_full.ensures.keys c.in_ok-push.ensures.items
