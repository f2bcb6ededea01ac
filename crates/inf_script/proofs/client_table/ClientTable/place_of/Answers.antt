use Rattle.std.proofs.Common.{sym, ap, subst, ◌∙◌}
use Rattle.inf_script.specs.ClientTable.{IsTable}
use Rattle.inf_script.proofs.TableFacts.{found_place}
use Rattle.inf_script.proofs.client_table.ClientTable.place_of.Goals as goal

pub returns-in-Some-clause-value : goal.returns-in-Some-clause-value
returns-in-Some-clause-value c =
    let table = c.deref.result.now in
    c.in-Some.ensures.index
    ∙ found_place c.args.name.now table.names.keys table.lines.items c.args.self.now
    (subst (λ parts. IsTable parts.names.keys parts.lines.items parts.calls) (sym c.deref.ensures) c.self.invariant).named
    (ap (λ parts. parts.lines.items) c.deref.ensures ∙ c.self.view_is)

pub returns-in-None-clause-value : goal.returns-in-None-clause-value
returns-in-None-clause-value c =
    let table = c.deref.result.now in
    c.in-None.ensures.index
    ∙ found_place c.args.name.now table.names.keys table.lines.items c.args.self.now
    (subst (λ parts. IsTable parts.names.keys parts.lines.items parts.calls) (sym c.deref.ensures) c.self.invariant).named
    (ap (λ parts. parts.lines.items) c.deref.ensures ∙ c.self.view_is)
