use Rattle.std.proofs.Common.{List, ℕ, position, ap, sym, ◌∙◌}
use Rattle.inf_content.proofs.Listed.{find-none, find_read, remove_key-none, remove_key-found_at}
use Rattle.inf_content.proofs.busy_names.BusyNames.take_first.Goals as goal

pub returns-in_default-clause-name : goal.returns-in_default-clause-name
returns-in_default-clause-name c = rw (← c.self.view_is)
    (sym (find-none _ c.self.inside.names.items (ap (position _) (sym c.as_slice.ensures.value) ∙ sym c.in_default.ensures)))

pub returns-in_default-clause-left : goal.returns-in_default-clause-left
returns-in_default-clause-left c =
    ap (λ (names : List (List ℕ)). record c.args.self.now { names = names }) (rw (← c.self.view_is) (sym (remove_key-none _ c.self.inside.names.items
    (find-none _ c.self.inside.names.items (ap (position _) (sym c.as_slice.ensures.value) ∙ sym c.in_default.ensures)))))

pub returns-clause-name : goal.returns-clause-name
returns-clause-name c = rw (← c.self.view_is)
    (sym (find_read _ c.self.inside.names.items c.in-Some.at c.remove.result (ap (position _) (sym c.as_slice.ensures.value) ∙ sym c.in-Some.ensures) c.remove.ensures.value))

pub returns-clause-left : goal.returns-clause-left
returns-clause-left c = rw (← c.self.view_is, remove_key-found_at _ c.self.inside.names.items c.in-Some.at (ap (position _) (sym c.as_slice.ensures.value) ∙ sym c.in-Some.ensures))
    (λ i. record { names = c.remove.ensures.items i; room = c.remove.ensures.capacity i })
