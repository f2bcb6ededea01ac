use Rattle.std.proofs.Common.{None, Some, cond, length, ap, sym, ◌∙◌, arith}
use Rattle.inf_content.specs.declared.named.Named.{Named}
use Rattle.inf_content.specs.BusyNames.{Busy, is_busy, without_name}
use Rattle.inf_content.specs.Named.{slots_of}
use Rattle.inf_content.specs.Slots.{with_slot}
use Rattle.inf_content.proofs.Busy.{listed}
use Rattle.inf_content.proofs.KeptSlots.{kept_put, names_without, put_within, slots_put}
use Rattle.inf_content.proofs.slots.Slots.put_file.Goals as goal

pub invariant_of-self-2 : goal.invariant_of-self-2
invariant_of-self-2 c =
    let w : Named = record { kept = c.file.result; spare = Some c.in_ok-spare.spare } in
    kept_put c.args.name c.self.inside.by_name c.insert.new.self c.self.inside.busy c.self.invariant w
    c.in_ok-insert.ensures.entries c.in_ok-insert.ensures.ordered c.in_ok-insert.ensures.updates
    (ap Some c.in_ok-spare.ensures ∙ ap (λ slot. cond (is_busy slot) None (Some c.args.name)) (sym c.file.ensures))
    (ap (λ (b : Busy). b.names) c.remove.ensures ∙ names_without c.args.name c.make_room.new.self.names _ c.place_of-at.ensures
    ∙ ap (without_name c.args.name) c.make_room.ensures.names ∙ ap (λ slot. listed (is_busy slot) c.args.name c.self.inside.busy.names) (sym c.file.ensures))
    (put_within _ _ (length c.self.inside.by_name.entries) _ c.in_ok-insert.ensures.len
    (omega (arith, c.len.ensures.len, c.in_ok-make_room.ensures.ok, ap (λ (b : Busy). b.room) c.remove.ensures)))

pub returns-clause-ok : goal.returns-clause-ok
returns-clause-ok c = rw (← c.self.view_is)
    (slots_put c.args.name c.self.inside.by_name c.insert.new.self (record { kept = c.file.result; spare = Some c.in_ok-spare.spare }) c.in_ok-insert.ensures.entries
    ∙ ap (λ slot. with_slot c.args.name slot (slots_of c.self.inside.by_name.entries)) c.file.ensures)
