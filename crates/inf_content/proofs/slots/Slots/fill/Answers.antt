use Rattle.std.proofs.Common.{sym, ap, ◌∙◌}
use Rattle.inf_content.specs.declared.named.Named.{Named}
use Rattle.inf_content.specs.declared.wanted.Wanted.TheVariants as wanted
use Rattle.inf_content.specs.BusyNames.{is_busy}
use Rattle.inf_content.specs.Named.{slots_of}
use Rattle.inf_content.specs.Slot.{filled, reserves}
use Rattle.inf_content.specs.Slots.{told_of_filled}
use Rattle.inf_content.proofs.Edits.{none_passes}
use Rattle.inf_content.proofs.Firsts.{kept_whole, none_taken, taken_missing}
use Rattle.inf_content.proofs.KeptSlots.{kept_free, lets_go, slots_first}
use Rattle.inf_content.proofs.Takers.{filled_free}
use Rattle.inf_content.proofs.slots.Slots.fill.Goals as goal

pub invariant_of-self : goal.invariant_of-self
invariant_of-self c =
    kept_whole wanted.Reserved c.args.by c.self.inside.by_name.entries c.self.inside.busy c.self.invariant c.take_first.new.self c.in_default.ensures.name
    c.in_default.ensures.left

pub returns-in_default : goal.returns-in_default
returns-in_default c = rw (← c.self.view_is)
    (let none = none_taken wanted.Reserved c.args.by c.self.inside.by_name.entries c.self.inside.busy c.self.invariant c.in_default.ensures.name in
    record {
      told = ap (told_of_filled c.args.id.now c.args.link) (sym none);
      filled = sym (none_passes (reserves c.args.by) (filled c.args.link) (slots_of c.self.inside.by_name.entries) none).0;
    })

pub unreachable-requires : goal.unreachable-requires
unreachable-requires c =
    taken_missing wanted.Reserved c.args.by c.self.inside.by_name.entries c.self.inside.busy c.self.invariant c.in-Some.name c.in-Some.ensures.name
    c.in_default-get_mut.ensures.value

pub invariant_of-self-2 : goal.invariant_of-self-2
invariant_of-self-2 c =
    let w = c.fill.new.self in
    let go = lets_go wanted.Reserved c.args.by c.self.inside.by_name (c.get_mut.follows.lender w) c.self.inside.busy c.take_first.new.self c.in-Some.name
    c.in-Some-get_mut.named.now w c.self.invariant c.in-Some.ensures.name c.in-Some.ensures.left c.in-Some-get_mut.ensures.value (c.get_mut.follows.holds w) in
    kept_free go.is (ap (λ (n : Named). is_busy n.kept) c.fill.ensures ∙ filled_free c.args.by c.args.link c.in-Some-get_mut.named.now.kept go.first.passes)
    (ap (λ (n : Named). n.spare) c.fill.ensures) go.left_is

pub returns : goal.returns
returns c = rw (← c.self.view_is)
    (let w = c.fill.new.self in
    let go = lets_go wanted.Reserved c.args.by c.self.inside.by_name (c.get_mut.follows.lender w) c.self.inside.busy c.take_first.new.self c.in-Some.name
    c.in-Some-get_mut.named.now w c.self.invariant c.in-Some.ensures.name c.in-Some.ensures.left c.in-Some-get_mut.ensures.value (c.get_mut.follows.holds w) in
    record {
      told = c.told_of_fill-told.ensures ∙ ap (told_of_filled c.args.id.now c.args.link) (sym go.first.found);
      filled = slots_first go.is (reserves c.args.by) (filled c.args.link) go.first (ap (λ (n : Named). n.kept) c.fill.ensures);
    })
