use Rattle.std.proofs.Common.{sym, ap, subst, ◌∙◌, arith}
use Rattle.std.specs.BTreeMap.{is_at}
use Rattle.std.specs.Map.{set_value}
use Rattle.inf_content.specs.declared.named.Named.{Named}
use Rattle.inf_content.specs.declared.wanted.Wanted.TheVariants as wanted
use Rattle.inf_content.specs.BusyNames.{is_busy}
use Rattle.inf_content.specs.Named.{AreKept, slots_of}
use Rattle.inf_content.specs.Slots.{lifted, without_slot}
use Rattle.inf_content.proofs.Edits.{lifted-freed, lifted-none, lifted-removed}
use Rattle.inf_content.proofs.Firsts.{fewer_left, kept_whole, left_names, none_taken, taken, taken_missing}
use Rattle.inf_content.proofs.KeptSlots.{kept_free, kept_removed, lets_go, slots_removed, slots_written, unwritten}
use Rattle.inf_content.proofs.Takers.{freed_free, holds_from_taken}
use Rattle.inf_content.proofs.Listed.{name_cmp}
use Rattle.inf_content.proofs.slots.Slots.lift_first.Goals as goal

pub invariant_of-self : goal.invariant_of-self
invariant_of-self c =
    kept_whole wanted.Taken c.args.by c.self.inside.by_name.entries c.self.inside.busy c.self.invariant c.take_first.new.self c.in_default.ensures.name
    c.in_default.ensures.left

pub returns-in_default-clause-all : goal.returns-in_default-clause-all
returns-in_default-clause-all c = rw (← c.self.view_is)
    (λ _. sym (lifted-none c.args.by (slots_of c.self.inside.by_name.entries)
    (none_taken wanted.Taken c.args.by c.self.inside.by_name.entries c.self.inside.busy c.self.invariant c.in_default.ensures.name)))

pub unreachable-requires : goal.unreachable-requires
unreachable-requires c =
    taken_missing wanted.Taken c.args.by c.self.inside.by_name.entries c.self.inside.busy c.self.invariant c.in-Some.name c.in-Some.ensures.name
    c.in_default-get_mut.ensures.value

pub invariant_of-self-then-reserves : goal.invariant_of-self-then-reserves
invariant_of-self-then-reserves c =
    let v = c.in-Some-get_mut.named.now in
    let same = unwritten c.in-Some.name c.self.inside.by_name (c.get_mut.follows.lender v) v c.in-Some-get_mut.ensures.value (c.get_mut.follows.holds v) in
    kept_removed c.in-Some.name (c.get_mut.follows.lender v) c.remove.new.self c.self.inside.busy (subst (λ es. AreKept es c.self.inside.busy) (sym same) c.self.invariant)
    c.remove.ensures.entries c.remove.ensures.ordered c.remove.ensures.updates (omega (arith, c.remove.ensures.len))
    (left_names wanted.Taken c.args.by c.self.inside.by_name.entries c.self.inside.busy c.self.invariant c.take_first.new.self c.in-Some.name
    c.in-Some.ensures.name c.in-Some.ensures.left)

pub returns-then-reserves : goal.returns-then-reserves
returns-then-reserves c = rw (← c.self.view_is)
    (let v = c.in-Some-get_mut.named.now in
    let same = unwritten c.in-Some.name c.self.inside.by_name (c.get_mut.follows.lender v) v c.in-Some-get_mut.ensures.value (c.get_mut.follows.holds v) in
    let first = taken wanted.Taken c.args.by c.self.inside.by_name.entries c.self.inside.busy c.self.invariant c.in-Some.name v
    c.in-Some.ensures.name c.in-Some-get_mut.ensures.value in
    record {
      lifted =
          ap (lifted c.args.by) (slots_removed c.in-Some.name (c.get_mut.follows.lender v) c.remove.new.self c.remove.ensures.entries)
          ∙ ap (λ es. lifted c.args.by (without_slot c.in-Some.name (slots_of es))) same
          ∙ lifted-removed c.args.by (is_at (name_cmp c.in-Some.name)) (slots_of c.self.inside.by_name.entries) v.kept first.at (sym c.reserves.ensures ∙ c.if-reserves.true);
      fewer = λ _. fewer_left wanted.Taken c.args.by c.self.inside.by_name.entries c.self.inside.busy c.self.invariant c.take_first.new.self c.in-Some.name
          c.remove.new.self.entries c.in-Some.ensures.name c.in-Some.ensures.left (invariant_of-self-then-reserves c);
      all = λ none. cc;
    })

pub invariant_of-self-2 : goal.invariant_of-self-2
invariant_of-self-2 c =
    let v = c.in-Some-get_mut.named.now in
    let w = c.free.new.self in
    let go = lets_go wanted.Taken c.args.by c.self.inside.by_name (c.get_mut.follows.lender w) c.self.inside.busy c.take_first.new.self c.in-Some.name
    v w c.self.invariant c.in-Some.ensures.name c.in-Some.ensures.left c.in-Some-get_mut.ensures.value (c.get_mut.follows.holds w) in
    kept_free go.is
    (ap (λ (n : Named). is_busy n.kept) c.free.ensures ∙ freed_free c.args.by v.kept (holds_from_taken c.args.by v.kept go.first.passes (sym c.reserves.ensures ∙ c.if-reserves.false)))
    (ap (λ (n : Named). n.spare) c.free.ensures) go.left_is

pub returns : goal.returns
returns c = rw (← c.self.view_is)
    (let v = c.in-Some-get_mut.named.now in
    let w = c.free.new.self in
    let go = lets_go wanted.Taken c.args.by c.self.inside.by_name (c.get_mut.follows.lender w) c.self.inside.busy c.take_first.new.self c.in-Some.name
    v w c.self.invariant c.in-Some.ensures.name c.in-Some.ensures.left c.in-Some-get_mut.ensures.value (c.get_mut.follows.holds w) in
    record {
      lifted =
          ap (lifted c.args.by) (slots_written go.is)
          ∙ ap (λ (n : Named). lifted c.args.by (set_value (is_at (name_cmp c.in-Some.name)) (slots_of c.self.inside.by_name.entries) n.kept)) c.free.ensures
          ∙ lifted-freed c.args.by (is_at (name_cmp c.in-Some.name)) (slots_of c.self.inside.by_name.entries) v.kept go.first.at (sym c.reserves.ensures ∙ c.if-reserves.false);
      fewer = λ _. fewer_left wanted.Taken c.args.by c.self.inside.by_name.entries c.self.inside.busy c.self.invariant c.take_first.new.self c.in-Some.name
          (c.get_mut.follows.lender w).entries c.in-Some.ensures.name c.in-Some.ensures.left (invariant_of-self-2 c);
      all = λ none. cc;
    })
