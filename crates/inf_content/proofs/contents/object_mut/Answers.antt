use Rattle.std.proofs.Common.{rules, ◌≡◌, ◌==◌, true, false, Some, None, refl, sym, ap, ◌∙◌}
use Rattle.std.specs.BTreeMap.{is_at}
use Rattle.std.specs.Map.{lookup}
use Rattle.std.specs.Option.{option_copied_mut}
use Rattle.inf_content.specs.Contents.{id_cmp}
use Rattle.inf_content.specs.Objects.{contents_of}
use Rattle.inf_content.proofs.Found.{found_so, none_found, written, written_back}
use Rattle.inf_content.proofs.contents.object_mut.Goals as goal

pub returns-in_default : goal.returns-in_default
returns-in_default c =
    let at : lookup (is_at (id_cmp c.args.dir.now.id)) c.args.by_id.now.entries ≡ None = sym c.get_mut.ensures.value ∙ ap option_copied_mut c.in_default.is in
    ((refl, λ w. tt, ap (λ m. contents_of m.entries) c.get_mut.follows.holds-at-none), record { lends = tt; found = none_found c.args.dir.now c.args.by_id.now.entries at })

pub returns-then-object-dir : goal.returns-then-object-dir
returns-then-object-dir c =
    let object = c.in-Some.object.now in
    let at : lookup (is_at (id_cmp c.args.dir.now.id)) c.args.by_id.now.entries ≡ Some object = sym c.get_mut.ensures.value ∙ ap option_copied_mut c.in-Some.is in
    let born : (object.born == c.args.dir.now.born) ≡ true = search rules in (
      (refl, λ w. ap (λ es. contents_of es) (c.get_mut.follows.holds w).0 ∙ written c.args.dir.now c.args.by_id.now.entries object w at born, refl),
      record { lends = tt; found = found_so true c.args.dir.now c.args.by_id.now.entries object at born },
    )

pub returns-else-object-dir : goal.returns-else-object-dir
returns-else-object-dir c =
    let object = c.in-Some.object.now in
    let at : lookup (is_at (id_cmp c.args.dir.now.id)) c.args.by_id.now.entries ≡ Some object = sym c.get_mut.ensures.value ∙ ap option_copied_mut c.in-Some.is in
    let born : (object.born == c.args.dir.now.born) ≡ false = search rules in (
      (refl, λ w. tt, ap (λ es. contents_of es) (c.get_mut.follows.holds object).0 ∙ written_back c.args.dir.now c.args.by_id.now.entries object at),
      record { lends = tt; found = found_so false c.args.dir.now c.args.by_id.now.entries object at born },
    )
