use Rattle.std.proofs.Common.{ap, sym, ◌∙◌, rules}
use Rattle.std.specs.BTreeMap.{BTreeMap}
use Rattle.std.proofs.lemmas.Result.{err_from_is_err_and}
use Rattle.inf_base.specs.declared.id.Id.{Id}
use Rattle.inf_renames.specs.Kept.{Kept, kept_with_room}
use Rattle.inf_renames.specs.Renames.{spare_of, with_kept}
use Rattle.inf_renames.proofs.Entries.{kept_found, unchanged, written}
use Rattle.inf_renames.proofs.RenamesFacts.{room_spare}
use Rattle.inf_renames.proofs.renames.Renames.reserve.Goals as goal

pub returns-in_err-reserve : goal.returns-in_err-reserve
returns-in_err-reserve c =
    let p = err_from_is_err_and c.from_residual.result c.from_residual.ensures.1 in
    let w = c.reserve.new.self in
    rw p.1 (record {
      ok = search rules;
      spare = search rules;
      err = unchanged c.args.parent.now c.self.inside.lists (c.get_mut.follows.lender w) c.args.self.now c.in-Some.kept.now w c.self.view_is c.in-Some.ensures.value (c.get_mut.follows.holds w) c.in_err-reserve.ensures.err;
    })

pub returns-in-Some : goal.returns-in-Some
returns-in-Some c =
    let w = c.reserve.new.self in
    let was = kept_found c.args.parent.now c.self.inside.lists _ _ c.self.view_is c.in-Some.ensures.value in
    let is = written c.args.parent.now c.self.inside.lists (c.get_mut.follows.lender w) c.args.self.now c.in-Some.kept.now w c.self.view_is c.in-Some.ensures.value (c.get_mut.follows.holds w)
    ∙ ap (λ x. with_kept c.args.parent.now x c.args.self.now) (c.in_ok-reserve.ensures.ok ∙ ap kept_with_room (sym was)) in
    record { ok = is; spare = ap (λ lists. spare_of c.args.parent.now lists) is ∙ room_spare c.args.parent.now c.args.self.now; err = search rules }

pub returns : goal.returns
returns c =
    let none = kept_found c.args.parent.now c.self.inside.lists _ _ c.self.view_is c.in_default.ensures.value in
    let w = c.reserve-2.new.self in
    let is = c.in_ok-insert.ensures.entries
    ∙ ap (λ (m : BTreeMap Id Kept). with_kept c.args.parent.now w m.entries) c.get_mut.follows.holds-at-none
    ∙ ap (λ lists. with_kept c.args.parent.now w lists) c.self.view_is
    ∙ ap (λ x. with_kept c.args.parent.now x c.args.self.now) (c.in_ok-reserve-2.ensures.ok ∙ ap kept_with_room (c.new-kept.ensures ∙ sym none)) in
    record { ok = is; spare = ap (λ lists. spare_of c.args.parent.now lists) is ∙ room_spare c.args.parent.now c.args.self.now; err = search rules }
