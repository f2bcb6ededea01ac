use Rattle.std.proofs.Common.{sym, ap, ◌∙◌}
use Rattle.std.specs.Option.{option_map}
use Rattle.inf_laws_directory.specs.Stands.{shown_thing}
use Rattle.inf_laws_directory.proofs.Ways.{looks_same_at}
use Rattle.inf_laws_directory.proofs.stands.unseen_changes_stand.Goals as goal

pub returns : goal.returns
returns c = λ old new root tree stands looks. record {
  shows = λ path. ap (option_map shown_thing) (looks_same_at old new root looks path) ∙ stands.shows path;
  once = λ path other access same at other_at is.
      stands.once path other access same (sym (looks_same_at old new root looks path) ∙ at) (sym (looks_same_at old new root looks other) ∙ other_at) is;
  there = λ path access at.
      let reached = sym (looks_same_at old new root looks path) ∙ at in
      (looks path access reached).stays (stands.there path access reached);
}
