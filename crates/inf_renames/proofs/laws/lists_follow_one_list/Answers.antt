use Rattle.std.proofs.Common.{refl}
use Rattle.inf_renames.proofs.OneList.{taken_follows, reserved_follows, added_follows, removed_follows}
use Rattle.inf_renames.proofs.laws.lists_follow_one_list.Goals as goal

pub returns : goal.returns
returns c = record {
  first = λ parent. refl;
  taken = taken_follows;
  reserved = reserved_follows;
  added = added_follows;
  removed = removed_follows;
}
