use Rattle.inf_renames.proofs.RenamesFacts.{room_rows, room_spare, room_others}
use Rattle.inf_renames.proofs.laws.room_is_for_one_parent.Goals as goal

pub returns : goal.returns
returns c = record { rows = room_rows; spare = room_spare; others = room_others }
