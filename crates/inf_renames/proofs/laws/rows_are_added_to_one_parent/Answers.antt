use Rattle.inf_renames.proofs.RenamesFacts.{row_rows, row_spare, row_others}
use Rattle.inf_renames.proofs.laws.rows_are_added_to_one_parent.Goals as goal

pub returns : goal.returns
returns c = record {
  rows = λ parent row lists. row_rows parent lists row;
  spare = λ parent row lists. row_spare parent lists row;
  others = λ parent row lists. row_others parent lists row;
}
