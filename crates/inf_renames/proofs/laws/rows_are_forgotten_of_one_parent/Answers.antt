use Rattle.inf_renames.proofs.RenamesFacts.{forgotten_rows, forgotten_spare, forgotten_others}
use Rattle.inf_renames.proofs.laws.rows_are_forgotten_of_one_parent.Goals as goal

pub returns : goal.returns
returns c = record {
  rows = λ parent dir lists. forgotten_rows parent lists dir;
  spare = λ parent dir lists. forgotten_spare parent lists dir;
  others = λ parent dir lists. forgotten_others parent lists dir;
}
