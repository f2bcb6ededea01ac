use Rattle.inf_renames.proofs.OneList.{least_unique}
use Rattle.inf_renames.proofs.laws.least_versions_are_unique.Goals as goal

pub returns : goal.returns
returns c = least_unique
