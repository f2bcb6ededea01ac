use Rattle.inf_renames.proofs.RenamesFacts.{least_version_free}
use Rattle.inf_renames.proofs.laws.least_versions_are_free.Goals as goal

pub returns : goal.returns
returns c = least_version_free
