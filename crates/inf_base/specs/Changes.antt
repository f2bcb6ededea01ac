-- Changes of directories that the coordinator has admitted.
use Rattle.std.specs.Prelude.{List}
use Rattle.inf_base.specs.declared.caller.CallRef.{CallRef}
use Rattle.inf_base.specs.declared.directory.DirRef.{DirRef}

-- the call changes the directory, and rests on the directories of the chain
pub record AdmittedChange : Type 0 where
  pub by : CallRef
  pub dir : DirRef
  pub chain : List DirRef
