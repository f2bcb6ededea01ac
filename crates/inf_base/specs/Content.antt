-- Content objects: what a server keeps of the directories that it serves.
use Rattle.std.specs.Prelude.{ℕ, List, Option}
use Rattle.inf_base.specs.declared.access.Access.{Access}
use Rattle.inf_base.specs.declared.caller.CallRef.{CallRef}
use Rattle.inf_base.specs.declared.directory.DirRef.{DirRef}
use Rattle.inf_base.specs.declared.file.FileMeta.{FileMeta}
use Rattle.inf_base.specs.declared.triple.Triple.{Triple}

-- the call that holds an entry while it changes it, and the mode that the entry is to have then, if it gets one
pub record Hold : Type 0 where
  pub by : CallRef
  pub mode : Option ℕ

-- what stands under a name: kept free by a call, with the access object to come; or a file or directory, maybe held
pub data Slot : Type 0 where
  reserved : CallRef → Access → Slot
  file : FileMeta → Option Hold → Slot
  directory : Access → Option Hold → Slot

-- a directory with its entries in the order of the names' bytes, the call that made it, and the call that sealed it
pub record Content : Type 0 where
  pub dir : DirRef
  pub triple : Triple
  pub maker : CallRef
  pub seal : Option CallRef
  pub slots : List (List ℕ × Slot)

-- the root's access object, which stands in no directory
pub record TopAccess : Type 0 where
  pub access : Access
  pub held : Option Hold
