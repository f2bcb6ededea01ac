-- Rename lists: which versions of a name are taken by directories that moved away from where they were made.
use Rattle.std.specs.Prelude.{ℕ, List}
use Rattle.inf_base.specs.declared.directory.DirRef.{DirRef}
use Rattle.inf_base.specs.declared.id.Id.{Id}

-- the directory was made in this parent under this name and version, and lives elsewhere
pub record RenameRow : Type 0 where
  pub parent : Id
  pub name : List ℕ
  pub version : ℕ
  pub dir : DirRef
