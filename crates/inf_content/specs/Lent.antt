-- What becomes of the kept objects once one of them was lent.
use Rattle.std.specs.Prelude.{◌≡◌, Option}
use Rattle.std.specs.Borrow.{Fml, LendsSo, MutBor, RattleType}
use Rattle.std.specs.BTreeMap.{BTreeMap}
use Rattle.std.specs.Option.{OnSome}
use Rattle.std.specs.contracts.alloc.Global as global
use Rattle.std.specs.contracts.collections.BTreeMap as tree
use Rattle.std.specs.contracts.impls.GlobalAllocator.TheImpl.{ghosts}
use Rattle.inf_base.specs.contracts.id.Id as id
use Rattle.inf_base.specs.contracts.id.IdOrd.TheImpl as ord
use Rattle.inf_base.specs.contracts.id.IdPartialEq.TheImpl as eq
use Rattle.inf_base.specs.contracts.id.IdPartialOrd.TheImpl as partial_ord
use Rattle.inf_base.specs.declared.directory.DirRef.{DirRef}
use Rattle.inf_base.specs.declared.id.Id.{Id}
use Rattle.inf_content.specs.contracts.object.Object.{the_row}
use Rattle.inf_content.specs.declared.object.Object.{Object}
use Rattle.inf_content.specs.Objects.{contents_of, with_object_at}

-- the kept objects' type, as the logic has it
abbrev pub objects_row : RattleType
objects_row = tree.the_row id.the_row the_row global.the_row ord.ghosts eq.ghosts partial_ord.ghosts ghosts

-- they end with the last value written to the object in its place, and as they were where none was lent
abbrev pub LendsObject : MutBor (BTreeMap Id Object) → DirRef → Option (MutBor Object) → Fml
LendsObject objects dir lent =
    LendsSo objects_row the_row objects lent
    (λ after object. OnSome lent (contents_of after.entries
    ≡ with_object_at dir object (contents_of objects.now.entries)))
    (λ after. contents_of after.entries ≡ contents_of objects.now.entries)
