-- When two calls, identifiers, directories or triples are the same.
use Rattle.std.specs.Prelude.{ℕ, ◌==◌, Bool, true, false, ◌&&◌}
use Rattle.std.specs.Str.{bytes_eq}
use Rattle.inf_base.specs.declared.access.Access.{Access}
use Rattle.inf_base.specs.declared.caller.CallRef.{CallRef}
use Rattle.inf_base.specs.declared.directory.DirRef.{DirRef}
use Rattle.inf_base.specs.declared.id.Id.{Id}
use Rattle.inf_base.specs.declared.triple.Triple.{Triple}
use Rattle.inf_base.specs.declared.triple.Triple.TheVariants as triple

-- a call is known by its client and its number
abbrev pub is_same_call : CallRef → CallRef → Bool
is_same_call a b = a.client == b.client && a.number == b.number

-- identifiers are the same if their bytes are
abbrev pub is_same_id : Id → Id → Bool
is_same_id a b = bytes_eq a.bytes b.bytes

-- a directory is known by its identifier and its birth: one that is made again is another
abbrev pub is_same_dir : DirRef → DirRef → Bool
is_same_dir a b = is_same_id a.id b.id && a.born == b.born

-- the directory that an access object is of
abbrev pub dir_of : Access → DirRef
dir_of access = record { id = access.id; born = access.born }

-- triples are the same if their parents, names and versions are
abbrev pub is_same_triple : Triple → Triple → Bool
is_same_triple triple.Root triple.Root = true
is_same_triple triple.Root (triple.Of parent name version) = false
is_same_triple (triple.Of parent name version) triple.Root = false
is_same_triple (triple.Of parent name version) (triple.Of other_parent other_name other_version) =
    is_same_id parent other_parent && bytes_eq name other_name && version == other_version
