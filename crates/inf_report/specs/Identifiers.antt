-- How directories, keys, triples and chains are printed.
use Rattle.std.specs.Prelude.{ℕ, List, ◌++◌, codes, map}
use Rattle.std.specs.Fmt.{decimal}
use Rattle.hex.specs.Hex.{encode_lower}
use Rattle.inf_base.specs.declared.access.Access.{Access}
use Rattle.inf_base.specs.declared.directory.DirRef.{DirRef}
use Rattle.inf_base.specs.declared.directory.Home.{Home}
use Rattle.inf_base.specs.declared.directory.Home.TheVariants as home
use Rattle.inf_base.specs.declared.entry.Entry.{Entry}
use Rattle.inf_base.specs.declared.id.Id.{Id}
use Rattle.inf_base.specs.declared.key.Key.{Key}
use Rattle.inf_base.specs.declared.key.Key.TheVariants as key
use Rattle.inf_base.specs.declared.key.LookKey.{LookKey}
use Rattle.inf_base.specs.declared.key.LookKey.TheVariants as look_key
use Rattle.inf_base.specs.declared.triple.Triple.{Triple}
use Rattle.inf_base.specs.declared.triple.Triple.TheVariants as triple
use Rattle.inf_report.specs.Numbers.{mode_text, numbers_text}

-- 64 lower-case hexadecimal digits
abbrev pub id_text : Id → List ℕ
id_text id = encode_lower id.bytes

-- `ID#BORN`
abbrev pub born_text : Id → ℕ → List ℕ
born_text id born = id_text id ++ codes "#" ++ decimal born

abbrev pub dir_text : DirRef → List ℕ
dir_text dir = born_text dir.id dir.born

-- `root`, or `ID/NAME/VERSION`
abbrev pub triple_text : Triple → List ℕ
triple_text triple.Root = codes "root"
triple_text (triple.Of parent name version) = id_text parent ++ codes "/" ++ name ++ codes "/" ++ decimal version

-- `top`, or `ID#BORN/NAME`
abbrev pub key_text : Key → List ℕ
key_text key.Top = codes "top"
key_text (key.At dir name) = dir_text dir ++ codes "/" ++ name

-- `top`, or `ID NAME`
abbrev pub look_key_text : LookKey → List ℕ
look_key_text look_key.Top = codes "top"
look_key_text (look_key.At dir name) = id_text dir ++ codes " " ++ name

-- `top`, or `ID#BORN`
abbrev pub home_text : Home → List ℕ
home_text home.Top = codes "top"
home_text (home.In dir) = dir_text dir

-- `ID#BORN MODE OWNER GROUP TRIPLE`
abbrev pub access_text : Access → List ℕ
access_text access =
    born_text access.id access.born ++ codes " " ++ mode_text access.mode ++ codes " " ++ decimal access.owner
    ++ codes " " ++ decimal access.group ++ codes " " ++ triple_text access.birth

abbrev pub stamp_of : Entry → ℕ
stamp_of entry = entry.stamp

-- the stamps of the entries joined by commas, or `-` where there is none
abbrev pub chain_text : List Entry → List ℕ
chain_text chain = numbers_text (map stamp_of chain)
