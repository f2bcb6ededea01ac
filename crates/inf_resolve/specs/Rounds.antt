-- How rounds follow one another.
use Rattle.std.specs.Prelude.{◌≡◌, ℕ, ◌+◌, true, List, length, Some, is_some}
use Rattle.inf_base.specs.declared.directory.DirRef.{DirRef}
use Rattle.inf_base.specs.declared.key.LookKey.{LookKey}
use Rattle.inf_resolve.specs.declared.known.Known.{Known}
use Rattle.inf_resolve.specs.declared.looked.Looked.{Looked}
use Rattle.inf_resolve.specs.Keys.{is_among}
use Rattle.inf_resolve.specs.Known.{told_under}
use Rattle.inf_resolve.specs.Walk.{halt_of}

-- a round was answered: what was told stays told, and so are its keys
pub record IsAnswered (known : List Known) (keys : List LookKey) (later : List Known) : Type 0 where
  pub stays : (k : LookKey) (told : Known) → told_under k known ≡ Some told → told_under k later ≡ Some told
  pub told : (k : LookKey) → is_among k keys ≡ true → is_some (told_under k later) ≡ true

-- how many names both paths leave behind the root
abbrev pub names_left : DirRef → Looked → List Known → ℕ
names_left root looked known =
    length (halt_of known root looked.old).left + length (halt_of known root looked.new).left
